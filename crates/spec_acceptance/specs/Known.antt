-- What is known of a specification on the way, as plain values: the libraries that were read and the data, and then what the
-- code keeps of the specification, its ranks, the items of the order and the book.
use Rattle.std.specs.Prelude.{◌≡◌, ℕ, List, map, Option, Result, Ok, Err}
use Rattle.lotos_base.specs.Name.{spelling}
use Rattle.lotos_base.specs.WrittenTerm.{ListedOperation}
use Rattle.lotos_base.specs.WrittenView.{listed_operation_of}
use Rattle.lotos_base.specs.Equation.{Data, IsWellFormedData}
use Rattle.sort_terms.specs.EquationView.{IsSortedFlat, data_of}
use Rattle.sort_terms.specs.declared.equations.Flat.{Flat}
use Rattle.syntax_trees.specs.WrittenDefinition.{WrittenSpecification}
use Rattle.behaviour_semantics.specs.Behaviour.{Specification}
use Rattle.behaviour_semantics.specs.Replacement.{with_values, binding_of}
use Rattle.behaviour_semantics.specs.Rule.{AreValues}
use Rattle.behaviour_tree.specs.BehaviourTerms.{profiles_of}
use Rattle.behaviour_tree.specs.BehaviourView.{behaviour_of, terms_of, variables_of}
use Rattle.behaviour_tree.specs.Closed.{IsClosedNode}
use Rattle.behaviour_tree.specs.Over.{AreTermsOf, IsSpecOver, IsStateOf}
use Rattle.behaviour_tree.specs.StateView.{state_of}
use Rattle.path_order.specs.RulesView.{precedence_in, rules_in}
use Rattle.refusal_lines.specs.HandedOn.{book_canon, IsOpenedBy, ShelfState, IsOrderReading, AreRanksOf}
use Rattle.refusal_lines.specs.Refusal.{Refused}
use Rattle.refusal_lines.specs.declared.spec_fault.SpecFault.{SpecFault}
use Rattle.refusal_lines.specs.StartValues.{AreStartValues}
use Rattle.refusal_lines.specs.StartView.{parameter_sorts}
use Rattle.spec_acceptance.specs.Acceptance.{Founded, start_of}
use Rattle.spec_acceptance.specs.Checks.{KeepsSpecification}
use Rattle.spec_acceptance.specs.Ending.{with_spec}
use Rattle.spec_acceptance.specs.Part.{goes_on, Part}
use Rattle.spec_acceptance.specs.Texts.{Orders}
use Rattle.spec_acceptance.specs.Doing.{Did, with_spec_refused}
use Rattle.spec_acceptance.specs.declared.accepted.Accepted.{Accepted}
use Rattle.spec_acceptance.specs.declared.books.WithBook.{WithBook}
use Rattle.spec_acceptance.specs.declared.not_accepted.NotAccepted.{NotAccepted}
use Rattle.spec_acceptance.specs.declared.not_accepted.NotAccepted.TheVariants.{Spec, NoMemory}
use Rattle.spec_acceptance.specs.declared.stages.WithData.{WithData}
use Rattle.spec_acceptance.specs.declared.stages.WithOrder.{WithOrder}
use Rattle.spec_acceptance.specs.declared.stages.WithRanks.{WithRanks}
use Rattle.spec_acceptance.specs.declared.stages.WithSpec.{WithSpec}
use Rattle.spec_acceptance.specs.declared.starts.WithValues.{WithValues}

-- the libraries and the data, which are well formed
pub record KnowsData (read : List (List ℕ)) (data_ : Data) (known : WithData) : Type 0 where
  pub libraries : map spelling known.libraries.items ≡ read
  pub data_is : data_of known.flat ≡ data_
  pub well_formed : IsWellFormedData data_
  pub sorted : IsSortedFlat known.flat

-- a text with the libraries and the data that are read for it, and the specification that it stands for
pub record Resolved : Type 0 where
  pub read : List (List ℕ)
  pub data_ : Data
  pub tree : WrittenSpecification
  pub spec : Specification

-- what the code keeps of it
pub record KnowsSpec (whole : Resolved) (known : WithSpec) : Type 0 where
  pub libraries : map spelling known.libraries.items ≡ whole.read
  pub data_is : data_of known.flat ≡ whole.data_
  pub well_formed : IsWellFormedData whole.data_
  pub sorted : IsSortedFlat known.flat
  pub keeps : KeepsSpecification whole.data_ whole.tree whole.spec known.spec

-- with its ranks
pub record KnowsRanks (whole : Resolved) (known : WithRanks) : Type 0 where
  pub spec_known : KnowsSpec whole known.known
  pub ranks_known : AreRanksOf known.known.spec known.ranks

-- with the items of the order
pub record KnowsOrder (whole : Resolved) (items : List ListedOperation) (known : WithOrder) : Type 0 where
  pub ranks_known : KnowsRanks whole known.known
  pub listed : map listed_operation_of known.items.items ≡ items

-- with those of the text of an order file
abbrev pub ReadsItems : Resolved → List ℕ → WithOrder → Type 0
ReadsItems whole text made =
    KnowsOrder whole (map listed_operation_of made.items.items) made
    × IsOrderReading 1 text (map listed_operation_of made.items.items)

-- with those of the order file of the name, if there is one, which the shelf gave
abbrev pub OrdersWith : Resolved → ShelfState → ShelfState → Option (List ℕ) → WithOrder → Type 0
OrdersWith whole before after order made =
    KnowsOrder whole (map listed_operation_of made.items.items) made
    × Did before after (Orders (with_spec whole.read whole.data_ whole.spec) order)
    (goes_on (map listed_operation_of made.items.items))

-- with the book in place of the data and the items
pub record KnowsBook (whole : Resolved) (items : List ListedOperation) (known : WithBook) : Type 0 where
  pub libraries : map spelling known.libraries.items ≡ whole.read
  pub data_is : data_of known.book.flat ≡ whole.data_
  pub well_formed : IsWellFormedData whole.data_
  pub keeps : KeepsSpecification whole.data_ whole.tree whole.spec known.spec
  pub ranks_known : AreRanksOf known.spec known.ranks
  pub opened : IsOpenedBy items whole.data_ (precedence_in known.book.joined.rules) (rules_in known.book.joined.rules)

-- what is known up to the book, of the text
abbrev pub resolved_in : WrittenSpecification → Founded → Resolved
resolved_in tree founded = record { read = founded.libraries; data_ = founded.data_; tree = tree; spec = founded.spec }

-- the shelf gave what was asked of it, and this is what came of the text up to the book
pub record FoundsWith (before after : ShelfState) (part : Part Refused Founded) (made : WithBook) : Type 0 where
  pub founded : Founded
  pub came : Did before after part (goes_on founded)
  pub tree : WrittenSpecification
  pub known : KnowsBook (resolved_in tree founded) founded.items made

-- with the start values as they are read, over the words behind `with`
pub record KnowsValues (whole : Resolved) (items : List ListedOperation) (words : List (List ℕ)) (known : WithValues) : Type 0 where
  pub book_known : KnowsBook whole items known.known
  pub valued : AreStartValues (start_of whole.data_ whole.spec words) (terms_of known.values.items)
  pub profiles : AreTermsOf whole.data_.signature (profiles_of known.values.items)

-- the specification is over the data of the book, and the values are ground terms of it at the sorts of the parameters
pub record MayStart (known : WithValues) : Type 0 where
  pub over : IsSpecOver (data_of known.known.book.flat).signature known.known.spec
  pub fitting :
      AreValues (data_of known.known.book.flat).signature (parameter_sorts known.known.spec.parameters.items)
      (terms_of known.values.items)
  pub profiles : AreTermsOf (data_of known.known.book.flat).signature (profiles_of known.values.items)

-- the specification with its ranks, its book and the state in which it begins with the normal forms of the values: it is
-- closed, and of the specification
pub record Starts (known : WithValues) (accepted : Accepted) : Type 0 where
  pub same_spec : accepted.spec ≡ known.known.spec
  pub same_ranks : accepted.ranks ≡ known.known.ranks
  pub same_flat : accepted.book.flat ≡ known.known.book.flat
  pub same_joined : accepted.book.joined ≡ known.known.book.joined
  pub begins :
      state_of accepted.start
      ≡ with_values (binding_of (variables_of known.known.spec.parameters.items)
      (map (book_canon known.known.book) (terms_of known.values.items))) (behaviour_of known.known.spec.body.value)
  pub state : IsStateOf (data_of known.known.book.flat).signature known.known.spec accepted.start
  pub closed : IsClosedNode accepted.start.node

-- or memory was wanted
abbrev pub StartsWith : WithValues → Result Accepted NotAccepted → Type 0
StartsWith known (Ok accepted) = Starts known accepted
StartsWith known (Err fault) = fault ≡ NoMemory

-- the refusal of start values, with the data of the book and the specification
pub record RefusesStarts (known : WithBook) (found : SpecFault) (answer : NotAccepted) : Type 0 where
  pub flat : Flat
  pub same_data : data_of flat ≡ data_of known.book.flat
  pub refused :
      answer ≡ Spec (with_spec_refused (record { libraries = known.libraries; flat = flat; spec = known.spec }) found)
