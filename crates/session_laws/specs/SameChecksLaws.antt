-- What same specifications over same data are looked at for before they are accepted, and that it is there in both or in neither:
-- functionalities that agree, an order of operations, rules of the equations, and start values.
use Rattle.std.specs.Prelude.{◌≡◌, ◌↔◌, ℕ, List, [], Option}
use Rattle.lotos_base.specs.WrittenTerm.{WrittenTerm, ListedOperation}
use Rattle.lotos_base.specs.Equation.{Data, Variable}
use Rattle.lotos_base.specs.Term.{Term}
use Rattle.sort_terms.specs.ReadingOutcome.{ReadingOutcome, SortedTerm, ReadingIs}
use Rattle.behaviour_semantics.specs.Behaviour.{Specification}
use Rattle.behaviour_tree.specs.DefinitionView.{specification_of}
use Rattle.behaviour_tree.specs.Over.{IsSpecOver}
use Rattle.behaviour_tree.specs.declared.definitions.Spec.{Spec}
use Rattle.certificate_theory.specs.SameData.{AreSameData}
use Rattle.declaration_laws.specs.SameSpecification.{AreSameSpecifications}
use Rattle.process_checks.specs.Functionality.{all_disagreements}
use Rattle.session_laws.specs.HasFunctionality.{AllAgree}
use Rattle.rewriting_theory.specs.Precedence.{Precedence}
use Rattle.rewriting_theory.specs.Orientation.{NumberedRule}
use Rattle.path_order.specs.OrderedBy.{IsPrecedenceBy}
use Rattle.lotos_top.specs.HandedOn.{IsOpenedBy, Refusal, Start, AreStartValues, IsStartFault}

-- parameters of these sorts over the signature of the data, and the words that are to be their values
abbrev pub start_over : Data → List ℕ → List (List ℕ) → Start
start_over data_ sorts words = record { signature = data_.signature; sorts = sorts; words = words }

pub record SameSpecificationsPassTheSameChecks : Type 0 where
  -- functionalities agree in both or in neither
  pub functionalities :
      (data_ other : Data) (one second : Specification) →
      AreSameData data_ other →
      AreSameSpecifications one second →
      AllAgree data_.signature one →
      AllAgree other.signature second
  -- so the walk over what is kept of the one finds no disagreement exactly where that over the other finds none
  pub disagreements :
      (data_ other : Data) (one second : Spec) →
      AreSameData data_ other →
      AreSameSpecifications (specification_of one) (specification_of second) →
      IsSpecOver data_.signature one →
      IsSpecOver other.signature second →
      (all_disagreements one ≡ []) ↔ (all_disagreements second ≡ [])
  -- the items of an order give both the same precedences, and nothing is wrong with an item in both or in neither
  pub precedences :
      (data_ other : Data) (items : List ListedOperation) (precedence : Precedence) →
      AreSameData data_ other →
      IsPrecedenceBy data_.signature items precedence →
      IsPrecedenceBy other.signature items precedence
  -- and by it both have the very same rules, which are confluent: so the same chosen forms
  pub rules :
      (data_ other : Data) (items : List ListedOperation) (precedence : Precedence) (rules : List NumberedRule) →
      AreSameData data_ other →
      IsOpenedBy items data_ precedence rules →
      IsOpenedBy items other precedence rules
  -- a written term comes to the same in both
  pub readings :
      (data_ other : Data) (scope : List Variable) (w : WrittenTerm) (expected : Option ℕ) (outcome : ReadingOutcome SortedTerm) →
      AreSameData data_ other →
      ReadingIs data_.signature scope w expected outcome →
      ReadingIs other.signature scope w expected outcome
  -- and so words are the same start values in both
  pub starts :
      (data_ other : Data) (sorts : List ℕ) (words : List (List ℕ)) (values : List Term) →
      AreSameData data_ other →
      AreStartValues (start_over data_ sorts words) values →
      AreStartValues (start_over other sorts words) values
  -- or are refused for the same
  pub start_faults :
      (data_ other : Data) (sorts : List ℕ) (words : List (List ℕ)) (refusal : Refusal) →
      AreSameData data_ other →
      IsStartFault (start_over data_ sorts words) refusal →
      IsStartFault (start_over other sorts words) refusal
