-- How the layers of the acceptance lead to what comes of it, up to the book.
use Rattle.std.proofs.Common.{ap, sym, ◌∙◌, ◌≡◌, subst, ℕ, List, map, Option}
use Rattle.lotos_base.specs.WrittenTerm.{ListedOperation}
use Rattle.lotos_base.specs.Equation.{Data, IsWellFormedData}
use Rattle.sort_terms.specs.EquationView.{data_of}
use Rattle.syntax_trees.specs.WrittenDefinition.{WrittenSpecification}
use Rattle.behaviour_semantics.specs.Behaviour.{Specification}
use Rattle.behaviour_semantics.specs.Replacement.{with_values, binding_of}
use Rattle.behaviour_tree.specs.BehaviourView.{behaviour_of, terms_of, variables_of}
use Rattle.behaviour_tree.specs.DefinitionView.{specification_of}
use Rattle.behaviour_tree.specs.StateView.{state_of}
use Rattle.behaviour_tree.specs.Over.{IsSpecOver, IsStateOf}
use Rattle.behaviour_tree.specs.declared.definitions.Spec.{Spec as CodeSpec}
use Rattle.refusal_lines.specs.HandedOn.{book_canon, Gathered, ShelfState, AreRanksOf, Ranks}
use Rattle.refusal_lines.specs.Refusal.{Refused}
use Rattle.refusal_lines.proofs.HandedOn.{canon_stays, opened_stays}
use Rattle.sort_terms.specs.declared.equations.Flat.{Flat}
use Rattle.lotos_base.specs.Term.{Term}
use Rattle.type_definitions.specs.DeclaredTypes.{DeclaredType, types_of}
use Rattle.spec_acceptance.specs.Ending.{with_spec}
use Rattle.spec_acceptance.specs.Part.{Comes, goes_on, Part, Then, Has}
use Rattle.spec_acceptance.specs.Texts.{Gathers, Orders}
use Rattle.spec_acceptance.specs.Types.{HaveData, HaveFault, types_told, Flattens}
use Rattle.spec_acceptance.specs.Scopes.{StandsFor, Breaks, scopes_told, Resolves}
use Rattle.spec_acceptance.specs.Checks.{FunctionalitiesAgree, Disagree, functionality_told, ComesToAgreement, Guarded, Cyclic, recursion_told, IsGuardedIn}
use Rattle.spec_acceptance.specs.Book.{Opens, DoesNotOpen, opening_told, OpensBook}
use Rattle.spec_acceptance.specs.Acceptance.{Founded, founded_with, FoundedBy}
use Rattle.spec_acceptance.specs.AcceptedView.{HoldsAccepted}
use Rattle.spec_acceptance.specs.Doing.{Did, Failed, Faulty}
use Rattle.spec_acceptance.specs.Known.{Resolved, KnowsValues, Starts}
use Rattle.spec_acceptance.specs.declared.accepted.Accepted.{Accepted}
use Rattle.spec_acceptance.specs.declared.starts.WithValues.{WithValues}
use Rattle.spec_acceptance.specs.declared.not_accepted.NotAccepted.{NotAccepted}
use Rattle.spec_acceptance.proofs.DoingLemmas.{did_then, failed_first, failed_then, looked, faulted}

-- What is left leads to the whole: what comes of it over the shelf as it is now comes of the whole over the shelf as it was.
pub record Leads {B : Type 0} (before now : ShelfState) (whole rest : Part Refused B) : Type 0 where
  pub did : (after : ShelfState) (come : Comes Refused B) → Did now after rest come → Did before after whole come
  pub failed : (after : ShelfState) (fault : NotAccepted) → Failed now after rest fault → Failed before after whole fault

pub leads_first : {B : Type 0} (a : ShelfState) (whole : Part Refused B) → Leads a a whole whole
leads_first a whole = record { did = λ after come is. is; failed = λ after fault is. is }

pub leads_on : {A B : Type 0} (a b c : ShelfState) (whole : Part Refused B) (First : Part Refused A) (next : A → Part Refused B) (x : A) →
    Leads a b whole (Then First next) → Did b c First (goes_on x) → Leads a c whole (next x)
leads_on a b c whole First next x leads is = record {
  did = λ after come other. leads.did after come (did_then b c after First next x come is other);
  failed = λ after fault other. leads.failed after fault (failed_then b c after First next x fault is other);
}

pub leads_out : {A B : Type 0} (a b c : ShelfState) (whole : Part Refused B) (First : Part Refused A) (next : A → Part Refused B)
    (fault : NotAccepted) →
    Leads a b whole (Then First next) → Failed b c First fault → Failed a c whole fault
leads_out a b c whole First next fault leads is = leads.failed c fault (failed_first b c First next fault is)

-- ---- What is left behind each layer

abbrev pub AfterBook : Gathered → Data → Specification → List ListedOperation → Part Refused Founded
AfterBook g d s items = Has (founded_with g d s items)

abbrev pub AfterOrder : Gathered → Data → Specification → List ListedOperation → Part Refused Founded
AfterOrder g d s items = Then (OpensBook g d s items) (λ _. AfterBook g d s items)

abbrev pub AfterRanks : Option (List ℕ) → Gathered → Data → Specification → Part Refused Founded
AfterRanks order g d s = Then (Orders (with_spec g.read d s) order) (λ items. AfterOrder g d s items)

abbrev pub AfterExits : Option (List ℕ) → WrittenSpecification → Gathered → Data → Specification → Part Refused Founded
AfterExits order tree g d s = Then (IsGuardedIn g d tree s) (λ _. AfterRanks order g d s)

abbrev pub AfterScopes : Option (List ℕ) → WrittenSpecification → Gathered → Data → Specification → Part Refused Founded
AfterScopes order tree g d s = Then (ComesToAgreement g d tree s) (λ _. AfterExits order tree g d s)

abbrev pub AfterData : Option (List ℕ) → WrittenSpecification → Gathered → Data → Part Refused Founded
AfterData order tree g d = Then (Resolves g d tree) (λ s. AfterScopes order tree g d s)

abbrev pub AfterTypes : Option (List ℕ) → WrittenSpecification → Gathered → Part Refused Founded
AfterTypes order tree g = Then (Flattens g) (λ d. AfterData order tree g d)

-- ---- The layers one after another

module _ (a : ShelfState) (order : Option (List ℕ)) (tree : WrittenSpecification) where
  abbrev To : ShelfState → Part Refused Founded → Type 0
  To b rest = Leads a b (FoundedBy order tree) rest

  pub to_types : (b : ShelfState) (g : Gathered) → Did a b (Gathers tree) (goes_on g) → To b (AfterTypes order tree g)
  to_types b g is =
      leads_on a a b (FoundedBy order tree) (Gathers tree) (AfterTypes order tree) g
      (leads_first a (FoundedBy order tree)) is

  module _ (b : ShelfState) (g : Gathered) where
    to_data : (d : Data) → To b (AfterTypes order tree g) → HaveData (types_of g.types) d → To b (AfterData order tree g d)
    to_data d to is =
        leads_on a b b (FoundedBy order tree) (Flattens g) (AfterData order tree g) d to
        (looked b (HaveData (types_of g.types)) (HaveFault (types_of g.types)) (types_told g.read) d is)

    to_scopes : (d : Data) (s : Specification) → To b (AfterData order tree g d) → StandsFor d tree s
        → To b (AfterScopes order tree g d s)
    to_scopes d s to is =
        leads_on a b b (FoundedBy order tree) (Resolves g d tree) (AfterScopes order tree g d) s to
        (looked b (StandsFor d tree) (Breaks d tree) (scopes_told g.read d) s is)

    to_exits : (d : Data) (s : Specification) → To b (AfterScopes order tree g d s) → FunctionalitiesAgree d tree s s
        → To b (AfterExits order tree g d s)
    to_exits d s to is =
        leads_on a b b (FoundedBy order tree) (ComesToAgreement g d tree s) (λ _. AfterExits order tree g d s) s to
        (looked b (FunctionalitiesAgree d tree s) (Disagree d tree s) (functionality_told g.read d s) s is)

    to_ranks : (d : Data) (s : Specification) → To b (AfterExits order tree g d s) → Guarded s s → To b (AfterRanks order g d s)
    to_ranks d s to is =
        leads_on a b b (FoundedBy order tree) (IsGuardedIn g d tree s) (λ _. AfterRanks order g d s) s to
        (looked b (Guarded s) (Cyclic d tree s) (recursion_told g.read d s) s is)

    to_order : (c : ShelfState) (d : Data) (s : Specification) (items : List ListedOperation) → To b (AfterRanks order g d s)
        → Did b c (Orders (with_spec g.read d s) order) (goes_on items) → To c (AfterOrder g d s items)
    to_order c d s items to is =
        leads_on a b c (FoundedBy order tree) (Orders (with_spec g.read d s) order) (λ os. AfterOrder g d s os) items to is

    to_book : (d : Data) (s : Specification) (items : List ListedOperation) → To b (AfterOrder g d s items) → Opens items d items
        → To b (AfterBook g d s items)
    to_book d s items to is =
        leads_on a b b (FoundedBy order tree) (OpensBook g d s items) (λ _. AfterBook g d s items) items to
        (looked b (Opens items d) (DoesNotOpen items d) (opening_told g.read d s) items is)

    -- what is known of a specification whose recursion is guarded
    pub record Stands (d : Data) (s : Specification) : Type 0 where
      pub data_had : HaveData (types_of g.types) d
      pub stands : StandsFor d tree s
      pub agree : FunctionalitiesAgree d tree s s
      pub guarded : Guarded s s

    pub reached_ranks : (d : Data) (s : Specification) → Did a b (Gathers tree) (goes_on g) → Stands d s
        → To b (AfterRanks order g d s)
    reached_ranks d s did is =
        to_ranks d s (to_exits d s (to_scopes d s (to_data d (to_types b g did) is.data_had) is.stands) is.agree) is.guarded

    -- where each layer may end
    pub types_failed : (fault : NotAccepted) → Did a b (Gathers tree) (goes_on g)
        → Faulty (HaveFault (types_of g.types)) (types_told g.read) fault → Failed a b (FoundedBy order tree) fault
    types_failed fault did is =
        leads_out a b b (FoundedBy order tree) (Flattens g) (AfterData order tree g) fault (to_types b g did)
        (faulted b (HaveData (types_of g.types)) (HaveFault (types_of g.types)) (types_told g.read) fault is)

    pub scopes_failed : (d : Data) (fault : NotAccepted) → Did a b (Gathers tree) (goes_on g) → HaveData (types_of g.types) d
        → Faulty (Breaks d tree) (scopes_told g.read d) fault → Failed a b (FoundedBy order tree) fault
    scopes_failed d fault did had is =
        leads_out a b b (FoundedBy order tree) (Resolves g d tree) (AfterScopes order tree g d) fault
        (to_data d (to_types b g did) had)
        (faulted b (StandsFor d tree) (Breaks d tree) (scopes_told g.read d) fault is)

    pub exits_failed : (d : Data) (s : Specification) (fault : NotAccepted) → Did a b (Gathers tree) (goes_on g)
        → HaveData (types_of g.types) d → StandsFor d tree s
        → Faulty (Disagree d tree s) (functionality_told g.read d s) fault → Failed a b (FoundedBy order tree) fault
    exits_failed d s fault did had stands is =
        leads_out a b b (FoundedBy order tree) (ComesToAgreement g d tree s) (λ _. AfterExits order tree g d s) fault
        (to_scopes d s (to_data d (to_types b g did) had) stands)
        (faulted b (FunctionalitiesAgree d tree s) (Disagree d tree s) (functionality_told g.read d s) fault is)

    pub ranks_failed : (d : Data) (s : Specification) (fault : NotAccepted) → Did a b (Gathers tree) (goes_on g)
        → HaveData (types_of g.types) d → StandsFor d tree s → FunctionalitiesAgree d tree s s
        → Faulty (Cyclic d tree s) (recursion_told g.read d s) fault → Failed a b (FoundedBy order tree) fault
    ranks_failed d s fault did had stands agree is =
        leads_out a b b (FoundedBy order tree) (IsGuardedIn g d tree s) (λ _. AfterRanks order g d s) fault
        (to_exits d s (to_scopes d s (to_data d (to_types b g did) had) stands) agree)
        (faulted b (Guarded s) (Cyclic d tree s) (recursion_told g.read d s) fault is)

    pub order_failed : (c : ShelfState) (d : Data) (s : Specification) (fault : NotAccepted) → Did a b (Gathers tree) (goes_on g)
        → Stands d s → Failed b c (Orders (with_spec g.read d s) order) fault → Failed a c (FoundedBy order tree) fault
    order_failed c d s fault did stands is =
        leads_out a b c (FoundedBy order tree) (Orders (with_spec g.read d s) order) (λ items. AfterOrder g d s items) fault
        (reached_ranks d s did stands) is

    pub reached_order : (c : ShelfState) (d : Data) (s : Specification) (items : List ListedOperation) → Did a b (Gathers tree)
        (goes_on g)
        → Stands d s → Did b c (Orders (with_spec g.read d s) order) (goes_on items) → To c (AfterOrder g d s items)
    reached_order c d s items did stands is = to_order c d s items (reached_ranks d s did stands) is

  module _ (c : ShelfState) (g : Gathered) (d : Data) (s : Specification) (items : List ListedOperation) where
    pub book_failed : (fault : NotAccepted) → To c (AfterOrder g d s items)
        → Faulty (DoesNotOpen items d) (opening_told g.read d s) fault → Failed a c (FoundedBy order tree) fault
    book_failed fault to is =
        leads_out a c c (FoundedBy order tree) (OpensBook g d s items) (λ _. AfterBook g d s items) fault to
        (faulted c (Opens items d) (DoesNotOpen items d) (opening_told g.read d s) fault is)

    pub reached_book : To c (AfterOrder g d s items) → Opens items d items → To c (AfterBook g d s items)
    reached_book to opens = to_book c g d s items to opens

-- ---- What is held in the end

pub holds : (whole : Resolved) (types : List DeclaredType) (items : List ListedOperation) (words : List (List ℕ)) (known : WithValues)
    (accepted : Accepted) → KnowsValues whole items words known → Starts known accepted
    → HoldsAccepted (record {
      libraries = whole.read;
      types = types;
      data_ = whole.data_;
      spec = whole.spec;
      items = items;
      values = terms_of known.values.items;
    })
    accepted
holds whole types items words known accepted knows starts = record {
  spec_is = ap specification_of starts.same_spec ∙ knows.book_known.keeps.same;
  data_is = same_data;
  well_formed = subst (λ (d : Data). IsWellFormedData d) (sym same_data) knows.book_known.well_formed;
  over =
      subst (λ (spec : CodeSpec). IsSpecOver (data_of accepted.book.flat).signature spec) (sym starts.same_spec)
      (subst (λ (d : Data). IsSpecOver d.signature known.known.spec) (sym same_data) knows.book_known.keeps.over);
  ranks_are =
      subst (λ (spec : CodeSpec). AreRanksOf spec accepted.ranks) (sym starts.same_spec)
      (subst (λ (ranks : Ranks). AreRanksOf known.known.spec ranks) (sym starts.same_ranks) knows.book_known.ranks_known);
  opened =
      opened_stays items whole.data_ accepted.book known.known.book starts.same_joined knows.book_known.opened;
  begins =
      subst (λ (spec : CodeSpec). state_of accepted.start
      ≡ with_values (binding_of (variables_of spec.parameters.items) (map (book_canon accepted.book) (terms_of known.values.items)))
      (behaviour_of spec.body.value)) (sym starts.same_spec)
      (subst (λ (canon : Term → Term). state_of accepted.start
      ≡ with_values (binding_of (variables_of known.known.spec.parameters.items) (map canon (terms_of known.values.items)))
      (behaviour_of known.known.spec.body.value)) (sym (canon_stays accepted.book known.known.book starts.same_joined)) starts.begins);
  state =
      subst (λ (spec : CodeSpec). IsStateOf (data_of accepted.book.flat).signature spec accepted.start) (sym starts.same_spec)
      (subst (λ (flat : Flat). IsStateOf (data_of flat).signature known.known.spec accepted.start) (sym starts.same_flat) starts.state);
  closed = starts.closed;
}
  where
    same_data : data_of accepted.book.flat ≡ whole.data_
    same_data = ap (λ (flat : Flat). data_of flat) starts.same_flat ∙ knows.book_known.data_is
