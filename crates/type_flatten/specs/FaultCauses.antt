-- The causes of the faults of unions, of declarations and of pairs.
use Rattle.std.specs.Prelude.{◌≡◌, ◌≢◌, ◌⊎◌, ◌<◌, ℕ, Bool, true, false, List, [], ◌∷◌, ◌++◌, length, Some, slice_get}
use Rattle.lotos_base.specs.Equation.{Place}
use Rattle.lotos_base.specs.Names.{AreOneName}
use Rattle.lotos_base.specs.Signature.{Signature, Sort, Operation, infix_form}
use Rattle.lotos_base.specs.WrittenTerm.{PlacedName}
use Rattle.syntax_trees.specs.WrittenItem.{WrittenOperation, WrittenPair, WrittenSections}
use Rattle.type_definitions.specs.TypeFault.{TypeFault, double_sort, double_operation, too_large, no_reading, unknown_sort, unknown_operation}
use Rattle.type_definitions.specs.Presentation.{Presentation, presentation_limit}
use Rattle.type_definitions.specs.Union.{Mentioned, with_mentioned}
use Rattle.type_definitions.specs.Declarations.{with_sort, with_operation, with_formal_sorts, with_sorts, with_formal_operations}
pub use Rattle.type_flatten.specs.FirstCause.{IsNowhere, OrElse, FirstAlong, at_once, further_on}

-- the fault is there
abbrev pub Cause : Type 1
Cause = TypeFault → Type 0

-- ---- Presentations

-- two members at different places of the list are one in this sense
pub record HasTwoAlike {A : Type 0} (AreOne : A → A → Type 0) (xs : List A) : Type 0 where
  pub i : ℕ
  pub j : ℕ
  pub one : A
  pub other : A
  pub before : i < j
  pub here : slice_get xs i ≡ Some one
  pub there : slice_get xs j ≡ Some other
  pub same : AreOne one other

abbrev pub AreOneSort : Sort → Sort → Type 0
AreOneSort one other = AreOneName one.name other.name

pub record AreAlikeOperations (one other : Operation) : Type 0 where
  pub named : AreOneName one.name other.name
  pub formed : one.form ≡ other.form
  pub arguments : one.arguments ≡ other.arguments
  pub result : one.result ≡ other.result

-- there are more sorts, operations or equations than the limit
abbrev pub IsAboveLimit : ℕ → Presentation → Type 0
IsAboveLimit limit p =
    (limit < length p.signature.sorts) ⊎ ((limit < length p.signature.operations) ⊎ (limit < length p.equations))

-- What is wrong with a presentation that came about at this place: two sorts of one name, or else two operations of one name, form
-- and profile, or else too much.
abbrev pub TwoSorts : Place → List ℕ → Presentation → Cause
TwoSorts place name p fault = (fault ≡ double_sort place name) × HasTwoAlike AreOneSort p.signature.sorts

abbrev pub TwoOperations : Place → List ℕ → Presentation → Cause
TwoOperations place name p fault = (fault ≡ double_operation place name) × HasTwoAlike AreAlikeOperations p.signature.operations

abbrev pub TooMuch : Place → List ℕ → Presentation → Cause
TooMuch place name p fault = (fault ≡ too_large place name) × IsAboveLimit presentation_limit p

abbrev pub IsWrongWith : Place → List ℕ → Presentation → Cause
IsWrongWith place name p = OrElse (TwoSorts place name p) (OrElse (TwoOperations place name p) (TooMuch place name p))

-- a mention brings what is wrong once its presentation is joined with those before it
abbrev pub MentionBrings : Presentation → Mentioned → Cause
MentionBrings p mention = IsWrongWith mention.at.place mention.at.name (with_mentioned p mention)

-- ---- Declarations

abbrev pub SortBrings : List ℕ → Bool → Presentation → PlacedName → Cause
SortBrings origin is_formal p declared = IsWrongWith declared.place declared.name (with_sort origin is_formal p declared)

-- no sort has the name
abbrev pub NamesNoSort : Signature → List ℕ → Type 0
NamesNoSort signature name = (i : ℕ) (sort : Sort) → slice_get signature.sorts i ≡ Some sort → ¬ AreOneName sort.name name

-- an infix operation without two arguments
abbrev pub Misfits : WrittenOperation → Cause
Misfits declared fault = (fault ≡ no_reading declared.place) × (declared.form ≡ infix_form) × (length declared.arguments ≢ 2)

-- the name of no sort, at its own place
abbrev pub SortIsUnknown : Presentation → PlacedName → Cause
SortIsUnknown p name fault = (fault ≡ unknown_sort name.place (Some name.name)) × NamesNoSort p.signature name.name

-- the first of the names that is that of no sort
abbrev pub stays_so : Presentation → PlacedName → Presentation
stays_so p name = p

abbrev pub ProfileIsUnknown : Presentation → WrittenOperation → Cause
ProfileIsUnknown p declared = FirstAlong SortIsUnknown stays_so p (declared.arguments ++ declared.result ∷ [])

abbrev pub OperationBrings : List ℕ → Bool → Presentation → WrittenOperation → Cause
OperationBrings origin is_formal p declared =
    OrElse (Misfits declared)
    (OrElse (ProfileIsUnknown p declared) (IsWrongWith declared.place declared.name (with_operation origin is_formal p declared)))

-- formal sorts come first, then own sorts, formal operations and own operations
abbrev pub DeclarationsBring : List ℕ → Presentation → WrittenSections → Cause
DeclarationsBring origin p sections =
    OrElse (FirstAlong (SortBrings origin true) (with_sort origin true) p sections.formal_sorts)
    (OrElse (FirstAlong (SortBrings origin false) (with_sort origin false) (with_formal_sorts origin p sections) sections.sorts)
    (OrElse
    (FirstAlong (OperationBrings origin true) (with_operation origin true) (with_sorts origin p sections) sections.formal_operations)
    (FirstAlong (OperationBrings origin false) (with_operation origin false) (with_formal_operations origin p sections)
    sections.operations)))

-- ---- Pairs

-- one of the pairs has this old name, and one has this new name
abbrev pub IsOldName : List WrittenPair → List ℕ → Type 0
IsOldName pairs name = (i : ℕ) × (pair : WrittenPair) × (slice_get pairs i ≡ Some pair) × AreOneName pair.replaced.name name

abbrev pub IsNewName : List WrittenPair → List ℕ → Type 0
IsNewName pairs name = (i : ℕ) × (pair : WrittenPair) × (slice_get pairs i ≡ Some pair) × AreOneName pair.given name

abbrev pub NamesNoOperation : Signature → List ℕ → Type 0
NamesNoOperation signature name =
    (i : ℕ) (operation : Operation) → slice_get signature.operations i ≡ Some operation → ¬ AreOneName operation.name name

-- the old name is that of no sort; or else an earlier pair has it; or else an earlier pair has the new name
abbrev pub OldSortIsUnknown : Signature → WrittenPair → Cause
OldSortIsUnknown signature pair fault =
    (fault ≡ unknown_sort pair.replaced.place (Some pair.replaced.name)) × NamesNoSort signature pair.replaced.name

abbrev pub OldSortIsTaken : List WrittenPair → WrittenPair → Cause
OldSortIsTaken earlier pair fault = (fault ≡ double_sort pair.place pair.given) × IsOldName earlier pair.replaced.name

abbrev pub NewSortIsTaken : List WrittenPair → WrittenPair → Cause
NewSortIsTaken earlier pair fault = (fault ≡ double_sort pair.place pair.given) × IsNewName earlier pair.given

abbrev pub SortPairBrings : Signature → List WrittenPair → WrittenPair → Cause
SortPairBrings signature earlier pair =
    OrElse (OldSortIsUnknown signature pair) (OrElse (OldSortIsTaken earlier pair) (NewSortIsTaken earlier pair))

-- the old name is that of no operation; or else an earlier pair has it
abbrev pub OldOperationIsUnknown : Signature → WrittenPair → Cause
OldOperationIsUnknown signature pair fault =
    (fault ≡ unknown_operation pair.replaced.place pair.replaced.name) × NamesNoOperation signature pair.replaced.name

abbrev pub OldOperationIsTaken : List WrittenPair → WrittenPair → Cause
OldOperationIsTaken earlier pair fault = (fault ≡ double_operation pair.place pair.given) × IsOldName earlier pair.replaced.name

abbrev pub OperationPairBrings : Signature → List WrittenPair → WrittenPair → Cause
OperationPairBrings signature earlier pair = OrElse (OldOperationIsUnknown signature pair) (OldOperationIsTaken earlier pair)

-- the pair is an earlier one from then on
abbrev pub with_earlier_pair : List WrittenPair → WrittenPair → List WrittenPair
with_earlier_pair earlier pair = earlier ++ pair ∷ []
