-- The causes of the faults of an actualisation, in their order.
use Rattle.std.specs.Prelude.{◌≡◌, ◌≢◌, ◌⊎◌, ◌<◌, ℕ, Bool, List, [], ◌∷◌, ◌++◌, length, map, Option, Some, None, slice_get}
use Rattle.lotos_base.specs.Equation.{Place}
use Rattle.lotos_base.specs.Names.{AreOneName}
use Rattle.lotos_base.specs.Signature.{Sort, Operation, Form}
use Rattle.syntax_trees.specs.WrittenItem.{WrittenPair, WrittenPairs}
use Rattle.type_definitions.specs.TypeFault.{TypeFault, double_sort, double_operation, too_large, not_formal, missing_actual, unknown_sort}
use Rattle.type_definitions.specs.Presentation.{Presentation, nothing, presentation_limit, with_new, is_same_sort, is_same_operation}
use Rattle.type_definitions.specs.Union.{Mentioned, with_mentioned}
use Rattle.type_definitions.specs.Renaming.{pair_for}
use Rattle.type_definitions.specs.Actualisation.{Actualising, formal_sorts_of, formal_operations_of, actualised_sort, actual_name, other_form, actualised_equations}
use Rattle.type_definitions.specs.ActualisationFaults.{Coming, coming_at, coming_sorts, coming_operations, there_already, actualising_of}
use Rattle.type_flatten.specs.FaultCauses.{Cause, OrElse, FirstAlong, AreOneSort, AreAlikeOperations, MentionBrings, NamesNoSort, OldSortIsUnknown, OldSortIsTaken, OperationPairBrings, with_earlier_pair}

-- ---- Pairs

-- a formal sort of the base has the name
abbrev pub IsFormalName : Presentation → List ℕ → Type 0
IsFormalName base name = (i : ℕ) × (sort : Sort) × (slice_get (formal_sorts_of base) i ≡ Some sort) × AreOneName sort.name name

-- An earlier pair has the new name, and not both are for formal sorts: two formal sorts may have one actual sort.
pub record SharesNewName (base : Presentation) (earlier : List WrittenPair) (pair : WrittenPair) : Type 0 where
  pub i : ℕ
  pub other : WrittenPair
  pub found : slice_get earlier i ≡ Some other
  pub unless_formal : IsFormalName base other.replaced.name → IsFormalName base pair.replaced.name → ⊥
  pub same : AreOneName other.given pair.given

abbrev pub NewNameIsShared : Presentation → List WrittenPair → WrittenPair → Cause
NewNameIsShared base earlier pair fault = (fault ≡ double_sort pair.place pair.given) × SharesNewName base earlier pair

abbrev pub ActualPairBrings : Presentation → List WrittenPair → WrittenPair → Cause
ActualPairBrings base earlier pair =
    OrElse (OldSortIsUnknown base.signature pair) (OrElse (OldSortIsTaken earlier pair) (NewNameIsShared base earlier pair))

-- ---- What is formal

-- The actual types have no sort of the name that the formal sort has there: the one that its first pair gives it, at that pair, or
-- its own, at the mention of the base.
abbrev pub told_missing : Actualising → List ℕ → Option WrittenPair → TypeFault
told_missing a name None = missing_actual a.base.at.place name
told_missing a name (Some pair) = unknown_sort pair.place (Some pair.given)

abbrev pub FormalSortIsMissing : Actualising → Sort → Cause
FormalSortIsMissing a sort fault =
    (fault ≡ told_missing a sort.name (pair_for a.pairs.sort_pairs sort.name))
    × NamesNoSort a.actual.signature (actual_name sort.name (pair_for a.pairs.sort_pairs sort.name))

-- the operation is an actual one of the formal one, in this form: it has its actual name, arguments and result
pub record IsActual (a : Actualising) (formal : Operation) (form : Form) (operation : Operation) : Type 0 where
  pub named : AreOneName operation.name (actual_name formal.name (pair_for a.pairs.operation_pairs formal.name))
  pub formed : operation.form ≡ form
  pub arguments : operation.arguments ≡ map (actualised_sort a) formal.arguments
  pub result : operation.result ≡ actualised_sort a formal.result

-- the actual types have none in this form
abbrev pub HasNoActual : Actualising → Operation → Form → Type 0
HasNoActual a formal form =
    (i : ℕ) (operation : Operation) → slice_get a.actual.signature.operations i ≡ Some operation → ¬ IsActual a formal form operation

abbrev pub FormalOperationIsMissing : Actualising → Operation → Cause
FormalOperationIsMissing a formal fault =
    (fault ≡ missing_actual a.base.at.place formal.name) × HasNoActual a formal formal.form × HasNoActual a formal (other_form formal.form)

-- nothing changes on the way
abbrev pub keeps_all : {D : Type 0} → Actualising → D → Actualising
keeps_all a d = a

-- ---- What comes in from the base

-- both were made by pairs, which stand at different places
pub record MadeByTwo {A : Type 0} (one other : Coming A) : Type 0 where
  pub first : WrittenPair
  pub second : WrittenPair
  pub made : one.pair ≡ Some first
  pub made_too : other.pair ≡ Some second
  pub apart : first.place ≢ second.place

-- two of one name, or of one name, form and profile, are different: other types declare or make them, or two different pairs do
abbrev pub SortsClash : Coming Sort → Coming Sort → Type 0
SortsClash one other = AreOneSort one.image other.image × ((¬ AreOneName one.image.origin other.image.origin) ⊎ MadeByTwo one other)

abbrev pub OperationsClash : Coming Operation → Coming Operation → Type 0
OperationsClash one other =
    AreAlikeOperations one.image other.image × ((¬ AreOneName one.image.origin other.image.origin) ⊎ MadeByTwo one other)

-- what comes clashes with one before it
abbrev pub Clashes : {A : Type 0} → Actualising → (Coming A → Coming A → Type 0) → (Place → List ℕ → TypeFault) → List (Coming A) → Coming A
    → Cause
Clashes {A} a Clash kind earlier x fault =
    (fault ≡ coming_at a kind x) × ((i : ℕ) × (other : Coming A) × (slice_get earlier i ≡ Some other) × Clash x other)

abbrev pub and_then_coming : {A : Type 0} → List (Coming A) → Coming A → List (Coming A)
and_then_coming earlier x = earlier ++ x ∷ []

-- it is one too many behind those that are there
abbrev pub IsOneTooMany : {A : Type 0} → Actualising → (A → A → Bool) → List A → Coming A → Cause
IsOneTooMany a same there x fault =
    (fault ≡ coming_at a too_large x) × (presentation_limit < length (with_new same there (x.image ∷ [])))

abbrev pub with_coming : {A : Type 0} → (A → A → Bool) → List A → Coming A → List A
with_coming same there x = with_new same there (x.image ∷ [])

abbrev pub TooManyEquations : Actualising → Cause
TooManyEquations a fault =
    (fault ≡ too_large a.base.at.place a.base.at.name) × (presentation_limit < length (actualised_equations a))

-- clashes of sorts, then of operations, then what is too much
abbrev pub ComingBrings : Actualising → Cause
ComingBrings a =
    OrElse
    (FirstAlong (Clashes a SortsClash double_sort) and_then_coming (map there_already a.actual.signature.sorts) (coming_sorts a))
    (OrElse
    (FirstAlong (Clashes a OperationsClash double_operation) and_then_coming (map there_already a.actual.signature.operations)
    (coming_operations a))
    (OrElse (FirstAlong (IsOneTooMany a is_same_sort) (with_coming is_same_sort) a.actual.signature.sorts (coming_sorts a))
    (OrElse (FirstAlong (IsOneTooMany a is_same_operation) (with_coming is_same_operation) a.actual.signature.operations
    (coming_operations a))
    (TooManyEquations a))))

-- ---- All of it

-- the pairs of sorts, those of operations, the formal sorts, the formal operations, and what comes in
abbrev pub ActualisingBrings : Actualising → Cause
ActualisingBrings a =
    OrElse (FirstAlong (ActualPairBrings a.base.presentation) with_earlier_pair [] a.pairs.sort_pairs)
    (OrElse (FirstAlong (OperationPairBrings a.base.presentation.signature) with_earlier_pair [] a.pairs.operation_pairs)
    (OrElse (FirstAlong FormalSortIsMissing keeps_all a (formal_sorts_of a.base.presentation))
    (OrElse (FirstAlong FormalOperationIsMissing keeps_all a (formal_operations_of a.base.presentation)) (ComingBrings a))))

-- nothing in the base is formal
abbrev pub BaseIsNotFormal : Mentioned → Cause
BaseIsNotFormal base fault =
    (fault ≡ not_formal base.at.place base.at.name) × (formal_sorts_of base.presentation ≡ [])
    × (formal_operations_of base.presentation ≡ [])

abbrev pub ActualisationBrings : Mentioned → List Mentioned → List ℕ → WrittenPairs → Cause
ActualisationBrings base actuals type_name pairs =
    OrElse (BaseIsNotFormal base)
    (OrElse (FirstAlong MentionBrings with_mentioned nothing actuals) (ActualisingBrings (actualising_of base actuals type_name pairs)))
