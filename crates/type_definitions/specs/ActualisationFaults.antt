-- The first fault of an actualisation: of the base, of the actual types, of the pairs, of what is formal, of what comes in.
use Rattle.std.specs.Prelude.{ℕ, Bool, false, not, ◌&&◌, ◌||◌, nat_lt, List, [], ◌∷◌, ◌++◌, length, map, Option, None, Some, if◌then◌else◌}
use Rattle.std.specs.List.{list_any}
use Rattle.lotos_base.specs.WrittenTerm.{PlacedName}
use Rattle.lotos_base.specs.Signature.{Sort, Operation}
use Rattle.lotos_base.specs.Equation.{Place}
use Rattle.syntax_trees.specs.WrittenItem.{WrittenPair, WrittenPairs}
use Rattle.sort_terms.specs.ReadingOutcome.{one_name, is_sort_name}
use Rattle.sort_terms.specs.WellFormedTest.{are_one_sort, are_one_operation}
use Rattle.type_definitions.specs.TypeFault.{TypeFault, double_sort, double_operation, unknown_sort, not_formal, missing_actual, too_large, fault_if, first_fault}
use Rattle.type_definitions.specs.Presentation.{Presentation, is_same_place, with_new, is_same_sort, is_same_operation, presentation_limit}
use Rattle.type_definitions.specs.Union.{Mentioned, union_of, union_fault}
use Rattle.type_definitions.specs.Renaming.{pair_for, sort_pair_fault, operation_pairs_fault}
use Rattle.type_definitions.specs.Actualisation.{Actualising, is_formal, is_formal_sort, formal_sorts_of, formal_operations_of, other_sorts_of, other_operations_of, sort_renamer, operation_renamer, actual_name, other_sort_image, other_operation_image, has_actual, other_form, actualised_equations}

-- ---- Pairs, in text order: as in a renaming, but two formal sorts may share a new name.

-- the earlier pairs with which a pair may not share its new name
abbrev pub unshared : Presentation → List WrittenPair → WrittenPair → List WrittenPair
unshared base [] pair = []
unshared base (earlier ∷ pairs) pair =
    if is_formal_sort base earlier.replaced.name && is_formal_sort base pair.replaced.name
    then unshared base pairs pair
    else earlier ∷ unshared base pairs pair

-- the first fault of sort pairs behind earlier ones
abbrev pub actual_pairs_fault : Presentation → List WrittenPair → List WrittenPair → Option TypeFault
actual_pairs_fault base earlier [] = None
actual_pairs_fault base earlier (pair ∷ pairs) =
    first_fault (sort_pair_fault base.signature earlier (unshared base earlier pair) pair)
    (actual_pairs_fault base (earlier ++ pair ∷ []) pairs)

-- ---- What is formal, in the order of the base. A missing actual stands at the mention of the base, with the formal name.

abbrev pub missing : Actualising → List ℕ → TypeFault
missing a name = missing_actual a.base.at.place name

-- no sort of the name among the actual types: the fault of a pair that names it, or of the formal sort without one
abbrev pub no_actual_sort : Actualising → List ℕ → Option WrittenPair → TypeFault
no_actual_sort a name None = missing a name
no_actual_sort a name (Some pair) = unknown_sort pair.place (Some pair.given)

-- the first formal sort without an actual one
abbrev pub formal_sort_fault : Actualising → List Sort → Option TypeFault
formal_sort_fault a [] = None
formal_sort_fault a (s ∷ ss) =
    first_fault
    (fault_if
    (not (is_sort_name a.actual.signature (actual_name s.name (pair_for a.pairs.sort_pairs s.name))))
    (no_actual_sort a s.name (pair_for a.pairs.sort_pairs s.name)))
    (formal_sort_fault a ss)

-- the first formal operation without an actual one in either form
abbrev pub formal_operation_fault : Actualising → List Operation → Option TypeFault
formal_operation_fault a [] = None
formal_operation_fault a (o ∷ os) =
    first_fault (fault_if (not (has_actual a o o.form || has_actual a o (other_form o.form))) (missing a o.name))
    (formal_operation_fault a os)

-- ---- What comes in from the base, each with the pair that made it. Its place is this pair's, or that of the base's mention.

pub record Coming (A : Type 0) : Type 0 where
  pub image : A
  pub pair : Option WrittenPair

-- a fault at the pair, or at the mention where there is none
abbrev pub at_pair : Option WrittenPair → PlacedName → (Place → List ℕ → TypeFault) → TypeFault
at_pair None mention kind = kind mention.place mention.name
at_pair (Some pair) mention kind = kind pair.place pair.given

abbrev pub coming_at : {A : Type 0} → Actualising → (Place → List ℕ → TypeFault) → Coming A → TypeFault
coming_at a kind coming = at_pair coming.pair a.base.at kind

-- whether two different pairs made them
abbrev pub made_by_two : Option WrittenPair → Option WrittenPair → Bool
made_by_two None other = false
made_by_two (Some one) None = false
made_by_two (Some one) (Some other) = not (is_same_place one.place other.place)

-- whether two sorts of one name are different
abbrev pub sorts_clash : Coming Sort → Coming Sort → Bool
sorts_clash one other =
    are_one_sort one.image other.image
    && (not (one_name one.image.origin other.image.origin) || made_by_two one.pair other.pair)

-- whether two operations of one name, form and profile are different
abbrev pub operations_clash : Coming Operation → Coming Operation → Bool
operations_clash one other =
    are_one_operation one.image other.image
    && (not (one_name one.image.origin other.image.origin) || made_by_two one.pair other.pair)

-- the first that clashes with one before it
abbrev pub coming_clash : {A : Type 0} → Actualising → (Coming A → Coming A → Bool) → (Place → List ℕ → TypeFault)
    → List (Coming A) → List (Coming A) → Option TypeFault
coming_clash a clash kind earlier [] = None
coming_clash a clash kind earlier (x ∷ xs) =
    first_fault (fault_if (list_any (clash x) earlier) (coming_at a kind x)) (coming_clash a clash kind (earlier ++ x ∷ []) xs)

-- the first that is one too many behind the list
abbrev pub coming_too_many : {A : Type 0} → Actualising → (A → A → Bool) → List A → List (Coming A) → Option TypeFault
coming_too_many a same there [] = None
coming_too_many a same there (x ∷ xs) =
    first_fault
    (fault_if (nat_lt presentation_limit (length (with_new same there (x.image ∷ [])))) (coming_at a too_large x))
    (coming_too_many a same (with_new same there (x.image ∷ [])) xs)

-- something of the actual types, which no pair of this type made
abbrev pub there_already : {A : Type 0} → A → Coming A
there_already x = record { image = x; pair = None }

abbrev pub coming_sorts : Actualising → List (Coming Sort)
coming_sorts a =
    map (λ (s : Sort). record { image = other_sort_image a s; pair = sort_renamer a s }) (other_sorts_of a.base.presentation)

abbrev pub coming_operations : Actualising → List (Coming Operation)
coming_operations a =
    map (λ (o : Operation). record { image = other_operation_image a o; pair = operation_renamer a o })
    (other_operations_of a.base.presentation)

-- clashes of sorts, then of operations; then sorts, operations and equations that are too many
abbrev pub coming_fault : Actualising → Option TypeFault
coming_fault a =
    first_fault (coming_clash a sorts_clash double_sort (map there_already a.actual.signature.sorts) (coming_sorts a))
    (first_fault
    (coming_clash a operations_clash double_operation (map there_already a.actual.signature.operations) (coming_operations a))
    (first_fault (coming_too_many a is_same_sort a.actual.signature.sorts (coming_sorts a))
    (first_fault (coming_too_many a is_same_operation a.actual.signature.operations (coming_operations a))
    (fault_if (nat_lt presentation_limit (length (actualised_equations a))) (too_large a.base.at.place a.base.at.name)))))

-- ---- All of it. The presentation that the actual types come to is their union.

abbrev pub actualising_of : Mentioned → List Mentioned → List ℕ → WrittenPairs → Actualising
actualising_of base actuals type_name pairs =
    record { base = base; actual = union_of actuals; pairs = pairs; type_name = type_name }

-- the first fault once the actual types are joined
abbrev pub actualising_fault : Actualising → Option TypeFault
actualising_fault a =
    first_fault (actual_pairs_fault a.base.presentation [] a.pairs.sort_pairs)
    (first_fault (operation_pairs_fault a.base.presentation.signature [] a.pairs.operation_pairs)
    (first_fault (formal_sort_fault a (formal_sorts_of a.base.presentation))
    (first_fault (formal_operation_fault a (formal_operations_of a.base.presentation)) (coming_fault a))))

-- the first fault of the actualisation
abbrev pub actualisation_fault : Mentioned → List Mentioned → List ℕ → WrittenPairs → Option TypeFault
actualisation_fault base actuals type_name pairs =
    first_fault (fault_if (not (is_formal base.presentation)) (not_formal base.at.place base.at.name))
    (first_fault (union_fault actuals) (actualising_fault (actualising_of base actuals type_name pairs)))
