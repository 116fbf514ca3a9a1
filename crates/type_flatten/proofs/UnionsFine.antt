-- What no fault says, and unions without a fault.
use Rattle.std.proofs.Common.{◌≡◌, ℕ, suc, false, List, [], ◌∷◌, refl}
use Rattle.std.specs.Prelude.{Option, None, fold}
use Rattle.std.proofs.lemmas.Bool.{not-false}
use Rattle.lotos_base.specs.Equation.{Place}
use Rattle.type_definitions.specs.TypeFault.{TypeFault, double_sort, double_operation, too_large, fault_if, first_fault, fault_along}
use Rattle.type_definitions.specs.Presentation.{Presentation, nothing, has_sort_clash, has_operation_clash, is_too_large}
use Rattle.type_definitions.specs.Union.{Mentioned, with_mentioned, mention_fault, union_of, union_fault, presentation_fault}
use Rattle.type_definitions.proofs.FaultLemmas.{none_first, not_past}
use Rattle.type_presentations.proofs.SignatureLemmas.{nothing_well_formed}
use Rattle.type_presentations.proofs.UnionData.{union_data}
use Rattle.type_flatten.specs.FlattenedData.{IsFine, AreFine}

-- ---- No fault.

-- sorts and operations of the presentation differ
pub nothing_clashes : (place : Place) (name : List ℕ) (p : Presentation) → presentation_fault place name p ≡ None
    → (has_sort_clash p ≡ false) × (has_operation_clash p ≡ false)
nothing_clashes place name p none =
    let sorts = none_first (fault_if (has_sort_clash p) (double_sort place name))
    (first_fault (fault_if (has_operation_clash p) (double_operation place name)) (fault_if (is_too_large p) (too_large place name)))
    none in
    let operations = none_first (fault_if (has_operation_clash p) (double_operation place name))
    (fault_if (is_too_large p) (too_large place name)) sorts.1 in (
      not_past (has_sort_clash p) (double_sort place name) sorts.0,
      not_past (has_operation_clash p) (double_operation place name) operations.0,
    )

-- what each step keeps, all of them keep
pub all_along : {D : Type 0} (fault_of : Presentation → D → Option TypeFault) (after : Presentation → D → Presentation)
    → ((p : Presentation) (d : D) → IsFine p → fault_of p d ≡ None → IsFine (after p d)) → (p : Presentation) (ds : List D)
    → IsFine p → fault_along fault_of after p ds ≡ None → IsFine (fold after p ds)
all_along fault_of after keeps p [] fine none = fine
all_along fault_of after keeps p (d ∷ ds) fine none =
    let parts = none_first (fault_of p d) (fault_along fault_of after (after p d) ds) none in
    all_along fault_of after keeps (after p d) ds (keeps p d fine parts.0) parts.1

-- ---- Unions.

one_joined : (p : Presentation) (m : Mentioned) → IsFine p → IsFine m.presentation → mention_fault p m ≡ None
    → IsFine (with_mentioned p m)
one_joined p m fine other none =
    let apart = nothing_clashes m.at.place m.at.name (with_mentioned p m) none in
    union_data p m.presentation fine other (not-false _ apart.0) (not-false _ apart.1)

all_joined : (p : Presentation) (ms : List Mentioned) → IsFine p → AreFine ms
    → fault_along mention_fault with_mentioned p ms ≡ None → IsFine (fold with_mentioned p ms)
all_joined p [] fine others none = fine
all_joined p (m ∷ ms) fine others none =
    let parts = none_first (mention_fault p m) (fault_along mention_fault with_mentioned (with_mentioned p m) ms) none in
    all_joined (with_mentioned p m) ms (one_joined p m fine (others m (0, refl)) parts.0) (λ x at. others x (suc at.0, at.1)) parts.1

pub unions_fine : (all : List Mentioned) → AreFine all → union_fault all ≡ None → IsFine (union_of all)
unions_fine all fine none = all_joined nothing all nothing_well_formed fine none
