-- The first fault of several, and limits on presentations.
use Rattle.lotos_base.proofs.Numbers.{below_limit}
use Rattle.type_definitions.specs.TypeFault.{TypeFault, first_fault, fault_if}
use Rattle.type_definitions.specs.Presentation.{presentation_limit}
use Rattle.std.proofs.Common.{◌≡◌, ap, refl, Bool, true, false, ◌<◌, ◌≤◌, List, length, map, sym, ◌∙◌}
use Rattle.std.specs.Prelude.{Option, Some, None, ◌^◌}
use Rattle.std.proofs.lemmas.Bool.{ltb-true}
use Rattle.std.proofs.lemmas.List.{length-map}

pub first_fails : (a rest : Option TypeFault) (fault : TypeFault) → a ≡ Some fault → first_fault a rest ≡ Some fault
first_fails a rest fault found = ap (λ (o : Option TypeFault). first_fault o rest) found

pub none_first : (a rest : Option TypeFault) → first_fault a rest ≡ None → (a ≡ None) × (rest ≡ None)
none_first None rest none = (refl, none)
none_first (Some fault) rest none = let e : Some fault ≡ None = none in cc

pub not_past : (b : Bool) (fault : TypeFault) → fault_if b fault ≡ None → b ≡ false
not_past true fault none = let e : Some fault ≡ None = none in cc
not_past false fault none = refl

pub few_members : {A B : Type 0} (f : A → B) (xs : List A) (ys : List B) → map f xs ≡ ys → length ys ≤ presentation_limit
    → length xs < 2 ^ 32
few_members {B = B} f xs ys are few =
    below_limit (length xs) (length ys) presentation_limit (2 ^ 32) (sym (length-map xs f) ∙ ap (λ (zs : List B). length zs) are) few
    (ltb-true presentation_limit (2 ^ 32) refl)
