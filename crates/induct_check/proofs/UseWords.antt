-- The words of a use.
use Rattle.std.proofs.Common.{◌≡◌, ℕ, List, [], ◌∷◌, Option, None, length, map, get_or, refl, arith}
use Rattle.lotos_base.specs.Equality.{Direction}
use Rattle.induct_parts.specs.HandedOn.{Side, Source}
use Rattle.induct_check.specs.CertificateLines.{use_from, use_by}

pub not_five : (ws : List (List ℕ)) → (length ws ≡ 5 → ⊥) → None ≡ use_by ws
not_five [] other = refl
not_five (a ∷ []) other = refl
not_five (a ∷ b ∷ []) other = refl
not_five (a ∷ b ∷ c ∷ []) other = refl
not_five (a ∷ b ∷ c ∷ d ∷ []) other = refl
not_five (a ∷ b ∷ c ∷ d ∷ e ∷ []) other = absurd (other refl)
not_five (a ∷ b ∷ c ∷ d ∷ e ∷ f ∷ ws) other = refl

pub five_words : {A : Type 0} (view : A → List ℕ) (ws : List A) (z : A) → length ws ≡ 5
    → map view ws ≡ view (get_or ws 0 z) ∷ view (get_or ws 1 z) ∷ view (get_or ws 2 z) ∷ view (get_or ws 3 z) ∷ view (get_or ws 4 z) ∷ []
five_words view [] z five = absurd (omega (arith, five))
five_words view (a ∷ []) z five = absurd (omega (arith, five))
five_words view (a ∷ b ∷ []) z five = absurd (omega (arith, five))
five_words view (a ∷ b ∷ c ∷ []) z five = absurd (omega (arith, five))
five_words view (a ∷ b ∷ c ∷ d ∷ []) z five = absurd (omega (arith, five))
five_words view (a ∷ b ∷ c ∷ d ∷ e ∷ []) z five = refl
five_words view (a ∷ b ∷ c ∷ d ∷ e ∷ f ∷ ws) z five = absurd (omega (arith, five))

pub same_use : (a b : Option Source) (c d : Option Side) (p q : Option (List ℕ)) (x y : Option Direction) → a ≡ b → c ≡ d → p ≡ q → x ≡ y
    → use_from a c p x ≡ use_from b d q y
same_use a b c d p q x y e f g h = cc
