-- The sorts of a functionality in their brackets.
use Rattle.std.proofs.Common.{◌≡◌, ℕ, List, [], ◌∷◌, map, length, Bool, true, false, refl, arith}
use Rattle.lotos_base.specs.Signature.{Signature}
use Rattle.printed_texts.specs.Brackets.{bracketed, commas}
use Rattle.printed_texts.specs.FunctionalityText.{sorts_text}
use Rattle.printed_texts.specs.TermText.{sort_text}

-- the sorts in their brackets, which stand where there are some
pub sorts_are :
    (signature : Signature) (sorts : List ℕ) (needed : Bool) →
    (needed ≡ false → sorts ≡ []) →
    (needed ≡ true → length sorts ≡ 0 → ⊥) →
    sorts_text signature sorts ≡ bracketed needed (commas (map (sort_text signature) sorts))
sorts_are signature [] false h k = refl
sorts_are signature [] true h k = absurd (k refl refl)
sorts_are signature (sort ∷ sorts) true h k = refl
sorts_are signature (sort ∷ sorts) false h k = let none : (sort ∷ sorts) ≡ [] = h refl in grind arith
