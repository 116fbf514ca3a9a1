-- A mark that comes to marked numbers.
use Rattle.std.proofs.Common.{◌≡◌, ℕ, suc, ◌+◌, ◌<◌, Bool, true, false, List, [], ◌∷◌, ◌++◌, length, drop, drop-cons, get_or, ap, ◌∙◌, arith}
use Rattle.std.specs.Prelude.{not, nat_eq}
use Rattle.std.specs.List.{list_any}
use Rattle.std.proofs.lemmas.Bool.{eqb-true}
use Rattle.type_definitions.specs.Presentation.{with_new}
use Rattle.type_presentations.proofs.OnceLemmas.{any_once, came_once, grown_if_new, stays_if_old}

pub record Marked (old known : List ℕ) (number : ℕ) (is_new : Bool) : Type 0 where
  pub appended : known ≡ with_new nat_eq [] (old ++ number ∷ [])
  pub unchanged : is_new ≡ false → known ≡ with_new nat_eq [] old
  pub grown : is_new ≡ true → with_new nat_eq old (number ∷ []) ≡ old ++ number ∷ []
  pub stays : is_new ≡ false → with_new nat_eq old (number ∷ []) ≡ old

pub marked : (old known new : List ℕ) (number : ℕ) (is_new : Bool) → known ≡ with_new nat_eq [] old
    → new ≡ with_new nat_eq known (number ∷ []) → is_new ≡ not (list_any (nat_eq number) known)
    → Marked old new number is_new
marked old known new number is_new before after told =
    let once = came_once nat_eq (λ x y h. eqb-true x y h) old number known new is_new before after told in record {
      appended = once.appended;
      unchanged = once.unchanged;
      grown = λ h. grown_if_new nat_eq old number is_new once.told h;
      stays = λ h. stays_if_old nat_eq old number is_new once.told h;
    }

-- a number is in the set where it is marked
pub known_is_marked : (marks known : List ℕ) (number : ℕ) → known ≡ with_new nat_eq [] marks
    → list_any (nat_eq number) known ≡ list_any (nat_eq number) marks
known_is_marked marks known number is =
    ap (λ (ns : List ℕ). list_any (nat_eq number) ns) is ∙ any_once nat_eq (λ x y h. eqb-true x y h) number [] marks

-- the number at a position, and those behind it
pub number_next : (numbers : List ℕ) (i : ℕ) → i < length numbers → drop i numbers ≡ get_or numbers i 0 ∷ drop (i + 1) numbers
number_next numbers i within = let one : i + 1 ≡ suc i = omega arith in rw one (drop-cons numbers i 0 within)
