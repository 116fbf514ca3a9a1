-- Lines that deal with things, and things that are right one after another: what holds of all of them, and lines behind lines.
use Rattle.std.proofs.Common.{◌≡◌, ℕ, zero, suc, ◌+◌, List, ◌∷◌, ◌++◌, length, subst, arith}
use Rattle.std.specs.Prelude.{Some, slice_get}
use Rattle.std.proofs.lemmas.Option.{same_Some}
use Rattle.lotos_base.proofs.Each.{Each}
use Rattle.certificate_theory.specs.Lines.{DealsWith, nothing_left, line_then, LinesReach, no_line, line_first, FailsToDeal, line_later, AreRightBehind, no_more, right_then}
use Rattle.certificate_theory.proofs.Each.{each_front, each_back}

-- what holds of a thing as soon as it holds of all that a line leaves holds of all that lines deal with
pub deals_each : {X L : Type 0} {ComesTo : X → L → List X → Type 0} (P : X → Type 0)
    → ((x : X) (line : L) (parts : List X) → ComesTo x line parts → Each P parts → P x)
    → {xs : List X} {lines : List L} → DealsWith ComesTo xs lines → Each P xs
deals_each P step nothing_left = tt
deals_each P step (line_then {x = x} {xs = xs} {parts = parts} {line = line} comes rest) =
    let later = deals_each P step rest in
    (step x line parts comes (each_front P parts xs later), each_back P parts xs later)

-- the thing at an index is right behind some others
pub right_at : {X : Type 0} {IsRight : List X → X → Type 0} {earlier xs : List X} (i : ℕ) (x : X)
    → AreRightBehind IsRight earlier xs → slice_get xs i ≡ Some x → (before : List X) × IsRight before x
right_at i x no_more at = absurd (cc at)
right_at {IsRight = IsRight} zero x (right_then {earlier = earlier} {x = y} right rest) at =
    (earlier, subst (IsRight earlier) (same_Some y x at) right)
right_at (suc i) x (right_then right rest) at = right_at i x rest at

-- ---- lines behind lines

pub reach_then_deal : {X L : Type 0} {ComesTo : X → L → List X → Type 0} {xs behind : List X} {read : List L} (rest : List L)
    → LinesReach ComesTo xs read behind → DealsWith ComesTo behind rest → DealsWith ComesTo xs (read ++ rest)
reach_then_deal rest no_line deals = deals
reach_then_deal rest (line_first comes later) deals = line_then comes (reach_then_deal rest later deals)

pub reach_then_fail : {X L F : Type 0} {ComesTo : X → L → List X → Type 0} {IsWrong : X → L → F → Type 0} {misplaced : F}
    {xs behind : List X} {read : List L} (rest : List L) (k : ℕ) (fault : F) → LinesReach ComesTo xs read behind
    → FailsToDeal ComesTo IsWrong misplaced behind rest k fault
    → FailsToDeal ComesTo IsWrong misplaced xs (read ++ rest) (length read + k) fault
reach_then_fail {ComesTo = ComesTo} {IsWrong = IsWrong} {misplaced = misplaced} {xs = xs} rest k fault no_line fails =
    subst (λ (n : ℕ). FailsToDeal ComesTo IsWrong misplaced xs rest n fault) same fails
  where
    same : k ≡ 0 + k
    same = omega arith
reach_then_fail {ComesTo = ComesTo} {IsWrong = IsWrong} {misplaced = misplaced} rest k fault
    (line_first {x = x} {xs = xs} {line = line} {lines = lines} comes later) fails =
    subst (λ (n : ℕ). FailsToDeal ComesTo IsWrong misplaced (x ∷ xs) (line ∷ lines ++ rest) n fault) same
    (line_later comes (reach_then_fail rest k fault later fails))
  where
    same : suc (length lines + k) ≡ suc (length lines) + k
    same = omega arith
