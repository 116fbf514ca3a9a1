-- The steps of a trial: what is found with one value after the other, and lists that are too long already.
use Rattle.std.proofs.Common.{◌≡◌, ℕ, zero, suc, ◌+◌, ◌-◌, ◌<◌, List, [], ◌∷◌, ◌++◌, length, get_or, map, drop, Bool, true, false, refl, ap, sym, ◌∙◌, subst, arith}
use Rattle.std.specs.Prelude.{if◌then◌else◌}
use Rattle.std.specs.List.{flat_map}
use Rattle.std.proofs.lemmas.List.{append_assoc, drop_more, length-append, length-drop}
use Rattle.sort_terms.specs.ProfiledTerm.{ProfiledTerm}
use Rattle.value_lists.specs.Search.{Trial, suits, found_behind, found_with, found_by}

-- what is found with each of these values as the next argument
abbrev pub found_among : Trial → List ProfiledTerm → List ℕ → ℕ → List ProfiledTerm → List ProfiledTerm
found_among trial chosen [] left us = []
found_among trial chosen (sort ∷ sorts) left us = flat_map (found_with trial chosen sort sorts left) us

pub found_among_more : (trial : Trial) (chosen : List ProfiledTerm) (sorts : List ℕ) (left : ℕ) (u : ProfiledTerm)
    (us : List ProfiledTerm)
    → found_among trial chosen sorts left (u ∷ us) ≡ found_by trial chosen sorts left u ++ found_among trial chosen sorts left us
found_among_more trial chosen [] left u us = refl
found_among_more trial chosen (sort ∷ sorts) left u us = refl

-- with all values it is what is found behind the chosen arguments
pub found_among_all : (trial : Trial) (chosen : List ProfiledTerm) (sorts : List ℕ) (left : ℕ) → 0 < length sorts
    → found_among trial chosen sorts left trial.smaller ≡ found_behind trial chosen sorts left
found_among_all trial chosen [] left some = absurd (omega (arith, some))
found_among_all trial chosen (sort ∷ sorts) left some = refl

-- a list that is too long stays too long with more behind it
pub longer : {X : Type 0} (xs ys : List X) (room : ℕ) → room < length xs → room < length (xs ++ ys)
longer xs ys room h = let e = length-append xs ys in omega (arith, e, h)

-- ---- the steps of the loop over the values

pub trial_step : (trial : Trial) (chosen : List ProfiledTerm) (sorts : List ℕ) (left : ℕ) (us found more whole : List ProfiledTerm)
    (i : ℕ) (u : ProfiledTerm) → i < length us → u ≡ get_or us i u → more ≡ found ++ found_by trial chosen sorts left u
    → found ++ found_among trial chosen sorts left (drop i us) ≡ whole
    → more ++ found_among trial chosen sorts left (drop (i + 1) us) ≡ whole
trial_step trial chosen sorts left us found more whole i u within is added so_far =
    ap (λ (xs : List ProfiledTerm). xs ++ found_among trial chosen sorts left (drop (i + 1) us)) added
    ∙ append_assoc found (found_by trial chosen sorts left u) (found_among trial chosen sorts left (drop (i + 1) us))
    ∙ ap (λ (xs : List ProfiledTerm). found ++ xs) (sym (found_among_more trial chosen sorts left u (drop (i + 1) us)))
    ∙ ap (λ (xs : List ProfiledTerm). found ++ found_among trial chosen sorts left xs)
    (ap (λ (v : ProfiledTerm). v ∷ drop (i + 1) us) is ∙ sym (drop_more us i u within))
    ∙ so_far

pub trial_full : (trial : Trial) (chosen : List ProfiledTerm) (sorts : List ℕ) (left : ℕ) (us found whole : List ProfiledTerm)
    (i room : ℕ) (u : ProfiledTerm) → i < length us → u ≡ get_or us i u
    → room < length (found ++ found_by trial chosen sorts left u)
    → found ++ found_among trial chosen sorts left (drop i us) ≡ whole → room < length whole
trial_full trial chosen sorts left us found whole i room u within is full so_far =
    subst (λ (xs : List ProfiledTerm). room < length xs)
    (trial_step trial chosen sorts left us found (found ++ found_by trial chosen sorts left u) whole i u within is refl so_far)
    (longer (found ++ found_by trial chosen sorts left u) (found_among trial chosen sorts left (drop (i + 1) us)) room full)
