-- Labels of two sides: sorts of values, and what their equations are.
use Rattle.std.proofs.Common.{◌≡◌, ◌≤◌, ◌++◌, ℕ, List, [], ◌∷◌, length, drop, Bool, true, false, ◌&&◌, nat_eq, refl, ap, sym, ◌∙◌, arith}
use Rattle.std.specs.Prelude.{zip}
use Rattle.std.proofs.lemmas.List.{append-nil, drop_all}
use Rattle.behaviour_semantics.specs.Behaviour.{Test}
use Rattle.behaviour_semantics.specs.Rule.{pairwise}
use Rattle.lotos_base.specs.Term.{Term}
use Rattle.sort_terms.specs.ProfiledTerm.{ProfiledTerm, head_sort}
use Rattle.sort_terms.specs.SortedView.{profiled_in}
use Rattle.sort_terms.specs.declared.sorted.Sorted.{Sorted}
use Rattle.behaviour_tree.specs.BehaviourTerms.{profiles_of}
use Rattle.behaviour_tree.specs.BehaviourView.{terms_of}
use Rattle.event_offers.specs.Joining.{have_like_sorts}

pub unlike_lengths : (xs ys : List Sorted) → (length xs ≡ length ys → ⊥) → have_like_sorts (profiles_of xs) (profiles_of ys) ≡ false
unlike_lengths [] [] apart = absurd (apart refl)
unlike_lengths [] (y ∷ ys) apart = refl
unlike_lengths (x ∷ xs) [] apart = refl
unlike_lengths (x ∷ xs) (y ∷ ys) apart = by (nat_eq (head_sort (profiled_in x)) (head_sort (profiled_in y)))
    (unlike_lengths xs ys (λ e. apart (omega (arith, e))))
  where
    by : (b : Bool) → have_like_sorts (profiles_of xs) (profiles_of ys) ≡ false → (b && have_like_sorts (profiles_of xs) (profiles_of ys))
        ≡ false
    by true rest = rest
    by false rest = refl

pub pairwise_nothing : (ts : List Term) → pairwise ts [] ≡ []
pairwise_nothing [] = refl
pairwise_nothing (t ∷ ts) = refl

abbrev no_pairs : List (ProfiledTerm × ProfiledTerm)
no_pairs = []

zip_nothing : (ts : List ProfiledTerm) → zip ts [] ≡ no_pairs
zip_nothing [] = refl
zip_nothing (t ∷ ts) = refl

-- where the second list is at its end, nothing is left to pair
pub nothing_paired : (xs ys : List Sorted) (i : ℕ) (made all : List Test) → length ys ≤ i
    → made ++ pairwise (terms_of (drop i xs)) (terms_of (drop i ys)) ≡ all → made ≡ all
nothing_paired xs ys i made all le e =
    sym (append-nil made) ∙ ap (λ (rest : List Test). made ++ rest) (sym (pairwise_nothing (terms_of (drop i xs))))
    ∙ ap (λ (zs : List Sorted). made ++ pairwise (terms_of (drop i xs)) (terms_of zs)) (sym (drop_all i ys le)) ∙ e

pub nothing_zipped : (xs ys : List Sorted) (i : ℕ) (made all : List (ProfiledTerm × ProfiledTerm)) → length ys ≤ i
    → made ++ zip (profiles_of (drop i xs)) (profiles_of (drop i ys)) ≡ all → made ≡ all
nothing_zipped xs ys i made all le e =
    sym (append-nil made) ∙ ap (λ (rest : List (ProfiledTerm × ProfiledTerm)). made ++ rest) (sym (zip_nothing (profiles_of (drop i xs))))
    ∙ ap (λ (zs : List Sorted). made ++ zip (profiles_of (drop i xs)) (profiles_of zs)) (sym (drop_all i ys le)) ∙ e
