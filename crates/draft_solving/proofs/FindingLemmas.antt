-- What conditions of a list give, as the code looks for it.
use Rattle.std.proofs.Common.{◌≡◌, ◌<◌, ◌≤◌, ◌⊎◌, inl, inr, ◌+◌, ℕ, zero, suc, List, [], ◌∷◌, length, get_or, true, false, Option, None, Some, slice_get, ap, sym, ◌∙◌, subst, arith, Bor}
use Rattle.std.specs.Prelude.{is_some}
use Rattle.std.specs.Option.{option_map}
use Rattle.std.proofs.lemmas.Bool.{cases_order}
use Rattle.std.proofs.lemmas.List.{length-map}
use Rattle.std.proofs.lemmas.Option.{slice_get_within}
use Rattle.lotos_base.specs.Signature.{Signature}
use Rattle.lotos_base.specs.Term.{Term}
use Rattle.behaviour_semantics.specs.Behaviour.{Test}
use Rattle.behaviour_semantics.specs.Solving.{replacement_of}
use Rattle.sort_terms.specs.ProfiledTerm.{bare}
use Rattle.sort_terms.specs.SortedView.{profiled_in, term_in}
use Rattle.sort_terms.specs.declared.sorted.Sorted.{Sorted}
use Rattle.event_offers.specs.OfferView.{condition_of, condition_profiles, condition_sides, conditions_of}
use Rattle.event_offers.specs.Offers.{AreConditionsOf, IsConditionOf}
use Rattle.draft_solving.specs.Changing.{found_of}
use Rattle.draft_solving.specs.Conditions.{GiveNoneBefore}
use Rattle.draft_solving.specs.Finding.{found_term, given_in}
use Rattle.draft_solving.proofs.PlaceLemmas.{condition_at}

-- ---- Whether something is given.
some_gives : (given : Option (ℕ × Bor Sorted)) (told : Option (ℕ × Term)) → true ≡ is_some given → option_map found_term given ≡ told
    → told ≡ None → ⊥
some_gives None told is same none = cc
some_gives (Some found) told is same none = cc

none_gives : (given : Option (ℕ × Bor Sorted)) (told : Option (ℕ × Term)) → false ≡ is_some given → option_map found_term given ≡ told
    → told ≡ None
none_gives None told is same = sym same
none_gives (Some found) told is same = absurd (cc is)

-- ---- The condition at a place.
module _ (pairs : List (Sorted × Sorted)) (place : ℕ) (pair : Sorted × Sorted) (given : Option (ℕ × Bor Sorted))
    (within : place < length pairs) (is : pair ≡ get_or pairs place pair)
    (same : option_map found_term given ≡ replacement_of (term_in pair.0) (term_in pair.1)) where
  one_test : (test : Test) → slice_get (conditions_of pairs) place ≡ Some test → condition_of pair ≡ test
  one_test test at = let here = condition_at pairs place pair within is in cc

  pub gives_at : true ≡ is_some given → (test : Test) → slice_get (conditions_of pairs) place ≡ Some test
      → replacement_of test.left test.right ≡ None → ⊥
  gives_at some test at none =
      some_gives given (replacement_of (term_in pair.0) (term_in pair.1)) some same
      (subst (λ (u : Test). replacement_of u.left u.right ≡ None) (sym (one_test test at)) none)

  pub given_none_next : false ≡ is_some given → GiveNoneBefore place (conditions_of pairs)
      → GiveNoneBefore (place + 1) (conditions_of pairs)
  given_none_next none before k test below at = by (cases_order k place)
    where
      by : (k ≡ place) ⊎ ((k < place) ⊎ (place < k)) → replacement_of test.left test.right ≡ None
      by (inl e) =
          let here : slice_get (conditions_of pairs) place ≡ Some test =
          ap (λ (i : ℕ). slice_get (conditions_of pairs) i) (sym e) ∙ at in
          subst (λ (u : Test). replacement_of u.left u.right ≡ None) (one_test test here)
          (none_gives given (replacement_of (term_in pair.0) (term_in pair.1)) none same)
      by (inr (inl less)) = before k test less at
      by (inr (inr more)) = absurd (omega arith)

  given_here : given_in (slice_get (conditions_of pairs) place) ≡ option_map found_term given
  given_here = ap given_in (condition_at pairs place pair within is) ∙ sym same

  pub some_given : (number : ℕ) (other : Bor Sorted) (t : Sorted) → given ≡ Some (number, other) → profiled_in t ≡ profiled_in other.now
      → Some (found_of (number, t)) ≡ given_in (slice_get (conditions_of pairs) place)
  some_given number other t some copied =
      sym (given_here ∙ ap (option_map found_term) some ∙ sym (λ j. Some (number, bare (copied j))))

  pub none_given : given ≡ None → None ≡ given_in (slice_get (conditions_of pairs) place)
  none_given none = sym (given_here ∙ ap (option_map found_term) none)

-- no condition is past the end
pub none_past : (pairs : List (Sorted × Sorted)) (place : ℕ) (test : Test) → length pairs ≤ place
    → slice_get (conditions_of pairs) place ≡ Some test → ⊥
none_past pairs place test past at =
    let within : place < length (conditions_of pairs) = slice_get_within (conditions_of pairs) place test at in
    omega (arith, length-map pairs condition_of)

-- the sides of the condition at a place are of the signature
pub sides_of_at : (signature : Signature) (pairs : List (Sorted × Sorted)) (i : ℕ) (pair : Sorted × Sorted) → i < length pairs
    → pair ≡ get_or pairs i pair → AreConditionsOf signature (condition_profiles pairs) → IsConditionOf signature (condition_sides pair)
sides_of_at signature [] i pair within is h = absurd (omega arith)
sides_of_at signature (x ∷ pairs) zero pair within is h =
    subst (λ (y : Sorted × Sorted). IsConditionOf signature (condition_sides y)) (sym is) h.0
sides_of_at signature (x ∷ pairs) (suc i) pair within is h = sides_of_at signature pairs i pair (omega arith) is h.1
