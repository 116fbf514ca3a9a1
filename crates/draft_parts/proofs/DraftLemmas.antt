-- The drafts of actions and of `exit` put together of what their parts stand for.
use Rattle.std.proofs.Common.{◌≡◌, ◌++◌, ℕ, suc, List, [], ◌∷◌, map, Option, option_map, refl, ap, sym, ◌∙◌, subst}
use Rattle.lotos_base.specs.Signature.{Signature}
use Rattle.lotos_base.specs.Term.{Term}
use Rattle.lotos_base.specs.Substitution.{binding}
use Rattle.behaviour_semantics.specs.Behaviour as plain
use Rattle.behaviour_semantics.specs.Label.{gate_event, exit_event}
use Rattle.behaviour_semantics.specs.Rule.{tests_of}
use Rattle.behaviour_semantics.specs.Shape.{act, quit}
use Rattle.sort_terms.specs.ProfiledTerm.{ProfiledTerm, bare}
use Rattle.sort_terms.specs.SortedView.{term_in}
use Rattle.sort_terms.specs.declared.sorted.Sorted.{Sorted}
use Rattle.term_match.specs.ProfiledInstance.{bare_pairs}
use Rattle.term_match.specs.SubstView.{profiled_pairs}
use Rattle.behaviour_tree.specs.BehaviourTerms.{profiles_of}
use Rattle.behaviour_tree.specs.BehaviourView.{terms_of, test_of}
use Rattle.behaviour_tree.specs.Over.{AreTermsOf}
use Rattle.behaviour_tree.specs.StateView.{environment_of, pair_profile}
use Rattle.behaviour_tree.specs.declared.behaviours.Test.{Test}
use Rattle.behaviour_tree.specs.declared.behaviours.Offer.{Offer}
use Rattle.behaviour_tree.specs.declared.behaviours.ExitValue.{ExitValue}
use Rattle.behaviour_tree.specs.declared.behaviours.ExitValue.TheVariants as exit_value
use Rattle.event_offers.specs.OfferView.{conditions_of}
use Rattle.event_offers.proofs.ValueLemmas.{pairs_bare}
use Rattle.draft_parts.specs.Environments.{ArePairsOf, AreResultsReady}
use Rattle.draft_parts.specs.Offered.{asked_pairs, offered_at, open_leaves, results_at}
use Rattle.draft_parts.specs.OpenDrafts.{pair_terms, acted, ended_with}

-- the terms without their profiles
pub terms_bare : (terms : List Sorted) → terms_of terms ≡ map bare (profiles_of terms)
terms_bare [] = refl
terms_bare (t ∷ terms) = ap (λ (ts : List Term). term_in t ∷ ts) (terms_bare terms)

-- the terms of pairs
pairs_told : (pairs : List (ℕ × Sorted)) → map bare (map pair_profile pairs) ≡ pair_terms (profiled_pairs pairs)
pairs_told [] = refl
pairs_told (pair ∷ pairs) = ap (λ (ts : List Term). term_in pair.1 ∷ ts) (pairs_told pairs)

pairs_of : (signature : Signature) (pairs : List (ℕ × Sorted)) → ArePairsOf signature (profiled_pairs pairs)
    → AreTermsOf signature (map pair_profile pairs)
pairs_of signature [] h = tt
pairs_of signature (pair ∷ pairs) h = (h.0, pairs_of signature pairs h.1)

first_pairs : (signature : Signature) (first second : List (ℕ × ProfiledTerm)) → ArePairsOf signature (first ++ second)
    → ArePairsOf signature first
first_pairs signature [] second h = tt
first_pairs signature (pair ∷ first) second h = (h.0, first_pairs signature first second h.1)

module _ (leaves : List Sorted) (bound : List (ℕ × Sorted)) (first : List (ℕ × ProfiledTerm))
    (are : profiles_of leaves ≡ map pair_profile bound) (is : profiled_pairs bound ≡ first) where
  pub leaves_are : terms_of leaves ≡ pair_terms first
  leaves_are = terms_bare leaves ∙ (ap (map bare) are ∙ (pairs_told bound ∙ ap pair_terms is))

  pub leaves_of : (signature : Signature) (pairs : List (ℕ × ProfiledTerm)) → ArePairsOf signature (first ++ pairs)
      → AreTermsOf signature (profiles_of leaves)
  leaves_of signature pairs h =
      subst (AreTermsOf signature) (sym are)
      (pairs_of signature bound (subst (ArePairsOf signature) (sym is) (first_pairs signature first pairs h)))

-- the environment behind an action
module _ (inner bound environment : List (ℕ × Sorted))
    (is : profiled_pairs inner ≡ profiled_pairs bound ++ profiled_pairs environment) where
  pub inner_bare : environment_of inner ≡ bare_pairs (profiled_pairs bound ++ profiled_pairs environment)
  inner_bare = sym (pairs_bare inner) ∙ ap bare_pairs is

-- ---- An action.
pub acted_is : (canon : Term → Term) (gate first : ℕ) (offers : List Offer) (test : Option Test) (environment : List (ℕ × Sorted))
    (pairs : List (ℕ × Term)) (values leaves : List Term) (conditions : List plain.Test)
    → values ≡ offered_at canon (binding (environment_of environment)) first offers → leaves ≡ pair_terms (asked_pairs first offers)
    → conditions ≡ tests_of (binding pairs) (option_map test_of test)
    → pairs ≡ bare_pairs (asked_pairs first offers ++ profiled_pairs environment)
    → record { shape = act; label = gate_event gate values; leaves = leaves; conditions = conditions }
    ≡ acted canon gate offers test (profiled_pairs environment) first
acted_is canon gate first offers test environment pairs values leaves conditions of_values of_leaves of_conditions same =
    let told : values ≡ offered_at canon (binding (bare_pairs (profiled_pairs environment))) first offers =
    of_values ∙ ap (λ (ps : List (ℕ × Term)). offered_at canon (binding ps) first offers) (sym (pairs_bare environment)) in
    let asked : conditions
    ≡ tests_of (binding (bare_pairs (asked_pairs first offers ++ profiled_pairs environment))) (option_map test_of test) =
    of_conditions ∙ ap (λ (ps : List (ℕ × Term)). tests_of (binding ps) (option_map test_of test)) same in
    λ i. record { shape = act; label = gate_event gate (told i); leaves = of_leaves i; conditions = asked i }

-- ---- `exit`.
pub ended_is : (canon : Term → Term) (first : ℕ) (results : List ExitValue) (environment : List (ℕ × Sorted)) (values : List Term)
    (leaves : List Sorted) (conditions : List (Sorted × Sorted)) → conditions ≡ []
    → values ≡ results_at canon (binding (environment_of environment)) first results
    → profiles_of leaves ≡ open_leaves first results
    → record { shape = quit; label = exit_event values; leaves = terms_of leaves; conditions = conditions_of conditions }
    ≡ ended_with canon results (profiled_pairs environment) first
ended_is canon first results environment values leaves conditions none of_values of_leaves =
    let told : values ≡ results_at canon (binding (bare_pairs (profiled_pairs environment))) first results =
    of_values ∙ ap (λ (ps : List (ℕ × Term)). results_at canon (binding ps) first results) (sym (pairs_bare environment)) in
    let open_ : terms_of leaves ≡ map bare (open_leaves first results) = terms_bare leaves ∙ ap (map bare) of_leaves in
    λ i. record { shape = quit; label = exit_event (told i); leaves = open_ i; conditions = conditions_of (none i) }

pub open_of : (signature : Signature) (pairs : List (ℕ × ProfiledTerm)) (first : ℕ) (results : List ExitValue)
    → AreResultsReady signature pairs results → AreTermsOf signature (open_leaves first results)
open_of signature pairs first [] h = tt
open_of signature pairs first (exit_value.Give t ∷ results) h = open_of signature pairs first results h.1
open_of signature pairs first (exit_value.Any s ∷ results) h = (h.0, open_of signature pairs (suc first) results h.1)
