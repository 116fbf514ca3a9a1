-- What a placed behaviour asks of the functions that make its drafts, and the process that a call names.
use Rattle.std.proofs.Common.{◌≡◌, ◌<◌, ◌≤◌, ℕ, ◌+◌, List, ◌++◌, map, length, get_or, slice_get, Option, Some, option_map, ap, sym, ◌∙◌, subst, arith}
use Rattle.std.proofs.lemmas.List.{length-map}
use Rattle.std.proofs.lemmas.Option.{slice_get-map, slice_get-get_or, slice_get_within}
use Rattle.behaviour_semantics.specs.Behaviour as plain
use Rattle.behaviour_semantics.specs.Behaviour.{Behaviour, exit_with, action, guard, let_be, call, asked_variables}
use Rattle.behaviour_semantics.proofs.OptionLemmas.{some_value}
use Rattle.sort_terms.specs.EquationView.{variable_of}
use Rattle.sort_terms.specs.ProfiledTerm.{ProfiledTerm, IsOf}
use Rattle.sort_terms.specs.SortedView.{profiled_in, term_in}
use Rattle.sort_terms.specs.declared.equations.Variable as code_variable
use Rattle.sort_terms.specs.declared.sorted.Sorted.{Sorted}
use Rattle.term_match.specs.ProfiledInstance.{bare_pairs}
use Rattle.behaviour_tree.specs.BehaviourTerms.{joined, profiles_in, profiles_of, offer_profiles, exit_profiles, option_profiles, test_profiles, let_profile}
use Rattle.behaviour_tree.specs.BehaviourView.{behaviour_of, offer_of, exit_value_of, test_of, let_of, terms_of}
use Rattle.behaviour_tree.specs.DefinitionView.{process_of}
use Rattle.behaviour_tree.specs.declared.behaviours.Beh.{Beh}
use Rattle.behaviour_tree.specs.declared.behaviours.Test.{Test}
use Rattle.behaviour_tree.specs.declared.behaviours.Offer.{Offer}
use Rattle.behaviour_tree.specs.declared.behaviours.ExitValue.{ExitValue}
use Rattle.behaviour_tree.specs.declared.definitions.Process.{Process}
use Rattle.draft_parts.specs.HandedOn.{Draft}
use Rattle.draft_parts.specs.Environments.{ArePairsOf, IsReadyForPairs, SuitsTest, AreOffersReady, AreResultsReady}
use Rattle.draft_parts.specs.Offered.{asked_pairs}
use Rattle.draft_parts.specs.OpenDrafts.{HasTests}
use Rattle.draft_parts.proofs.GivenLemmas.{same_count, widened}
use Rattle.menu_builder.specs.Bound.{AreBindingsReady, AreValuesReady}
use Rattle.menu_builder.specs.Placed.{Basis, StandsAt, IsPlaced, AreDraftsPlaced}
use Rattle.menu_builder.proofs.ReadyLemmas.{first_part, second_part, ready, offers_ready, results_ready, test_suits, bindings_ready, values_ready, has_tests, asked_of, asked_given}

module _ (basis : Basis) (first : ℕ) (pairs : List (ℕ × ProfiledTerm)) where
  abbrev pub Placed : Behaviour → List ProfiledTerm → Type 0
  Placed b terms = IsPlaced basis first b terms pairs

  -- a part in the same scope is placed with its whole
  pub part_placed : (b c : Behaviour) (terms others : List ProfiledTerm) (p : Placed b terms) → StandsAt basis p.at c others pairs
      → Placed c others
  part_placed b c terms others p h = record { at = p.at; numbered = p.numbered; stands = h }

  pub values_of : (b : Behaviour) (terms : List ProfiledTerm) → Placed b terms → ArePairsOf basis.data_.signature pairs
  values_of b terms p = p.stands.values

  pub exit_ready : (results : List ExitValue) → Placed (exit_with (map exit_value_of results)) (joined (map exit_profiles results))
      → AreResultsReady basis.data_.signature pairs results
  exit_ready results p =
      results_ready basis.data_.signature p.at.base (p.at.base + p.at.next) p.at.scope pairs p.stands.below.gives p.stands.values results
      p.stands.below.formed p.stands.profiles

  module _ (g : ℕ) (offers : List Offer) (test : Option Test) (b : Behaviour) (terms : List ProfiledTerm)
      (p : Placed (action g (map offer_of offers) (option_map test_of test) b)
      (joined (map offer_profiles offers) ++ option_profiles test ++ terms)) where
    pub action_offers : AreOffersReady basis.data_.signature pairs offers
    action_offers =
        offers_ready basis.data_.signature p.at.base (p.at.base + p.at.next) p.at.scope pairs p.stands.below.gives p.stands.values offers
        p.stands.below.formed.1
        (first_part (IsOf basis.data_.signature) (joined (map offer_profiles offers)) (option_profiles test)
        (first_part (IsOf basis.data_.signature) (joined (map offer_profiles offers) ++ option_profiles test) terms p.stands.profiles))

    pub action_pairs : ArePairsOf basis.data_.signature (asked_pairs first offers ++ pairs)
    action_pairs = asked_of basis.data_.signature p.at.scope pairs p.stands.values first offers p.stands.below.formed.1

    pub action_test : SuitsTest (asked_pairs first offers ++ pairs) test
    action_test =
        let start : p.at.base ≤ first = (let same : first ≡ p.at.base + p.at.next = p.numbered in omega arith) in
        let wide : p.at.base + p.at.next ≤ first + length (asked_variables (map offer_of offers)) =
        (let same : first ≡ p.at.base + p.at.next = p.numbered in omega arith) in
        test_suits basis.data_.signature p.at.base (first + length (asked_variables (map offer_of offers)))
        (asked_variables (map offer_of offers) ++ p.at.scope) (asked_pairs first offers ++ pairs)
        (asked_given basis.data_.signature p.at.scope p.at.base (first + length (asked_variables (map offer_of offers))) p.at.scope pairs
        (widened basis.data_.signature p.at.base (p.at.base + p.at.next) (first + length (asked_variables (map offer_of offers))) wide
        p.at.scope (bare_pairs pairs) p.stands.below.gives)
        first offers p.stands.below.formed.1 start (omega arith))
        action_pairs test p.stands.below.formed.3

    pub action_has_tests : HasTests basis.data_.signature test
    action_has_tests =
        has_tests basis.data_.signature test
        (second_part (IsOf basis.data_.signature) (joined (map offer_profiles offers)) (option_profiles test)
        (first_part (IsOf basis.data_.signature) (joined (map offer_profiles offers) ++ option_profiles test) terms p.stands.profiles))

  pub guard_left : (test : Test) (b : Behaviour) (terms : List ProfiledTerm)
      → Placed (guard (test_of test) b) (test_profiles test ++ terms) → IsReadyForPairs basis.data_.signature pairs (profiled_in test.left)
  guard_left test b terms p =
      ready basis.data_.signature p.at.base (p.at.base + p.at.next) p.at.scope pairs p.stands.below.gives p.stands.values
      p.stands.below.formed.0.sort (profiled_in test.left) p.stands.below.formed.0.left p.stands.profiles.0

  pub guard_right : (test : Test) (b : Behaviour) (terms : List ProfiledTerm)
      → Placed (guard (test_of test) b) (test_profiles test ++ terms) → IsReadyForPairs basis.data_.signature pairs (profiled_in test.right)
  guard_right test b terms p =
      ready basis.data_.signature p.at.base (p.at.base + p.at.next) p.at.scope pairs p.stands.below.gives p.stands.values
      p.stands.below.formed.0.sort (profiled_in test.right) p.stands.below.formed.0.right p.stands.profiles.1.0

  pub let_ready : (bindings : List (code_variable.Variable × Sorted)) (b : Behaviour) (terms : List ProfiledTerm)
      → Placed (let_be (map let_of bindings) b) (map let_profile bindings ++ terms)
      → AreBindingsReady basis.data_.signature pairs bindings
  let_ready bindings b terms p =
      bindings_ready basis.data_.signature p.at.base (p.at.base + p.at.next) p.at.scope pairs p.stands.below.gives p.stands.values bindings
      p.stands.below.formed.1 (first_part (IsOf basis.data_.signature) (map let_profile bindings) terms p.stands.profiles)

  pub call_ready : (number : ℕ) (gates : List ℕ) (terms : List Sorted) → Placed (call number gates (terms_of terms)) (profiles_of terms)
      → AreValuesReady basis.data_.signature pairs terms
  call_ready number gates terms p =
      values_ready basis.data_.signature p.at.base (p.at.base + p.at.next) p.at.scope pairs p.stands.below.gives p.stands.values
      p.stands.below.formed.1.process.parameters terms p.stands.below.formed.1.values p.stands.profiles

  -- ---- The process of a call.
  module _ (processes : List Process) (same : basis.specification.processes ≡ map process_of processes) (number : ℕ) (gates : List ℕ)
      (terms : List Sorted) (p : Placed (call number gates (terms_of terms)) (profiles_of terms)) where
    pub call_within : number < length processes
    call_within =
        subst (λ (n : ℕ). number < n) (length-map processes process_of)
        (slice_get_within (map process_of processes) number p.stands.below.formed.1.process
        (ap (λ (ps : List plain.Process). slice_get ps number) (sym same) ∙ p.stands.below.formed.1.exists))

    pub call_found : (called : Process) → called ≡ get_or processes number called
        → slice_get basis.specification.processes number ≡ Some (process_of called)
    call_found called is =
        ap (λ (ps : List plain.Process). slice_get ps number) same
        ∙ (slice_get-map process_of processes number
        ∙ ap (λ (o : Option Process). option_map process_of o)
        (slice_get-get_or processes number called call_within ∙ ap (λ (q : Process). Some q) (sym is)))

    pub call_count : (called : Process) → called ≡ get_or processes number called → length terms ≡ length called.parameters.items
    call_count called is =
        let process : p.stands.below.formed.1.process ≡ process_of called =
        some_value (sym p.stands.below.formed.1.exists ∙ call_found called is) in
        sym (length-map terms term_in)
        ∙ (same_count basis.data_.signature p.at.scope p.stands.below.formed.1.process.parameters (terms_of terms)
        p.stands.below.formed.1.values
        ∙ (ap (λ (q : plain.Process). length q.parameters) process ∙ length-map called.parameters.items variable_of))

-- ---- A behaviour of the code, and the form that it has.
module _ (basis : Basis) (first : ℕ) (pairs : List (ℕ × ProfiledTerm)) (b form : Beh) (is : b ≡ form) where
  pub placed_form : IsPlaced basis first (behaviour_of b) (profiles_in b) pairs
      → IsPlaced basis first (behaviour_of form) (profiles_in form) pairs
  placed_form p = subst (λ (x : Beh). IsPlaced basis first (behaviour_of x) (profiles_in x) pairs) is p

  pub listed_form : (made : List Draft) → AreDraftsPlaced basis first (behaviour_of form) (profiles_in form) pairs made
      → AreDraftsPlaced basis first (behaviour_of b) (profiles_in b) pairs made
  listed_form made h = subst (λ (x : Beh). AreDraftsPlaced basis first (behaviour_of x) (profiles_in x) pairs made) (sym is) h
