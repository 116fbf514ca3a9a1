-- Terms that are ready to get those of an environment, and the leaves that offers ask for.
use Rattle.std.proofs.Common.{◌≡◌, ◌≤◌, ℕ, suc, ◌+◌, List, [], ◌∷◌, ◌++◌, map, length, Bool, true, false, nat_eq, if◌then◌else◌, Option, None, Some, option_map, refl, ap, sym, ◌∙◌, arith}
use Rattle.lotos_base.specs.Signature.{Signature}
use Rattle.lotos_base.specs.Term.{variable}
use Rattle.lotos_base.specs.Equation.{Variable}
use Rattle.behaviour_semantics.specs.Behaviour.{asked_variables, let_variables, let_terms}
use Rattle.behaviour_semantics.specs.WellFormed.{Every, sort_in, IsTermIn, AreTermsIn, IsTestOption, IsOffer, IsExitValue}
use Rattle.behaviour_semantics.proofs.OptionLemmas.{some_value}
use Rattle.sort_terms.specs.EquationView.{variable_of}
use Rattle.sort_terms.specs.ProfiledTerm.{ProfiledTerm, bare, head_sort, IsOf}
use Rattle.sort_terms.specs.SortedView.{profiled_in}
use Rattle.sort_terms.specs.declared.equations.Variable as code_variable
use Rattle.sort_terms.specs.declared.sorted.Sorted.{Sorted}
use Rattle.term_match.specs.ProfiledInstance.{profiled_binding, bare_pairs}
use Rattle.behaviour_tree.specs.BehaviourTerms.{joined, profiles_of, offer_profiles, exit_profiles, option_profiles, let_profile}
use Rattle.behaviour_tree.specs.BehaviourView.{offer_of, exit_value_of, test_of, let_of, terms_of}
use Rattle.behaviour_tree.specs.Over.{AreTermsOf}
use Rattle.behaviour_tree.specs.declared.behaviours.Test.{Test}
use Rattle.behaviour_tree.specs.declared.behaviours.Offer.{Offer}
use Rattle.behaviour_tree.specs.declared.behaviours.Offer.TheVariants.{Give, Ask}
use Rattle.behaviour_tree.specs.declared.behaviours.ExitValue.{ExitValue}
use Rattle.behaviour_tree.specs.declared.behaviours.ExitValue.TheVariants as exit_value
use Rattle.behaviour_tree.proofs.StartLemmas.{told_sort}
use Rattle.draft_parts.specs.EnvironmentRaises.{GivesScope}
use Rattle.draft_parts.proofs.GivenLemmas.{with_leaf}
use Rattle.draft_parts.specs.Environments.{ArePairsOf, IsReadyForPairs, SuitsPairs, SuitsTest, AreOffersReady, AreResultsReady}
use Rattle.draft_parts.specs.Offered.{asked_pairs}
use Rattle.draft_parts.specs.OpenDrafts.{HasTests}
use Rattle.menu_builder.specs.Bound.{AreBindingsReady, AreValuesReady}

-- ---- Lists.
module _ {X : Type 0} (P : X → Type 0) where
  pub first_part : (xs ys : List X) → Every P (xs ++ ys) → Every P xs
  first_part [] ys h = tt
  first_part (x ∷ xs) ys h = (h.0, first_part xs ys h.1)

  pub second_part : (xs ys : List X) → Every P (xs ++ ys) → Every P ys
  second_part [] ys h = h
  second_part (x ∷ xs) ys h = second_part xs ys h.1

module _ (signature : Signature) (base limit : ℕ) where
  -- its head tells the sort of the variable
  pub suited : (scope : List Variable) (pairs : List (ℕ × ProfiledTerm)) → GivesScope signature base limit scope (bare_pairs pairs)
      → ArePairsOf signature pairs → (n s : ℕ) → sort_in scope n ≡ Some s → head_sort (profiled_binding pairs n s) ≡ s
  suited [] [] g k n s e = absurd (cc e)
  suited [] (pair ∷ pairs) g k n s e = absurd g
  suited (x ∷ scope) [] g k n s e = absurd g
  suited (x ∷ scope) (pair ∷ pairs) g k n s e =
      by (nat_eq x.number n) refl (λ later. suited scope pairs g.3 k.1 n s later)
    where
      at : (c : Bool) → nat_eq x.number n ≡ c → nat_eq pair.0 n ≡ c
      at c is = ap (λ (m : ℕ). nat_eq m n) g.0 ∙ is

      found : (c : Bool) → nat_eq x.number n ≡ c → (if c then Some x.sort else sort_in scope n) ≡ Some s
      found c is = sym (ap (λ (d : Bool). if d then Some x.sort else sort_in scope n) is) ∙ e

      by : (c : Bool) → nat_eq x.number n ≡ c
          → (sort_in scope n ≡ Some s → head_sort (profiled_binding pairs n s) ≡ s)
          → head_sort (if nat_eq pair.0 n then pair.1 else profiled_binding pairs n s) ≡ s
      by true is rest =
          ap (λ (d : Bool). head_sort (if d then pair.1 else profiled_binding pairs n s)) (at true is)
          ∙ (told_sort signature pair.1 x.sort k.0 g.2.sorted ∙ some_value (found true is))
      by false is rest =
          ap (λ (d : Bool). head_sort (if d then pair.1 else profiled_binding pairs n s)) (at false is) ∙ rest (found false is)

-- ---- What is ready to get them.
module _ (signature : Signature) (base limit : ℕ) (scope : List Variable) (pairs : List (ℕ × ProfiledTerm))
    (g : GivesScope signature base limit scope (bare_pairs pairs)) (values : ArePairsOf signature pairs) where
  pub suits : (s : ℕ) (t : ProfiledTerm) → IsTermIn signature scope s (bare t) → SuitsPairs pairs t
  suits s t h n r o = suited signature base limit scope pairs g values n r (h.bound n r o)

  pub ready : (s : ℕ) (t : ProfiledTerm) → IsTermIn signature scope s (bare t) → IsOf signature t → IsReadyForPairs signature pairs t
  ready s t h k = record { term = k; values = values; sorts = suits s t h }

  pub offers_ready : (offers : List Offer) → Every (IsOffer signature scope) (map offer_of offers)
      → AreTermsOf signature (joined (map offer_profiles offers)) → AreOffersReady signature pairs offers
  offers_ready [] h k = tt
  offers_ready (Give t ∷ offers) h k = (ready h.0.0 (profiled_in t) h.0.1 k.0, offers_ready offers h.1 k.1)
  offers_ready (Ask x ∷ offers) h k = (h.0, offers_ready offers h.1 k)

  pub results_ready : (results : List ExitValue) → Every (IsExitValue signature scope) (map exit_value_of results)
      → AreTermsOf signature (joined (map exit_profiles results)) → AreResultsReady signature pairs results
  results_ready [] h k = tt
  results_ready (exit_value.Give t ∷ results) h k = (ready h.0.0 (profiled_in t) h.0.1 k.0, results_ready results h.1 k.1)
  results_ready (exit_value.Any s ∷ results) h k = (h.0, results_ready results h.1 k)

  pub test_suits : (test : Option Test) → IsTestOption signature scope (option_map test_of test) → SuitsTest pairs test
  test_suits None h = tt
  test_suits (Some test) h = (suits h.sort (profiled_in test.left) h.left, suits h.sort (profiled_in test.right) h.right)

  pub bindings_ready : (bindings : List (code_variable.Variable × Sorted))
      → AreTermsIn signature scope (let_variables (map let_of bindings)) (let_terms (map let_of bindings))
      → AreTermsOf signature (map let_profile bindings) → AreBindingsReady signature pairs bindings
  bindings_ready [] h k = tt
  bindings_ready (b ∷ bindings) h k = (ready (variable_of b.0).sort (profiled_in b.1) h.0 k.0, bindings_ready bindings h.1 k.1)

  pub values_ready : (parameters : List Variable) (terms : List Sorted) → AreTermsIn signature scope parameters (terms_of terms)
      → AreTermsOf signature (profiles_of terms) → AreValuesReady signature pairs terms
  values_ready [] [] h k = tt
  values_ready [] (t ∷ terms) h k = absurd h
  values_ready (x ∷ parameters) [] h k = absurd h
  values_ready (x ∷ parameters) (t ∷ terms) h k = (ready x.sort (profiled_in t) h.0 k.0, values_ready parameters terms h.1 k.1)

-- ---- The leaves that offers ask for.
pub has_tests : (signature : Signature) (test : Option Test) → AreTermsOf signature (option_profiles test) → HasTests signature test
has_tests signature None h = tt
has_tests signature (Some test) h = (h.0, h.1.0)

module _ (signature : Signature) (inside : List Variable) where
  pub asked_of : (pairs : List (ℕ × ProfiledTerm)) → ArePairsOf signature pairs → (k : ℕ) (offers : List Offer)
      → Every (IsOffer signature inside) (map offer_of offers) → ArePairsOf signature (asked_pairs k offers ++ pairs)
  asked_of pairs values k [] h = values
  asked_of pairs values k (Give t ∷ offers) h = asked_of pairs values k offers h.1
  asked_of pairs values k (Ask x ∷ offers) h = (h.0, asked_of pairs values (suc k) offers h.1)

  pub asked_given : (base limit : ℕ) (scope : List Variable) (pairs : List (ℕ × ProfiledTerm))
      → GivesScope signature base limit scope (bare_pairs pairs) → (k : ℕ) (offers : List Offer)
      → Every (IsOffer signature inside) (map offer_of offers) → base ≤ k
      → k + length (asked_variables (map offer_of offers)) ≤ limit
      → GivesScope signature base limit (asked_variables (map offer_of offers) ++ scope) (bare_pairs (asked_pairs k offers ++ pairs))
  asked_given base limit scope pairs g k [] h le lt = g
  asked_given base limit scope pairs g k (Give t ∷ offers) h le lt = asked_given base limit scope pairs g k offers h.1 le lt
  asked_given base limit scope pairs g k (Ask x ∷ offers) h le lt =
      with_leaf signature base limit (asked_variables (map offer_of offers) ++ scope) (bare_pairs (asked_pairs (suc k) offers ++ pairs))
      (variable_of x) k le (omega arith) h.0
      (asked_given base limit scope pairs g (suc k) offers h.1 (omega arith) (omega arith))
