-- An environment without pairs leaves behaviours as they are.
use Rattle.std.proofs.Common.{◌≡◌, ◌++◌, ℕ, List, [], ◌∷◌, map, Bool, true, false, if◌then◌else◌, refl, ap, sym, ◌∙◌}
use Rattle.std.proofs.Math.Path.{fun_ext}
use Rattle.lotos_base.specs.Term.{variable}
use Rattle.lotos_base.specs.Substitution.{Substitution, binding, is_listed}
use Rattle.behaviour_semantics.specs.Behaviour.{asked_variables, let_variables, numbers_of}
use Rattle.behaviour_semantics.specs.Replacement.{with_values}
use Rattle.behaviour_semantics.proofs.ReplacementLemmas.{unchanged}
use Rattle.sort_terms.specs.ProfiledTerm.{ProfiledTerm, ProfiledTerms, profiled_variable, profiled_node, no_profiled_terms, profiled_term_then}
use Rattle.sort_terms.specs.declared.sorted.Sorted.{Sorted}
use Rattle.sort_terms.specs.declared.equations.Variable.{Variable}
use Rattle.term_match.specs.ProfiledInstance.{ProfiledSubstitution, profiled_binding, profiled_instance, profiled_instances}
use Rattle.term_match.specs.SubstView.{profiled_pairs}
use Rattle.behaviour_tree.specs.BehaviourTerms.{joined, exit_profiles, let_profile, offer_profiles, option_profiles, profiles_in, profiles_of, test_profiles}
use Rattle.behaviour_tree.specs.BehaviourView.{behaviour_of, let_of, offer_of, variables_of}
use Rattle.behaviour_tree.specs.StateView.{environment_of}
use Rattle.behaviour_tree.specs.declared.behaviours.Beh.{Beh, Stop, Exit, Action', Inner', Guard', Choice', Parallel', Hide', Enable', Disable', Let', ChooseValue', ChooseGate', ParGate', Call}
use Rattle.behaviour_instances.specs.InstanceTerms.{instance_profiles, let_placed, terms_placed}
use Rattle.behaviour_instances.specs.Instances.{IsInstance}
use Rattle.behaviour_instances.specs.Unlisted.{profiled_without}
use Rattle.behaviour_instances.proofs.FormLemmas.{same_three, same_two}

pub nothing_put : binding [] ≡ variable
nothing_put = fun_ext (λ n. fun_ext (λ s. refl))

nothing_placed : profiled_binding [] ≡ profiled_variable
nothing_placed = fun_ext (λ n. fun_ext (λ s. refl))

-- nothing is put below a binder either
either_stays : (n s : ℕ) (b : Bool) → (if b then profiled_variable n s else profiled_variable n s) ≡ profiled_variable n s
either_stays n s true = refl
either_stays n s false = refl

none_without : (numbers : List ℕ) → profiled_without numbers profiled_variable ≡ profiled_variable
none_without numbers = fun_ext (λ n. fun_ext (λ s. either_stays n s (is_listed numbers n)))

-- ---- Terms

mutual
  term_stays : (t : ProfiledTerm) → profiled_instance profiled_variable t ≡ t
  term_stays (profiled_variable n s) = refl
  term_stays (profiled_node f operation ts) = ap (profiled_node f operation) (terms_stay ts)

  terms_stay : (ts : ProfiledTerms) → profiled_instances profiled_variable ts ≡ ts
  terms_stay no_profiled_terms = refl
  terms_stay (profiled_term_then t ts) = same_two profiled_term_then _ _ _ _ (term_stays t) (terms_stay ts)

list_stays : (ts : List ProfiledTerm) → terms_placed profiled_variable ts ≡ ts
list_stays [] = refl
list_stays (t ∷ ts) = same_two (λ (u : ProfiledTerm) (us : List ProfiledTerm). u ∷ us) _ _ _ _ (term_stays t) (list_stays ts)

joined_stay : {X : Type 0} (f : X → List ProfiledTerm) (items : List X)
    → joined (map (λ (x : X). terms_placed profiled_variable (f x)) items) ≡ joined (map f items)
joined_stay f [] = refl
joined_stay {X = X} f (x ∷ items) =
    same_two (λ (us vs : List ProfiledTerm). us ++ vs) _ _ _ _ (list_stays (f x)) (joined_stay f items)

bindings_stay : (bindings : List (Variable × Sorted)) → map (let_placed profiled_variable) bindings ≡ map let_profile bindings
bindings_stay [] = refl
bindings_stay (b ∷ bindings) =
    same_two (λ (u : ProfiledTerm) (us : List ProfiledTerm). u ∷ us) _ _ _ _ (term_stays (let_profile b)) (bindings_stay bindings)

-- ---- Behaviours

below_stays : (numbers : List ℕ) (b : Beh) → instance_profiles profiled_variable b ≡ profiles_in b
    → instance_profiles (profiled_without numbers profiled_variable) b ≡ profiles_in b
below_stays numbers b e = ap (λ (v : ProfiledSubstitution). instance_profiles v b) (none_without numbers) ∙ e

behaviour_stays : (b : Beh) → instance_profiles profiled_variable b ≡ profiles_in b
behaviour_stays Stop = refl
behaviour_stays (Exit results) = joined_stay exit_profiles results.items
behaviour_stays (Action' _ offers test _ next) =
    same_three (λ (us vs ws : List ProfiledTerm). us ++ vs ++ ws) _ _ _ _ _ _ (joined_stay offer_profiles offers.items)
    (ap (λ (v : ProfiledSubstitution). terms_placed v (option_profiles test))
    (none_without (numbers_of (asked_variables (map offer_of offers.items)))) ∙ list_stays (option_profiles test))
    (below_stays (numbers_of (asked_variables (map offer_of offers.items))) next (behaviour_stays next))
behaviour_stays (Inner' _ next) = behaviour_stays next
behaviour_stays (Guard' test _ next) =
    same_two (λ (us vs : List ProfiledTerm). us ++ vs) _ _ _ _ (list_stays (test_profiles test)) (behaviour_stays next)
behaviour_stays (Choice' _ _ left _ right) =
    same_two (λ (us vs : List ProfiledTerm). us ++ vs) _ _ _ _ (behaviour_stays left) (behaviour_stays right)
behaviour_stays (Parallel' _ _ _ left _ right) =
    same_two (λ (us vs : List ProfiledTerm). us ++ vs) _ _ _ _ (behaviour_stays left) (behaviour_stays right)
behaviour_stays (Hide' _ _ next) = behaviour_stays next
behaviour_stays (Enable' _ _ left variables _ right) =
    same_two (λ (us vs : List ProfiledTerm). us ++ vs) _ _ _ _ (behaviour_stays left)
    (below_stays (numbers_of (variables_of variables.items)) right (behaviour_stays right))
behaviour_stays (Disable' _ _ left _ right) =
    same_two (λ (us vs : List ProfiledTerm). us ++ vs) _ _ _ _ (behaviour_stays left) (behaviour_stays right)
behaviour_stays (Let' bindings _ next) =
    same_two (λ (us vs : List ProfiledTerm). us ++ vs) _ _ _ _ (bindings_stay bindings.items)
    (below_stays (numbers_of (let_variables (map let_of bindings.items))) next (behaviour_stays next))
behaviour_stays (ChooseValue' bound _ next) = below_stays (bound.number ∷ []) next (behaviour_stays next)
behaviour_stays (ChooseGate' _ _ _ next) = behaviour_stays next
behaviour_stays (ParGate' _ _ _ _ next) = behaviour_stays next
behaviour_stays (Call _ _ _ arguments) = list_stays (profiles_of arguments.items)

-- A behaviour is its own instance by an environment without pairs.
pub instance_by_nothing : (environment : List (ℕ × Sorted)) (part made : Beh) → environment ≡ [] → made ≡ part
    → IsInstance environment part made
instance_by_nothing environment part made none is = record {
  same =
      ap behaviour_of is
      ∙ sym (ap (λ (e : List (ℕ × Sorted)). with_values (binding (environment_of e)) (behaviour_of part)) none
      ∙ (ap (λ (v : Substitution). with_values v (behaviour_of part)) nothing_put ∙ unchanged (behaviour_of part)));
  terms =
      ap profiles_in is
      ∙ sym (ap (λ (e : List (ℕ × Sorted)). instance_profiles (profiled_binding (profiled_pairs e)) part) none
      ∙ (ap (λ (v : ProfiledSubstitution). instance_profiles v part) nothing_placed ∙ behaviour_stays part));
}
