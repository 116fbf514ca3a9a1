-- Terms whose numbers are changed as they are taken: those without variables stay, and so do all where no number changes.
use Rattle.std.proofs.Common.{◌≡◌, ℕ, List, [], ◌∷◌, map, refl, ap, sym, ◌∙◌}
use Rattle.lotos_base.specs.Sorting.{IsGround, AreGround}
use Rattle.lotos_base.specs.Substitution.{Substitution, substituted}
use Rattle.lotos_base.specs.Term.{Term, variable}
use Rattle.lotos_base.proofs.SubstitutionLemmas.{substituted_variables}
use Rattle.behaviour_semantics.specs.Behaviour.{Test}
use Rattle.behaviour_semantics.specs.Replacement.{test_with}
use Rattle.sort_terms.specs.ProfiledTerm.{ProfiledTerm, ProfiledTerms, profiled_variable, profiled_node, no_profiled_terms, profiled_term_then, bare, all_bare}
use Rattle.term_match.specs.ProfiledInstance.{ProfiledSubstitution, profiled_instance, profiled_instances}
use Rattle.event_offers.specs.Renaming.{number_renamed, pair_instance, profiled_renaming_of, renaming_of}
use Rattle.event_offers.specs.OfferView.{condition_of, condition_sides}
use Rattle.event_offers.specs.declared.renaming.Renaming.{Renaming}
use Rattle.sort_terms.specs.SortedView.{profiled_in, term_in}
use Rattle.sort_terms.specs.declared.sorted.Sorted.{Sorted}
use Rattle.event_offers.proofs.RenamingLemmas.{renamed_bare}

mutual
  -- a ground term is its own instance
  pub instance_of_ground : (values : ProfiledSubstitution) (t : ProfiledTerm) → IsGround (bare t) → profiled_instance values t ≡ t
  instance_of_ground values (profiled_variable n s) h = absurd h
  instance_of_ground values (profiled_node f operation ts) h = ap (λ us. profiled_node f operation us) (instances_of_ground values ts h)

  pub instances_of_ground : (values : ProfiledSubstitution) (ts : ProfiledTerms) → AreGround (all_bare ts)
      → profiled_instances values ts ≡ ts
  instances_of_ground values no_profiled_terms h = refl
  instances_of_ground values (profiled_term_then t ts) h =
      λ i. profiled_term_then (instance_of_ground values t h.0 i) (instances_of_ground values ts h.1 i)

pub ground_stays : (r : Renaming) (t : ProfiledTerm) → IsGround (bare t) → t ≡ profiled_instance (profiled_renaming_of r) t
ground_stays r t h = sym (instance_of_ground (profiled_renaming_of r) t h)

pub ground_stays_bare : (r : Renaming) (t : ProfiledTerm) → IsGround (bare t) → bare t ≡ substituted (renaming_of r) (bare t)
ground_stays_bare r t h = ap bare (ground_stays r t h) ∙ renamed_bare r t

-- ---- No number changes.
mutual
  same_instance : (values : ProfiledSubstitution) → ((n s : ℕ) → values n s ≡ profiled_variable n s) → (t : ProfiledTerm)
      → profiled_instance values t ≡ t
  same_instance values e (profiled_variable n s) = e n s
  same_instance values e (profiled_node f operation ts) = ap (λ us. profiled_node f operation us) (same_instances values e ts)

  same_instances : (values : ProfiledSubstitution) → ((n s : ℕ) → values n s ≡ profiled_variable n s) → (ts : ProfiledTerms)
      → profiled_instances values ts ≡ ts
  same_instances values e no_profiled_terms = refl
  same_instances values e (profiled_term_then t ts) = λ i. profiled_term_then (same_instance values e t i) (same_instances values e ts i)

same_map : {X : Type 0} (g : X → X) → ((x : X) → g x ≡ x) → (xs : List X) → xs ≡ map g xs
same_map g e [] = refl
same_map g e (x ∷ xs) = λ i. sym (e x) i ∷ same_map g e xs i

module _ (r : Renaming) (e : (n : ℕ) → number_renamed r n ≡ n) where
  profiled_stays : (t : ProfiledTerm) → profiled_instance (profiled_renaming_of r) t ≡ t
  profiled_stays t = same_instance (profiled_renaming_of r) (λ n s. ap (λ m. profiled_variable m s) (e n)) t

  term_stays : (t : Term) → substituted (renaming_of r) t ≡ t
  term_stays t =
      let same : renaming_of r ≡ variable = λ i n s. variable (e n i) s in
      ap (λ (values : Substitution). substituted values t) same ∙ substituted_variables t

  test_stays : (test : Test) → test_with (renaming_of r) test ≡ test
  test_stays test = λ i. record { left = term_stays test.left i; right = term_stays test.right i }

  pair_stays : (pair : ProfiledTerm × ProfiledTerm) → pair_instance (profiled_renaming_of r) pair ≡ pair
  pair_stays pair = λ i. (profiled_stays pair.0 i, profiled_stays pair.1 i)

pub terms_stay : (r : Renaming) → ((n : ℕ) → number_renamed r n ≡ n) → (ts : List Term) → ts ≡ map (substituted (renaming_of r)) ts
terms_stay r e ts = same_map (substituted (renaming_of r)) (term_stays r e) ts

pub profiles_stay : (r : Renaming) → ((n : ℕ) → number_renamed r n ≡ n) → (ts : List ProfiledTerm)
    → ts ≡ map (profiled_instance (profiled_renaming_of r)) ts
profiles_stay r e ts = same_map (profiled_instance (profiled_renaming_of r)) (profiled_stays r e) ts

pub tests_stay : (r : Renaming) → ((n : ℕ) → number_renamed r n ≡ n) → (tests : List Test) → tests ≡ map (test_with (renaming_of r)) tests
tests_stay r e tests = same_map (test_with (renaming_of r)) (test_stays r e) tests

pub pairs_stay : (r : Renaming) → ((n : ℕ) → number_renamed r n ≡ n) → (pairs : List (ProfiledTerm × ProfiledTerm))
    → pairs ≡ map (pair_instance (profiled_renaming_of r)) pairs
pairs_stay r e pairs = same_map (pair_instance (profiled_renaming_of r)) (pair_stays r e) pairs

-- The numbers of the second term's variables are those of the first, changed, and so with the sides of conditions.
pub record IsRenamed (r : Renaming) (old now : Sorted) : Type 0 where
  pub same : term_in now ≡ substituted (renaming_of r) (term_in old)
  pub profiles : profiled_in now ≡ profiled_instance (profiled_renaming_of r) (profiled_in old)

pub record AreSidesRenamed (r : Renaming) (old now : Sorted × Sorted) : Type 0 where
  pub same : condition_of now ≡ test_with (renaming_of r) (condition_of old)
  pub profiles : condition_sides now ≡ pair_instance (profiled_renaming_of r) (condition_sides old)
