-- The terms of an instance are of the signature, and the environment of a state suits its behaviour.
use Rattle.std.proofs.Common.{◌≡◌, ◌++◌, ℕ, zero, suc, List, [], ◌∷◌, map, Bool, true, false, nat_eq, if◌then◌else◌, slice_get, Some, refl, ap, ◌∙◌, arith}
use Rattle.std.proofs.lemmas.Bool.{eqb-true, eq-eqb}
use Rattle.std.proofs.lemmas.Option.{same_Some}
use Rattle.lotos_base.proofs.Numbers.{suc-injective}
use Rattle.lotos_base.specs.Signature.{Signature, IsSort}
use Rattle.behaviour_semantics.specs.Behaviour.{asked_variables, let_variables, numbers_of}
use Rattle.behaviour_semantics.proofs.ListLemmas.{Every-append}
use Rattle.behaviour_semantics.proofs.EveryLemmas.{every_front, every_back}
use Rattle.lotos_base.specs.Substitution.{is_listed}
use Rattle.sort_terms.specs.ProfiledTerm.{ProfiledTerm, IsOf, profiled_variable, head_sort}
use Rattle.sort_terms.specs.SortedView.{profiled_in}
use Rattle.sort_terms.specs.declared.sorted.Sorted.{Sorted}
use Rattle.sort_terms.specs.declared.equations.Variable.{Variable}
use Rattle.term_match.specs.ProfiledInstance.{ProfiledSubstitution, profiled_binding}
use Rattle.term_match.specs.SubstView.{profiled_pairs}
use Rattle.term_match.proofs.InstanceLemmas.{instance_of}
use Rattle.event_offers.proofs.RenamingLemmas.{occurring_sort}
use Rattle.behaviour_tree.specs.BehaviourTerms.{joined, exit_profiles, let_profile, offer_profiles, option_profiles, profiles_in, profiles_of, test_profiles}
use Rattle.behaviour_tree.specs.BehaviourView.{let_of, offer_of, variables_of}
use Rattle.behaviour_tree.specs.Closed.{IsGivenOnce}
use Rattle.behaviour_tree.specs.Over.{AreTermsOf}
use Rattle.behaviour_tree.specs.StateView.{pair_profile}
use Rattle.behaviour_tree.specs.declared.behaviours.Beh.{Beh, Stop, Exit, Action', Inner', Guard', Choice', Parallel', Hide', Enable', Disable', Let', ChooseValue', ChooseGate', ParGate', Call}
use Rattle.behaviour_instances.specs.InstanceTerms.{instance_profiles, let_placed, offer_terms_placed, terms_placed}
use Rattle.behaviour_instances.specs.InstanceLaws.{InstancesAreOfSignatures, StatesSuit}
use Rattle.behaviour_instances.specs.Unlisted.{profiled_without}

-- ---- Terms of a signature

module _ (signature : Signature) where
  -- what is put for each variable is of the signature
  abbrev GivesTerms : ProfiledSubstitution → Type 0
  GivesTerms values = (n s : ℕ) → IsSort signature s → IsOf signature (values n s)

  left_gives : (numbers : List ℕ) (values : ProfiledSubstitution) → GivesTerms values → GivesTerms (profiled_without numbers values)
  left_gives numbers values g n s sort = by (is_listed numbers n)
    where
      by : (b : Bool) → IsOf signature (if b then profiled_variable n s else values n s)
      by true = sort
      by false = g n s sort

  binding_gives : (environment : List (ℕ × Sorted)) → AreTermsOf signature (map pair_profile environment)
      → GivesTerms (profiled_binding (profiled_pairs environment))
  binding_gives [] h n s sort = sort
  binding_gives (pair ∷ environment) h n s sort = by (binding_gives environment h.1 n s sort) (nat_eq pair.0 n)
    where
      by : IsOf signature (profiled_binding (profiled_pairs environment) n s) → (b : Bool)
          → IsOf signature (if b then profiled_in pair.1 else profiled_binding (profiled_pairs environment) n s)
      by rest true = h.0
      by rest false = rest

  placed_of : (values : ProfiledSubstitution) → GivesTerms values → (terms : List ProfiledTerm) → AreTermsOf signature terms
      → AreTermsOf signature (terms_placed values terms)
  placed_of values g [] h = tt
  placed_of values g (t ∷ terms) h =
      (instance_of signature values t h.0 (λ n s o. g n s (occurring_sort signature t h.0 n s o)), placed_of values g terms h.1)

  joined_of : {X : Type 0} (f : X → List ProfiledTerm) (values : ProfiledSubstitution) → GivesTerms values → (items : List X)
      → AreTermsOf signature (joined (map f items)) → AreTermsOf signature (joined (map (λ (x : X). terms_placed values (f x)) items))
  joined_of f values g [] h = tt
  joined_of {X = X} f values g (x ∷ items) h =
      Every-append (IsOf signature) (terms_placed values (f x)) (joined (map (λ (y : X). terms_placed values (f y)) items))
      (placed_of values g (f x) (every_front (IsOf signature) (f x) (joined (map f items)) h))
      (joined_of f values g items (every_back (IsOf signature) (f x) (joined (map f items)) h))

  bindings_of : (values : ProfiledSubstitution) → GivesTerms values → (bindings : List (Variable × Sorted))
      → AreTermsOf signature (map let_profile bindings) → AreTermsOf signature (map (let_placed values) bindings)
  bindings_of values g [] h = tt
  bindings_of values g (b ∷ bindings) h = (
    instance_of signature values (let_profile b) h.0 (λ n s o. g n s (occurring_sort signature (let_profile b) h.0 n s o)),
    bindings_of values g bindings h.1,
  )

  -- terms before others
  both_of : (xs ys made rest : List ProfiledTerm) → (AreTermsOf signature xs → AreTermsOf signature made)
      → (AreTermsOf signature ys → AreTermsOf signature rest) → AreTermsOf signature (xs ++ ys) → AreTermsOf signature (made ++ rest)
  both_of xs ys made rest f g h =
      Every-append (IsOf signature) made rest (f (every_front (IsOf signature) xs ys h)) (g (every_back (IsOf signature) xs ys h))

  instance_terms : (values : ProfiledSubstitution) → GivesTerms values → (b : Beh) → AreTermsOf signature (profiles_in b)
      → AreTermsOf signature (instance_profiles values b)
  instance_terms values g Stop h = tt
  instance_terms values g (Exit results) h = joined_of exit_profiles values g results.items h
  instance_terms values g (Action' _ offers test _ next) h =
      both_of (joined (map offer_profiles offers.items) ++ option_profiles test) (profiles_in next)
      (joined (map (offer_terms_placed values) offers.items)
      ++ terms_placed (profiled_without (numbers_of (asked_variables (map offer_of offers.items))) values) (option_profiles test))
      (instance_profiles (profiled_without (numbers_of (asked_variables (map offer_of offers.items))) values) next)
      (both_of (joined (map offer_profiles offers.items)) (option_profiles test) (joined (map (offer_terms_placed values) offers.items))
      (terms_placed (profiled_without (numbers_of (asked_variables (map offer_of offers.items))) values) (option_profiles test))
      (joined_of offer_profiles values g offers.items)
      (placed_of (profiled_without (numbers_of (asked_variables (map offer_of offers.items))) values)
      (left_gives (numbers_of (asked_variables (map offer_of offers.items))) values g) (option_profiles test)))
      (instance_terms (profiled_without (numbers_of (asked_variables (map offer_of offers.items))) values)
      (left_gives (numbers_of (asked_variables (map offer_of offers.items))) values g) next) h
  instance_terms values g (Inner' _ next) h = instance_terms values g next h
  instance_terms values g (Guard' test _ next) h =
      both_of (test_profiles test) (profiles_in next) (terms_placed values (test_profiles test)) (instance_profiles values next)
      (placed_of values g (test_profiles test)) (instance_terms values g next) h
  instance_terms values g (Choice' _ _ left _ right) h =
      both_of (profiles_in left) (profiles_in right) (instance_profiles values left) (instance_profiles values right)
      (instance_terms values g left) (instance_terms values g right) h
  instance_terms values g (Parallel' _ _ _ left _ right) h =
      both_of (profiles_in left) (profiles_in right) (instance_profiles values left) (instance_profiles values right)
      (instance_terms values g left) (instance_terms values g right) h
  instance_terms values g (Hide' _ _ next) h = instance_terms values g next h
  instance_terms values g (Enable' _ _ left variables _ right) h =
      both_of (profiles_in left) (profiles_in right) (instance_profiles values left)
      (instance_profiles (profiled_without (numbers_of (variables_of variables.items)) values) right)
      (instance_terms values g left)
      (instance_terms (profiled_without (numbers_of (variables_of variables.items)) values)
      (left_gives (numbers_of (variables_of variables.items)) values g) right) h
  instance_terms values g (Disable' _ _ left _ right) h =
      both_of (profiles_in left) (profiles_in right) (instance_profiles values left) (instance_profiles values right)
      (instance_terms values g left) (instance_terms values g right) h
  instance_terms values g (Let' bindings _ next) h =
      both_of (map let_profile bindings.items) (profiles_in next) (map (let_placed values) bindings.items)
      (instance_profiles (profiled_without (numbers_of (let_variables (map let_of bindings.items))) values) next)
      (bindings_of values g bindings.items)
      (instance_terms (profiled_without (numbers_of (let_variables (map let_of bindings.items))) values)
      (left_gives (numbers_of (let_variables (map let_of bindings.items))) values g) next) h
  instance_terms values g (ChooseValue' variable _ next) h =
      instance_terms (profiled_without (variable.number ∷ []) values) (left_gives (variable.number ∷ []) values g) next h
  instance_terms values g (ChooseGate' _ _ _ next) h = instance_terms values g next h
  instance_terms values g (ParGate' _ _ _ _ next) h = instance_terms values g next h
  instance_terms values g (Call _ _ _ arguments) h = placed_of values g (profiles_of arguments.items) h

pub of_signatures : InstancesAreOfSignatures
of_signatures signature environment b h k =
    instance_terms signature (profiled_binding (profiled_pairs environment)) (binding_gives signature environment k) b h

-- ---- Environments of states

nothing : (k : ℕ) → zero ≡ suc k → ⊥
nothing k e = omega arith

-- the first pair with a number counts
found : (environment : List (ℕ × Sorted)) (n s k : ℕ) (value : Sorted) → slice_get environment k ≡ Some (n, value)
    → ((j : ℕ) (other : Sorted) → slice_get environment j ≡ Some (n, other) → j ≡ k)
    → profiled_binding (profiled_pairs environment) n s ≡ profiled_in value
found [] n s k value at once = absurd (cc at)
found (pair ∷ environment) n s zero value at once =
    let is : pair ≡ (n, value) = same_Some pair (n, value) at in
    ap (λ (p : ℕ × Sorted). if nat_eq p.0 n then profiled_in p.1 else profiled_binding (profiled_pairs environment) n s) is
    ∙ ap (λ (b : Bool). if b then profiled_in value else profiled_binding (profiled_pairs environment) n s) (eq-eqb n n refl)
found (pair ∷ environment) n s (suc k) value at once =
    by (found environment n s k value at (λ j other e. suc-injective j k (once (suc j) other e))) (nat_eq pair.0 n) refl
  where
    by : profiled_binding (profiled_pairs environment) n s ≡ profiled_in value → (b : Bool) → nat_eq pair.0 n ≡ b
        → (if b then profiled_in pair.1 else profiled_binding (profiled_pairs environment) n s) ≡ profiled_in value
    by rest true e =
        absurd (nothing k (once zero pair.1 (ap (λ (m : ℕ). let p : ℕ × Sorted = (m, pair.1) in Some p) (eqb-true pair.0 n e))))
    by rest false e = rest

pub given_suits :
    (environment : List (ℕ × Sorted)) (n s : ℕ) → IsGivenOnce environment n s
    → head_sort (profiled_binding (profiled_pairs environment) n s) ≡ s
given_suits environment n s once =
    ap head_sort (found environment n s once.position once.value once.given once.once) ∙ once.sorted

pub states_suit : StatesSuit
states_suit environment b closed n s o = given_suits environment n s (closed.given n s o)
