-- The right side of `>>` with the values that the left side ended with.
use Rattle.std.proofs.Common.{◌≡◌, ℕ, List, [], ◌∷◌, ◌++◌, map, length, nat_eq, Bool, true, false, if◌then◌else◌, Some, refl, ap, sym, ◌∙◌, eqb-true, eq-eqb, subst}
use Rattle.std.specs.Prelude.{zip}
use Rattle.std.specs.Cmp.{first_so, second_so}
use Rattle.std.proofs.Math.Path.{fun_ext}
use Rattle.std.proofs.lemmas.List.{append-nil}
use Rattle.std.proofs.lemmas.Option.{none-some}
use Rattle.lotos_base.specs.Signature.{Signature}
use Rattle.lotos_base.specs.Term.{Term, variable}
use Rattle.lotos_base.specs.Sorting.{IsGround, IsGroundOf, head_sort_of}
use Rattle.lotos_base.specs.Equation.{Variable}
use Rattle.lotos_base.specs.Substitution.{Substitution, binding, is_listed, without}
use Rattle.lotos_base.proofs.SortLemmas.{sort_of_sorted}
use Rattle.behaviour_semantics.specs.Behaviour.{Behaviour, Specification, numbers_of, sorts_of}
use Rattle.behaviour_semantics.specs.ClosingLaws.{AreGroundPairs}
use Rattle.behaviour_semantics.specs.Replacement.{binding_of, with_values}
use Rattle.behaviour_semantics.specs.Rule.{AreValues, have_sorts, is_same_known_sort}
use Rattle.behaviour_semantics.specs.WellFormed.{Every, sort_in}
use Rattle.behaviour_semantics.proofs.ClosedTargets.{IsValue}
use Rattle.behaviour_semantics.proofs.EnvironmentLemmas.{environments_in_turn}
use Rattle.behaviour_semantics.proofs.ListLemmas.{Every-append}
use Rattle.sort_terms.specs.ProfiledTerm.{ProfiledTerm, IsOf}
use Rattle.sort_terms.specs.SortedView.{term_in}
use Rattle.sort_terms.specs.declared.equations.Variable.{Variable as Bound}
use Rattle.sort_terms.specs.declared.sorted.Sorted.{Sorted}
use Rattle.behaviour_tree.specs.BehaviourTerms.{profiles_of}
use Rattle.behaviour_tree.specs.BehaviourView.{terms_of, variables_of}
use Rattle.behaviour_tree.specs.Closed.{AreGroundValues, IsClosedBy, IsFree, IsGivenOnce}
use Rattle.behaviour_tree.specs.Over.{AreTermsOf}
use Rattle.behaviour_tree.specs.StateView.{environment_of, number_of, environment_pair_of, pair_profile}
use Rattle.behaviour_tree.proofs.FreeLemmas.{free_in_scope}
use Rattle.behaviour_tree.proofs.StartLemmas.{environment_zip}
use Rattle.step_parts.specs.TargetNodes.{IsAccepting, unbound}
use Rattle.step_parts.proofs.BinderLemmas.{IsAbsent, absent_append, absent_unlisted, bound_given, bound_ground, given_behind, given_here, given_later, head_given, rest_absent, rest_given}
use Rattle.step_parts.proofs.FreedLemmas.{stays_free}

-- ---- The pairs of other variables
-- what they put
pub unbound_puts : (numbers : List ℕ) (pairs : List (ℕ × Sorted)) (n s : ℕ)
    → binding (environment_of (unbound numbers pairs)) n s ≡ without numbers (binding (environment_of pairs)) n s
unbound_puts numbers [] n s = by (is_listed numbers n)
  where
    by : (b : Bool) → variable n s ≡ (if b then variable n s else variable n s)
    by true = refl
    by false = refl
unbound_puts numbers (pair ∷ pairs) n s =
    step (is_listed numbers pair.0) refl (nat_eq pair.0 n) refl (unbound_puts numbers pairs n s)
  where
    listed_here : (b : Bool) → is_listed numbers pair.0 ≡ b → nat_eq pair.0 n ≡ true → is_listed numbers n ≡ b
    listed_here b l e = subst (λ (m : ℕ). is_listed numbers m ≡ b) (eqb-true pair.0 n e) l

    step : (listed : Bool) → is_listed numbers pair.0 ≡ listed → (same : Bool) → nat_eq pair.0 n ≡ same
        → binding (environment_of (unbound numbers pairs)) n s ≡ without numbers (binding (environment_of pairs)) n s
        → binding (environment_of (if listed then unbound numbers pairs else pair ∷ unbound numbers pairs)) n s
        ≡ (if is_listed numbers n then variable n s else (if same then term_in pair.1 else binding (environment_of pairs) n s))
    step true l true e rest =
        rest ∙ (ap (λ (b : Bool). if b then variable n s else binding (environment_of pairs) n s) (listed_here true l e)
        ∙ sym (ap (λ (b : Bool). if b then variable n s else term_in pair.1) (listed_here true l e)))
    step true l false e rest = rest
    step false l true e rest =
        ap (λ (b : Bool). if b then term_in pair.1 else binding (environment_of (unbound numbers pairs)) n s) e
        ∙ sym (ap (λ (b : Bool). if b then variable n s else term_in pair.1) (listed_here false l e))
    step false l false e rest =
        ap (λ (b : Bool). if b then term_in pair.1 else binding (environment_of (unbound numbers pairs)) n s) e ∙ rest

unbound_binding : (numbers : List ℕ) (pairs : List (ℕ × Sorted))
    → binding (environment_of (unbound numbers pairs)) ≡ without numbers (binding (environment_of pairs))
unbound_binding numbers pairs = fun_ext (λ n. fun_ext (λ s. unbound_puts numbers pairs n s))

-- what holds of each pair holds of each of them
unbound_every : (P : ℕ × Sorted → Type 0) (numbers : List ℕ) (pairs : List (ℕ × Sorted)) → Every P pairs → Every P (unbound numbers pairs)
unbound_every P numbers [] h = tt
unbound_every P numbers (pair ∷ pairs) h = by (is_listed numbers pair.0) (unbound_every P numbers pairs h.1)
  where
    by : (b : Bool) → Every P (unbound numbers pairs) → Every P (if b then unbound numbers pairs else pair ∷ unbound numbers pairs)
    by true rest = rest
    by false rest = (h.0, rest)

-- terms of a list, by the members
every_mapped : (signature : Signature) (pairs : List (ℕ × Sorted)) → Every (λ (pair : ℕ × Sorted). IsOf signature (pair_profile pair)) pairs
    → AreTermsOf signature (map pair_profile pairs)
every_mapped signature [] h = tt
every_mapped signature (pair ∷ pairs) h = (h.0, every_mapped signature pairs h.1)

every_pair : (signature : Signature) (pairs : List (ℕ × Sorted)) → AreTermsOf signature (map pair_profile pairs)
    → Every (λ (pair : ℕ × Sorted). IsOf signature (pair_profile pair)) pairs
every_pair signature [] h = tt
every_pair signature (pair ∷ pairs) h = (h.0, every_pair signature pairs h.1)

pub unbound_terms : (signature : Signature) (numbers : List ℕ) (pairs : List (ℕ × Sorted)) → AreTermsOf signature (map pair_profile pairs)
    → AreTermsOf signature (map pair_profile (unbound numbers pairs))
unbound_terms signature numbers pairs h =
    every_mapped signature (unbound numbers pairs)
    (unbound_every (λ (pair : ℕ × Sorted). IsOf signature (pair_profile pair)) numbers pairs (every_pair signature pairs h))

-- a variable that is bound has no pair
unbound_absent : (numbers : List ℕ) (pairs : List (ℕ × Sorted)) (n : ℕ) → is_listed numbers n ≡ true → IsAbsent n (unbound numbers pairs)
unbound_absent numbers [] n listed = tt
unbound_absent numbers (pair ∷ pairs) n listed = by (is_listed numbers pair.0) refl (unbound_absent numbers pairs n listed)
  where
    by : (b : Bool) → is_listed numbers pair.0 ≡ b → IsAbsent n (unbound numbers pairs)
        → IsAbsent n (if b then unbound numbers pairs else pair ∷ unbound numbers pairs)
    by true l rest = rest
    by false l rest = (
      (λ e. let both : true ≡ false = sym (subst (λ (m : ℕ). is_listed numbers m ≡ true) (sym e) listed) ∙ l in cc both),
      rest,
    )

unbound_keeps_absent : (numbers : List ℕ) (pairs : List (ℕ × Sorted)) (n : ℕ) → IsAbsent n pairs → IsAbsent n (unbound numbers pairs)
unbound_keeps_absent numbers [] n h = tt
unbound_keeps_absent numbers (pair ∷ pairs) n h = by (is_listed numbers pair.0) (unbound_keeps_absent numbers pairs n h.1)
  where
    by : (b : Bool) → IsAbsent n (unbound numbers pairs)
        → IsAbsent n (if b then unbound numbers pairs else pair ∷ unbound numbers pairs)
    by true rest = rest
    by false rest = (h.0, rest)

-- a variable that is not bound keeps its one pair
kept_given : (numbers : List ℕ) (pairs bound : List (ℕ × Sorted)) (n s : ℕ) → is_listed numbers n ≡ false → IsAbsent n bound
    → IsGivenOnce pairs n s → IsGivenOnce (unbound numbers pairs ++ bound) n s
kept_given numbers [] bound n s left absent given = absurd (none-some (n, given.value) given.given)
kept_given numbers (pair ∷ pairs) bound n s left absent given =
    by (is_listed numbers pair.0) refl (nat_eq pair.0 n) refl
    (λ other. kept_given numbers pairs bound n s left absent (rest_given n s pair pairs given other))
  where
    by : (listed : Bool) → is_listed numbers pair.0 ≡ listed → (same : Bool) → nat_eq pair.0 n ≡ same
        → ((pair.0 ≡ n → ⊥) → IsGivenOnce (unbound numbers pairs ++ bound) n s)
        → IsGivenOnce ((if listed then unbound numbers pairs else pair ∷ unbound numbers pairs) ++ bound) n s
    by true l same e rest =
        rest (λ is. let both : true ≡ false = sym l ∙ (ap (is_listed numbers) is ∙ left) in cc both)
    by false l true e rest =
        let is : pair.0 ≡ n = eqb-true pair.0 n e in
        given_here n s pair (unbound numbers pairs ++ bound) is (head_given n s pair pairs given is)
        (absent_append n (unbound numbers pairs) bound (unbound_keeps_absent numbers pairs n (rest_absent n s pair pairs given is)) absent)
    by false l false e rest =
        let other : pair.0 ≡ n → ⊥ = λ is. (let both : true ≡ false = sym (eq-eqb pair.0 n is) ∙ e in cc both) in
        given_later n s pair (unbound numbers pairs ++ bound) other (rest other)

-- ---- Values of the sorts of variables
same_sort : (signature : Signature) (t : Term) (s r : ℕ) → IsGroundOf signature r t
    → is_same_known_sort (head_sort_of signature t) (Some s) ≡ true
    → r ≡ s
same_sort signature t s r h e =
    eqb-true r s (subst (λ (o : _). is_same_known_sort o (Some s) ≡ true) (sort_of_sorted signature t r h.sorted) e)

pub sorted_values : (signature : Signature) (values : List Term) (variables : List Variable) → Every (IsValue signature) values
    → have_sorts signature values (sorts_of variables) ≡ true → AreValues signature (sorts_of variables) values
sorted_values signature [] [] h e = tt
sorted_values signature (v ∷ values) (x ∷ variables) h e = (
  subst (λ (s : ℕ). IsGroundOf signature s v)
      (same_sort signature v x.sort h.0.0 h.0.1 (first_so (is_same_known_sort (head_sort_of signature v) (Some x.sort)) _ e)) h.0.1,
  sorted_values signature values variables h.1 (second_so (is_same_known_sort (head_sort_of signature v) (Some x.sort)) _ e),
)
sorted_values signature [] (x ∷ variables) h e = absurd (cc e)
sorted_values signature (v ∷ values) [] h e = absurd (cc e)

-- ---- The whole environment
module _ (bound : List Bound) (environment : List (ℕ × Sorted)) (values : List Sorted) where
  abbrev numbers : List ℕ
  numbers = numbers_of (variables_of bound)

  -- the pairs that are left and those of the values
  abbrev pub accepted_pairs : List (ℕ × Sorted)
  accepted_pairs = unbound numbers environment ++ zip (map number_of bound) values

  map_joined : {X : Type 0} (f : ℕ × Sorted → X) (first second : List (ℕ × Sorted)) → map f (first ++ second) ≡ map f first ++ map f second
  map_joined f [] second = refl
  map_joined {X = X} f (pair ∷ first) second = ap (λ (xs : List X). f pair ∷ xs) (map_joined f first second)

  -- made of copies
  module _ (left made : List (ℕ × Sorted)) (same : environment_of left ≡ environment_of (unbound numbers environment))
      (terms : map pair_profile left ≡ map pair_profile (unbound numbers environment))
      (is : made ≡ left ++ zip (map number_of bound) values) where
    pub made_same : environment_of made ≡ environment_of accepted_pairs
    made_same =
        ap environment_of is ∙ (map_joined environment_pair_of left (zip (map number_of bound) values)
        ∙ (ap (λ (xs : List (ℕ × Term)). xs ++ environment_of (zip (map number_of bound) values)) same
        ∙ sym (map_joined environment_pair_of (unbound numbers environment) (zip (map number_of bound) values))))

    pub made_terms : map pair_profile made ≡ map pair_profile accepted_pairs
    made_terms =
        ap (map pair_profile) is ∙ (map_joined pair_profile left (zip (map number_of bound) values)
        ∙ (ap (λ (xs : List ProfiledTerm). xs ++ map pair_profile (zip (map number_of bound) values)) terms
        ∙ sym (map_joined pair_profile (unbound numbers environment) (zip (map number_of bound) values))))

  -- what they put
  ground_pairs : (pairs : List (ℕ × Sorted)) → AreGroundValues pairs → AreGroundPairs (environment_of pairs)
  ground_pairs [] h = tt
  ground_pairs (pair ∷ pairs) h = (h.0, ground_pairs pairs h.1)

  pub accepted_puts : (b : Behaviour) → AreGroundValues environment
      → with_values (binding (environment_of accepted_pairs)) b
      ≡ with_values (binding_of (variables_of bound) (terms_of values))
      (with_values (without numbers (binding (environment_of environment))) b)
  accepted_puts b ground =
      ap (λ (xs : List (ℕ × Term)). with_values (binding xs) b)
      (map_joined environment_pair_of (unbound numbers environment) (zip (map number_of bound) values)
      ∙ ap (λ (xs : List (ℕ × Term)). environment_of (unbound numbers environment) ++ xs) (environment_zip bound values))
      ∙ (sym (environments_in_turn (environment_of (unbound numbers environment)) (zip numbers (terms_of values)) b
      (ground_pairs (unbound numbers environment)
      (unbound_every (λ (pair : ℕ × Sorted). IsGround (term_in pair.1)) numbers environment ground)))
      ∙ ap (λ (v : Substitution). with_values (binding (zip numbers (terms_of values))) (with_values v b))
      (unbound_binding numbers environment))

  -- the terms are of the signature
  zip_terms : (signature : Signature) (bs : List Bound) (vs : List Sorted) → AreTermsOf signature (profiles_of vs)
      → AreTermsOf signature (map pair_profile (zip (map number_of bs) vs))
  zip_terms signature [] vs h = tt
  zip_terms signature (b ∷ bs) [] h = tt
  zip_terms signature (b ∷ bs) (v ∷ vs) h = (h.0, zip_terms signature bs vs h.1)

  pub accepted_terms : (signature : Signature) → AreTermsOf signature (map pair_profile environment)
      → AreTermsOf signature (profiles_of values) → AreTermsOf signature (map pair_profile accepted_pairs)
  accepted_terms signature h k =
      subst (λ (ts : List ProfiledTerm). AreTermsOf signature ts)
      (sym (map_joined pair_profile (unbound numbers environment) (zip (map number_of bound) values)))
      (Every-append (IsOf signature) (map pair_profile (unbound numbers environment)) (map pair_profile (zip (map number_of bound) values))
      (unbound_terms signature numbers environment h) (zip_terms signature bound values k))

  -- they close the behaviour
  module _ (signature : Signature) (specification : Specification) (right : Behaviour)
      (accepting : IsAccepting signature specification (variables_of bound) environment values right) where
    bound_pair : (n s : ℕ) → is_listed numbers n ≡ true → IsFree n s right → IsGivenOnce (zip (map number_of bound) values) n s
    bound_pair n s listed free =
        bound_given signature n s (variables_of bound) (terms_of values) (zip (map number_of bound) values) (environment_zip bound values)
        (zip_terms signature bound values accepting.terms) accepting.fitting accepting.distinct
        (subst (λ (scope : List Variable). sort_in scope n ≡ Some s) (append-nil (variables_of bound))
        (free_in_scope signature n s (length specification.gate_names) specification.processes (variables_of bound ++ [])
        (with_values (without numbers (binding (environment_of environment))) right) accepting.well_formed
        (stays_free n s (without numbers (binding (environment_of environment))) right
        (ap (λ (b : Bool). if b then variable n s else binding (environment_of environment) n s) listed) free)))

    one_pair : (n s : ℕ) (b : Bool) → is_listed numbers n ≡ b → IsFree n s right → IsGivenOnce accepted_pairs n s
    one_pair n s true listed free =
        given_behind n s (unbound numbers environment) (zip (map number_of bound) values) (unbound_absent numbers environment n listed)
        (bound_pair n s listed free)
    one_pair n s false left free =
        kept_given numbers environment (zip (map number_of bound) values) n s left
        (absent_unlisted n (variables_of bound) (terms_of values) (zip (map number_of bound) values) (environment_zip bound values) left)
        (accepting.closed.given n s left free)

    pub accepted_closed : IsClosedBy accepted_pairs right
    accepted_closed = record {
      given = λ n s free. one_pair n s (is_listed numbers n) refl free;
      grounded = Every-append (λ (pair : ℕ × Sorted). IsGround (term_in pair.1)) (unbound numbers environment)
          (zip (map number_of bound) values)
          (unbound_every (λ (pair : ℕ × Sorted). IsGround (term_in pair.1)) numbers environment accepting.closed.grounded)
          (bound_ground signature (variables_of bound) (terms_of values) (zip (map number_of bound) values) (environment_zip bound values)
          accepting.fitting);
    }
