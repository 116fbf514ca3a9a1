-- The environment of a specification's parameters.
use Rattle.std.proofs.Common.{◌≡◌, ℕ, zero, suc, List, [], ◌∷◌, map, slice_get, nat_eq, Bool, true, false, if◌then◌else◌, Some, refl, ap, sym, ◌∙◌, eqb-true, length, subst}
use Rattle.std.specs.Prelude.{zip}
use Rattle.std.proofs.lemmas.Option.{same_Some, none-some}
use Rattle.lotos_base.specs.Signature.{Signature, Operation}
use Rattle.lotos_base.specs.Term.{Term}
use Rattle.lotos_base.specs.Sorting.{HasSort}
use Rattle.behaviour_semantics.specs.Behaviour.{Behaviour, numbers_of, sorts_of}
use Rattle.behaviour_semantics.specs.Rule.{AreValues}
use Rattle.behaviour_semantics.specs.WellFormed.{AreDistinct, sort_in}
use Rattle.sort_terms.specs.ProfiledTerm.{ProfiledTerm, profiled_variable, profiled_node, bare, head_sort, IsOf}
use Rattle.sort_terms.specs.SortedView.{profiled_in, term_in}
use Rattle.sort_terms.specs.declared.equations.Variable.{Variable}
use Rattle.sort_terms.specs.declared.sorted.Sorted.{Sorted}
use Rattle.behaviour_tree.specs.BehaviourTerms.{profiles_of}
use Rattle.behaviour_tree.specs.BehaviourView.{behaviour_of, terms_of, variables_of}
use Rattle.behaviour_tree.specs.Closed.{AreGroundValues, IsClosedBy, IsGivenOnce}
use Rattle.behaviour_tree.specs.DefinitionView.{specification_of}
use Rattle.behaviour_tree.specs.Over.{AreTermsOf, IsStart}
use Rattle.behaviour_tree.specs.StateView.{environment_of, number_of, pair_profile}
use Rattle.behaviour_tree.specs.declared.definitions.Spec.{Spec}
use Rattle.behaviour_tree.proofs.FreeLemmas.{free_in_scope}

-- The environment as the semantics sees it.
pub environment_zip : (variables : List Variable) (values : List Sorted)
    → environment_of (zip (map number_of variables) values) ≡ zip (numbers_of (variables_of variables)) (terms_of values)
environment_zip [] values = refl
environment_zip (x ∷ variables) [] = refl
environment_zip (x ∷ variables) (v ∷ values) =
    ap (λ (rest : List (ℕ × Term)). (x.number, term_in v) ∷ rest) (environment_zip variables values)

-- The head of a ground value of a sort tells this sort.
pub told_sort : (signature : Signature) (t : ProfiledTerm) (s : ℕ) → IsOf signature t → HasSort signature (bare t) s → head_sort t ≡ s
told_sort signature (profiled_variable n r) s of h = h.0
told_sort signature (profiled_node f operation ts) s of h =
    ap (λ (o : Operation). o.result) (same_Some operation h.0 (sym of.0 ∙ h.1)) ∙ h.2

-- The first number of a pair at a position is the number at that position.
number_there : (numbers : List ℕ) (values : List Sorted) (k n : ℕ) (v : Sorted) → slice_get (zip numbers values) k ≡ Some (n, v)
    → slice_get numbers k ≡ Some n
number_there [] values k n v at = absurd (none-some (n, v) at)
number_there (m ∷ numbers) [] k n v at = absurd (none-some (n, v) at)
number_there (m ∷ numbers) (w ∷ values) zero n v at = ap (λ (pair : ℕ × Sorted). Some pair.0) (same_Some (m, w) (n, v) at)
number_there (m ∷ numbers) (w ∷ values) (suc k) n v at = number_there numbers values k n v at

-- A variable in scope has its value.
record HasValue (environment : List (ℕ × Sorted)) (n s : ℕ) : Type 0 where
  pub position : ℕ
  pub value : Sorted
  pub given : slice_get environment position ≡ Some (n, value)
  pub sorted : head_sort (profiled_in value) ≡ s

later_value : (x : Variable) (v : Sorted) (variables : List Variable) (values : List Sorted) (n s : ℕ)
    → HasValue (zip (map number_of variables) values) n s → HasValue (zip (map number_of (x ∷ variables)) (v ∷ values)) n s
later_value x v variables values n s rest =
    record { position = suc rest.position; value = rest.value; given = rest.given; sorted = rest.sorted }

-- The first value, where the first variable has the number, and else a later one.
first_or_later : (signature : Signature) (x : Variable) (v : Sorted) (variables : List Variable) (values : List Sorted) (n s : ℕ)
    → IsOf signature (profiled_in v) → HasSort signature (term_in v) x.sort
    → (sort_in (variables_of variables) n ≡ Some s → HasValue (zip (map number_of variables) values) n s)
    → (same : Bool) → nat_eq x.number n ≡ same → (if same then Some x.sort else sort_in (variables_of variables) n) ≡ Some s
    → HasValue (zip (map number_of (x ∷ variables)) (v ∷ values)) n s
first_or_later signature x v variables values n s of sorted rest true same at = record {
  position = zero;
  value = v;
  given = ap (λ (m : ℕ). let pair : ℕ × Sorted = (m, v) in Some pair) (eqb-true x.number n same);
  sorted = told_sort signature (profiled_in v) x.sort of sorted ∙ same_Some x.sort s at;
}
first_or_later signature x v variables values n s of sorted rest false same at = later_value x v variables values n s (rest at)

value_there : (signature : Signature) (variables : List Variable) (values : List Sorted) (n s : ℕ)
    → AreValues signature (sorts_of (variables_of variables)) (terms_of values) → AreTermsOf signature (profiles_of values)
    → sort_in (variables_of variables) n ≡ Some s → HasValue (zip (map number_of variables) values) n s
value_there signature [] values n s h of found = absurd (none-some s found)
value_there signature (x ∷ variables) [] n s h of found = absurd h
value_there signature (x ∷ variables) (v ∷ values) n s h of found =
    first_or_later signature x v variables values n s of.0 h.0.sorted (value_there signature variables values n s h.1 of.1)
    (nat_eq x.number n) refl found

-- The values are ground.
ground_values : (signature : Signature) (variables : List Variable) (values : List Sorted)
    → AreValues signature (sorts_of (variables_of variables)) (terms_of values) → AreGroundValues (zip (map number_of variables) values)
ground_values signature [] values h = tt
ground_values signature (x ∷ variables) [] h = absurd h
ground_values signature (x ∷ variables) (v ∷ values) h = (h.0.ground, ground_values signature variables values h.1)

-- The environment has the values, with their profiles.
pub values_zip : (signature : Signature) (variables : List Variable) (values : List Sorted)
    → AreValues signature (sorts_of (variables_of variables)) (terms_of values)
    → map pair_profile (zip (map number_of variables) values) ≡ profiles_of values
values_zip signature [] [] h = refl
values_zip signature [] (v ∷ values) h = absurd h
values_zip signature (x ∷ variables) [] h = absurd h
values_zip signature (x ∷ variables) (v ∷ values) h =
    ap (λ (terms : List ProfiledTerm). profiled_in v ∷ terms) (values_zip signature variables values h.1)

same_numbers : (variables : List Variable) → map number_of variables ≡ numbers_of (variables_of variables)
same_numbers [] = refl
same_numbers (x ∷ variables) = ap (λ (rest : List ℕ). x.number ∷ rest) (same_numbers variables)

-- Each number has one position.
position_once : (variables : List Variable) (values : List Sorted) (n : ℕ) → AreDistinct (numbers_of (variables_of variables))
    → (j k : ℕ) (v w : Sorted) → slice_get (zip (map number_of variables) values) j ≡ Some (n, v)
    → slice_get (zip (map number_of variables) values) k ≡ Some (n, w) → j ≡ k
position_once variables values n distinct j k v w at_j at_k =
    distinct j k n (there j v at_j) (there k w at_k)
  where
    there : (i : ℕ) (u : Sorted) → slice_get (zip (map number_of variables) values) i ≡ Some (n, u)
        → slice_get (numbers_of (variables_of variables)) i ≡ Some n
    there i u at =
        ap (λ (listed : List ℕ). slice_get listed i) (sym (same_numbers variables))
        ∙ number_there (map number_of variables) values i n u at

given_once : (variables : List Variable) (values : List Sorted) (n s : ℕ) → AreDistinct (numbers_of (variables_of variables))
    → HasValue (zip (map number_of variables) values) n s → IsGivenOnce (zip (map number_of variables) values) n s
given_once variables values n s distinct has = record {
  position = has.position;
  value = has.value;
  given = has.given;
  sorted = has.sorted;
  once = λ k other at. position_once variables values n distinct k has.position other has.value at has.given;
}

-- The start is closed.
start_closed : (spec : Spec) (values : List Sorted) → IsStart spec values
    → IsClosedBy (zip (map number_of spec.parameters.items) values) (behaviour_of spec.body.value)
start_closed spec values start = record {
  given = λ n s free. given_once spec.parameters.items values n s start.over.well_formed.whole.binders.0
      (value_there start.signature spec.parameters.items values n s start.fitting start.profiles
      (free_in_scope start.signature n s (length (specification_of spec).gate_names) (specification_of spec).processes
      (variables_of spec.parameters.items)
      (behaviour_of spec.body.value) start.over.well_formed.whole.behaviour free));
  grounded = ground_values start.signature spec.parameters.items values start.fitting;
}

-- So are copies of its environment and its body.
pub copies_closed : (spec : Spec) (values : List Sorted) (pairs : List (ℕ × Sorted)) (b : Behaviour)
    → pairs ≡ zip (map number_of spec.parameters.items) values → b ≡ behaviour_of spec.body.value → IsStart spec values → IsClosedBy pairs b
copies_closed spec values pairs b e f start =
    subst (λ (made : List (ℕ × Sorted)). IsClosedBy made b) (sym e)
    (subst (λ (copy : Behaviour). IsClosedBy (zip (map number_of spec.parameters.items) values) copy) (sym f)
    (start_closed spec values start))
