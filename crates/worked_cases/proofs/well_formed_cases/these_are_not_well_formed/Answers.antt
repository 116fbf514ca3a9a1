use Rattle.std.proofs.Common.{◌≡◌, ◌<◌, ℕ, List, [], ◌∷◌, length, refl, ap, sym, subst, arith}
use Rattle.lotos_base.specs.Term.{Term, no_terms, term_then}
use Rattle.behaviour_semantics.specs.Behaviour.{Process}
use Rattle.behaviour_semantics.specs.WellFormed.{AreTermsIn, IsCall}
use Rattle.behaviour_semantics.proofs.OptionLemmas.{some_value}
use Rattle.worked_cases.specs.BehaviourSamples.{nat_sort, sample_signature, gate_x, succ, truth}
use Rattle.worked_cases.specs.ValueCases.{counting}
use Rattle.lotos_base.specs.Signature.{Operation}
use Rattle.lotos_base.specs.Sorting.{HasSort, HaveSorts}
use Rattle.worked_cases.proofs.CaseLemmas.{truth_not_sorted, sort_of_nought}
use Rattle.worked_cases.proofs.well_formed_cases.these_are_not_well_formed.Goals as goal

not_below_itself : (n : ℕ) → n < n → ⊥
not_below_itself n lt = omega arith

-- no argument of `Succ` is `true`
no_successor : (sort : ℕ) → HasSort sample_signature (succ truth) sort → ⊥
no_successor sort h =
    let arguments : nat_sort ∷ [] ≡ h.0.arguments = ap (λ (o : Operation). o.arguments) (some_value h.1) in
    truth_not_sorted (subst (λ (sorts : List ℕ). HaveSorts sample_signature (term_then truth no_terms) sorts) (sym arguments) h.3).0

-- what a call of the process gives it has the sorts of its parameters
given : (gates : List ℕ) (arguments : List Term) → IsCall sample_signature (counting ∷ []) [] 0 gates arguments
    → AreTermsIn sample_signature [] counting.parameters arguments
given gates arguments h = subst (λ (p : Process). AreTermsIn sample_signature [] p.parameters arguments) (sym (some_value h.exists))
    h.values

gates_given : (gates : List ℕ) (arguments : List Term) → IsCall sample_signature (counting ∷ []) [] 0 gates arguments → length gates ≡ 1
gates_given gates arguments h = subst (λ (p : Process). length gates ≡ length p.gates) (sym (some_value h.exists)) h.gate_count

pub returns : goal.returns
returns c = record {
  unnamed = λ h. not_below_itself 7 h.0;
  free_variable = λ h. absurd (cc (h.1.0.1.bound 0 nat_sort (refl, refl)));
  ill_sorted_term = λ h. no_successor h.1.0.0 h.1.0.1.sorted;
  unknown_sort = λ h. not_below_itself 3 h.0;
  unknown_question = λ h. not_below_itself 3 h.1.0;
  unknown_result = λ h. not_below_itself 3 h.0;
  hidden_variable = λ h. absurd (cc (h.2.1.0.1.bound 0 0 (refl, refl)));
  offer_in_its_own_scope = λ h. absurd (cc (h.1.1.0.1.bound 0 nat_sort (refl, refl)));
  let_in_its_own_scope = λ h. absurd (cc (h.1.0.bound 0 nat_sort (refl, refl)));
  let_of_another_sort = λ h. truth_not_sorted h.1.0.sorted;
  asked_twice = λ h. absurd (cc (h.2.0 0 1 0 refl refl));
  test_of_two_sorts = λ h. truth_not_sorted (subst (λ (sort : ℕ). HasSort sample_signature truth sort)
      (sort_of_nought h.0.sort h.0.left.sorted) h.0.right.sorted);
  no_copies = λ h. h.1 refl;
  formal_gate_twice = λ h. absurd (cc (h.0.0 0 1 gate_x refl refl));
  missing_process = λ h. absurd (cc h.1.exists);
  fewer_gates = λ h. absurd (cc (gates_given _ _ h.1));
  fewer_values = λ h. given _ _ h.1;
  value_of_another_sort = λ h. truth_not_sorted (given _ _ h.1).0.sorted;
  no_functionality = λ h. not_below_itself 3 h.whole.functionality.0;
  process_with_one_gate_twice = λ h. absurd (cc (h.each.0.distinct_gates 0 1 gate_x refl refl));
  parameter_twice = λ h. absurd (cc (h.each.0.binders.0 0 1 0 refl refl));
}
