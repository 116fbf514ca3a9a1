use Rattle.std.proofs.Common.{arith, ◌+◌, List, ◌++◌, [], ◌∷◌, inl, inr, map, option_map, ap, sym, ◌∙◌, subst}
use Rattle.std.proofs.lemmas.Result.{IfOk-weaker}
use Rattle.lotos_base.specs.Substitution.{Substitution, binding}
use Rattle.behaviour_semantics.specs.Behaviour.{action, asked_variables, choice, choose_gate, choose_value, disable, enable, exit_with, guard, hide, inner_action, let_be, let_variables, numbers_of, par_gate, parallel}
use Rattle.behaviour_semantics.specs.Replacement.{test_with, with_values}
use Rattle.sort_terms.specs.ProfiledTerm.{ProfiledTerm}
use Rattle.term_match.specs.ProfiledInstance.{ProfiledSubstitution, profiled_binding}
use Rattle.term_match.specs.SubstView.{profiled_pairs}
use Rattle.behaviour_tree.specs.BehaviourTerms.{joined, option_profiles}
use Rattle.behaviour_tree.specs.BehaviourView.{behaviour_of, let_of, offer_of, test_of, variables_of}
use Rattle.behaviour_tree.specs.Closed.{IsFree}
use Rattle.behaviour_tree.specs.StateView.{environment_of}
use Rattle.behaviour_tree.specs.declared.behaviours.Beh.{Beh}
use Rattle.behaviour_instances.specs.InstanceTerms.{instance_profiles, terms_placed}
use Rattle.std.proofs.lemmas.List.{nil_from_length}
use Rattle.behaviour_instances.proofs.NothingLemmas.{instance_by_nothing}
use Rattle.behaviour_instances.proofs.FormLemmas.{inside_same, inside_terms, read_instance, read_suits, same_three, same_two}
use Rattle.behaviour_instances.proofs.UnlistedLemmas.{none_plain, none_profiled, suits_below}
use Rattle.behaviour_instances.proofs.WeightLemmas.{below_inside, shared_part, form_lighter, inside_part, left_below, left_part, right_below, right_part, held_lighter, weight}
use Rattle.behaviour_instances.proofs.instances.+instance.Goals as goal

pub instance-returns-in-Stop-clause-same : goal.instance-returns-in-Stop-clause-same
instance-returns-in-Stop-clause-same t c =
    ap (λ (b : Beh). with_values (binding (environment_of c.args.environment.now.items)) (behaviour_of b)) (sym c.in-Stop.is)

pub instance-returns-in-Stop-clause-terms : goal.instance-returns-in-Stop-clause-terms
instance-returns-in-Stop-clause-terms t c =
    ap (instance_profiles (profiled_binding (profiled_pairs c.args.environment.now.items))) (sym c.in-Stop.is)

pub instance-placed_results-requires : goal.instance-placed_results-requires
instance-placed_results-requires t c =
    λ n s o. c.requires n s (subst (λ (b : Beh). IsFree n s (behaviour_of b)) (sym c.in-Exit.is) o)

pub instance-returns-in_ok-placed_results-in-Exit-clause-same : goal.instance-returns-in_ok-placed_results-in-Exit-clause-same
instance-returns-in_ok-placed_results-in-Exit-clause-same t c =
    ap exit_with c.in_ok-placed_results-in-Exit.ensures.same
    ∙ ap (λ (b : Beh). with_values (binding (environment_of c.args.environment.now.items)) (behaviour_of b)) (sym c.in-Exit.is)

pub instance-returns-in_ok-placed_results-in-Exit-clause-terms : goal.instance-returns-in_ok-placed_results-in-Exit-clause-terms
instance-returns-in_ok-placed_results-in-Exit-clause-terms t c =
    ap joined c.in_ok-placed_results-in-Exit.ensures.terms
    ∙ ap (instance_profiles (profiled_binding (profiled_pairs c.args.environment.now.items))) (sym c.in-Exit.is)

pub instance-action_instance-requires : goal.instance-action_instance-requires
instance-action_instance-requires t c = (
  form_lighter c.args.behaviour.now _ _ c.in-Action.is c.decreases,
  λ n s o. c.requires n s (subst (λ (b : Beh). IsFree n s (behaviour_of b)) (sym c.in-Action.is) o),
)

pub instance-returns-in-Action-clause-same : goal.instance-returns-in-Action-clause-same
instance-returns-in-Action-clause-same t c =
    IfOk-weaker c.action_instance.result _ _
    (λ made e. e ∙ ap (λ (b : Beh). with_values (binding (environment_of c.args.environment.now.items)) (behaviour_of b))
    (sym c.in-Action.is)) c.action_instance.ensures.same

pub instance-returns-in-Action-clause-terms : goal.instance-returns-in-Action-clause-terms
instance-returns-in-Action-clause-terms t c =
    IfOk-weaker c.action_instance.result _ _
    (λ made e. e ∙ ap (instance_profiles (profiled_binding (profiled_pairs c.args.environment.now.items))) (sym c.in-Action.is))
    c.action_instance.ensures.terms

pub instance-inner_instance-requires : goal.instance-inner_instance-requires
instance-inner_instance-requires t c = (
  form_lighter c.args.behaviour.now _ _ c.in-Inner.is c.decreases,
  λ n s o. c.requires n s (subst (λ (b : Beh). IsFree n s (behaviour_of b)) (sym c.in-Inner.is) o),
)

pub instance-returns-in-Inner-clause-same : goal.instance-returns-in-Inner-clause-same
instance-returns-in-Inner-clause-same t c =
    IfOk-weaker c.inner_instance.result _ _
    (λ made e. e ∙ ap (λ (b : Beh). with_values (binding (environment_of c.args.environment.now.items)) (behaviour_of b))
    (sym c.in-Inner.is)) c.inner_instance.ensures.same

pub instance-returns-in-Inner-clause-terms : goal.instance-returns-in-Inner-clause-terms
instance-returns-in-Inner-clause-terms t c =
    IfOk-weaker c.inner_instance.result _ _
    (λ made e. e ∙ ap (instance_profiles (profiled_binding (profiled_pairs c.args.environment.now.items))) (sym c.in-Inner.is))
    c.inner_instance.ensures.terms

pub instance-guard_instance-requires : goal.instance-guard_instance-requires
instance-guard_instance-requires t c = (
  form_lighter c.args.behaviour.now _ _ c.in-Guard.is c.decreases,
  λ n s o. c.requires n s (subst (λ (b : Beh). IsFree n s (behaviour_of b)) (sym c.in-Guard.is) o),
)

pub instance-returns-in-Guard-clause-same : goal.instance-returns-in-Guard-clause-same
instance-returns-in-Guard-clause-same t c =
    IfOk-weaker c.guard_instance.result _ _
    (λ made e. e ∙ ap (λ (b : Beh). with_values (binding (environment_of c.args.environment.now.items)) (behaviour_of b))
    (sym c.in-Guard.is)) c.guard_instance.ensures.same

pub instance-returns-in-Guard-clause-terms : goal.instance-returns-in-Guard-clause-terms
instance-returns-in-Guard-clause-terms t c =
    IfOk-weaker c.guard_instance.result _ _
    (λ made e. e ∙ ap (instance_profiles (profiled_binding (profiled_pairs c.args.environment.now.items))) (sym c.in-Guard.is))
    c.guard_instance.ensures.terms

pub instance-choice_instance-requires : goal.instance-choice_instance-requires
instance-choice_instance-requires t c = (
  form_lighter c.args.behaviour.now _ _ c.in-Choice.is c.decreases,
  λ n s o. c.requires n s (subst (λ (b : Beh). IsFree n s (behaviour_of b)) (sym c.in-Choice.is) o),
)

pub instance-returns-in-Choice-clause-same : goal.instance-returns-in-Choice-clause-same
instance-returns-in-Choice-clause-same t c =
    IfOk-weaker c.choice_instance.result _ _
    (λ made e. e ∙ ap (λ (b : Beh). with_values (binding (environment_of c.args.environment.now.items)) (behaviour_of b))
    (sym c.in-Choice.is)) c.choice_instance.ensures.same

pub instance-returns-in-Choice-clause-terms : goal.instance-returns-in-Choice-clause-terms
instance-returns-in-Choice-clause-terms t c =
    IfOk-weaker c.choice_instance.result _ _
    (λ made e. e ∙ ap (instance_profiles (profiled_binding (profiled_pairs c.args.environment.now.items))) (sym c.in-Choice.is))
    c.choice_instance.ensures.terms

pub instance-parallel_instance-requires : goal.instance-parallel_instance-requires
instance-parallel_instance-requires t c = (
  form_lighter c.args.behaviour.now _ _ c.in-Parallel.is c.decreases,
  λ n s o. c.requires n s (subst (λ (b : Beh). IsFree n s (behaviour_of b)) (sym c.in-Parallel.is) o),
)

pub instance-returns-in-Parallel-clause-same : goal.instance-returns-in-Parallel-clause-same
instance-returns-in-Parallel-clause-same t c =
    IfOk-weaker c.parallel_instance.result _ _
    (λ made e. e ∙ ap (λ (b : Beh). with_values (binding (environment_of c.args.environment.now.items)) (behaviour_of b))
    (sym c.in-Parallel.is)) c.parallel_instance.ensures.same

pub instance-returns-in-Parallel-clause-terms : goal.instance-returns-in-Parallel-clause-terms
instance-returns-in-Parallel-clause-terms t c =
    IfOk-weaker c.parallel_instance.result _ _
    (λ made e. e ∙ ap (instance_profiles (profiled_binding (profiled_pairs c.args.environment.now.items))) (sym c.in-Parallel.is))
    c.parallel_instance.ensures.terms

pub instance-hide_instance-requires : goal.instance-hide_instance-requires
instance-hide_instance-requires t c = (
  form_lighter c.args.behaviour.now _ _ c.in-Hide.is c.decreases,
  λ n s o. c.requires n s (subst (λ (b : Beh). IsFree n s (behaviour_of b)) (sym c.in-Hide.is) o),
)

pub instance-returns-in-Hide-clause-same : goal.instance-returns-in-Hide-clause-same
instance-returns-in-Hide-clause-same t c =
    IfOk-weaker c.hide_instance.result _ _
    (λ made e. e ∙ ap (λ (b : Beh). with_values (binding (environment_of c.args.environment.now.items)) (behaviour_of b))
    (sym c.in-Hide.is)) c.hide_instance.ensures.same

pub instance-returns-in-Hide-clause-terms : goal.instance-returns-in-Hide-clause-terms
instance-returns-in-Hide-clause-terms t c =
    IfOk-weaker c.hide_instance.result _ _
    (λ made e. e ∙ ap (instance_profiles (profiled_binding (profiled_pairs c.args.environment.now.items))) (sym c.in-Hide.is))
    c.hide_instance.ensures.terms

pub instance-enable_instance-requires : goal.instance-enable_instance-requires
instance-enable_instance-requires t c = (
  form_lighter c.args.behaviour.now _ _ c.in-Enable.is c.decreases,
  λ n s o. c.requires n s (subst (λ (b : Beh). IsFree n s (behaviour_of b)) (sym c.in-Enable.is) o),
)

pub instance-returns-in-Enable-clause-same : goal.instance-returns-in-Enable-clause-same
instance-returns-in-Enable-clause-same t c =
    IfOk-weaker c.enable_instance.result _ _
    (λ made e. e ∙ ap (λ (b : Beh). with_values (binding (environment_of c.args.environment.now.items)) (behaviour_of b))
    (sym c.in-Enable.is)) c.enable_instance.ensures.same

pub instance-returns-in-Enable-clause-terms : goal.instance-returns-in-Enable-clause-terms
instance-returns-in-Enable-clause-terms t c =
    IfOk-weaker c.enable_instance.result _ _
    (λ made e. e ∙ ap (instance_profiles (profiled_binding (profiled_pairs c.args.environment.now.items))) (sym c.in-Enable.is))
    c.enable_instance.ensures.terms

pub instance-disable_instance-requires : goal.instance-disable_instance-requires
instance-disable_instance-requires t c = (
  form_lighter c.args.behaviour.now _ _ c.in-Disable.is c.decreases,
  λ n s o. c.requires n s (subst (λ (b : Beh). IsFree n s (behaviour_of b)) (sym c.in-Disable.is) o),
)

pub instance-returns-in-Disable-clause-same : goal.instance-returns-in-Disable-clause-same
instance-returns-in-Disable-clause-same t c =
    IfOk-weaker c.disable_instance.result _ _
    (λ made e. e ∙ ap (λ (b : Beh). with_values (binding (environment_of c.args.environment.now.items)) (behaviour_of b))
    (sym c.in-Disable.is)) c.disable_instance.ensures.same

pub instance-returns-in-Disable-clause-terms : goal.instance-returns-in-Disable-clause-terms
instance-returns-in-Disable-clause-terms t c =
    IfOk-weaker c.disable_instance.result _ _
    (λ made e. e ∙ ap (instance_profiles (profiled_binding (profiled_pairs c.args.environment.now.items))) (sym c.in-Disable.is))
    c.disable_instance.ensures.terms

pub instance-let_instance-requires : goal.instance-let_instance-requires
instance-let_instance-requires t c = (
  form_lighter c.args.behaviour.now _ _ c.in-Let.is c.decreases,
  λ n s o. c.requires n s (subst (λ (b : Beh). IsFree n s (behaviour_of b)) (sym c.in-Let.is) o),
)

pub instance-returns-in-Let-clause-same : goal.instance-returns-in-Let-clause-same
instance-returns-in-Let-clause-same t c =
    IfOk-weaker c.let_instance.result _ _
    (λ made e. e ∙ ap (λ (b : Beh). with_values (binding (environment_of c.args.environment.now.items)) (behaviour_of b)) (sym c.in-Let.is))
    c.let_instance.ensures.same

pub instance-returns-in-Let-clause-terms : goal.instance-returns-in-Let-clause-terms
instance-returns-in-Let-clause-terms t c =
    IfOk-weaker c.let_instance.result _ _
    (λ made e. e ∙ ap (instance_profiles (profiled_binding (profiled_pairs c.args.environment.now.items))) (sym c.in-Let.is))
    c.let_instance.ensures.terms

pub instance-value_instance-requires : goal.instance-value_instance-requires
instance-value_instance-requires t c = (
  form_lighter c.args.behaviour.now _ _ c.in-ChooseValue.is c.decreases,
  λ n s o. c.requires n s (subst (λ (b : Beh). IsFree n s (behaviour_of b)) (sym c.in-ChooseValue.is) o),
)

pub instance-returns-in-ChooseValue-clause-same : goal.instance-returns-in-ChooseValue-clause-same
instance-returns-in-ChooseValue-clause-same t c =
    IfOk-weaker c.value_instance.result _ _
    (λ made e. e ∙ ap (λ (b : Beh). with_values (binding (environment_of c.args.environment.now.items)) (behaviour_of b))
    (sym c.in-ChooseValue.is)) c.value_instance.ensures.same

pub instance-returns-in-ChooseValue-clause-terms : goal.instance-returns-in-ChooseValue-clause-terms
instance-returns-in-ChooseValue-clause-terms t c =
    IfOk-weaker c.value_instance.result _ _
    (λ made e. e ∙ ap (instance_profiles (profiled_binding (profiled_pairs c.args.environment.now.items))) (sym c.in-ChooseValue.is))
    c.value_instance.ensures.terms

pub instance-gate_instance-requires : goal.instance-gate_instance-requires
instance-gate_instance-requires t c = (
  form_lighter c.args.behaviour.now _ _ c.in-ChooseGate.is c.decreases,
  λ n s o. c.requires n s (subst (λ (b : Beh). IsFree n s (behaviour_of b)) (sym c.in-ChooseGate.is) o),
)

pub instance-returns-in-ChooseGate-clause-same : goal.instance-returns-in-ChooseGate-clause-same
instance-returns-in-ChooseGate-clause-same t c =
    IfOk-weaker c.gate_instance.result _ _
    (λ made e. e ∙ ap (λ (b : Beh). with_values (binding (environment_of c.args.environment.now.items)) (behaviour_of b))
    (sym c.in-ChooseGate.is)) c.gate_instance.ensures.same

pub instance-returns-in-ChooseGate-clause-terms : goal.instance-returns-in-ChooseGate-clause-terms
instance-returns-in-ChooseGate-clause-terms t c =
    IfOk-weaker c.gate_instance.result _ _
    (λ made e. e ∙ ap (instance_profiles (profiled_binding (profiled_pairs c.args.environment.now.items))) (sym c.in-ChooseGate.is))
    c.gate_instance.ensures.terms

pub instance-par_instance-requires : goal.instance-par_instance-requires
instance-par_instance-requires t c = (
  form_lighter c.args.behaviour.now _ _ c.in-ParGate.is c.decreases,
  λ n s o. c.requires n s (subst (λ (b : Beh). IsFree n s (behaviour_of b)) (sym c.in-ParGate.is) o),
)

pub instance-returns-in-ParGate-clause-same : goal.instance-returns-in-ParGate-clause-same
instance-returns-in-ParGate-clause-same t c =
    IfOk-weaker c.par_instance.result _ _
    (λ made e. e ∙ ap (λ (b : Beh). with_values (binding (environment_of c.args.environment.now.items)) (behaviour_of b))
    (sym c.in-ParGate.is)) c.par_instance.ensures.same

pub instance-returns-in-ParGate-clause-terms : goal.instance-returns-in-ParGate-clause-terms
instance-returns-in-ParGate-clause-terms t c =
    IfOk-weaker c.par_instance.result _ _
    (λ made e. e ∙ ap (instance_profiles (profiled_binding (profiled_pairs c.args.environment.now.items))) (sym c.in-ParGate.is))
    c.par_instance.ensures.terms

pub instance-call_instance-requires : goal.instance-call_instance-requires
instance-call_instance-requires t c =
    λ n s o. c.requires n s (subst (λ (b : Beh). IsFree n s (behaviour_of b)) (sym c.in-Call.is) o)

pub instance-returns-in-Call-clause-same : goal.instance-returns-in-Call-clause-same
instance-returns-in-Call-clause-same t c =
    IfOk-weaker c.call_instance.result _ _
    (λ made e. e ∙ ap (λ (b : Beh). with_values (binding (environment_of c.args.environment.now.items)) (behaviour_of b))
    (sym c.in-Call.is)) c.call_instance.ensures.same

pub instance-returns-in-Call-clause-terms : goal.instance-returns-in-Call-clause-terms
instance-returns-in-Call-clause-terms t c =
    IfOk-weaker c.call_instance.result _ _
    (λ made e. e ∙ ap (instance_profiles (profiled_binding (profiled_pairs c.args.environment.now.items))) (sym c.in-Call.is))
    c.call_instance.ensures.terms

pub shared_instance-instance-requires : goal.shared_instance-instance-requires
shared_instance-instance-requires t c = (
  held_lighter c.deref.result.now c.args.part.now.value _ c.deref.ensures c.decreases,
  read_suits c.args.environment.now.items _ _ c.deref.ensures c.requires,
)

pub shared_instance-returns-then-len-eq0 : goal.shared_instance-returns-then-len-eq0
shared_instance-returns-then-len-eq0 t c =
    IfOk-weaker c.owner.result _ _
    (λ made e. instance_by_nothing c.args.environment.now.items c.args.part.now.value made.value
    (nil_from_length c.args.environment.now.items (omega (arith, c.if-len-eq0.true, c.len.ensures, c.args.environment.now.ok.0))) e)
    c.owner.ensures

pub shared_instance-returns : goal.shared_instance-returns
shared_instance-returns t c =
    IfOk-weaker c.shared.result _ _
    (λ kept e. read_instance c.args.environment.now.items kept.value c.in_ok-made.made c.deref.result.now c.args.part.now.value
    e c.in_ok-made.ensures.same c.in_ok-made.ensures.terms c.deref.ensures) c.shared.ensures

pub inside_instance-shared_instance-requires : goal.inside_instance-shared_instance-requires
inside_instance-shared_instance-requires t c =
    (below_inside (weight (behaviour_of c.args.part.now.value)) _ c.decreases, c.requires)

pub both_instances-shared_instance-requires : goal.both_instances-shared_instance-requires
both_instances-shared_instance-requires t c =
    (left_below (weight (behaviour_of c.args.left.now.value)) (weight (behaviour_of c.args.right.now.value)) _ c.decreases, c.requires.left)

pub both_instances-shared_instance-requires-2 : goal.both_instances-shared_instance-requires-2
both_instances-shared_instance-requires-2 t c = (
  right_below (weight (behaviour_of c.args.left.now.value)) (weight (behaviour_of c.args.right.now.value)) _ c.decreases,
  c.requires.right,
)

pub inner_instance-shared_instance-requires : goal.inner_instance-shared_instance-requires
inner_instance-shared_instance-requires t c =
    (shared_part (weight (behaviour_of c.args.next.now.value)) _ c.decreases, λ n s o. c.requires n s o)

pub inner_instance-returns-clause-same : goal.inner_instance-returns-clause-same
inner_instance-returns-clause-same t c =
    ap inner_action c.in_ok-next.ensures.same

pub inner_instance-returns-clause-terms : goal.inner_instance-returns-clause-terms
inner_instance-returns-clause-terms t c =
    c.in_ok-next.ensures.terms

pub guard_instance-shared_instance-requires : goal.guard_instance-shared_instance-requires
guard_instance-shared_instance-requires t c =
    (shared_part (weight (behaviour_of c.args.next.now.value)) _ c.decreases, λ n s o. c.requires n s (inr o))

pub guard_instance-placed_test-requires : goal.guard_instance-placed_test-requires
guard_instance-placed_test-requires t c =
    λ n s o. c.requires n s (inl o)

pub guard_instance-returns-clause-same : goal.guard_instance-returns-clause-same
guard_instance-returns-clause-same t c =
    same_two guard _ _ _ _ c.in_ok-test.ensures.same c.in_ok-next.ensures.same

pub guard_instance-returns-clause-terms : goal.guard_instance-returns-clause-terms
guard_instance-returns-clause-terms t c =
    same_two (λ (x y : List ProfiledTerm). x ++ y) _ _ _ _ c.in_ok-test.ensures.terms c.in_ok-next.ensures.terms

pub choice_instance-both_instances-requires : goal.choice_instance-both_instances-requires
choice_instance-both_instances-requires t c = (
  inside_part (weight (behaviour_of c.args.left.now.value) + weight (behaviour_of c.args.right.now.value)) _ c.decreases,
  (λ n s o. c.requires n s (inl o), λ n s o. c.requires n s (inr o)),
)

pub choice_instance-returns-clause-same : goal.choice_instance-returns-clause-same
choice_instance-returns-clause-same t c =
    same_two choice _ _ _ _ c.in_ok-sides.ensures.left.same c.in_ok-sides.ensures.right.same

pub choice_instance-returns-clause-terms : goal.choice_instance-returns-clause-terms
choice_instance-returns-clause-terms t c =
    same_two (λ (x y : List ProfiledTerm). x ++ y) _ _ _ _ c.in_ok-sides.ensures.left.terms c.in_ok-sides.ensures.right.terms

pub disable_instance-both_instances-requires : goal.disable_instance-both_instances-requires
disable_instance-both_instances-requires t c = (
  inside_part (weight (behaviour_of c.args.left.now.value) + weight (behaviour_of c.args.right.now.value)) _ c.decreases,
  (λ n s o. c.requires n s (inl o), λ n s o. c.requires n s (inr o)),
)

pub disable_instance-returns-clause-same : goal.disable_instance-returns-clause-same
disable_instance-returns-clause-same t c =
    same_two disable _ _ _ _ c.in_ok-sides.ensures.left.same c.in_ok-sides.ensures.right.same

pub disable_instance-returns-clause-terms : goal.disable_instance-returns-clause-terms
disable_instance-returns-clause-terms t c =
    same_two (λ (x y : List ProfiledTerm). x ++ y) _ _ _ _ c.in_ok-sides.ensures.left.terms c.in_ok-sides.ensures.right.terms

pub parallel_instance-both_instances-requires : goal.parallel_instance-both_instances-requires
parallel_instance-both_instances-requires t c = (
  inside_part (weight (behaviour_of c.args.left.now.value) + weight (behaviour_of c.args.right.now.value)) _ c.decreases,
  (λ n s o. c.requires n s (inl o), λ n s o. c.requires n s (inr o)),
)

pub parallel_instance-returns-clause-same : goal.parallel_instance-returns-clause-same
parallel_instance-returns-clause-same t c =
    same_three parallel _ _ _ _ _ _ c.in_ok-meet.ensures c.in_ok-sides.ensures.left.same c.in_ok-sides.ensures.right.same

pub parallel_instance-returns-clause-terms : goal.parallel_instance-returns-clause-terms
parallel_instance-returns-clause-terms t c =
    same_two (λ (x y : List ProfiledTerm). x ++ y) _ _ _ _ c.in_ok-sides.ensures.left.terms c.in_ok-sides.ensures.right.terms

pub hide_instance-shared_instance-requires : goal.hide_instance-shared_instance-requires
hide_instance-shared_instance-requires t c =
    (shared_part (weight (behaviour_of c.args.next.now.value)) _ c.decreases, λ n s o. c.requires n s o)

pub hide_instance-returns-clause-same : goal.hide_instance-returns-clause-same
hide_instance-returns-clause-same t c =
    same_two hide _ _ _ _ (c.in_ok-gates.ensures.items ∙ c.deref.ensures.value) c.in_ok-next.ensures.same

pub hide_instance-returns-clause-terms : goal.hide_instance-returns-clause-terms
hide_instance-returns-clause-terms t c =
    c.in_ok-next.ensures.terms

pub gate_instance-shared_instance-requires : goal.gate_instance-shared_instance-requires
gate_instance-shared_instance-requires t c =
    (shared_part (weight (behaviour_of c.args.next.now.value)) _ c.decreases, λ n s o. c.requires n s o)

pub gate_instance-returns-clause-same : goal.gate_instance-returns-clause-same
gate_instance-returns-clause-same t c =
    same_two (choose_gate c.args.gate) _ _ _ _ (c.in_ok-gates.ensures.items ∙ c.deref.ensures.value) c.in_ok-next.ensures.same

pub gate_instance-returns-clause-terms : goal.gate_instance-returns-clause-terms
gate_instance-returns-clause-terms t c =
    c.in_ok-next.ensures.terms

pub par_instance-shared_instance-requires : goal.par_instance-shared_instance-requires
par_instance-shared_instance-requires t c =
    (shared_part (weight (behaviour_of c.args.next.now.value)) _ c.decreases, λ n s o. c.requires n s o)

pub par_instance-returns-clause-same : goal.par_instance-returns-clause-same
par_instance-returns-clause-same t c =
    same_three (par_gate c.args.gate) _ _ _ _ _ _ (c.in_ok-gates.ensures.items ∙ c.deref.ensures.value) c.in_ok-meet.ensures
    c.in_ok-next.ensures.same

pub par_instance-returns-clause-terms : goal.par_instance-returns-clause-terms
par_instance-returns-clause-terms t c =
    c.in_ok-next.ensures.terms

pub enable_instance-inside_instance-requires : goal.enable_instance-inside_instance-requires
enable_instance-inside_instance-requires t c = (
  right_part (weight (behaviour_of c.args.left.now.value)) (weight (behaviour_of c.args.right.now.value)) _ c.decreases,
  suits_below (numbers_of (variables_of c.args.variables.now.items)) c.in_ok-inner.inner.items c.args.environment.now.items _
      c.in_ok-inner.ensures.profiled
      (λ n s o. c.requires n s (inr o)),
)

pub enable_instance-shared_instance-requires : goal.enable_instance-shared_instance-requires
enable_instance-shared_instance-requires t c = (
  left_part (weight (behaviour_of c.args.left.now.value)) (weight (behaviour_of c.args.right.now.value)) _ c.decreases,
  λ n s o. c.requires n s (inl o),
)

pub enable_instance-returns-clause-same : goal.enable_instance-returns-clause-same
enable_instance-returns-clause-same t c =
    same_three enable _ _ _ _ _ _ c.in_ok-left.ensures.same c.in_ok-variables.ensures
    (inside_same (numbers_of (variables_of c.args.variables.now.items)) c.in_ok-inner.inner.items c.args.environment.now.items _ _
    c.in_ok-inner.ensures.plain c.in_ok-right.ensures)

pub enable_instance-returns-clause-terms : goal.enable_instance-returns-clause-terms
enable_instance-returns-clause-terms t c =
    same_two (λ (x y : List ProfiledTerm). x ++ y) _ _ _ _ c.in_ok-left.ensures.terms
    (inside_terms (numbers_of (variables_of c.args.variables.now.items)) c.in_ok-inner.inner.items c.args.environment.now.items _ _
    c.in_ok-inner.ensures.profiled c.in_ok-right.ensures)

pub let_instance-inside_instance-requires : goal.let_instance-inside_instance-requires
let_instance-inside_instance-requires t c = (
  inside_part (weight (behaviour_of c.args.next.now.value)) _ c.decreases,
  suits_below (numbers_of (let_variables (map let_of c.args.bindings.now.items))) c.in_ok-inner.inner.items c.args.environment.now.items _
      c.in_ok-inner.ensures.profiled
      (λ n s o. c.requires n s (inr o)),
)

pub let_instance-placed_bindings-requires : goal.let_instance-placed_bindings-requires
let_instance-placed_bindings-requires t c =
    λ n s o. c.requires n s (inl o)

pub let_instance-returns-clause-same : goal.let_instance-returns-clause-same
let_instance-returns-clause-same t c =
    same_two let_be _ _ _ _ c.in_ok-bindings.ensures.same
    (inside_same (numbers_of (let_variables (map let_of c.args.bindings.now.items))) c.in_ok-inner.inner.items c.args.environment.now.items
    _ _ c.in_ok-inner.ensures.plain c.in_ok-next.ensures)

pub let_instance-returns-clause-terms : goal.let_instance-returns-clause-terms
let_instance-returns-clause-terms t c =
    same_two (λ (x y : List ProfiledTerm). x ++ y) _ _ _ _ c.in_ok-bindings.ensures.terms
    (inside_terms (numbers_of (let_variables (map let_of c.args.bindings.now.items))) c.in_ok-inner.inner.items c.args.environment.now.items
    _ _ c.in_ok-inner.ensures.profiled c.in_ok-next.ensures)

pub value_instance-inside_instance-requires : goal.value_instance-inside_instance-requires
value_instance-inside_instance-requires t c = (
  inside_part (weight (behaviour_of c.args.next.now.value)) _ c.decreases,
  suits_below (c.args.variable.now.number ∷ []) c.in_ok-inner.inner.items c.args.environment.now.items _ c.in_ok-inner.ensures.profiled
      (λ n s o. c.requires n s o),
)

pub value_instance-returns-clause-same : goal.value_instance-returns-clause-same
value_instance-returns-clause-same t c =
    same_two choose_value _ _ _ _ c.in_ok-variable.ensures
    (inside_same (c.args.variable.now.number ∷ []) c.in_ok-inner.inner.items c.args.environment.now.items _ _ c.in_ok-inner.ensures.plain
    c.in_ok-next.ensures)

pub value_instance-returns-clause-terms : goal.value_instance-returns-clause-terms
value_instance-returns-clause-terms t c =
    inside_terms (c.args.variable.now.number ∷ []) c.in_ok-inner.inner.items c.args.environment.now.items _ _ c.in_ok-inner.ensures.profiled
    c.in_ok-next.ensures

pub action_instance-action_below-requires : goal.action_instance-action_below-requires
action_instance-action_below-requires t c =
    let nothing = c.asks_nothing.ensures c.if-asks_nothing.true in (
      inside_part (weight (behaviour_of c.args.next.now.value)) _ c.decreases,
      (
        c.requires,
        (none_profiled _ c.args.environment.now.items nothing, none_plain _ c.args.environment.now.items nothing),
      ),
    )

pub action_instance-action_below-requires-2 : goal.action_instance-action_below-requires-2
action_instance-action_below-requires-2 t c = (
  inside_part (weight (behaviour_of c.args.next.now.value)) _ c.decreases,
  (c.requires, (c.in_ok-inner.ensures.profiled, c.in_ok-inner.ensures.plain)),
)

pub action_below-shared_instance-requires : goal.action_below-shared_instance-requires
action_below-shared_instance-requires t c = (
  below_inside (weight (behaviour_of c.args.next.now.value)) _ c.decreases,
  suits_below (numbers_of (asked_variables (map offer_of c.args.offers.now.items))) c.args.inner.now.items c.args.environment.now.items _
      c.requires.profiled
      (λ n s o. c.requires.suited n s (inr (o.0, inr o.1))),
)

pub action_below-placed_head-requires-clause-offers : goal.action_below-placed_head-requires-clause-offers
action_below-placed_head-requires-clause-offers t c =
    λ n s o. c.requires.suited n s (inl o)

pub action_below-placed_head-requires-clause-test : goal.action_below-placed_head-requires-clause-test
action_below-placed_head-requires-clause-test t c =
    suits_below (numbers_of (asked_variables (map offer_of c.args.offers.now.items))) c.args.inner.now.items c.args.environment.now.items _
    c.requires.profiled
    (λ n s o. c.requires.suited n s (inr (o.0, inl o.1)))

pub action_below-returns-clause-same : goal.action_below-returns-clause-same
action_below-returns-clause-same t c =
    same_three (action c.args.gate) _ _ _ _ _ _ c.in_ok-head.ensures.offers
    (c.in_ok-head.ensures.test
    ∙ ap (λ (values : Substitution). option_map (test_with values) (option_map test_of c.args.test.now)) c.requires.plain)
    (inside_same (numbers_of (asked_variables (map offer_of c.args.offers.now.items))) c.args.inner.now.items c.args.environment.now.items _
    _ c.requires.plain c.in_ok-next.ensures)

pub action_below-returns-clause-terms : goal.action_below-returns-clause-terms
action_below-returns-clause-terms t c =
    same_two (λ (x y : List ProfiledTerm). x ++ y) _ _ _ _
    (same_two (λ (x y : List ProfiledTerm). x ++ y) _ _ _ _ (ap joined c.in_ok-head.ensures.offered)
    (c.in_ok-head.ensures.tested
    ∙ ap (λ (values : ProfiledSubstitution). terms_placed values (option_profiles c.args.test.now)) c.requires.profiled))
    (inside_terms (numbers_of (asked_variables (map offer_of c.args.offers.now.items))) c.args.inner.now.items c.args.environment.now.items
    _ _ c.requires.profiled c.in_ok-next.ensures)
