use Rattle.std.proofs.Common.{◌+◌, ◌++◌, ◌∷◌, ◌∙◌, ℕ, suc, List, [], length, map, refl, ap, sym, subst, arith, rules, append_assoc, append-nil, add-one}
use Rattle.std.specs.Prelude.{option_map}
use Rattle.lotos_base.proofs.Members.{at_map, past_map}
use Rattle.lotos_base.proofs.Options.{none_unless_some}
use Rattle.lotos_base.specs.Equation.{Data}
use Rattle.lotos_base.specs.Term.{Term}
use Rattle.lotos_base.specs.Substitution.{binding, without}
use Rattle.behaviour_semantics.specs.Behaviour.{Behaviour, enable, exit_with, let_be, let_terms, let_variables, numbers_of, parallel, hide, choose_value, call, action, choice, choose_gate, disable, guard, inner_action, par_gate, relabel, stop}
use Rattle.behaviour_semantics.specs.Derives.{leaves_in}
use Rattle.behaviour_semantics.specs.Fault.{size}
use Rattle.behaviour_semantics.specs.Replacement.{with_values, binding_of}
use Rattle.behaviour_tree.specs.BehaviourTerms.{profiles_in, profiles_of, joined, offer_profiles, exit_profiles, option_profiles, let_profile, test_profiles}
use Rattle.behaviour_tree.specs.BehaviourView.{behaviour_of, exit_value_of, let_of, meet_of, offer_of, terms_of, test_of, variables_of}
use Rattle.behaviour_tree.specs.Closed.{IsClosedNode, IsClosedBy, IsClosedUnder}
use Rattle.behaviour_tree.specs.DefinitionView.{process_of, specification_of}
use Rattle.behaviour_tree.specs.MoveView.{shape_of}
use Rattle.behaviour_tree.specs.Over.{AreTermsOf}
use Rattle.behaviour_tree.specs.StateView.{environment_of, node_profiles, pair_profile, stands_for}
use Rattle.behaviour_tree.specs.declared.moves.Shape.{Shape}
use Rattle.behaviour_tree.specs.declared.states.Node.{Node}
use Rattle.behaviour_tree.specs.declared.behaviours.Beh.{Beh}
use Rattle.step_parts.specs.HandedOn.{label_profiles}
use Rattle.sort_terms.specs.EquationView.{variable_of}
use Rattle.sort_terms.specs.declared.sorted.Sorted.{Sorted}
use Rattle.step_parts.specs.StepFaults.{kept_number, UnlessMemory}
use Rattle.step_parts.proofs.NodeLemmas.{first_terms, second_terms}
use Rattle.step_parts.proofs.HandedOn.{held_before, holds_after, keeps_both, keeps_itself, states_suit}
use Rattle.step_taker.specs.Rows.{same_row}
use Rattle.step_taker.specs.Sides.{enabling_of, followed, following_profiles, IsSideState, side_of, side_profiles}
use Rattle.step_taker.specs.Stands.{stand}
use Rattle.step_taker.specs.Taken.{ground_of, setting_on}
use Rattle.step_taker.specs.Walked.{IsClosedOn, IsFirstStepFault, IsMoved, IsPassable, IsPassableSide, IsStepWalk, IsWalked}
use Rattle.step_taker.proofs.WalkLemmas.{walked_on, walked_own, walked_part, nodes_below}
use Rattle.step_taker.proofs.TogetherLemmas.{left_told, right_told}
use Rattle.step_taker.proofs.ThereLemmas.{absent_there, below_there, copies_walked, is_below, memory_walked, misfit_there, of_behaviour, of_shape, part_there, refusal_walked, there_refused, there_walked}
use Rattle.step_taker.proofs.SplitLemmas.{passable_as}
use Rattle.step_taker.proofs.GoodLemmas.{label_closed, leaves_enough, target_closed}
use Rattle.step_taker.proofs.BodyLemmas.{call_closed, instance_over, is_called, keeps_ground, leaf_value, let_closed, value_closed}
use Rattle.step_taker.proofs.UnfitLemmas.{unfit_stop, unfit_guard, unfit_choice, unfit_parallel, unfit_hide, unfit_enable, unfit_disable, unfit_let, unfit_value, unfit_gate, unfit_call, unfit_relabel}
use Rattle.step_taker.proofs.FormLemmas.{guard_row, left_row, right_row, left_alone_row, right_alone_row, disabled_row, undisabled_row, hide_row, enabled_row, passed_row, let_row, value_row, gate_row, call_row, relabel_row, no_gate, no_process}
use Rattle.step_taker.proofs.WeightLemmas.{part_less, right_less, level_less, form_less, opened_less, left_less}
use Rattle.step_taker.proofs.StepLemmas.{own_place, place_behind, two_as, within_terms, closed_by_none, leaves_there, nothing_put, place_after, place_nodes}
use Rattle.behaviour_semantics.specs.Move.{asking, after_leaf}
use Rattle.step_parts.proofs.TargetLemmas.{closed_state}
use Rattle.behaviour_semantics.specs.Rule.{copies}
use Rattle.behaviour_semantics.specs.Shape.{at_gate, both_sides, called, enabled, guarded, hidden, left_side, let_bound, passed, relabelled, right_side, with_value}
use Rattle.behaviour_semantics.proofs.ClosedTargets.{opened_closed}
use Rattle.sort_terms.specs.ProfiledTerm.{ProfiledTerm}
use Rattle.step_taker.specs.declared.sides.Side.{Side}
use Rattle.step_taker.proofs.walks.+walking.Goals as goal

pub node_step-returns-in-Stop-clause-answer : goal.node_step-returns-in-Stop-clause-answer
node_step-returns-in-Stop-clause-answer g t c =
    λ place there. misfit_there (ground_of (g.D.Deciding.known_data c.args.data.now) (g.D.Deciding.canon c.args.data.now)
    c.args.walk.now.spec.now) (terms_of c.args.walk.now.leaves.now) place stop (shape_of c.args.shape.now) c.args.at (of_behaviour
    place (stands_for c.args.node.now) stop (shape_of c.args.shape.now) c.args.at (sym (ap stands_for c.in-Stop.is)) there)
    c.misfit.result
    (unfit_stop (setting_on (ground_of (g.D.Deciding.known_data c.args.data.now) (g.D.Deciding.canon c.args.data.now)
    c.args.walk.now.spec.now)) (terms_of c.args.walk.now.leaves.now) c.args.at.leaf c.args.shape.now) c.misfit.ensures

pub node_step-instance-requires : goal.node_step-instance-requires
node_step-instance-requires g t c =
    states_suit c.in-Part.environment.items (behaviour_of c.deref.result.now)
    (subst (λ (b : Beh). IsClosedBy c.in-Part.environment.items (behaviour_of b)) (sym c.deref.ensures) (subst (λ (node : Node).
    IsClosedNode node) c.in-Part.is c.requires.node.states))

pub node_step-returns-in_err-whole-in-Part-clause-answer : goal.node_step-returns-in_err-whole-in-Part-clause-answer
node_step-returns-in_err-whole-in-Part-clause-answer g t c =
    λ place there. memory_walked (ground_of (g.D.Deciding.known_data c.args.data.now) (g.D.Deciding.canon c.args.data.now)
    c.args.walk.now.spec.now) (terms_of c.args.walk.now.leaves.now) place c.from_residual.result c.from_residual.ensures.1

pub node_step-beh_step-requires : goal.node_step-beh_step-requires
node_step-beh_step-requires g t c κs within = (
  (level_less (shape_of c.args.shape.now) (stands_for c.args.node.now) (behaviour_of c.in_ok-whole-in-Part.whole) 3 2 _ (omega arith)
      (c.in_ok-whole-in-Part.ensures.same ∙ ap (λ (b : Beh). with_values (binding (environment_of c.in-Part.environment.items))
      (behaviour_of b)) c.deref.ensures ∙ sym (ap stands_for c.in-Part.is)) c.decreases),
  (
    search rules,
    (
      c.requires.walk,
      (record {
        closed = (subst (λ (b : Behaviour). IsClosedOn (ground_of (g.D.Deciding.known_data c.args.data.now) (g.D.Deciding.canon
            c.args.data.now) c.args.walk.now.spec.now) b) (sym (c.in_ok-whole-in-Part.ensures.same ∙ ap (λ (b : Beh). with_values
            (binding (environment_of c.in-Part.environment.items)) (behaviour_of b)) c.deref.ensures ∙ sym (ap stands_for c.in-Part.is)))
            c.requires.node.passable.closed);
        terms_of_signature = (instance_over (ground_of (g.D.Deciding.known_data c.args.data.now) (g.D.Deciding.canon c.args.data.now)
            c.args.walk.now.spec.now) c.in-Part.environment.items c.deref.result.now c.in_ok-whole-in-Part.whole
            c.in_ok-whole-in-Part.ensures.terms
            (subst (λ (b : Beh). AreTermsOf (g.D.Deciding.known_data c.args.data.now).signature (profiles_in b)) (sym c.deref.ensures)
            (first_terms (g.D.Deciding.known_data c.args.data.now).signature (profiles_in c.in-Part.behaviour.value) (map
            pair_profile c.in-Part.environment.items) (subst (AreTermsOf (g.D.Deciding.known_data c.args.data.now).signature) (ap
            node_profiles c.in-Part.is) c.requires.node.passable.terms_of_signature))) (second_terms (g.D.Deciding.known_data
            c.args.data.now).signature (profiles_in c.in-Part.behaviour.value) (map pair_profile c.in-Part.environment.items) (subst
            (AreTermsOf (g.D.Deciding.known_data c.args.data.now).signature) (ap node_profiles c.in-Part.is)
            c.requires.node.passable.terms_of_signature)));
      }),
    ),
  ),
)

pub node_step-returns-in_ok-whole-in-Part-clause-answer : goal.node_step-returns-in_ok-whole-in-Part-clause-answer
node_step-returns-in_ok-whole-in-Part-clause-answer g t c =
    λ place there. c.beh_step.ensures.answer place (of_behaviour place (stands_for c.args.node.now) (behaviour_of
    c.in_ok-whole-in-Part.whole) (shape_of c.args.shape.now) c.args.at (c.in_ok-whole-in-Part.ensures.same ∙ ap (λ (b : Beh).
    with_values (binding (environment_of c.in-Part.environment.items)) (behaviour_of b)) c.deref.ensures ∙ sym (ap stands_for
    c.in-Part.is)) there)

pub node_step-call_step-requires : goal.node_step-call_step-requires
node_step-call_step-requires g t c κs within = (
  (form_less (shape_of c.args.shape.now) (stands_for c.args.node.now) 3 _ (omega arith) c.decreases),
  (
    search rules,
    (
      c.requires.walk,
      (passable_as (ground_of (g.D.Deciding.known_data c.args.data.now) (g.D.Deciding.canon c.args.data.now) c.args.walk.now.spec.now)
          (stands_for c.args.node.now) (call c.in-Call.process c.in-Call.gates.items (terms_of c.in-Call.values.items)) (node_profiles
          c.args.node.now) (profiles_of c.in-Call.values.items) (ap stands_for c.in-Call.is) (ap node_profiles c.in-Call.is)
          c.requires.node.passable),
    ),
  ),
)

pub node_step-returns-in-Call-clause-answer : goal.node_step-returns-in-Call-clause-answer
node_step-returns-in-Call-clause-answer g t c =
    λ place there. c.call_step.ensures.answer place (of_behaviour place (stands_for c.args.node.now) (call c.in-Call.process
    c.in-Call.gates.items (terms_of c.in-Call.values.items)) (shape_of c.args.shape.now) c.args.at (sym (ap stands_for c.in-Call.is))
    there)

pub node_step-parallel_step-requires : goal.node_step-parallel_step-requires
node_step-parallel_step-requires g t c κs within = (
  (form_less (shape_of c.args.shape.now) (stands_for c.args.node.now) 3 _ (omega arith) c.decreases),
  (
    search rules,
    (
      c.requires.walk,
      (
        (passable_as (ground_of (g.D.Deciding.known_data c.args.data.now) (g.D.Deciding.canon c.args.data.now) c.args.walk.now.spec.now)
            (stands_for c.args.node.now) (parallel (meet_of c.in-Parallel.meet) (stands_for c.in-Parallel.left.value) (stands_for
            c.in-Parallel.right.value)) (node_profiles c.args.node.now) ((node_profiles c.in-Parallel.left.value) ++
            (node_profiles c.in-Parallel.right.value)) ((ap stands_for c.in-Parallel.is) ∙ two_as (λ (l r : Node). (parallel
            (meet_of
            c.in-Parallel.meet) (stands_for l) (stands_for r))) _ _ _ _ (sym (refl {a = c.in-Parallel.left.value})) (sym
            (refl {a = c.in-Parallel.right.value}))) ((ap node_profiles c.in-Parallel.is) ∙ two_as (λ (l r : Node). node_profiles l ++
            node_profiles
            r) _ _ _ _ (sym (refl {a = c.in-Parallel.left.value})) (sym (refl {a = c.in-Parallel.right.value}))) c.requires.node.passable),
        (
          (subst (λ (node :
              Node). IsClosedNode node) (sym (refl {a = c.in-Parallel.left.value})) (subst (λ (node : Node). IsClosedNode node)
              c.in-Parallel.is
              c.requires.node.states).0),
          (subst (λ (node : Node). IsClosedNode node) (sym (refl {a = c.in-Parallel.right.value})) (subst (λ (node :
              Node). IsClosedNode node) c.in-Parallel.is c.requires.node.states).1),
        ),
      ),
    ),
  ),
)

pub node_step-returns-in-Parallel-clause-answer : goal.node_step-returns-in-Parallel-clause-answer
node_step-returns-in-Parallel-clause-answer g t c =
    λ place there. c.parallel_step.ensures.answer place (of_behaviour place (stands_for c.args.node.now) (parallel (meet_of
    c.in-Parallel.meet) (stands_for c.in-Parallel.left.value) (stands_for c.in-Parallel.right.value)) (shape_of
    c.args.shape.now) c.args.at (sym ((ap stands_for c.in-Parallel.is) ∙ two_as (λ (l r : Node). (parallel (meet_of
    c.in-Parallel.meet) (stands_for l) (stands_for r))) _ _ _ _ (sym (refl {a = c.in-Parallel.left.value})) (sym
    (refl {a = c.in-Parallel.right.value})))) there)

pub node_step-disable_step-requires : goal.node_step-disable_step-requires
node_step-disable_step-requires g t c κs within = (
  (form_less (shape_of c.args.shape.now) (stands_for c.args.node.now) 3 _ (omega arith) c.decreases),
  (
    search rules,
    (
      c.requires.walk,
      (
        (passable_as (ground_of (g.D.Deciding.known_data c.args.data.now) (g.D.Deciding.canon c.args.data.now) c.args.walk.now.spec.now)
            (stands_for c.args.node.now) (disable (stands_for c.in-Disable.left.value) (stands_for
            c.in-Disable.right.value))
            (node_profiles c.args.node.now) ((node_profiles c.in-Disable.left.value) ++ (node_profiles
            c.in-Disable.right.value)) ((ap stands_for c.in-Disable.is) ∙ two_as (λ (l r : Node). (disable (stands_for l)
            (stands_for
            r))) _ _ _ _ (sym (refl {a = c.in-Disable.left.value})) (sym (refl {a = c.in-Disable.right.value}))) ((ap node_profiles
            c.in-Disable.is) ∙
            two_as (λ
            (l r : Node). node_profiles l ++ node_profiles r) _ _ _ _ (sym (refl {a = c.in-Disable.left.value})) (sym
            (refl {a = c.in-Disable.right.value})))
            c.requires.node.passable),
        (
          (subst (λ (node : Node). IsClosedNode node) (sym (refl {a = c.in-Disable.left.value})) (subst (λ (node : Node).
              IsClosedNode node) c.in-Disable.is c.requires.node.states).0),
          (subst (λ (node : Node). IsClosedNode node) (sym
              (refl {a = c.in-Disable.right.value})) (subst (λ (node : Node). IsClosedNode node) c.in-Disable.is c.requires.node.states).1),
        ),
      ),
    ),
  ),
)

pub node_step-returns-in-Disable-clause-answer : goal.node_step-returns-in-Disable-clause-answer
node_step-returns-in-Disable-clause-answer g t c =
    λ place there. c.disable_step.ensures.answer place (of_behaviour place (stands_for c.args.node.now) (disable (stands_for
    c.in-Disable.left.value) (stands_for c.in-Disable.right.value)) (shape_of c.args.shape.now) c.args.at (sym ((ap
    stands_for c.in-Disable.is) ∙ two_as (λ (l r : Node). (disable (stands_for l) (stands_for r))) _ _ _ _ (sym
    (refl {a = c.in-Disable.left.value})) (sym (refl {a = c.in-Disable.right.value})))) there)

pub node_step-hide_step-requires : goal.node_step-hide_step-requires
node_step-hide_step-requires g t c κs within = (
  (form_less (shape_of c.args.shape.now) (stands_for c.args.node.now) 3 _ (omega arith) c.decreases),
  (
    search rules,
    (
      c.requires.walk,
      (
        (passable_as (ground_of (g.D.Deciding.known_data c.args.data.now) (g.D.Deciding.canon c.args.data.now) c.args.walk.now.spec.now)
            (stands_for c.args.node.now) (hide c.in-Hide.gates.items (stands_for c.in-Hide.inner.value)) (node_profiles
            c.args.node.now)
            (node_profiles c.in-Hide.inner.value) ((ap stands_for c.in-Hide.is) ∙ ap (λ (n : Node). hide c.in-Hide.gates.items
            (stands_for n)) (sym (refl {a = c.in-Hide.inner.value}))) ((ap node_profiles c.in-Hide.is) ∙ ap node_profiles (sym
            (refl {a = c.in-Hide.inner.value})))
            c.requires.node.passable),
        (subst (λ (node : Node). IsClosedNode node) (sym (refl {a = c.in-Hide.inner.value})) (subst (λ (node : Node).
            IsClosedNode node) c.in-Hide.is c.requires.node.states)),
      ),
    ),
  ),
)

pub node_step-returns-in-Hide-clause-answer : goal.node_step-returns-in-Hide-clause-answer
node_step-returns-in-Hide-clause-answer g t c =
    λ place there. c.hide_step.ensures.answer place (of_behaviour place (stands_for c.args.node.now) (hide c.in-Hide.gates.items
    (stands_for c.in-Hide.inner.value)) (shape_of c.args.shape.now) c.args.at (sym ((ap stands_for c.in-Hide.is) ∙ ap (λ (n :
    Node). hide c.in-Hide.gates.items (stands_for n)) (sym (refl {a = c.in-Hide.inner.value})))) there)

pub node_step-relabel_step-requires : goal.node_step-relabel_step-requires
node_step-relabel_step-requires g t c κs within = (
  (form_less (shape_of c.args.shape.now) (stands_for c.args.node.now) 3 _ (omega arith) c.decreases),
  (
    search rules,
    (
      c.requires.walk,
      (
        (passable_as (ground_of (g.D.Deciding.known_data c.args.data.now) (g.D.Deciding.canon c.args.data.now) c.args.walk.now.spec.now)
            (stands_for c.args.node.now) (relabel c.in-Relabel.pairs.items (stands_for c.deref-in-Relabel.result.now)) (node_profiles
            c.args.node.now) (node_profiles c.deref-in-Relabel.result.now) ((ap stands_for c.in-Relabel.is) ∙ ap (λ (n : Node). relabel
            c.in-Relabel.pairs.items (stands_for n)) (sym c.deref-in-Relabel.ensures)) ((ap node_profiles c.in-Relabel.is) ∙ ap
            node_profiles
            (sym c.deref-in-Relabel.ensures)) c.requires.node.passable),
        (subst (λ (node : Node). IsClosedNode node) (sym
            c.deref-in-Relabel.ensures) (subst (λ (node : Node). IsClosedNode node) c.in-Relabel.is c.requires.node.states).1),
      ),
    ),
  ),
)

pub node_step-returns-in-Relabel-clause-answer : goal.node_step-returns-in-Relabel-clause-answer
node_step-returns-in-Relabel-clause-answer g t c =
    λ place there. c.relabel_step.ensures.answer place (of_behaviour place (stands_for c.args.node.now) (relabel c.in-Relabel.pairs.items
    (stands_for c.deref-in-Relabel.result.now)) (shape_of c.args.shape.now) c.args.at (sym ((ap stands_for c.in-Relabel.is) ∙ ap (λ
    (n : Node). relabel c.in-Relabel.pairs.items (stands_for n)) (sym c.deref-in-Relabel.ensures))) there)

pub node_step-enable_step-requires : goal.node_step-enable_step-requires
node_step-enable_step-requires g t c κs within = (
  (form_less (shape_of c.args.shape.now) (stands_for c.args.node.now) 3 _ (omega arith) c.decreases),
  (
    search rules,
    (
      c.requires.walk,
      (
        (passable_as (ground_of (g.D.Deciding.known_data c.args.data.now) (g.D.Deciding.canon c.args.data.now) c.args.walk.now.spec.now)
            (stands_for c.args.node.now) (enable (stands_for c.in-Enable.left.value) (variables_of c.in-Enable.variables.items)
            (with_values (without (numbers_of (variables_of c.in-Enable.variables.items)) (binding (environment_of
            c.in-Enable.environment.items))) (behaviour_of c.in-Enable.right.value))) (node_profiles c.args.node.now)
            ((node_profiles c.in-Enable.left.value) ++ (profiles_in c.in-Enable.right.value ++ (map pair_profile
            c.in-Enable.environment.items))) ((ap stands_for c.in-Enable.is) ∙ ap (λ (l : Node). enable (stands_for l) (variables_of
            c.in-Enable.variables.items) (with_values (without (numbers_of (variables_of c.in-Enable.variables.items)) (binding
            (environment_of c.in-Enable.environment.items))) (behaviour_of c.in-Enable.right.value))) (sym (refl {a =
            c.in-Enable.left.value}))
            ∙ ap (λ (r : Beh). enable (stands_for c.in-Enable.left.value) (variables_of c.in-Enable.variables.items) (with_values
            (without (numbers_of (variables_of c.in-Enable.variables.items)) (binding (environment_of
            c.in-Enable.environment.items))) (behaviour_of r))) (sym (refl {a = c.in-Enable.right.value}))) ((ap node_profiles
            c.in-Enable.is) ∙
            append_assoc (node_profiles c.in-Enable.left.value) (profiles_in c.in-Enable.right.value) (map pair_profile
            c.in-Enable.environment.items)
            ∙ ap (λ (l : Node). node_profiles l ++ (profiles_in c.in-Enable.right.value ++ (map pair_profile
            c.in-Enable.environment.items))) (sym (refl {a = c.in-Enable.left.value}))
            ∙ ap (λ (r : Beh). (node_profiles c.in-Enable.left.value) ++ (profiles_in r ++ (map pair_profile
            c.in-Enable.environment.items))) (sym (refl {a = c.in-Enable.right.value}))) c.requires.node.passable),
        (
          (subst (λ (node : Node). IsClosedNode node) (sym (refl {a = c.in-Enable.left.value})) (subst (λ (node : Node). IsClosedNode node)
              c.in-Enable.is c.requires.node.states).0),
          subst (λ (b : Beh). IsClosedUnder (variables_of c.in-Enable.variables.items)
              c.in-Enable.environment.items (behaviour_of b)) (sym (refl {a = c.in-Enable.right.value})) (subst (λ (node : Node).
              IsClosedNode node)
              c.in-Enable.is c.requires.node.states).1,
        ),
      ),
    ),
  ),
)

pub node_step-returns-in-Enable-clause-answer : goal.node_step-returns-in-Enable-clause-answer
node_step-returns-in-Enable-clause-answer g t c =
    λ place there. c.enable_step.ensures.answer place (of_behaviour place (stands_for c.args.node.now) (enable (stands_for
    c.in-Enable.left.value) (variables_of c.in-Enable.variables.items) (with_values (without (numbers_of (variables_of
    c.in-Enable.variables.items)) (binding (environment_of c.in-Enable.environment.items))) (behaviour_of
    c.in-Enable.right.value))) (shape_of c.args.shape.now) c.args.at (sym ((ap stands_for c.in-Enable.is) ∙ ap (λ (l : Node).
    enable (stands_for l) (variables_of c.in-Enable.variables.items) (with_values (without (numbers_of (variables_of
    c.in-Enable.variables.items)) (binding (environment_of c.in-Enable.environment.items))) (behaviour_of c.in-Enable.right.value)))
    (sym (refl {a = c.in-Enable.left.value}))
    ∙ ap (λ (r : Beh). enable (stands_for c.in-Enable.left.value) (variables_of c.in-Enable.variables.items) (with_values
    (without (numbers_of (variables_of c.in-Enable.variables.items)) (binding (environment_of c.in-Enable.environment.items)))
    (behaviour_of r))) (sym (refl {a = c.in-Enable.right.value})))) there)

pub side_step-beh_step-requires : goal.side_step-beh_step-requires
side_step-beh_step-requires g t c κs within = (
  (level_less (shape_of c.args.shape.now) (side_of c.args.side.now) _ 4 2 _ (omega arith) (sym (ap side_of c.in-Closed.is ∙ ap
      behaviour_of (sym c.deref.ensures)))
      c.decreases),
  (
    search rules,
    (
      c.requires.walk,
      (passable_as (ground_of (g.D.Deciding.known_data c.args.data.now)
          (g.D.Deciding.canon c.args.data.now) c.args.walk.now.spec.now) (side_of c.args.side.now) _ (side_profiles c.args.side.now)
          _ (ap side_of c.in-Closed.is ∙ ap behaviour_of (sym c.deref.ensures))
          (ap side_profiles c.in-Closed.is ∙ ap profiles_in (sym c.deref.ensures)) c.requires.side.passable),
    ),
  ),
)

pub side_step-returns-in-Closed-clause-answer : goal.side_step-returns-in-Closed-clause-answer
side_step-returns-in-Closed-clause-answer g t c =
    λ place there. c.beh_step.ensures.answer place (of_behaviour place (side_of c.args.side.now) _ (shape_of c.args.shape.now) c.args.at
    (sym (ap side_of c.in-Closed.is ∙ ap behaviour_of (sym c.deref.ensures))) there)

pub side_step-node_step-requires : goal.side_step-node_step-requires
side_step-node_step-requires g t c κs within = (
  (level_less (shape_of c.args.shape.now) (side_of c.args.side.now) _ 4 3 _ (omega arith) (sym (ap side_of c.in-Standing.is ∙ ap
      stands_for (sym c.deref-in-Standing.ensures)))
      c.decreases),
  (
    search rules,
    (
      c.requires.walk,
      (record {
        passable = (passable_as (ground_of (g.D.Deciding.known_data
            c.args.data.now) (g.D.Deciding.canon c.args.data.now) c.args.walk.now.spec.now) (side_of c.args.side.now) _ (side_profiles
            c.args.side.now) _ (ap side_of c.in-Standing.is ∙ ap stands_for (sym c.deref-in-Standing.ensures))
            (ap side_profiles c.in-Standing.is ∙ ap node_profiles (sym c.deref-in-Standing.ensures)) c.requires.side.passable);
        states = subst (λ (node : Node). IsClosedNode node) (sym c.deref-in-Standing.ensures)
            (subst (λ (side : Side). IsSideState side) c.in-Standing.is c.requires.side.states);
      }),
    ),
  ),
)

pub side_step-returns-in-Standing-clause-answer : goal.side_step-returns-in-Standing-clause-answer
side_step-returns-in-Standing-clause-answer g t c =
    λ place there. c.node_step.ensures.answer place (of_behaviour place (side_of c.args.side.now) _ (shape_of c.args.shape.now) c.args.at
    (sym (ap side_of c.in-Standing.is ∙ ap stands_for (sym c.deref-in-Standing.ensures))) there)

pub beh_step-returns-in-Stop-clause-answer : goal.beh_step-returns-in-Stop-clause-answer
beh_step-returns-in-Stop-clause-answer g t c =
    λ place there. misfit_there (ground_of (g.D.Deciding.known_data c.args.data.now) (g.D.Deciding.canon c.args.data.now)
    c.args.walk.now.spec.now) (terms_of c.args.walk.now.leaves.now) place stop (shape_of c.args.shape.now) c.args.at (of_behaviour
    place (behaviour_of c.args.behaviour.now) stop (shape_of c.args.shape.now) c.args.at (sym (ap behaviour_of c.in-Stop.is)) there)
    c.misfit.result
    (unfit_stop (setting_on (ground_of (g.D.Deciding.known_data c.args.data.now) (g.D.Deciding.canon c.args.data.now)
    c.args.walk.now.spec.now)) (terms_of c.args.walk.now.leaves.now) c.args.at.leaf c.args.shape.now) c.misfit.ensures

pub beh_step-exit_step-requires-clause-walk : goal.beh_step-exit_step-requires-clause-walk
beh_step-exit_step-requires-clause-walk g t c =
    c.requires.walk

pub beh_step-exit_step-requires-clause-part : goal.beh_step-exit_step-requires-clause-part
beh_step-exit_step-requires-clause-part g t c =
    (passable_as (ground_of (g.D.Deciding.known_data c.args.data.now) (g.D.Deciding.canon c.args.data.now) c.args.walk.now.spec.now)
    (behaviour_of c.args.behaviour.now) (exit_with (map exit_value_of c.in-Exit.values.items)) (profiles_in c.args.behaviour.now)
    (joined (map exit_profiles c.in-Exit.values.items)) (ap behaviour_of c.in-Exit.is) (ap profiles_in c.in-Exit.is) c.requires.part)

pub beh_step-returns-in-Exit-clause-answer : goal.beh_step-returns-in-Exit-clause-answer
beh_step-returns-in-Exit-clause-answer g t c =
    λ place there. c.exit_step.ensures.answer place (of_behaviour place (behaviour_of c.args.behaviour.now) (exit_with (map exit_value_of
    c.in-Exit.values.items)) (shape_of c.args.shape.now) c.args.at (sym (ap behaviour_of c.in-Exit.is)) there)

pub beh_step-action_step-requires-clause-walk : goal.beh_step-action_step-requires-clause-walk
beh_step-action_step-requires-clause-walk g t c =
    c.requires.walk

pub beh_step-action_step-requires-clause-part : goal.beh_step-action_step-requires-clause-part
beh_step-action_step-requires-clause-part g t c =
    (passable_as (ground_of (g.D.Deciding.known_data c.args.data.now) (g.D.Deciding.canon c.args.data.now) c.args.walk.now.spec.now)
    (behaviour_of c.args.behaviour.now) (action c.in-Action.gate (map offer_of c.in-Action.offers.items) (option_map test_of
    c.in-Action.test) (behaviour_of c.in-Action.next.value)) (profiles_in c.args.behaviour.now) ((joined (map offer_profiles
    c.in-Action.offers.items) ++ option_profiles c.in-Action.test) ++ (profiles_in c.in-Action.next.value)) ((ap behaviour_of
    c.in-Action.is) ∙ ap (λ (x : Beh). (action c.in-Action.gate (map offer_of c.in-Action.offers.items) (option_map test_of
    c.in-Action.test) (behaviour_of x))) (sym (refl {a = c.in-Action.next.value}))) ((ap profiles_in c.in-Action.is) ∙ ap (λ (x : Beh).
    ((joined (map
    offer_profiles c.in-Action.offers.items) ++ option_profiles c.in-Action.test) ++ (profiles_in x))) (sym (refl {a =
    c.in-Action.next.value})))
    c.requires.part)

pub beh_step-returns-in-Action-clause-answer : goal.beh_step-returns-in-Action-clause-answer
beh_step-returns-in-Action-clause-answer g t c =
    λ place there. c.action_step.ensures.answer place (of_behaviour place (behaviour_of c.args.behaviour.now) (action c.in-Action.gate
    (map offer_of c.in-Action.offers.items) (option_map test_of c.in-Action.test) (behaviour_of c.in-Action.next.value)) (shape_of
    c.args.shape.now) c.args.at (sym ((ap behaviour_of c.in-Action.is) ∙ ap (λ (x : Beh). (action c.in-Action.gate (map offer_of
    c.in-Action.offers.items) (option_map test_of c.in-Action.test) (behaviour_of x))) (sym (refl {a = c.in-Action.next.value})))) there)

pub beh_step-returns-in-Inner-clause-answer : goal.beh_step-returns-in-Inner-clause-answer
beh_step-returns-in-Inner-clause-answer g t c =
    λ place there. c.inner_step.ensures (ground_of (g.D.Deciding.known_data c.args.data.now) (g.D.Deciding.canon c.args.data.now)
    c.args.walk.now.spec.now) (terms_of c.args.walk.now.leaves.now) place (passable_as (ground_of (g.D.Deciding.known_data
    c.args.data.now) (g.D.Deciding.canon c.args.data.now) c.args.walk.now.spec.now) (behaviour_of c.args.behaviour.now) (inner_action
    (behaviour_of c.in-Inner.next.value)) (profiles_in c.args.behaviour.now) (profiles_in c.in-Inner.next.value) ((ap
    behaviour_of c.in-Inner.is) ∙ ap (λ (x : Beh). (inner_action (behaviour_of x))) (sym (refl {a = c.in-Inner.next.value}))) ((ap
    profiles_in
    c.in-Inner.is) ∙ ap (λ (x : Beh). (profiles_in x)) (sym (refl {a = c.in-Inner.next.value}))) c.requires.part) (of_behaviour place
    (behaviour_of c.args.behaviour.now) (inner_action (behaviour_of c.in-Inner.next.value)) (shape_of c.args.shape.now)
    c.args.at (sym ((ap behaviour_of c.in-Inner.is) ∙ ap (λ (x : Beh). (inner_action (behaviour_of x))) (sym
    (refl {a = c.in-Inner.next.value})))) there)

pub beh_step-guard_step-requires : goal.beh_step-guard_step-requires
beh_step-guard_step-requires g t c κs within = (
  (form_less (shape_of c.args.shape.now) (behaviour_of c.args.behaviour.now) 2 _ (omega arith) c.decreases),
  (
    search rules,
    (
      c.requires.walk,
      (passable_as (ground_of (g.D.Deciding.known_data c.args.data.now) (g.D.Deciding.canon c.args.data.now)
          c.args.walk.now.spec.now) (behaviour_of c.args.behaviour.now) (guard (test_of c.in-Guard.test) (behaviour_of
          c.deref.result.now)) (profiles_in c.args.behaviour.now) (test_profiles c.in-Guard.test ++ (profiles_in
          c.deref.result.now)) ((ap behaviour_of c.in-Guard.is) ∙ ap (λ (x : Beh). (guard (test_of c.in-Guard.test)
          (behaviour_of
          x))) (sym c.deref.ensures)) ((ap profiles_in c.in-Guard.is) ∙ ap (λ (x : Beh). (test_profiles c.in-Guard.test ++
          (profiles_in x))) (sym c.deref.ensures)) c.requires.part),
    ),
  ),
)

pub beh_step-returns-in-Guard-clause-answer : goal.beh_step-returns-in-Guard-clause-answer
beh_step-returns-in-Guard-clause-answer g t c =
    λ place there. c.guard_step.ensures.answer place (of_behaviour place (behaviour_of c.args.behaviour.now) (guard (test_of
    c.in-Guard.test) (behaviour_of c.deref.result.now)) (shape_of c.args.shape.now) c.args.at (sym ((ap behaviour_of
    c.in-Guard.is) ∙ ap (λ (x : Beh). (guard (test_of c.in-Guard.test) (behaviour_of x))) (sym c.deref.ensures))) there)

pub beh_step-choice_step-requires : goal.beh_step-choice_step-requires
beh_step-choice_step-requires g t c κs within = (
  (form_less (shape_of c.args.shape.now) (behaviour_of c.args.behaviour.now) 2 _ (omega arith) c.decreases),
  (
    search rules,
    (
      c.requires.walk,
      (passable_as (ground_of (g.D.Deciding.known_data c.args.data.now) (g.D.Deciding.canon c.args.data.now)
          c.args.walk.now.spec.now) (behaviour_of c.args.behaviour.now) (choice (behaviour_of c.deref-in-Choice.result.now) (behaviour_of
          c.deref-in-Choice-2.result.now)) (profiles_in c.args.behaviour.now) ((profiles_in c.deref-in-Choice.result.now) ++ (profiles_in
          c.deref-in-Choice-2.result.now)) ((ap behaviour_of c.in-Choice.is) ∙ two_as (λ (l r : Beh). (choice (behaviour_of l)
          (behaviour_of r))) _ _ _ _ (sym c.deref-in-Choice.ensures) (sym c.deref-in-Choice-2.ensures)) ((ap profiles_in
          c.in-Choice.is) ∙
          two_as (λ (l r : Beh). profiles_in l ++ profiles_in r) _ _ _ _ (sym c.deref-in-Choice.ensures) (sym
          c.deref-in-Choice-2.ensures))
          c.requires.part),
    ),
  ),
)

pub beh_step-returns-in-Choice-clause-answer : goal.beh_step-returns-in-Choice-clause-answer
beh_step-returns-in-Choice-clause-answer g t c =
    λ place there. c.choice_step.ensures.answer place (of_behaviour place (behaviour_of c.args.behaviour.now) (choice (behaviour_of
    c.deref-in-Choice.result.now) (behaviour_of c.deref-in-Choice-2.result.now)) (shape_of c.args.shape.now) c.args.at (sym ((ap
    behaviour_of c.in-Choice.is) ∙ two_as (λ (l r : Beh). (choice (behaviour_of l) (behaviour_of r))) _ _ _ _ (sym
    c.deref-in-Choice.ensures) (sym c.deref-in-Choice-2.ensures))) there)

pub beh_step-parallel_step-requires : goal.beh_step-parallel_step-requires
beh_step-parallel_step-requires g t c κs within = (
  (form_less (shape_of c.args.shape.now) (behaviour_of c.args.behaviour.now) 2 _ (omega arith) c.decreases),
  (
    search rules,
    (
      c.requires.walk,
      (
        (passable_as (ground_of (g.D.Deciding.known_data c.args.data.now) (g.D.Deciding.canon c.args.data.now)
            c.args.walk.now.spec.now) (behaviour_of c.args.behaviour.now) (parallel (meet_of c.in-Parallel.meet) (behaviour_of
            c.in-Parallel.left.value) (behaviour_of c.in-Parallel.right.value)) (profiles_in c.args.behaviour.now)
            ((profiles_in
            c.in-Parallel.left.value) ++ (profiles_in c.in-Parallel.right.value)) ((ap behaviour_of c.in-Parallel.is) ∙
            two_as
            (λ (l r : Beh). (parallel (meet_of c.in-Parallel.meet) (behaviour_of l) (behaviour_of r))) _ _ _ _ (sym
            (refl {a = c.in-Parallel.left.value})) (sym (refl {a = c.in-Parallel.right.value}))) ((ap profiles_in c.in-Parallel.is) ∙
            two_as (λ (l r : Beh).
            profiles_in l ++ profiles_in r) _ _ _ _ (sym (refl {a = c.in-Parallel.left.value})) (sym (refl {a =
            c.in-Parallel.right.value})))
            c.requires.part),
        (tt, tt),
      ),
    ),
  ),
)

pub beh_step-returns-in-Parallel-clause-answer : goal.beh_step-returns-in-Parallel-clause-answer
beh_step-returns-in-Parallel-clause-answer g t c =
    λ place there. c.parallel_step.ensures.answer place (of_behaviour place (behaviour_of c.args.behaviour.now) (parallel (meet_of
    c.in-Parallel.meet) (behaviour_of c.in-Parallel.left.value) (behaviour_of c.in-Parallel.right.value)) (shape_of
    c.args.shape.now) c.args.at (sym ((ap behaviour_of c.in-Parallel.is) ∙ two_as (λ (l r : Beh). (parallel (meet_of
    c.in-Parallel.meet) (behaviour_of l) (behaviour_of r))) _ _ _ _ (sym (refl {a = c.in-Parallel.left.value})) (sym
    (refl {a = c.in-Parallel.right.value})))) there)

pub beh_step-hide_step-requires : goal.beh_step-hide_step-requires
beh_step-hide_step-requires g t c κs within = (
  (form_less (shape_of c.args.shape.now) (behaviour_of c.args.behaviour.now) 2 _ (omega arith) c.decreases),
  (
    search rules,
    (
      c.requires.walk,
      (
        (passable_as (ground_of (g.D.Deciding.known_data c.args.data.now) (g.D.Deciding.canon c.args.data.now)
            c.args.walk.now.spec.now) (behaviour_of c.args.behaviour.now) (hide c.in-Hide.gates.items (behaviour_of
            c.in-Hide.next.value)) (profiles_in c.args.behaviour.now) (profiles_in c.in-Hide.next.value) ((ap behaviour_of
            c.in-Hide.is) ∙ ap (λ (x : Beh). (hide c.in-Hide.gates.items (behaviour_of x))) (sym (refl {a = c.in-Hide.next.value}))) ((ap
            profiles_in
            c.in-Hide.is) ∙ ap (λ (x : Beh). (profiles_in x)) (sym (refl {a = c.in-Hide.next.value}))) c.requires.part),
        tt,
      ),
    ),
  ),
)

pub beh_step-returns-in-Hide-clause-answer : goal.beh_step-returns-in-Hide-clause-answer
beh_step-returns-in-Hide-clause-answer g t c =
    λ place there. c.hide_step.ensures.answer place (of_behaviour place (behaviour_of c.args.behaviour.now) (hide c.in-Hide.gates.items
    (behaviour_of c.in-Hide.next.value)) (shape_of c.args.shape.now) c.args.at (sym ((ap behaviour_of c.in-Hide.is) ∙ ap (λ (x
    : Beh). (hide c.in-Hide.gates.items (behaviour_of x))) (sym (refl {a = c.in-Hide.next.value})))) there)

pub beh_step-disable_step-requires : goal.beh_step-disable_step-requires
beh_step-disable_step-requires g t c κs within = (
  (form_less (shape_of c.args.shape.now) (behaviour_of c.args.behaviour.now) 2 _ (omega arith) c.decreases),
  (
    search rules,
    (
      c.requires.walk,
      (
        (passable_as (ground_of (g.D.Deciding.known_data c.args.data.now) (g.D.Deciding.canon c.args.data.now)
            c.args.walk.now.spec.now) (behaviour_of c.args.behaviour.now) (disable (behaviour_of c.in-Disable.left.value)
            (behaviour_of
            c.in-Disable.right.value)) (profiles_in c.args.behaviour.now) ((profiles_in c.in-Disable.left.value) ++
            (profiles_in
            c.in-Disable.right.value)) ((ap behaviour_of c.in-Disable.is) ∙ two_as (λ (l r : Beh). (disable (behaviour_of l)
            (behaviour_of r))) _ _ _ _ (sym (refl {a = c.in-Disable.left.value})) (sym (refl {a = c.in-Disable.right.value}))) ((ap
            profiles_in
            c.in-Disable.is)
            ∙ two_as (λ (l r : Beh). profiles_in l ++ profiles_in r) _ _ _ _ (sym (refl {a = c.in-Disable.left.value})) (sym
            (refl {a = c.in-Disable.right.value}))) c.requires.part),
        (tt, tt),
      ),
    ),
  ),
)

pub beh_step-returns-in-Disable-clause-answer : goal.beh_step-returns-in-Disable-clause-answer
beh_step-returns-in-Disable-clause-answer g t c =
    λ place there. c.disable_step.ensures.answer place (of_behaviour place (behaviour_of c.args.behaviour.now) (disable (behaviour_of
    c.in-Disable.left.value) (behaviour_of c.in-Disable.right.value)) (shape_of c.args.shape.now) c.args.at (sym ((ap
    behaviour_of c.in-Disable.is) ∙ two_as (λ (l r : Beh). (disable (behaviour_of l) (behaviour_of r))) _ _ _ _ (sym
    (refl {a = c.in-Disable.left.value})) (sym (refl {a = c.in-Disable.right.value})))) there)

pub beh_step-let_step-requires : goal.beh_step-let_step-requires
beh_step-let_step-requires g t c κs within = (
  (form_less (shape_of c.args.shape.now) (behaviour_of c.args.behaviour.now) 2 _ (omega arith) c.decreases),
  (
    search rules,
    (
      c.requires.walk,
      (passable_as (ground_of (g.D.Deciding.known_data c.args.data.now) (g.D.Deciding.canon c.args.data.now)
          c.args.walk.now.spec.now) (behaviour_of c.args.behaviour.now) (let_be (map let_of c.in-Let.bindings.items) (behaviour_of
          c.deref-in-Let.result.now)) (profiles_in c.args.behaviour.now) (map let_profile c.in-Let.bindings.items ++ (profiles_in
          c.deref-in-Let.result.now)) ((ap behaviour_of c.in-Let.is) ∙ ap (λ (x : Beh). (let_be (map let_of c.in-Let.bindings.items)
          (behaviour_of x))) (sym c.deref-in-Let.ensures)) ((ap profiles_in c.in-Let.is) ∙ ap (λ (x : Beh). (map let_profile
          c.in-Let.bindings.items ++ (profiles_in x))) (sym c.deref-in-Let.ensures)) c.requires.part),
    ),
  ),
)

pub beh_step-returns-in-Let-clause-answer : goal.beh_step-returns-in-Let-clause-answer
beh_step-returns-in-Let-clause-answer g t c =
    λ place there. c.let_step.ensures.answer place (of_behaviour place (behaviour_of c.args.behaviour.now) (let_be (map let_of
    c.in-Let.bindings.items) (behaviour_of c.deref-in-Let.result.now)) (shape_of c.args.shape.now) c.args.at (sym ((ap behaviour_of
    c.in-Let.is) ∙ ap (λ (x : Beh). (let_be (map let_of c.in-Let.bindings.items) (behaviour_of x))) (sym c.deref-in-Let.ensures)))
    there)

pub beh_step-value_step-requires : goal.beh_step-value_step-requires
beh_step-value_step-requires g t c κs within = (
  (form_less (shape_of c.args.shape.now) (behaviour_of c.args.behaviour.now) 2 _ (omega arith) c.decreases),
  (
    search rules,
    (
      c.requires.walk,
      (passable_as (ground_of (g.D.Deciding.known_data c.args.data.now) (g.D.Deciding.canon c.args.data.now)
          c.args.walk.now.spec.now) (behaviour_of c.args.behaviour.now) (choose_value (variable_of c.in-ChooseValue.variable)
          (behaviour_of
          c.deref-in-ChooseValue.result.now)) (profiles_in c.args.behaviour.now) (profiles_in c.deref-in-ChooseValue.result.now) ((ap
          behaviour_of c.in-ChooseValue.is) ∙ ap (λ (x : Beh). (choose_value (variable_of c.in-ChooseValue.variable) (behaviour_of x)))
          (sym c.deref-in-ChooseValue.ensures)) ((ap profiles_in c.in-ChooseValue.is) ∙ ap (λ (x : Beh). (profiles_in x)) (sym
          c.deref-in-ChooseValue.ensures)) c.requires.part),
    ),
  ),
)

pub beh_step-returns-in-ChooseValue-clause-answer : goal.beh_step-returns-in-ChooseValue-clause-answer
beh_step-returns-in-ChooseValue-clause-answer g t c =
    λ place there. c.value_step.ensures.answer place (of_behaviour place (behaviour_of c.args.behaviour.now) (choose_value (variable_of
    c.in-ChooseValue.variable) (behaviour_of c.deref-in-ChooseValue.result.now)) (shape_of c.args.shape.now) c.args.at (sym ((ap
    behaviour_of c.in-ChooseValue.is) ∙ ap (λ (x : Beh). (choose_value (variable_of c.in-ChooseValue.variable) (behaviour_of x)))
    (sym c.deref-in-ChooseValue.ensures))) there)

pub beh_step-gate_step-requires : goal.beh_step-gate_step-requires
beh_step-gate_step-requires g t c κs within = (
  (form_less (shape_of c.args.shape.now) (behaviour_of c.args.behaviour.now) 2 _ (omega arith) c.decreases),
  (
    search rules,
    (
      c.requires.walk,
      (passable_as (ground_of (g.D.Deciding.known_data c.args.data.now) (g.D.Deciding.canon c.args.data.now)
          c.args.walk.now.spec.now) (behaviour_of c.args.behaviour.now) (choose_gate c.in-ChooseGate.gate c.in-ChooseGate.gates.items
          (behaviour_of c.deref-in-ChooseGate.result.now)) (profiles_in c.args.behaviour.now) (profiles_in
          c.deref-in-ChooseGate.result.now) ((ap behaviour_of c.in-ChooseGate.is) ∙ ap (λ (x : Beh). (choose_gate c.in-ChooseGate.gate
          c.in-ChooseGate.gates.items (behaviour_of x))) (sym c.deref-in-ChooseGate.ensures)) ((ap profiles_in c.in-ChooseGate.is) ∙
          ap (λ
          (x : Beh). (profiles_in x)) (sym c.deref-in-ChooseGate.ensures)) c.requires.part),
    ),
  ),
)

pub beh_step-returns-in-ChooseGate-clause-answer : goal.beh_step-returns-in-ChooseGate-clause-answer
beh_step-returns-in-ChooseGate-clause-answer g t c =
    λ place there. c.gate_step.ensures.answer place (of_behaviour place (behaviour_of c.args.behaviour.now) (choose_gate
    c.in-ChooseGate.gate c.in-ChooseGate.gates.items (behaviour_of c.deref-in-ChooseGate.result.now)) (shape_of c.args.shape.now)
    c.args.at (sym ((ap behaviour_of c.in-ChooseGate.is) ∙ ap (λ (x : Beh). (choose_gate c.in-ChooseGate.gate
    c.in-ChooseGate.gates.items (behaviour_of x))) (sym c.deref-in-ChooseGate.ensures))) there)

pub beh_step-call_step-requires : goal.beh_step-call_step-requires
beh_step-call_step-requires g t c κs within = (
  (form_less (shape_of c.args.shape.now) (behaviour_of c.args.behaviour.now) 2 _ (omega arith) c.decreases),
  (
    search rules,
    (
      c.requires.walk,
      (passable_as (ground_of (g.D.Deciding.known_data c.args.data.now) (g.D.Deciding.canon c.args.data.now)
          c.args.walk.now.spec.now) (behaviour_of c.args.behaviour.now) (call c.in-Call.process c.in-Call.gates.items (terms_of
          c.in-Call.values.items)) (profiles_in c.args.behaviour.now) (profiles_of c.in-Call.values.items) (ap behaviour_of c.in-Call.is)
          (ap profiles_in c.in-Call.is) c.requires.part),
    ),
  ),
)

pub beh_step-returns-in-Call-clause-answer : goal.beh_step-returns-in-Call-clause-answer
beh_step-returns-in-Call-clause-answer g t c =
    λ place there. c.call_step.ensures.answer place (of_behaviour place (behaviour_of c.args.behaviour.now) (call c.in-Call.process
    c.in-Call.gates.items (terms_of c.in-Call.values.items)) (shape_of c.args.shape.now) c.args.at (sym (ap behaviour_of
    c.in-Call.is)) there)

pub beh_step-enable_step-requires : goal.beh_step-enable_step-requires
beh_step-enable_step-requires g t c κs within = (
  (form_less (shape_of c.args.shape.now) (behaviour_of c.args.behaviour.now) 2 _ (omega arith) c.decreases),
  (
    search rules,
    (
      c.requires.walk,
      (
        (passable_as (ground_of (g.D.Deciding.known_data c.args.data.now) (g.D.Deciding.canon c.args.data.now) c.args.walk.now.spec.now)
            (behaviour_of c.args.behaviour.now) (enable (behaviour_of c.in-Enable.left.value) (variables_of
            c.in-Enable.variables.items) (with_values (without (numbers_of (variables_of c.in-Enable.variables.items)) (binding
            (environment_of c.new-environment.result.items))) (behaviour_of c.in-Enable.right.value))) (profiles_in
            c.args.behaviour.now) ((profiles_in c.in-Enable.left.value) ++ ((profiles_in c.in-Enable.right.value) ++ (map
            pair_profile c.new-environment.result.items))) ((ap behaviour_of c.in-Enable.is) ∙ two_as (λ (l r : Beh). enable
            (behaviour_of l) (variables_of c.in-Enable.variables.items) (behaviour_of r)) _ _ _ _ (sym (refl {a =
            c.in-Enable.left.value})) (sym
            (refl {a = c.in-Enable.right.value}))
            ∙ ap (enable (behaviour_of c.in-Enable.left.value) (variables_of c.in-Enable.variables.items)) (sym (nothing_put
            (variables_of c.in-Enable.variables.items) c.new-environment.result.items (behaviour_of c.in-Enable.right.value)
            c.new-environment.ensures.items))) ((ap profiles_in c.in-Enable.is) ∙ two_as (λ (l r : Beh). profiles_in l ++ profiles_in
            r) _ _ _ _ (sym (refl {a = c.in-Enable.left.value})) (sym (refl {a = c.in-Enable.right.value}))
            ∙ ap (λ (ts : List ProfiledTerm). (profiles_in c.in-Enable.left.value) ++ ts) (sym (ap (λ (env : List (ℕ × Sorted)).
            (profiles_in c.in-Enable.right.value) ++ map pair_profile env) c.new-environment.ensures.items ∙ append-nil
            (profiles_in c.in-Enable.right.value)))) c.requires.part),
        (
          tt,
          closed_by_none (g.D.Deciding.known_data c.args.data.now).signature (specification_of c.args.walk.now.spec.now) (variables_of
              c.in-Enable.variables.items) c.new-environment.result.items (behaviour_of c.in-Enable.left.value) (behaviour_of
              c.in-Enable.right.value) c.new-environment.ensures.items
              (subst (λ (b : Behaviour). IsClosedOn (ground_of (g.D.Deciding.known_data c.args.data.now) (g.D.Deciding.canon
              c.args.data.now) c.args.walk.now.spec.now) b) ((ap behaviour_of c.in-Enable.is) ∙ two_as (λ (l r : Beh). enable
              (behaviour_of l) (variables_of c.in-Enable.variables.items) (behaviour_of r)) _ _ _ _ (sym (refl {a =
              c.in-Enable.left.value}))
              (sym (refl {a = c.in-Enable.right.value}))) c.requires.part.closed),
        ),
      ),
    ),
  ),
)

pub beh_step-returns-in-Enable-clause-answer : goal.beh_step-returns-in-Enable-clause-answer
beh_step-returns-in-Enable-clause-answer g t c =
    λ place there. c.enable_step.ensures.answer place (of_behaviour place (behaviour_of c.args.behaviour.now) (enable (behaviour_of
    c.in-Enable.left.value) (variables_of c.in-Enable.variables.items) (with_values (without (numbers_of (variables_of
    c.in-Enable.variables.items)) (binding (environment_of c.new-environment.result.items))) (behaviour_of
    c.in-Enable.right.value))) (shape_of c.args.shape.now) c.args.at (sym ((ap behaviour_of c.in-Enable.is) ∙ two_as (λ (l r :
    Beh). enable (behaviour_of l) (variables_of c.in-Enable.variables.items) (behaviour_of r)) _ _ _ _ (sym
    (refl {a = c.in-Enable.left.value})) (sym (refl {a = c.in-Enable.right.value}))
    ∙ ap (enable (behaviour_of c.in-Enable.left.value) (variables_of c.in-Enable.variables.items)) (sym (nothing_put
    (variables_of c.in-Enable.variables.items) c.new-environment.result.items (behaviour_of c.in-Enable.right.value)
    c.new-environment.ensures.items)))) there)

pub beh_step-returns-in_err-opened-in-ParGate-clause-answer : goal.beh_step-returns-in_err-opened-in-ParGate-clause-answer
beh_step-returns-in_err-opened-in-ParGate-clause-answer g t c =
    λ place there. memory_walked (ground_of (g.D.Deciding.known_data c.args.data.now) (g.D.Deciding.canon c.args.data.now)
    c.args.walk.now.spec.now) (terms_of c.args.walk.now.leaves.now) place c.from_residual.result c.from_residual.ensures.1

pub beh_step-node_step-requires : goal.beh_step-node_step-requires
beh_step-node_step-requires g t c κs within = (
  (opened_less (shape_of c.args.shape.now) (behaviour_of c.args.behaviour.now) (stands_for c.in_ok-opened-in-ParGate.opened)
      c.in-ParGate.gate c.in-ParGate.gates.items (meet_of c.in-ParGate.meet) (behaviour_of c.in-ParGate.next.value) 2 3 _ (omega
      arith) ((ap behaviour_of c.in-ParGate.is) ∙ ap (λ (x : Beh). (par_gate c.in-ParGate.gate c.in-ParGate.gates.items (meet_of
      c.in-ParGate.meet) (behaviour_of x))) (sym (refl {a = c.in-ParGate.next.value}))) c.in_ok-opened-in-ParGate.ensures.same c.decreases),
  (
    search rules,
    (
      c.requires.walk,
      (record {
        passable = (record {
          closed = (subst (λ (b : Behaviour). IsClosedOn (ground_of (g.D.Deciding.known_data c.args.data.now)
              (g.D.Deciding.canon c.args.data.now) c.args.walk.now.spec.now) b) (sym c.in_ok-opened-in-ParGate.ensures.same)
              (opened_closed
              (g.D.Deciding.known_data c.args.data.now) (specification_of c.args.walk.now.spec.now) c.requires.walk.over.well_formed
              (g.D.Deciding.canon c.args.data.now) (keeps_ground (ground_of (g.D.Deciding.known_data c.args.data.now) (g.D.Deciding.canon
              c.args.data.now) c.args.walk.now.spec.now) (g.met.D.Deciding.is_canon c.args.data.now)) (leaves_in []) (par_gate
              c.in-ParGate.gate c.in-ParGate.gates.items (meet_of c.in-ParGate.meet) (behaviour_of c.in-ParGate.next.value)) (subst
              (λ (b : Behaviour). IsClosedOn (ground_of (g.D.Deciding.known_data c.args.data.now) (g.D.Deciding.canon c.args.data.now)
              c.args.walk.now.spec.now) b) ((ap behaviour_of c.in-ParGate.is) ∙ ap (λ (x : Beh). (par_gate c.in-ParGate.gate
              c.in-ParGate.gates.items (meet_of c.in-ParGate.meet) (behaviour_of x))) (sym (refl {a = c.in-ParGate.next.value})))
              c.requires.part.closed)));
          terms_of_signature = c.in_ok-opened-in-ParGate.ensures.terms (g.D.Deciding.known_data
              c.args.data.now).signature (subst (AreTermsOf (g.D.Deciding.known_data c.args.data.now).signature) ((ap profiles_in
              c.in-ParGate.is) ∙ ap (λ (x : Beh). (profiles_in x)) (sym (refl {a = c.in-ParGate.next.value})))
              c.requires.part.terms_of_signature);
        });
        states = closed_state (g.D.Deciding.known_data c.args.data.now).signature (specification_of c.args.walk.now.spec.now)
            c.in_ok-opened-in-ParGate.opened (c.in_ok-opened-in-ParGate.ensures.closed_parts (g.D.Deciding.known_data
            c.args.data.now).signature (specification_of c.args.walk.now.spec.now) (subst (λ (b : Behaviour). IsClosedOn (ground_of
            (g.D.Deciding.known_data c.args.data.now) (g.D.Deciding.canon c.args.data.now) c.args.walk.now.spec.now) b) ((ap behaviour_of
            c.in-ParGate.is) ∙ ap (λ (x : Beh). (par_gate c.in-ParGate.gate c.in-ParGate.gates.items (meet_of c.in-ParGate.meet)
            (behaviour_of x))) (sym (refl {a = c.in-ParGate.next.value}))) c.requires.part.closed).4) (subst (λ (b : Behaviour). IsClosedOn
            (ground_of (g.D.Deciding.known_data c.args.data.now) (g.D.Deciding.canon c.args.data.now) c.args.walk.now.spec.now) b) (sym
            c.in_ok-opened-in-ParGate.ensures.same) (opened_closed (g.D.Deciding.known_data c.args.data.now) (specification_of
            c.args.walk.now.spec.now) c.requires.walk.over.well_formed (g.D.Deciding.canon c.args.data.now) (keeps_ground (ground_of
            (g.D.Deciding.known_data c.args.data.now) (g.D.Deciding.canon c.args.data.now) c.args.walk.now.spec.now)
            (g.met.D.Deciding.is_canon c.args.data.now)) (leaves_in []) (par_gate c.in-ParGate.gate c.in-ParGate.gates.items (meet_of
            c.in-ParGate.meet) (behaviour_of c.in-ParGate.next.value)) (subst (λ (b : Behaviour). IsClosedOn (ground_of
            (g.D.Deciding.known_data c.args.data.now) (g.D.Deciding.canon c.args.data.now) c.args.walk.now.spec.now) b) ((ap behaviour_of
            c.in-ParGate.is) ∙ ap (λ (x : Beh). (par_gate c.in-ParGate.gate c.in-ParGate.gates.items (meet_of c.in-ParGate.meet)
            (behaviour_of x))) (sym (refl {a = c.in-ParGate.next.value}))) c.requires.part.closed)));
      }),
    ),
  ),
)

pub beh_step-returns-in_ok-opened-in-ParGate-clause-answer : goal.beh_step-returns-in_ok-opened-in-ParGate-clause-answer
beh_step-returns-in_ok-opened-in-ParGate-clause-answer g t c =
    λ place there.
    there_walked (ground_of (g.D.Deciding.known_data c.args.data.now) (g.D.Deciding.canon c.args.data.now) c.args.walk.now.spec.now)
    (terms_of c.args.walk.now.leaves.now) place (par_gate c.in-ParGate.gate c.in-ParGate.gates.items (meet_of c.in-ParGate.meet)
    (behaviour_of c.in-ParGate.next.value)) (shape_of c.args.shape.now) c.args.at (of_behaviour place (behaviour_of
    c.args.behaviour.now) (par_gate c.in-ParGate.gate c.in-ParGate.gates.items (meet_of c.in-ParGate.meet) (behaviour_of
    c.in-ParGate.next.value)) (shape_of c.args.shape.now) c.args.at (sym ((ap behaviour_of c.in-ParGate.is) ∙ ap (λ (x : Beh).
    (par_gate c.in-ParGate.gate c.in-ParGate.gates.items (meet_of c.in-ParGate.meet) (behaviour_of x))) (sym
    (refl {a = c.in-ParGate.next.value})))) there) c.node_step.result
    (copies_walked (ground_of (g.D.Deciding.known_data c.args.data.now) (g.D.Deciding.canon c.args.data.now) c.args.walk.now.spec.now)
    (terms_of c.args.walk.now.leaves.now) c.in-ParGate.gate c.in-ParGate.gates.items (meet_of c.in-ParGate.meet) (behaviour_of
    c.in-ParGate.next.value) (shape_of c.args.shape.now) place.number c.args.at.leaf c.node_step.result
    (c.node_step.ensures.answer (stand (copies c.in-ParGate.gate c.in-ParGate.gates.items (meet_of c.in-ParGate.meet) (behaviour_of
    c.in-ParGate.next.value)) (shape_of c.args.shape.now) place.number c.args.at.leaf) (record {
      behaviour =
          c.in_ok-opened-in-ParGate.ensures.same;
      same_shape = refl;
      node = there.node;
      leaf = refl;
    })))

pub guard_step-returns-in_default : goal.guard_step-returns-in_default
guard_step-returns-in_default g t c =
    record {
      answer = λ place there. misfit_there (ground_of (g.D.Deciding.known_data c.args.data.now) (g.D.Deciding.canon c.args.data.now)
          c.args.walk.now.spec.now) (terms_of c.args.walk.now.leaves.now) place (guard (test_of c.args.test.now) (behaviour_of
          c.args.next.now)) (shape_of c.args.shape.now) c.args.at there c.misfit.result
          (unfit_guard (setting_on (ground_of (g.D.Deciding.known_data c.args.data.now) (g.D.Deciding.canon c.args.data.now)
          c.args.walk.now.spec.now)) (terms_of c.args.walk.now.leaves.now) c.args.at.leaf c.args.shape.now (test_of c.args.test.now)
          (behaviour_of c.args.next.now) (λ part is. c.in_default.not-Guarded part is)) c.misfit.ensures;
      same_known = keeps_itself;
    }

pub guard_step-checked_pair-requires-clause-left : goal.guard_step-checked_pair-requires-clause-left
guard_step-checked_pair-requires-clause-left g t c =
    (first_terms (g.D.Deciding.known_data c.args.data.now).signature (test_profiles c.args.test.now) (profiles_in c.args.next.now)
    c.requires.part.terms_of_signature).0

pub guard_step-checked_pair-requires-clause-right : goal.guard_step-checked_pair-requires-clause-right
guard_step-checked_pair-requires-clause-right g t c =
    (first_terms (g.D.Deciding.known_data c.args.data.now).signature (test_profiles c.args.test.now) (profiles_in c.args.next.now)
    c.requires.part.terms_of_signature).1.0

pub guard_step-returns-in_err-checked_pair-clause-answer : goal.guard_step-returns-in_err-checked_pair-clause-answer
guard_step-returns-in_err-checked_pair-clause-answer g t c =
    λ place there.
    refusal_walked (ground_of (g.D.Deciding.known_data c.args.data.now) (g.D.Deciding.canon c.args.data.now) c.args.walk.now.spec.now)
    (terms_of c.args.walk.now.leaves.now) place c.from_residual.result c.in_err-checked_pair.field-0.0 c.from_residual.ensures.1
    (there_refused (ground_of (g.D.Deciding.known_data c.args.data.now) (g.D.Deciding.canon c.args.data.now) c.args.walk.now.spec.now)
    (terms_of c.args.walk.now.leaves.now) place (guard (test_of c.args.test.now) (behaviour_of c.args.next.now)) (guarded (shape_of
    c.in-Guarded.inner.value)) c.args.at (of_shape place (guard (test_of c.args.test.now) (behaviour_of c.args.next.now)) (shape_of
    c.args.shape.now) (guarded (shape_of c.in-Guarded.inner.value)) c.args.at (sym (ap shape_of c.in-Guarded.is)) there)
    c.in_err-checked_pair.field-0.0
    (walked_own (ground_of (g.D.Deciding.known_data c.args.data.now) (g.D.Deciding.canon c.args.data.now) c.args.walk.now.spec.now)
    (terms_of c.args.walk.now.leaves.now) (stand (guard (test_of c.args.test.now) (behaviour_of c.args.next.now)) (guarded (shape_of
    c.in-Guarded.inner.value)) place.number c.args.at.leaf) (stand (behaviour_of c.args.next.now) (shape_of c.in-Guarded.inner.value)
    (suc place.number) c.args.at.leaf) _ (guard_row (setting_on (ground_of (g.D.Deciding.known_data c.args.data.now)
    (g.D.Deciding.canon c.args.data.now) c.args.walk.now.spec.now)) (terms_of c.args.walk.now.leaves.now) (shape_of
    c.in-Guarded.inner.value) place.number c.args.at.leaf (test_of c.args.test.now) (behaviour_of c.args.next.now))
    c.in_err-checked_pair.field-0.0 (c.in_err-checked_pair.ensures.checked place.number there.node)))

pub guard_step-beh_step-requires : goal.guard_step-beh_step-requires
guard_step-beh_step-requires g t c κs within = (
  (part_less (shape_of c.args.shape.now) (shape_of c.deref.result.now) (behaviour_of c.args.next.now) 2 _ (omega arith) (ap (λ (s :
      Shape). size (shape_of s)) c.in-Guarded.is ∙ ap (λ (s : Shape). suc (size (shape_of s))) (sym c.deref.ensures)) c.decreases),
  (
    search rules,
    (
      (holds_after (λ (d : Data) (f : Term → Term). IsStepWalk (ground_of d f c.args.walk.now.spec.now)
          c.args.walk.now.leaves.now c.below.result.leaf) c.checked_pair.ensures.same_known (subst (λ (k : ℕ). IsStepWalk (ground_of
          (g.D.Deciding.known_data c.args.data.now)
          (g.D.Deciding.canon c.args.data.now) c.args.walk.now.spec.now) c.args.walk.now.leaves.now k) (sym c.below.ensures.leaf)
          c.requires.walk)),
      (holds_after (λ (d : Data) (f : Term → Term). IsPassable (ground_of d f c.args.walk.now.spec.now) (behaviour_of
          c.args.next.now) (profiles_in c.args.next.now)) c.checked_pair.ensures.same_known (record {
            closed = c.requires.part.closed.1;
            terms_of_signature = second_terms
                (g.D.Deciding.known_data c.args.data.now).signature (test_profiles c.args.test.now) (profiles_in c.args.next.now)
                c.requires.part.terms_of_signature;
          })),
    ),
  ),
)

pub guard_step-returns-clause-answer : goal.guard_step-returns-clause-answer
guard_step-returns-clause-answer g t c =
    λ place there.
    there_walked (ground_of (g.D.Deciding.known_data c.args.data.now) (g.D.Deciding.canon c.args.data.now) c.args.walk.now.spec.now)
    (terms_of c.args.walk.now.leaves.now) place (guard (test_of c.args.test.now) (behaviour_of c.args.next.now)) (guarded (shape_of
    c.deref.result.now)) c.args.at (of_shape place (guard (test_of c.args.test.now) (behaviour_of c.args.next.now)) (shape_of
    c.args.shape.now) (guarded (shape_of c.deref.result.now)) c.args.at (ap (λ (s : Shape). guarded (shape_of s)) c.deref.ensures ∙
    sym (ap shape_of c.in-Guarded.is)) there) c.beh_step.result
    (walked_on (ground_of (g.D.Deciding.known_data c.args.data.now) (g.D.Deciding.canon c.args.data.now) c.args.walk.now.spec.now)
    (terms_of c.args.walk.now.leaves.now) (stand (guard (test_of c.args.test.now) (behaviour_of c.args.next.now)) (guarded (shape_of
    c.deref.result.now)) place.number c.args.at.leaf) (stand (behaviour_of c.args.next.now) (shape_of c.deref.result.now) (suc
    place.number) c.args.at.leaf) _ (guard_row (setting_on (ground_of (g.D.Deciding.known_data c.args.data.now) (g.D.Deciding.canon
    c.args.data.now) c.args.walk.now.spec.now)) (terms_of c.args.walk.now.leaves.now) (shape_of c.deref.result.now) place.number
    c.args.at.leaf (test_of c.args.test.now) (behaviour_of c.args.next.now)) (c.in_ok-checked_pair.ensures.checked place.number
    there.node) (λ l. refl) (asking (test_of c.args.test.now)) (λ m. refl) (λ m. refl) (λ m. refl)
    (nodes_below (stand (guard (test_of c.args.test.now) (behaviour_of c.args.next.now)) (guarded (shape_of c.deref.result.now))
    place.number c.args.at.leaf) (stand (behaviour_of c.args.next.now) (shape_of c.deref.result.now) (suc place.number)
    c.args.at.leaf) (is_below (guard (test_of c.args.test.now) (behaviour_of c.args.next.now)) (behaviour_of c.args.next.now)
    (guarded (shape_of c.deref.result.now)) (shape_of c.deref.result.now) place.number c.args.at.leaf refl)) (λ m. refl)
    c.beh_step.result
    (held_before (λ (d : Data) (f : Term → Term). IsWalked (ground_of d f c.args.walk.now.spec.now) (terms_of c.args.walk.now.leaves.now)
    (stand (behaviour_of c.args.next.now) (shape_of c.deref.result.now) (suc place.number) c.args.at.leaf) c.beh_step.result)
    c.checked_pair.ensures.same_known (c.beh_step.ensures.answer (stand (behaviour_of
    c.args.next.now) (shape_of c.deref.result.now) (suc place.number) c.args.at.leaf) (below_there place (guard (test_of
    c.args.test.now) (behaviour_of c.args.next.now)) (behaviour_of c.args.next.now) (guarded (shape_of c.deref.result.now)) (shape_of
    c.deref.result.now) c.args.at c.below.result (of_shape place (guard (test_of c.args.test.now) (behaviour_of c.args.next.now))
    (shape_of c.args.shape.now) (guarded (shape_of c.deref.result.now)) c.args.at (ap (λ (s : Shape). guarded (shape_of s))
    c.deref.ensures ∙ sym (ap shape_of c.in-Guarded.is)) there) c.below.ensures.node c.args.at.leaf c.below.ensures.leaf))))

pub choice_step-returns-in_default : goal.choice_step-returns-in_default
choice_step-returns-in_default g t c =
    record {
      answer = λ place there. misfit_there (ground_of (g.D.Deciding.known_data c.args.data.now) (g.D.Deciding.canon c.args.data.now)
          c.args.walk.now.spec.now) (terms_of c.args.walk.now.leaves.now) place (choice (behaviour_of c.args.left.now) (behaviour_of
          c.args.right.now)) (shape_of c.args.shape.now) c.args.at there c.misfit.result
          (unfit_choice (setting_on (ground_of (g.D.Deciding.known_data c.args.data.now) (g.D.Deciding.canon c.args.data.now)
          c.args.walk.now.spec.now)) (terms_of c.args.walk.now.leaves.now) c.args.at.leaf c.args.shape.now (behaviour_of
          c.args.left.now) (behaviour_of c.args.right.now) (λ part is. c.in_default.not-Left part is) (λ part is.
          c.in_default.not-Right part is)) c.misfit.ensures;
      same_known = keeps_itself;
    }

pub choice_step-beh_step-requires : goal.choice_step-beh_step-requires
choice_step-beh_step-requires g t c κs within = (
  (part_less (shape_of c.args.shape.now) (shape_of c.deref.result.now) (behaviour_of c.args.left.now) 2 _ (omega arith) (ap (λ (s :
      Shape). size (shape_of s)) c.in-Left.is ∙ ap (λ (s : Shape). suc (size (shape_of s))) (sym c.deref.ensures)) c.decreases),
  (
    search rules,
    (
      (subst (λ (k : ℕ). IsStepWalk (ground_of (g.D.Deciding.known_data c.args.data.now) (g.D.Deciding.canon
          c.args.data.now) c.args.walk.now.spec.now) c.args.walk.now.leaves.now k) (sym c.below.ensures.leaf) c.requires.walk),
      (record {
        closed = c.requires.part.closed.0;
        terms_of_signature = first_terms (g.D.Deciding.known_data c.args.data.now).signature
            (profiles_in c.args.left.now) (profiles_in c.args.right.now) c.requires.part.terms_of_signature;
      }),
    ),
  ),
)

pub choice_step-returns-in-Left-clause-answer : goal.choice_step-returns-in-Left-clause-answer
choice_step-returns-in-Left-clause-answer g t c =
    λ place there.
    there_walked (ground_of (g.D.Deciding.known_data c.args.data.now) (g.D.Deciding.canon c.args.data.now) c.args.walk.now.spec.now)
    (terms_of c.args.walk.now.leaves.now) place (choice (behaviour_of c.args.left.now) (behaviour_of c.args.right.now)) (left_side
    (shape_of c.deref.result.now)) c.args.at (of_shape place (choice (behaviour_of c.args.left.now) (behaviour_of c.args.right.now))
    (shape_of c.args.shape.now) (left_side (shape_of c.deref.result.now)) c.args.at (ap (λ (s : Shape). left_side (shape_of s))
    c.deref.ensures ∙ sym (ap shape_of c.in-Left.is)) there) c.beh_step.result
    (walked_on (ground_of (g.D.Deciding.known_data c.args.data.now) (g.D.Deciding.canon c.args.data.now) c.args.walk.now.spec.now)
    (terms_of c.args.walk.now.leaves.now) (stand (choice (behaviour_of c.args.left.now) (behaviour_of c.args.right.now)) (left_side
    (shape_of c.deref.result.now)) place.number c.args.at.leaf) (stand (behaviour_of c.args.left.now) (shape_of c.deref.result.now)
    (suc place.number) c.args.at.leaf) same_row (left_row (setting_on (ground_of (g.D.Deciding.known_data c.args.data.now)
    (g.D.Deciding.canon c.args.data.now) c.args.walk.now.spec.now)) (terms_of c.args.walk.now.leaves.now) (shape_of
    c.deref.result.now) place.number c.args.at.leaf (behaviour_of c.args.left.now) (behaviour_of c.args.right.now)) refl (λ l. refl)
    (λ m. m) (λ m. refl) (λ m. refl) (λ m. refl)
    (nodes_below (stand (choice (behaviour_of c.args.left.now) (behaviour_of c.args.right.now)) (left_side (shape_of c.deref.result.now))
    place.number c.args.at.leaf) (stand (behaviour_of c.args.left.now) (shape_of c.deref.result.now) (suc place.number)
    c.args.at.leaf) (is_below (choice (behaviour_of c.args.left.now) (behaviour_of c.args.right.now)) (behaviour_of c.args.left.now)
    (left_side (shape_of c.deref.result.now)) (shape_of c.deref.result.now) place.number c.args.at.leaf refl)) (λ m. refl)
    c.beh_step.result (c.beh_step.ensures.answer (stand (behaviour_of c.args.left.now) (shape_of c.deref.result.now) (suc
    place.number) c.args.at.leaf) (below_there place (choice (behaviour_of c.args.left.now) (behaviour_of c.args.right.now))
    (behaviour_of c.args.left.now) (left_side (shape_of c.deref.result.now)) (shape_of c.deref.result.now) c.args.at c.below.result
    (of_shape place (choice (behaviour_of c.args.left.now) (behaviour_of c.args.right.now)) (shape_of c.args.shape.now) (left_side
    (shape_of c.deref.result.now)) c.args.at (ap (λ (s : Shape). left_side (shape_of s)) c.deref.ensures ∙ sym (ap shape_of
    c.in-Left.is)) there) c.below.ensures.node c.args.at.leaf c.below.ensures.leaf)))

pub choice_step-beh_step-requires-in-Right : goal.choice_step-beh_step-requires-in-Right
choice_step-beh_step-requires-in-Right g t c κs within = (
  (part_less (shape_of c.args.shape.now) (shape_of c.deref-in-Right.result.now) (behaviour_of c.args.right.now) 2 _ (omega arith) (ap
      (λ (s : Shape). size (shape_of s)) c.in-Right.is ∙ ap (λ (s : Shape). suc (size (shape_of s))) (sym c.deref-in-Right.ensures))
      c.decreases),
  (
    search rules,
    (
      (subst (λ (k : ℕ). IsStepWalk (ground_of (g.D.Deciding.known_data c.args.data.now) (g.D.Deciding.canon
          c.args.data.now) c.args.walk.now.spec.now) c.args.walk.now.leaves.now k) (sym c.below-in-Right.ensures.leaf) c.requires.walk),
      (record {
        closed = c.requires.part.closed.1;
        terms_of_signature = second_terms (g.D.Deciding.known_data
            c.args.data.now).signature (profiles_in c.args.left.now) (profiles_in c.args.right.now) c.requires.part.terms_of_signature;
      }),
    ),
  ),
)

pub choice_step-returns-in-Right-clause-answer : goal.choice_step-returns-in-Right-clause-answer
choice_step-returns-in-Right-clause-answer g t c =
    λ place there.
    there_walked (ground_of (g.D.Deciding.known_data c.args.data.now) (g.D.Deciding.canon c.args.data.now) c.args.walk.now.spec.now)
    (terms_of c.args.walk.now.leaves.now) place (choice (behaviour_of c.args.left.now) (behaviour_of c.args.right.now)) (right_side
    (shape_of c.deref-in-Right.result.now)) c.args.at (of_shape place (choice (behaviour_of c.args.left.now) (behaviour_of
    c.args.right.now)) (shape_of c.args.shape.now) (right_side (shape_of c.deref-in-Right.result.now)) c.args.at (ap (λ (s : Shape).
    right_side (shape_of s)) c.deref-in-Right.ensures ∙ sym (ap shape_of c.in-Right.is)) there) c.beh_step-in-Right.result
    (walked_on (ground_of (g.D.Deciding.known_data c.args.data.now) (g.D.Deciding.canon c.args.data.now) c.args.walk.now.spec.now)
    (terms_of c.args.walk.now.leaves.now) (stand (choice (behaviour_of c.args.left.now) (behaviour_of c.args.right.now)) (right_side
    (shape_of c.deref-in-Right.result.now)) place.number c.args.at.leaf) (stand (behaviour_of c.args.right.now) (shape_of
    c.deref-in-Right.result.now) (suc place.number) c.args.at.leaf) same_row (right_row (setting_on (ground_of
    (g.D.Deciding.known_data c.args.data.now) (g.D.Deciding.canon c.args.data.now) c.args.walk.now.spec.now)) (terms_of
    c.args.walk.now.leaves.now) (shape_of c.deref-in-Right.result.now) place.number c.args.at.leaf (behaviour_of c.args.left.now)
    (behaviour_of c.args.right.now)) refl (λ l. refl) (λ m. m) (λ m. refl) (λ m. refl) (λ m. refl)
    (nodes_below (stand (choice (behaviour_of c.args.left.now) (behaviour_of c.args.right.now)) (right_side (shape_of
    c.deref-in-Right.result.now)) place.number c.args.at.leaf) (stand (behaviour_of c.args.right.now) (shape_of
    c.deref-in-Right.result.now) (suc place.number) c.args.at.leaf) (is_below (choice (behaviour_of c.args.left.now) (behaviour_of
    c.args.right.now)) (behaviour_of c.args.right.now) (right_side (shape_of c.deref-in-Right.result.now)) (shape_of
    c.deref-in-Right.result.now) place.number c.args.at.leaf refl)) (λ m. refl) c.beh_step-in-Right.result
    (c.beh_step-in-Right.ensures.answer (stand (behaviour_of c.args.right.now) (shape_of c.deref-in-Right.result.now) (suc
    place.number) c.args.at.leaf) (below_there place (choice (behaviour_of c.args.left.now) (behaviour_of c.args.right.now))
    (behaviour_of c.args.right.now) (right_side (shape_of c.deref-in-Right.result.now)) (shape_of c.deref-in-Right.result.now)
    c.args.at c.below-in-Right.result (of_shape place (choice (behaviour_of c.args.left.now) (behaviour_of c.args.right.now))
    (shape_of c.args.shape.now) (right_side (shape_of c.deref-in-Right.result.now)) c.args.at (ap (λ (s : Shape). right_side
    (shape_of s)) c.deref-in-Right.ensures ∙ sym (ap shape_of c.in-Right.is)) there) c.below-in-Right.ensures.node c.args.at.leaf
    c.below-in-Right.ensures.leaf)))

pub parallel_step-returns-in_default : goal.parallel_step-returns-in_default
parallel_step-returns-in_default g t c =
    record {
      answer = λ place there. misfit_there (ground_of (g.D.Deciding.known_data c.args.data.now) (g.D.Deciding.canon c.args.data.now)
          c.args.walk.now.spec.now) (terms_of c.args.walk.now.leaves.now) place (parallel (meet_of c.args.meet.now) (side_of
          c.args.left.now) (side_of c.args.right.now)) (shape_of c.args.shape.now) c.args.at there c.misfit.result
          (unfit_parallel (setting_on (ground_of (g.D.Deciding.known_data c.args.data.now) (g.D.Deciding.canon c.args.data.now)
          c.args.walk.now.spec.now)) (terms_of c.args.walk.now.leaves.now) c.args.at.leaf c.args.shape.now (meet_of c.args.meet.now)
          (side_of c.args.left.now) (side_of c.args.right.now) (λ part is. c.in_default.not-Left part is) (λ part is.
          c.in_default.not-Right part is) (λ part other is. c.in_default.not-Both part other is)) c.misfit.ensures;
      same_known = keeps_itself;
    }

pub parallel_step-side_step-requires : goal.parallel_step-side_step-requires
parallel_step-side_step-requires g t c κs within = (
  (part_less (shape_of c.args.shape.now) (shape_of c.deref.result.now) (side_of c.args.left.now) 4 _ (omega arith) (ap (λ (s : Shape).
      size (shape_of s)) c.in-Left.is ∙ ap (λ (s : Shape). suc (size (shape_of s))) (sym c.deref.ensures)) c.decreases),
  (
    search rules,
    (
      (subst (λ (k : ℕ). IsStepWalk (ground_of (g.D.Deciding.known_data c.args.data.now) (g.D.Deciding.canon c.args.data.now)
          c.args.walk.now.spec.now) c.args.walk.now.leaves.now k) (sym c.below.ensures.leaf) c.requires.walk),
      (record {
        passable = (record {
          closed = c.requires.part.closed.1;
          terms_of_signature = first_terms (g.D.Deciding.known_data c.args.data.now).signature
              (side_profiles c.args.left.now) (side_profiles c.args.right.now) c.requires.part.terms_of_signature;
        });
        states =
            c.requires.states.0;
      }),
    ),
  ),
)

pub parallel_step-returns-in_err-moved-in-Left-clause-answer : goal.parallel_step-returns-in_err-moved-in-Left-clause-answer
parallel_step-returns-in_err-moved-in-Left-clause-answer g t c =
    λ place there.
    refusal_walked (ground_of (g.D.Deciding.known_data c.args.data.now) (g.D.Deciding.canon c.args.data.now) c.args.walk.now.spec.now)
    (terms_of c.args.walk.now.leaves.now) place c.from_residual.result c.in_err-moved-in-Left.field-0.0 c.from_residual.ensures.1
    (there_refused (ground_of (g.D.Deciding.known_data c.args.data.now) (g.D.Deciding.canon c.args.data.now) c.args.walk.now.spec.now)
    (terms_of c.args.walk.now.leaves.now) place (parallel (meet_of c.args.meet.now) (side_of c.args.left.now) (side_of
    c.args.right.now)) (left_side (shape_of c.deref.result.now)) c.args.at (of_shape place (parallel (meet_of c.args.meet.now)
    (side_of c.args.left.now) (side_of c.args.right.now)) (shape_of c.args.shape.now) (left_side (shape_of c.deref.result.now))
    c.args.at (ap (λ (s : Shape). left_side (shape_of s)) c.deref.ensures ∙ sym (ap shape_of c.in-Left.is)) there)
    c.in_err-moved-in-Left.field-0.0
    (walked_part (ground_of (g.D.Deciding.known_data c.args.data.now) (g.D.Deciding.canon c.args.data.now) c.args.walk.now.spec.now)
    (terms_of c.args.walk.now.leaves.now) (stand (parallel (meet_of c.args.meet.now) (side_of c.args.left.now) (side_of
    c.args.right.now)) (left_side (shape_of c.deref.result.now)) place.number c.args.at.leaf) (stand (side_of c.args.left.now)
    (shape_of c.deref.result.now) (suc place.number) c.args.at.leaf) _ (left_alone_row (setting_on (ground_of
    (g.D.Deciding.known_data c.args.data.now) (g.D.Deciding.canon c.args.data.now) c.args.walk.now.spec.now)) (terms_of
    c.args.walk.now.leaves.now) (shape_of c.deref.result.now) place.number c.args.at.leaf (meet_of c.args.meet.now) (side_of
    c.args.left.now) (side_of c.args.right.now)) refl c.in_err-moved-in-Left.field-0.0
    (c.in_err-moved-in-Left.ensures.answer (stand (side_of c.args.left.now) (shape_of c.deref.result.now) (suc place.number)
    c.args.at.leaf) (below_there place (parallel (meet_of c.args.meet.now) (side_of c.args.left.now) (side_of c.args.right.now))
    (side_of c.args.left.now) (left_side (shape_of c.deref.result.now)) (shape_of c.deref.result.now) c.args.at c.below.result
    (of_shape place (parallel (meet_of c.args.meet.now) (side_of c.args.left.now) (side_of c.args.right.now)) (shape_of
    c.args.shape.now) (left_side (shape_of c.deref.result.now)) c.args.at (ap (λ (s : Shape). left_side (shape_of s)) c.deref.ensures
    ∙ sym (ap shape_of c.in-Left.is)) there) c.below.ensures.node c.args.at.leaf c.below.ensures.leaf))))

pub parallel_step-returns-in_ok-moved-in-Left-clause-answer : goal.parallel_step-returns-in_ok-moved-in-Left-clause-answer
parallel_step-returns-in_ok-moved-in-Left-clause-answer g t c =
    λ place there.
    there_walked (ground_of (g.D.Deciding.known_data c.args.data.now) (g.D.Deciding.canon c.args.data.now) c.args.walk.now.spec.now)
    (terms_of c.args.walk.now.leaves.now) place (parallel (meet_of c.args.meet.now) (side_of c.args.left.now) (side_of
    c.args.right.now)) (left_side (shape_of c.deref.result.now)) c.args.at (of_shape place (parallel (meet_of c.args.meet.now)
    (side_of c.args.left.now) (side_of c.args.right.now)) (shape_of c.args.shape.now) (left_side (shape_of c.deref.result.now))
    c.args.at (ap (λ (s : Shape). left_side (shape_of s)) c.deref.ensures ∙ sym (ap shape_of c.in-Left.is)) there) c.left_alone.result
    (c.left_alone.ensures (ground_of (g.D.Deciding.known_data c.args.data.now) (g.D.Deciding.canon c.args.data.now)
    c.args.walk.now.spec.now) (terms_of c.args.walk.now.leaves.now) (stand (parallel (meet_of c.args.meet.now) (side_of
    c.args.left.now) (side_of c.args.right.now)) (left_side (shape_of c.deref.result.now)) place.number c.args.at.leaf) (stand
    (side_of c.args.left.now) (shape_of c.deref.result.now) (suc place.number) c.args.at.leaf) there.node (left_alone_row (setting_on
    (ground_of (g.D.Deciding.known_data c.args.data.now) (g.D.Deciding.canon c.args.data.now) c.args.walk.now.spec.now)) (terms_of
    c.args.walk.now.leaves.now) (shape_of c.deref.result.now) place.number c.args.at.leaf (meet_of c.args.meet.now) (side_of
    c.args.left.now) (side_of c.args.right.now)) (is_below (parallel (meet_of c.args.meet.now) (side_of c.args.left.now) (side_of
    c.args.right.now)) (side_of c.args.left.now) (left_side (shape_of c.deref.result.now)) (shape_of c.deref.result.now) place.number
    c.args.at.leaf refl) (record {
      passable = (record {
        closed = c.requires.part.closed.2;
        terms_of_signature = second_terms
            (g.D.Deciding.known_data c.args.data.now).signature (side_profiles c.args.left.now) (side_profiles c.args.right.now)
            c.requires.part.terms_of_signature;
      });
      states = c.requires.states.1;
    }) (c.in_ok-moved-in-Left.ensures.answer (stand (side_of
    c.args.left.now) (shape_of c.deref.result.now) (suc place.number) c.args.at.leaf) (below_there place (parallel (meet_of
    c.args.meet.now) (side_of c.args.left.now) (side_of c.args.right.now)) (side_of c.args.left.now) (left_side (shape_of
    c.deref.result.now)) (shape_of c.deref.result.now) c.args.at c.below.result (of_shape place (parallel (meet_of c.args.meet.now)
    (side_of c.args.left.now) (side_of c.args.right.now)) (shape_of c.args.shape.now) (left_side (shape_of c.deref.result.now))
    c.args.at (ap (λ (s : Shape). left_side (shape_of s)) c.deref.ensures ∙ sym (ap shape_of c.in-Left.is)) there)
    c.below.ensures.node c.args.at.leaf c.below.ensures.leaf)))

pub parallel_step-side_step-requires-in-Right : goal.parallel_step-side_step-requires-in-Right
parallel_step-side_step-requires-in-Right g t c κs within = (
  (part_less (shape_of c.args.shape.now) (shape_of c.deref-in-Right.result.now) (side_of c.args.right.now) 4 _ (omega arith) (ap (λ (s
      : Shape). size (shape_of s)) c.in-Right.is ∙ ap (λ (s : Shape). suc (size (shape_of s))) (sym c.deref-in-Right.ensures))
      c.decreases),
  (
    search rules,
    (
      (subst (λ (k : ℕ). IsStepWalk (ground_of (g.D.Deciding.known_data c.args.data.now) (g.D.Deciding.canon
          c.args.data.now) c.args.walk.now.spec.now) c.args.walk.now.leaves.now k) (sym c.below-in-Right.ensures.leaf) c.requires.walk),
      (record {
        passable = (record {
          closed = c.requires.part.closed.2;
          terms_of_signature = second_terms (g.D.Deciding.known_data
              c.args.data.now).signature (side_profiles c.args.left.now) (side_profiles c.args.right.now)
              c.requires.part.terms_of_signature;
        });
        states = c.requires.states.1;
      }),
    ),
  ),
)

pub parallel_step-returns-in_err-moved-in-Right-clause-answer : goal.parallel_step-returns-in_err-moved-in-Right-clause-answer
parallel_step-returns-in_err-moved-in-Right-clause-answer g t c =
    λ place there.
    refusal_walked (ground_of (g.D.Deciding.known_data c.args.data.now) (g.D.Deciding.canon c.args.data.now) c.args.walk.now.spec.now)
    (terms_of c.args.walk.now.leaves.now) place c.from_residual-in_err-moved-in-Right.result c.in_err-moved-in-Right.field-0.0
    c.from_residual-in_err-moved-in-Right.ensures.1
    (there_refused (ground_of (g.D.Deciding.known_data c.args.data.now) (g.D.Deciding.canon c.args.data.now) c.args.walk.now.spec.now)
    (terms_of c.args.walk.now.leaves.now) place (parallel (meet_of c.args.meet.now) (side_of c.args.left.now) (side_of
    c.args.right.now)) (right_side (shape_of c.deref-in-Right.result.now)) c.args.at (of_shape place (parallel (meet_of
    c.args.meet.now) (side_of c.args.left.now) (side_of c.args.right.now)) (shape_of c.args.shape.now) (right_side (shape_of
    c.deref-in-Right.result.now)) c.args.at (ap (λ (s : Shape). right_side (shape_of s)) c.deref-in-Right.ensures ∙ sym (ap shape_of
    c.in-Right.is)) there) c.in_err-moved-in-Right.field-0.0
    (walked_part (ground_of (g.D.Deciding.known_data c.args.data.now) (g.D.Deciding.canon c.args.data.now) c.args.walk.now.spec.now)
    (terms_of c.args.walk.now.leaves.now) (stand (parallel (meet_of c.args.meet.now) (side_of c.args.left.now) (side_of
    c.args.right.now)) (right_side (shape_of c.deref-in-Right.result.now)) place.number c.args.at.leaf) (stand (side_of
    c.args.right.now) (shape_of c.deref-in-Right.result.now) (suc place.number) c.args.at.leaf) _ (right_alone_row (setting_on
    (ground_of (g.D.Deciding.known_data c.args.data.now) (g.D.Deciding.canon c.args.data.now) c.args.walk.now.spec.now)) (terms_of
    c.args.walk.now.leaves.now) (shape_of c.deref-in-Right.result.now) place.number c.args.at.leaf (meet_of c.args.meet.now) (side_of
    c.args.left.now) (side_of c.args.right.now)) refl c.in_err-moved-in-Right.field-0.0
    (c.in_err-moved-in-Right.ensures.answer (stand (side_of c.args.right.now) (shape_of c.deref-in-Right.result.now) (suc place.number)
    c.args.at.leaf) (below_there place (parallel (meet_of c.args.meet.now) (side_of c.args.left.now) (side_of c.args.right.now))
    (side_of c.args.right.now) (right_side (shape_of c.deref-in-Right.result.now)) (shape_of c.deref-in-Right.result.now) c.args.at
    c.below-in-Right.result (of_shape place (parallel (meet_of c.args.meet.now) (side_of c.args.left.now) (side_of c.args.right.now))
    (shape_of c.args.shape.now) (right_side (shape_of c.deref-in-Right.result.now)) c.args.at (ap (λ (s : Shape). right_side
    (shape_of s)) c.deref-in-Right.ensures ∙ sym (ap shape_of c.in-Right.is)) there) c.below-in-Right.ensures.node c.args.at.leaf
    c.below-in-Right.ensures.leaf))))

pub parallel_step-returns-in_ok-moved-in-Right-clause-answer : goal.parallel_step-returns-in_ok-moved-in-Right-clause-answer
parallel_step-returns-in_ok-moved-in-Right-clause-answer g t c =
    λ place there.
    there_walked (ground_of (g.D.Deciding.known_data c.args.data.now) (g.D.Deciding.canon c.args.data.now) c.args.walk.now.spec.now)
    (terms_of c.args.walk.now.leaves.now) place (parallel (meet_of c.args.meet.now) (side_of c.args.left.now) (side_of
    c.args.right.now)) (right_side (shape_of c.deref-in-Right.result.now)) c.args.at (of_shape place (parallel (meet_of
    c.args.meet.now) (side_of c.args.left.now) (side_of c.args.right.now)) (shape_of c.args.shape.now) (right_side (shape_of
    c.deref-in-Right.result.now)) c.args.at (ap (λ (s : Shape). right_side (shape_of s)) c.deref-in-Right.ensures ∙ sym (ap shape_of
    c.in-Right.is)) there) c.right_alone.result
    (c.right_alone.ensures (ground_of (g.D.Deciding.known_data c.args.data.now) (g.D.Deciding.canon c.args.data.now)
    c.args.walk.now.spec.now) (terms_of c.args.walk.now.leaves.now) (stand (parallel (meet_of c.args.meet.now) (side_of
    c.args.left.now) (side_of c.args.right.now)) (right_side (shape_of c.deref-in-Right.result.now)) place.number c.args.at.leaf)
    (stand (side_of c.args.right.now) (shape_of c.deref-in-Right.result.now) (suc place.number) c.args.at.leaf) there.node
    (right_alone_row (setting_on (ground_of (g.D.Deciding.known_data c.args.data.now) (g.D.Deciding.canon c.args.data.now)
    c.args.walk.now.spec.now)) (terms_of c.args.walk.now.leaves.now) (shape_of c.deref-in-Right.result.now) place.number
    c.args.at.leaf (meet_of c.args.meet.now) (side_of c.args.left.now) (side_of c.args.right.now)) (is_below (parallel (meet_of
    c.args.meet.now) (side_of c.args.left.now) (side_of c.args.right.now)) (side_of c.args.right.now) (right_side (shape_of
    c.deref-in-Right.result.now)) (shape_of c.deref-in-Right.result.now) place.number c.args.at.leaf refl) (record {
      passable =
          (record {
            closed = c.requires.part.closed.1;
            terms_of_signature = first_terms (g.D.Deciding.known_data c.args.data.now).signature
                (side_profiles c.args.left.now) (side_profiles c.args.right.now) c.requires.part.terms_of_signature;
          });
      states =
          c.requires.states.0;
    }) (c.in_ok-moved-in-Right.ensures.answer (stand (side_of c.args.right.now) (shape_of
    c.deref-in-Right.result.now) (suc place.number) c.args.at.leaf) (below_there place (parallel (meet_of c.args.meet.now) (side_of
    c.args.left.now) (side_of c.args.right.now)) (side_of c.args.right.now) (right_side (shape_of c.deref-in-Right.result.now))
    (shape_of c.deref-in-Right.result.now) c.args.at c.below-in-Right.result (of_shape place (parallel (meet_of c.args.meet.now)
    (side_of c.args.left.now) (side_of c.args.right.now)) (shape_of c.args.shape.now) (right_side (shape_of
    c.deref-in-Right.result.now)) c.args.at (ap (λ (s : Shape). right_side (shape_of s)) c.deref-in-Right.ensures ∙ sym (ap shape_of
    c.in-Right.is)) there) c.below-in-Right.ensures.node c.args.at.leaf c.below-in-Right.ensures.leaf)))

pub parallel_step-side_step-requires-in-Both : goal.parallel_step-side_step-requires-in-Both
parallel_step-side_step-requires-in-Both g t c κs within = (
  (left_less (shape_of c.args.shape.now) (shape_of c.deref-in-Both.result.now) (shape_of c.in-Both.other.value) (side_of
      c.args.left.now) 4 _ (omega arith) (ap (λ (s : Shape). size (shape_of s)) c.in-Both.is ∙ ap (λ (s : Shape). suc (size (shape_of
      s) + size (shape_of c.in-Both.other.value))) (sym c.deref-in-Both.ensures)) c.decreases),
  (
    search rules,
    (
      (subst (λ (k : ℕ).
          IsStepWalk (ground_of (g.D.Deciding.known_data c.args.data.now) (g.D.Deciding.canon c.args.data.now) c.args.walk.now.spec.now)
          c.args.walk.now.leaves.now k) (sym c.below-in-Both.ensures.leaf) c.requires.walk),
      (record {
        passable = (record {
          closed =
              c.requires.part.closed.1;
          terms_of_signature = first_terms (g.D.Deciding.known_data c.args.data.now).signature (side_profiles
              c.args.left.now) (side_profiles c.args.right.now) c.requires.part.terms_of_signature;
        });
        states = c.requires.states.0;
      }),
    ),
  ),
)

pub parallel_step-returns-in_err-first-in-Both-clause-answer : goal.parallel_step-returns-in_err-first-in-Both-clause-answer
parallel_step-returns-in_err-first-in-Both-clause-answer g t c =
    λ place there.
    refusal_walked (ground_of (g.D.Deciding.known_data c.args.data.now) (g.D.Deciding.canon c.args.data.now) c.args.walk.now.spec.now)
    (terms_of c.args.walk.now.leaves.now) place c.from_residual-in_err-first-in-Both.result c.in_err-first-in-Both.field-0.0
    c.from_residual-in_err-first-in-Both.ensures.1
    (there_refused (ground_of (g.D.Deciding.known_data c.args.data.now) (g.D.Deciding.canon c.args.data.now) c.args.walk.now.spec.now)
    (terms_of c.args.walk.now.leaves.now) place (parallel (meet_of c.args.meet.now) (side_of c.args.left.now) (side_of
    c.args.right.now)) (both_sides (shape_of c.deref-in-Both.result.now) (shape_of c.in-Both.other.value)) c.args.at (of_shape place
    (parallel (meet_of c.args.meet.now) (side_of c.args.left.now) (side_of c.args.right.now)) (shape_of c.args.shape.now) (both_sides
    (shape_of c.deref-in-Both.result.now) (shape_of c.in-Both.other.value)) c.args.at (ap (λ (s : Shape). both_sides (shape_of s)
    (shape_of c.in-Both.other.value)) c.deref-in-Both.ensures ∙ sym (ap shape_of c.in-Both.is)) there) c.in_err-first-in-Both.field-0.0
    (left_told (ground_of (g.D.Deciding.known_data c.args.data.now) (g.D.Deciding.canon c.args.data.now) c.args.walk.now.spec.now)
    (terms_of c.args.walk.now.leaves.now) (meet_of c.args.meet.now) (side_of c.args.left.now) (side_of c.args.right.now) (shape_of
    c.deref-in-Both.result.now) (shape_of c.in-Both.other.value) place.number c.args.at.leaf c.in_err-first-in-Both.field-0.0
    (c.in_err-first-in-Both.ensures.answer (stand (side_of c.args.left.now) (shape_of c.deref-in-Both.result.now) (suc place.number)
    c.args.at.leaf) (below_there place (parallel (meet_of c.args.meet.now) (side_of c.args.left.now) (side_of c.args.right.now))
    (side_of c.args.left.now) (both_sides (shape_of c.deref-in-Both.result.now) (shape_of c.in-Both.other.value)) (shape_of
    c.deref-in-Both.result.now) c.args.at c.below-in-Both.result (of_shape place (parallel (meet_of c.args.meet.now) (side_of
    c.args.left.now) (side_of c.args.right.now)) (shape_of c.args.shape.now) (both_sides (shape_of c.deref-in-Both.result.now)
    (shape_of c.in-Both.other.value)) c.args.at (ap (λ (s : Shape). both_sides (shape_of s) (shape_of c.in-Both.other.value))
    c.deref-in-Both.ensures ∙ sym (ap shape_of c.in-Both.is)) there) c.below-in-Both.ensures.node c.args.at.leaf
    c.below-in-Both.ensures.leaf))))

pub parallel_step-side_step-requires-in-Both-2 : goal.parallel_step-side_step-requires-in-Both-2
parallel_step-side_step-requires-in-Both-2 g t c κs within = (
  (right_less (shape_of c.args.shape.now) (shape_of c.deref-in-Both.result.now) (shape_of c.deref-in-Both-2.result.now) (side_of
      c.args.right.now) 4 _ (omega arith) (ap (λ (s : Shape). size (shape_of s)) c.in-Both.is ∙ two_as (λ (s t : Shape). suc (size
      (shape_of s) + size (shape_of t))) _ _ _ _ (sym c.deref-in-Both.ensures) (sym c.deref-in-Both-2.ensures)) c.decreases),
  (
    search
        rules,
    (
      (holds_after (λ (d : Data) (f : Term → Term). IsStepWalk (ground_of d f c.args.walk.now.spec.now) c.args.walk.now.leaves.now
          c.in_ok-first-in-Both.first.behind.leaf) c.side_step-in-Both.ensures.same_known (record {
            over = c.requires.walk.over;
            leaves_of_signature =
                c.requires.walk.leaves_of_signature;
            within = (leaves_there c.args.walk.now.leaves.now c.in_ok-first-in-Both.first.behind.leaf
                (leaves_enough (ground_of (g.D.Deciding.known_data c.args.data.now) (g.D.Deciding.canon c.args.data.now)
                c.args.walk.now.spec.now) (g.met.D.Deciding.is_canon c.args.data.now) c.requires.walk.over (terms_of
                c.args.walk.now.leaves.now)
                (stand (side_of c.args.left.now) (shape_of c.deref-in-Both.result.now) (suc c.args.at.node) c.args.at.leaf) (within_terms
                c.args.walk.now.leaves.now c.args.at.leaf c.requires.walk.within) c.requires.part.closed.1 c.in_ok-first-in-Both.first
                (c.in_ok-first-in-Both.ensures.answer (stand (side_of c.args.left.now) (shape_of c.deref-in-Both.result.now) (suc
                c.args.at.node)
                c.args.at.leaf) (below_there (stand (parallel (meet_of c.args.meet.now) (side_of c.args.left.now) (side_of
                c.args.right.now))
                (both_sides (shape_of c.deref-in-Both.result.now) (shape_of c.deref-in-Both-2.result.now)) c.args.at.node c.args.at.leaf)
                (parallel (meet_of c.args.meet.now) (side_of c.args.left.now) (side_of c.args.right.now)) (side_of c.args.left.now)
                (both_sides
                (shape_of c.deref-in-Both.result.now) (shape_of c.deref-in-Both-2.result.now)) (shape_of c.deref-in-Both.result.now)
                c.args.at
                c.below-in-Both.result (own_place (parallel (meet_of c.args.meet.now) (side_of c.args.left.now) (side_of
                c.args.right.now))
                (both_sides (shape_of c.deref-in-Both.result.now) (shape_of c.deref-in-Both-2.result.now)) c.args.at (omega arith))
                c.below-in-Both.ensures.node c.args.at.leaf c.below-in-Both.ensures.leaf))));
          })),
      (holds_after (λ (d : Data) (f : Term → Term).
          IsPassableSide (ground_of d f c.args.walk.now.spec.now) c.args.right.now) c.side_step-in-Both.ensures.same_known (record {
            passable = (record {
              closed = c.requires.part.closed.2;
              terms_of_signature
                  = second_terms (g.D.Deciding.known_data c.args.data.now).signature (side_profiles c.args.left.now) (side_profiles
                  c.args.right.now) c.requires.part.terms_of_signature;
            });
            states = c.requires.states.1;
          })),
    ),
  ),
)

pub parallel_step-returns-in_err-second-in-Both-clause-answer : goal.parallel_step-returns-in_err-second-in-Both-clause-answer
parallel_step-returns-in_err-second-in-Both-clause-answer g t c =
    λ place there.
    refusal_walked (ground_of (g.D.Deciding.known_data c.args.data.now) (g.D.Deciding.canon c.args.data.now) c.args.walk.now.spec.now)
    (terms_of c.args.walk.now.leaves.now) place c.from_residual-in_err-second-in-Both.result c.in_err-second-in-Both.field-0.0
    c.from_residual-in_err-second-in-Both.ensures.1
    (there_refused (ground_of (g.D.Deciding.known_data c.args.data.now) (g.D.Deciding.canon c.args.data.now) c.args.walk.now.spec.now)
    (terms_of c.args.walk.now.leaves.now) place (parallel (meet_of c.args.meet.now) (side_of c.args.left.now) (side_of
    c.args.right.now)) (both_sides (shape_of c.deref-in-Both.result.now) (shape_of c.deref-in-Both-2.result.now)) c.args.at (of_shape
    place (parallel (meet_of c.args.meet.now) (side_of c.args.left.now) (side_of c.args.right.now)) (shape_of c.args.shape.now)
    (both_sides (shape_of c.deref-in-Both.result.now) (shape_of c.deref-in-Both-2.result.now)) c.args.at (two_as (λ (s t : Shape).
    both_sides (shape_of s) (shape_of t)) _ _ _ _ c.deref-in-Both.ensures c.deref-in-Both-2.ensures ∙ sym (ap shape_of c.in-Both.is))
    there) c.in_err-second-in-Both.field-0.0
    (right_told (ground_of (g.D.Deciding.known_data c.args.data.now) (g.D.Deciding.canon c.args.data.now) c.args.walk.now.spec.now)
    (terms_of c.args.walk.now.leaves.now) (meet_of c.args.meet.now) (side_of c.args.left.now) (side_of c.args.right.now) (shape_of
    c.deref-in-Both.result.now) (shape_of c.deref-in-Both-2.result.now) place.number c.args.at.leaf c.in_ok-first-in-Both.first
    (c.in_ok-first-in-Both.ensures.answer (stand (side_of c.args.left.now) (shape_of c.deref-in-Both.result.now) (suc place.number)
    c.args.at.leaf) (below_there place (parallel (meet_of c.args.meet.now) (side_of c.args.left.now) (side_of c.args.right.now))
    (side_of c.args.left.now) (both_sides (shape_of c.deref-in-Both.result.now) (shape_of c.deref-in-Both-2.result.now)) (shape_of
    c.deref-in-Both.result.now) c.args.at c.below-in-Both.result (of_shape place (parallel (meet_of c.args.meet.now) (side_of
    c.args.left.now) (side_of c.args.right.now)) (shape_of c.args.shape.now) (both_sides (shape_of c.deref-in-Both.result.now)
    (shape_of c.deref-in-Both-2.result.now)) c.args.at (two_as (λ (s t : Shape). both_sides (shape_of s) (shape_of t)) _ _ _ _
    c.deref-in-Both.ensures c.deref-in-Both-2.ensures ∙ sym (ap shape_of c.in-Both.is)) there) c.below-in-Both.ensures.node
    c.args.at.leaf c.below-in-Both.ensures.leaf)) c.in_err-second-in-Both.field-0.0
    (held_before (λ (d : Data) (f : Term → Term). UnlessMemory (IsFirstStepFault (ground_of d f c.args.walk.now.spec.now) (terms_of
    c.args.walk.now.leaves.now) (stand (side_of c.args.right.now) (shape_of c.deref-in-Both-2.result.now) (suc (place.number + size
    (shape_of c.deref-in-Both.result.now))) c.in_ok-first-in-Both.first.behind.leaf)) c.in_err-second-in-Both.field-0.0)
    c.side_step-in-Both.ensures.same_known (c.in_err-second-in-Both.ensures.answer (stand
    (side_of c.args.right.now) (shape_of c.deref-in-Both-2.result.now) (suc (place.number + size (shape_of
    c.deref-in-Both.result.now))) c.in_ok-first-in-Both.first.behind.leaf) (record {
      behaviour = refl;
      same_shape = refl;
      node =
          (c.in_ok-first-in-Both.ensures.answer (stand (side_of c.args.left.now) (shape_of c.deref-in-Both.result.now) (suc place.number)
          c.args.at.leaf) (below_there place (parallel (meet_of c.args.meet.now) (side_of c.args.left.now) (side_of c.args.right.now))
          (side_of c.args.left.now) (both_sides (shape_of c.deref-in-Both.result.now) (shape_of c.deref-in-Both-2.result.now)) (shape_of
          c.deref-in-Both.result.now) c.args.at c.below-in-Both.result (of_shape place (parallel (meet_of c.args.meet.now) (side_of
          c.args.left.now) (side_of c.args.right.now)) (shape_of c.args.shape.now) (both_sides (shape_of c.deref-in-Both.result.now)
          (shape_of c.deref-in-Both-2.result.now)) c.args.at (two_as (λ (s t : Shape). both_sides (shape_of s) (shape_of t)) _ _ _ _
          c.deref-in-Both.ensures c.deref-in-Both-2.ensures ∙ sym (ap shape_of c.in-Both.is)) there) c.below-in-Both.ensures.node
          c.args.at.leaf c.below-in-Both.ensures.leaf)).node_behind ∙ ap kept_number (place_behind place.number (size (shape_of
          c.deref-in-Both.result.now)));
      leaf = refl;
    })))))

pub parallel_step-together-requires-clause-left : goal.parallel_step-together-requires-clause-left
parallel_step-together-requires-clause-left g t c =
    subst (λ (d : Data). AreTermsOf d.signature (label_profiles c.in_ok-first-in-Both.first.label)) (sym
    (c.side_step-in-Both-2.ensures.same_known.same_data ∙ c.side_step-in-Both.ensures.same_known.same_data))
    (c.in_ok-first-in-Both.ensures.answer
    (stand
    (side_of c.args.left.now) (shape_of c.deref-in-Both.result.now) (suc c.args.at.node) c.args.at.leaf) (below_there (stand
    (parallel (meet_of c.args.meet.now) (side_of c.args.left.now) (side_of c.args.right.now)) (both_sides (shape_of
    c.deref-in-Both.result.now) (shape_of c.deref-in-Both-2.result.now)) c.args.at.node c.args.at.leaf) (parallel (meet_of
    c.args.meet.now) (side_of c.args.left.now) (side_of c.args.right.now)) (side_of c.args.left.now) (both_sides (shape_of
    c.deref-in-Both.result.now) (shape_of c.deref-in-Both-2.result.now)) (shape_of c.deref-in-Both.result.now) c.args.at
    c.below-in-Both.result (own_place (parallel (meet_of c.args.meet.now) (side_of c.args.left.now) (side_of c.args.right.now))
    (both_sides (shape_of c.deref-in-Both.result.now) (shape_of c.deref-in-Both-2.result.now)) c.args.at (omega arith))
    c.below-in-Both.ensures.node c.args.at.leaf c.below-in-Both.ensures.leaf)).values

pub parallel_step-together-requires-clause-right : goal.parallel_step-together-requires-clause-right
parallel_step-together-requires-clause-right g t c =
    subst (λ (d : Data). AreTermsOf d.signature (label_profiles c.in_ok-second-in-Both.second.label)) (sym
    c.side_step-in-Both-2.ensures.same_known.same_data) (c.in_ok-second-in-Both.ensures.answer (stand (side_of c.args.right.now) (shape_of
    c.deref-in-Both-2.result.now) (suc (c.args.at.node + size (shape_of c.deref-in-Both.result.now)))
    c.in_ok-first-in-Both.first.behind.leaf) (record {
      behaviour = refl;
      same_shape = refl;
      node =
          (c.in_ok-first-in-Both.ensures.answer (stand (side_of c.args.left.now) (shape_of c.deref-in-Both.result.now) (suc
          c.args.at.node)
          c.args.at.leaf) (below_there (stand (parallel (meet_of c.args.meet.now) (side_of c.args.left.now) (side_of c.args.right.now))
          (both_sides (shape_of c.deref-in-Both.result.now) (shape_of c.deref-in-Both-2.result.now)) c.args.at.node c.args.at.leaf)
          (parallel (meet_of c.args.meet.now) (side_of c.args.left.now) (side_of c.args.right.now)) (side_of c.args.left.now) (both_sides
          (shape_of c.deref-in-Both.result.now) (shape_of c.deref-in-Both-2.result.now)) (shape_of c.deref-in-Both.result.now) c.args.at
          c.below-in-Both.result (own_place (parallel (meet_of c.args.meet.now) (side_of c.args.left.now) (side_of c.args.right.now))
          (both_sides (shape_of c.deref-in-Both.result.now) (shape_of c.deref-in-Both-2.result.now)) c.args.at (omega arith))
          c.below-in-Both.ensures.node c.args.at.leaf c.below-in-Both.ensures.leaf)).node_behind ∙ ap kept_number (place_behind
          c.args.at.node (size (shape_of c.deref-in-Both.result.now)));
      leaf = refl;
    })).values

pub parallel_step-returns-in_ok-second-in-Both-clause-answer : goal.parallel_step-returns-in_ok-second-in-Both-clause-answer
parallel_step-returns-in_ok-second-in-Both-clause-answer g t c =
    λ place there.
    there_walked (ground_of (g.D.Deciding.known_data c.args.data.now) (g.D.Deciding.canon c.args.data.now) c.args.walk.now.spec.now)
    (terms_of c.args.walk.now.leaves.now) place (parallel (meet_of c.args.meet.now) (side_of c.args.left.now) (side_of
    c.args.right.now)) (both_sides (shape_of c.deref-in-Both.result.now) (shape_of c.deref-in-Both-2.result.now)) c.args.at (of_shape
    place (parallel (meet_of c.args.meet.now) (side_of c.args.left.now) (side_of c.args.right.now)) (shape_of c.args.shape.now)
    (both_sides (shape_of c.deref-in-Both.result.now) (shape_of c.deref-in-Both-2.result.now)) c.args.at (two_as (λ (s t : Shape).
    both_sides (shape_of s) (shape_of t)) _ _ _ _ c.deref-in-Both.ensures c.deref-in-Both-2.ensures ∙ sym (ap shape_of c.in-Both.is))
    there) c.together.result
    (held_before (λ (d : Data) (f : Term → Term). IsWalked (ground_of d f c.args.walk.now.spec.now) (terms_of c.args.walk.now.leaves.now)
    (stand (parallel (meet_of c.args.meet.now) (side_of c.args.left.now) (side_of c.args.right.now)) (both_sides (shape_of
    c.deref-in-Both.result.now) (shape_of c.deref-in-Both-2.result.now)) place.number c.args.at.leaf) c.together.result) (keeps_both
    c.side_step-in-Both.ensures.same_known c.side_step-in-Both-2.ensures.same_known) (c.together.ensures.answer (terms_of
    c.args.walk.now.leaves.now)
    (side_of
    c.args.left.now) (side_of c.args.right.now) (shape_of c.deref-in-Both.result.now) (shape_of c.deref-in-Both-2.result.now)
    place.number c.args.at.leaf there.node
    (holds_after (λ (d : Data) (f : Term → Term). IsMoved (ground_of d f c.args.walk.now.spec.now) (terms_of c.args.walk.now.leaves.now)
    (stand (side_of c.args.left.now) (shape_of c.deref-in-Both.result.now) (suc place.number) c.args.at.leaf)
    c.in_ok-first-in-Both.first) (keeps_both c.side_step-in-Both.ensures.same_known c.side_step-in-Both-2.ensures.same_known)
    (c.in_ok-first-in-Both.ensures.answer (stand
    (side_of c.args.left.now) (shape_of c.deref-in-Both.result.now) (suc place.number) c.args.at.leaf) (below_there place (parallel
    (meet_of c.args.meet.now) (side_of c.args.left.now) (side_of c.args.right.now)) (side_of c.args.left.now) (both_sides (shape_of
    c.deref-in-Both.result.now) (shape_of c.deref-in-Both-2.result.now)) (shape_of c.deref-in-Both.result.now) c.args.at
    c.below-in-Both.result (of_shape place (parallel (meet_of c.args.meet.now) (side_of c.args.left.now) (side_of c.args.right.now))
    (shape_of c.args.shape.now) (both_sides (shape_of c.deref-in-Both.result.now) (shape_of c.deref-in-Both-2.result.now)) c.args.at
    (two_as (λ (s t : Shape). both_sides (shape_of s) (shape_of t)) _ _ _ _ c.deref-in-Both.ensures c.deref-in-Both-2.ensures ∙ sym
    (ap shape_of c.in-Both.is)) there) c.below-in-Both.ensures.node c.args.at.leaf c.below-in-Both.ensures.leaf)))
    (holds_after (λ (d : Data) (f : Term → Term). IsMoved (ground_of d f c.args.walk.now.spec.now) (terms_of c.args.walk.now.leaves.now)
    (stand (side_of c.args.right.now) (shape_of c.deref-in-Both-2.result.now) (suc (place.number + size (shape_of
    c.deref-in-Both.result.now))) c.in_ok-first-in-Both.first.behind.leaf) c.in_ok-second-in-Both.second)
    c.side_step-in-Both-2.ensures.same_known (c.in_ok-second-in-Both.ensures.answer
    (stand (side_of c.args.right.now) (shape_of c.deref-in-Both-2.result.now) (suc (place.number + size (shape_of
    c.deref-in-Both.result.now))) c.in_ok-first-in-Both.first.behind.leaf) (record {
      behaviour = refl;
      same_shape = refl;
      node =
          (c.in_ok-first-in-Both.ensures.answer (stand (side_of c.args.left.now) (shape_of c.deref-in-Both.result.now) (suc place.number)
          c.args.at.leaf) (below_there place (parallel (meet_of c.args.meet.now) (side_of c.args.left.now) (side_of c.args.right.now))
          (side_of c.args.left.now) (both_sides (shape_of c.deref-in-Both.result.now) (shape_of c.deref-in-Both-2.result.now)) (shape_of
          c.deref-in-Both.result.now) c.args.at c.below-in-Both.result (of_shape place (parallel (meet_of c.args.meet.now) (side_of
          c.args.left.now) (side_of c.args.right.now)) (shape_of c.args.shape.now) (both_sides (shape_of c.deref-in-Both.result.now)
          (shape_of c.deref-in-Both-2.result.now)) c.args.at (two_as (λ (s t : Shape). both_sides (shape_of s) (shape_of t)) _ _ _ _
          c.deref-in-Both.ensures c.deref-in-Both-2.ensures ∙ sym (ap shape_of c.in-Both.is)) there) c.below-in-Both.ensures.node
          c.args.at.leaf c.below-in-Both.ensures.leaf)).node_behind ∙ ap kept_number (place_behind place.number (size (shape_of
          c.deref-in-Both.result.now)));
      leaf = refl;
    })))))

pub hide_step-returns-in_default : goal.hide_step-returns-in_default
hide_step-returns-in_default g t c =
    record {
      answer = λ place there. misfit_there (ground_of (g.D.Deciding.known_data c.args.data.now) (g.D.Deciding.canon c.args.data.now)
          c.args.walk.now.spec.now) (terms_of c.args.walk.now.leaves.now) place (hide c.args.gates.now.items (side_of c.args.inner.now))
          (shape_of c.args.shape.now) c.args.at there c.misfit.result
          (unfit_hide (setting_on (ground_of (g.D.Deciding.known_data c.args.data.now) (g.D.Deciding.canon c.args.data.now)
          c.args.walk.now.spec.now)) (terms_of c.args.walk.now.leaves.now) c.args.at.leaf c.args.shape.now c.args.gates.now.items
          (side_of c.args.inner.now) (λ part is. c.in_default.not-Hidden part is)) c.misfit.ensures;
      same_known = keeps_itself;
    }

pub hide_step-side_step-requires : goal.hide_step-side_step-requires
hide_step-side_step-requires g t c κs within = (
  (part_less (shape_of c.args.shape.now) (shape_of c.deref.result.now) (side_of c.args.inner.now) 4 _ (omega arith) (ap (λ (s :
      Shape). size (shape_of s)) c.in-Hidden.is ∙ ap (λ (s : Shape). suc (size (shape_of s))) (sym c.deref.ensures)) c.decreases),
  (
    search rules,
    (
      (subst (λ (k : ℕ). IsStepWalk (ground_of (g.D.Deciding.known_data c.args.data.now) (g.D.Deciding.canon
          c.args.data.now) c.args.walk.now.spec.now) c.args.walk.now.leaves.now k) (sym c.below.ensures.leaf) c.requires.walk),
      (record {
        passable = (record { closed = c.requires.part.closed.1; terms_of_signature = c.requires.part.terms_of_signature });
        states =
            c.requires.states;
      }),
    ),
  ),
)

pub hide_step-returns-in_err-moved-clause-answer : goal.hide_step-returns-in_err-moved-clause-answer
hide_step-returns-in_err-moved-clause-answer g t c =
    λ place there.
    refusal_walked (ground_of (g.D.Deciding.known_data c.args.data.now) (g.D.Deciding.canon c.args.data.now) c.args.walk.now.spec.now)
    (terms_of c.args.walk.now.leaves.now) place c.from_residual.result c.in_err-moved.field-0.0 c.from_residual.ensures.1
    (there_refused (ground_of (g.D.Deciding.known_data c.args.data.now) (g.D.Deciding.canon c.args.data.now) c.args.walk.now.spec.now)
    (terms_of c.args.walk.now.leaves.now) place (hide c.args.gates.now.items (side_of c.args.inner.now)) (hidden (shape_of
    c.deref.result.now)) c.args.at (of_shape place (hide c.args.gates.now.items (side_of c.args.inner.now)) (shape_of
    c.args.shape.now) (hidden (shape_of c.deref.result.now)) c.args.at (ap (λ (s : Shape). hidden (shape_of s)) c.deref.ensures ∙ sym
    (ap shape_of c.in-Hidden.is)) there) c.in_err-moved.field-0.0
    (walked_part (ground_of (g.D.Deciding.known_data c.args.data.now) (g.D.Deciding.canon c.args.data.now) c.args.walk.now.spec.now)
    (terms_of c.args.walk.now.leaves.now) (stand (hide c.args.gates.now.items (side_of c.args.inner.now)) (hidden (shape_of
    c.deref.result.now)) place.number c.args.at.leaf) (stand (side_of c.args.inner.now) (shape_of c.deref.result.now) (suc
    place.number) c.args.at.leaf) _ (hide_row (setting_on (ground_of (g.D.Deciding.known_data c.args.data.now) (g.D.Deciding.canon
    c.args.data.now) c.args.walk.now.spec.now)) (terms_of c.args.walk.now.leaves.now) (shape_of c.deref.result.now) place.number
    c.args.at.leaf c.args.gates.now.items (side_of c.args.inner.now)) refl c.in_err-moved.field-0.0
    (c.in_err-moved.ensures.answer (stand (side_of c.args.inner.now) (shape_of c.deref.result.now) (suc place.number) c.args.at.leaf)
    (below_there place (hide c.args.gates.now.items (side_of c.args.inner.now)) (side_of c.args.inner.now) (hidden (shape_of
    c.deref.result.now)) (shape_of c.deref.result.now) c.args.at c.below.result (of_shape place (hide c.args.gates.now.items (side_of
    c.args.inner.now)) (shape_of c.args.shape.now) (hidden (shape_of c.deref.result.now)) c.args.at (ap (λ (s : Shape). hidden
    (shape_of s)) c.deref.ensures ∙ sym (ap shape_of c.in-Hidden.is)) there) c.below.ensures.node c.args.at.leaf
    c.below.ensures.leaf))))

pub hide_step-returns-clause-answer : goal.hide_step-returns-clause-answer
hide_step-returns-clause-answer g t c =
    λ place there.
    there_walked (ground_of (g.D.Deciding.known_data c.args.data.now) (g.D.Deciding.canon c.args.data.now) c.args.walk.now.spec.now)
    (terms_of c.args.walk.now.leaves.now) place (hide c.args.gates.now.items (side_of c.args.inner.now)) (hidden (shape_of
    c.deref.result.now)) c.args.at (of_shape place (hide c.args.gates.now.items (side_of c.args.inner.now)) (shape_of
    c.args.shape.now) (hidden (shape_of c.deref.result.now)) c.args.at (ap (λ (s : Shape). hidden (shape_of s)) c.deref.ensures ∙ sym
    (ap shape_of c.in-Hidden.is)) there) c.hidden.result
    (c.hidden.ensures (ground_of (g.D.Deciding.known_data c.args.data.now) (g.D.Deciding.canon c.args.data.now) c.args.walk.now.spec.now)
    (terms_of c.args.walk.now.leaves.now) (stand (hide c.args.gates.now.items (side_of c.args.inner.now)) (hidden (shape_of
    c.deref.result.now)) place.number c.args.at.leaf) (stand (side_of c.args.inner.now) (shape_of c.deref.result.now) (suc
    place.number) c.args.at.leaf) there.node (hide_row (setting_on (ground_of (g.D.Deciding.known_data c.args.data.now)
    (g.D.Deciding.canon c.args.data.now) c.args.walk.now.spec.now)) (terms_of c.args.walk.now.leaves.now) (shape_of
    c.deref.result.now) place.number c.args.at.leaf c.args.gates.now.items (side_of c.args.inner.now)) (is_below (hide
    c.args.gates.now.items (side_of c.args.inner.now)) (side_of c.args.inner.now) (hidden (shape_of c.deref.result.now)) (shape_of
    c.deref.result.now) place.number c.args.at.leaf refl) tt (c.in_ok-moved.ensures.answer (stand (side_of c.args.inner.now)
    (shape_of c.deref.result.now) (suc place.number) c.args.at.leaf) (below_there place (hide c.args.gates.now.items (side_of
    c.args.inner.now)) (side_of c.args.inner.now) (hidden (shape_of c.deref.result.now)) (shape_of c.deref.result.now) c.args.at
    c.below.result (of_shape place (hide c.args.gates.now.items (side_of c.args.inner.now)) (shape_of c.args.shape.now) (hidden
    (shape_of c.deref.result.now)) c.args.at (ap (λ (s : Shape). hidden (shape_of s)) c.deref.ensures ∙ sym (ap shape_of
    c.in-Hidden.is)) there) c.below.ensures.node c.args.at.leaf c.below.ensures.leaf)))

pub enable_step-returns-in_default : goal.enable_step-returns-in_default
enable_step-returns-in_default g t c =
    record {
      answer = λ place there. misfit_there (ground_of (g.D.Deciding.known_data c.args.data.now) (g.D.Deciding.canon c.args.data.now)
          c.args.walk.now.spec.now) (terms_of c.args.walk.now.leaves.now) place (enabling_of (side_of c.args.left.now) c.args.side.now)
          (shape_of c.args.shape.now) c.args.at there c.misfit.result
          (unfit_enable (setting_on (ground_of (g.D.Deciding.known_data c.args.data.now) (g.D.Deciding.canon c.args.data.now)
          c.args.walk.now.spec.now)) (terms_of c.args.walk.now.leaves.now) c.args.at.leaf c.args.shape.now (side_of c.args.left.now)
          (variables_of c.args.side.now.variables.now.items) (followed c.args.side.now) (λ part is. c.in_default.not-Passed part is)
          (λ part is. c.in_default.not-Enabled part is)) c.misfit.ensures;
      same_known = keeps_itself;
    }

pub enable_step-side_step-requires : goal.enable_step-side_step-requires
enable_step-side_step-requires g t c κs within = (
  (part_less (shape_of c.args.shape.now) (shape_of c.deref.result.now) (side_of c.args.left.now) 4 _ (omega arith) (ap (λ (s : Shape).
      size (shape_of s)) c.in-Passed.is ∙ ap (λ (s : Shape). suc (size (shape_of s))) (sym c.deref.ensures)) c.decreases),
  (
    search
        rules,
    (
      (subst (λ (k : ℕ). IsStepWalk (ground_of (g.D.Deciding.known_data c.args.data.now) (g.D.Deciding.canon c.args.data.now)
          c.args.walk.now.spec.now) c.args.walk.now.leaves.now k) (sym c.below.ensures.leaf) c.requires.walk),
      (record {
        passable = (record {
          closed = c.requires.part.closed.0;
          terms_of_signature = first_terms (g.D.Deciding.known_data c.args.data.now).signature
              (side_profiles c.args.left.now) (following_profiles c.args.side.now) c.requires.part.terms_of_signature;
        });
        states =
            c.requires.states.0;
      }),
    ),
  ),
)

pub enable_step-returns-in_err-moved-in-Passed-clause-answer : goal.enable_step-returns-in_err-moved-in-Passed-clause-answer
enable_step-returns-in_err-moved-in-Passed-clause-answer g t c =
    λ place there.
    refusal_walked (ground_of (g.D.Deciding.known_data c.args.data.now) (g.D.Deciding.canon c.args.data.now) c.args.walk.now.spec.now)
    (terms_of c.args.walk.now.leaves.now) place c.from_residual.result c.in_err-moved-in-Passed.field-0.0 c.from_residual.ensures.1
    (there_refused (ground_of (g.D.Deciding.known_data c.args.data.now) (g.D.Deciding.canon c.args.data.now) c.args.walk.now.spec.now)
    (terms_of c.args.walk.now.leaves.now) place (enabling_of (side_of c.args.left.now) c.args.side.now) (passed (shape_of
    c.deref.result.now)) c.args.at (of_shape place (enabling_of (side_of c.args.left.now) c.args.side.now) (shape_of
    c.args.shape.now) (passed (shape_of c.deref.result.now)) c.args.at (ap (λ (s : Shape). passed (shape_of s)) c.deref.ensures ∙ sym
    (ap shape_of c.in-Passed.is)) there) c.in_err-moved-in-Passed.field-0.0
    (walked_part (ground_of (g.D.Deciding.known_data c.args.data.now) (g.D.Deciding.canon c.args.data.now) c.args.walk.now.spec.now)
    (terms_of c.args.walk.now.leaves.now) (stand (enabling_of (side_of c.args.left.now) c.args.side.now) (passed (shape_of
    c.deref.result.now)) place.number c.args.at.leaf) (stand (side_of c.args.left.now) (shape_of c.deref.result.now) (suc
    place.number) c.args.at.leaf) _ (passed_row (setting_on (ground_of (g.D.Deciding.known_data c.args.data.now) (g.D.Deciding.canon
    c.args.data.now) c.args.walk.now.spec.now)) (terms_of c.args.walk.now.leaves.now) (shape_of c.deref.result.now) place.number
    c.args.at.leaf (side_of c.args.left.now) (variables_of c.args.side.now.variables.now.items) (followed c.args.side.now)) refl
    c.in_err-moved-in-Passed.field-0.0
    (c.in_err-moved-in-Passed.ensures.answer (stand (side_of c.args.left.now) (shape_of c.deref.result.now) (suc place.number)
    c.args.at.leaf) (below_there place (enabling_of (side_of c.args.left.now) c.args.side.now) (side_of c.args.left.now) (passed
    (shape_of c.deref.result.now)) (shape_of c.deref.result.now) c.args.at c.below.result (of_shape place (enabling_of (side_of
    c.args.left.now) c.args.side.now) (shape_of c.args.shape.now) (passed (shape_of c.deref.result.now)) c.args.at (ap (λ (s :
    Shape). passed (shape_of s)) c.deref.ensures ∙ sym (ap shape_of c.in-Passed.is)) there) c.below.ensures.node c.args.at.leaf
    c.below.ensures.leaf))))

pub enable_step-returns-in_ok-moved-in-Passed-clause-answer : goal.enable_step-returns-in_ok-moved-in-Passed-clause-answer
enable_step-returns-in_ok-moved-in-Passed-clause-answer g t c =
    λ place there.
    there_walked (ground_of (g.D.Deciding.known_data c.args.data.now) (g.D.Deciding.canon c.args.data.now) c.args.walk.now.spec.now)
    (terms_of c.args.walk.now.leaves.now) place (enabling_of (side_of c.args.left.now) c.args.side.now) (passed (shape_of
    c.deref.result.now)) c.args.at (of_shape place (enabling_of (side_of c.args.left.now) c.args.side.now) (shape_of
    c.args.shape.now) (passed (shape_of c.deref.result.now)) c.args.at (ap (λ (s : Shape). passed (shape_of s)) c.deref.ensures ∙ sym
    (ap shape_of c.in-Passed.is)) there) c.passed.result
    (c.passed.ensures (ground_of (g.D.Deciding.known_data c.args.data.now) (g.D.Deciding.canon c.args.data.now) c.args.walk.now.spec.now)
    (terms_of c.args.walk.now.leaves.now) (stand (enabling_of (side_of c.args.left.now) c.args.side.now) (passed (shape_of
    c.deref.result.now)) place.number c.args.at.leaf) (stand (side_of c.args.left.now) (shape_of c.deref.result.now) (suc
    place.number) c.args.at.leaf) there.node (passed_row (setting_on (ground_of (g.D.Deciding.known_data c.args.data.now)
    (g.D.Deciding.canon c.args.data.now) c.args.walk.now.spec.now)) (terms_of c.args.walk.now.leaves.now) (shape_of
    c.deref.result.now) place.number c.args.at.leaf (side_of c.args.left.now) (variables_of c.args.side.now.variables.now.items)
    (followed c.args.side.now)) (is_below (enabling_of (side_of c.args.left.now) c.args.side.now) (side_of c.args.left.now) (passed
    (shape_of c.deref.result.now)) (shape_of c.deref.result.now) place.number c.args.at.leaf refl) (record {
      binders =
          c.requires.part.closed.1;
      closed = c.requires.part.closed.2;
      terms_of_signature = second_terms (g.D.Deciding.known_data
          c.args.data.now).signature (side_profiles c.args.left.now) (following_profiles c.args.side.now)
          c.requires.part.terms_of_signature;
      states = c.requires.states.1;
    }) (c.in_ok-moved-in-Passed.ensures.answer (stand (side_of
    c.args.left.now) (shape_of c.deref.result.now) (suc place.number) c.args.at.leaf) (below_there place (enabling_of (side_of
    c.args.left.now) c.args.side.now) (side_of c.args.left.now) (passed (shape_of c.deref.result.now)) (shape_of c.deref.result.now)
    c.args.at c.below.result (of_shape place (enabling_of (side_of c.args.left.now) c.args.side.now) (shape_of c.args.shape.now)
    (passed (shape_of c.deref.result.now)) c.args.at (ap (λ (s : Shape). passed (shape_of s)) c.deref.ensures ∙ sym (ap shape_of
    c.in-Passed.is)) there) c.below.ensures.node c.args.at.leaf c.below.ensures.leaf)))

pub enable_step-side_step-requires-in-Enabled : goal.enable_step-side_step-requires-in-Enabled
enable_step-side_step-requires-in-Enabled g t c κs within = (
  (part_less (shape_of c.args.shape.now) (shape_of c.deref-in-Enabled.result.now) (side_of c.args.left.now) 4 _ (omega arith) (ap (λ
      (s : Shape). size (shape_of s)) c.in-Enabled.is ∙ ap (λ (s : Shape). suc (size (shape_of s))) (sym c.deref-in-Enabled.ensures))
      c.decreases),
  (
    search rules,
    (
      (subst (λ (k : ℕ). IsStepWalk (ground_of (g.D.Deciding.known_data c.args.data.now) (g.D.Deciding.canon
          c.args.data.now) c.args.walk.now.spec.now) c.args.walk.now.leaves.now k) (sym c.below-in-Enabled.ensures.leaf)
          c.requires.walk),
      (record {
        passable = (record {
          closed = c.requires.part.closed.0;
          terms_of_signature = first_terms (g.D.Deciding.known_data
              c.args.data.now).signature (side_profiles c.args.left.now) (following_profiles c.args.side.now)
              c.requires.part.terms_of_signature;
        });
        states = c.requires.states.0;
      }),
    ),
  ),
)

pub enable_step-enabled-requires : goal.enable_step-enabled-requires
enable_step-enabled-requires g t c =
    c.requires.states.1

pub enable_step-returns-in_err-moved-in-Enabled-clause-answer : goal.enable_step-returns-in_err-moved-in-Enabled-clause-answer
enable_step-returns-in_err-moved-in-Enabled-clause-answer g t c =
    λ place there.
    refusal_walked (ground_of (g.D.Deciding.known_data c.args.data.now) (g.D.Deciding.canon c.args.data.now) c.args.walk.now.spec.now)
    (terms_of c.args.walk.now.leaves.now) place c.from_residual-in_err-moved-in-Enabled.result c.in_err-moved-in-Enabled.field-0.0
    c.from_residual-in_err-moved-in-Enabled.ensures.1
    (there_refused (ground_of (g.D.Deciding.known_data c.args.data.now) (g.D.Deciding.canon c.args.data.now) c.args.walk.now.spec.now)
    (terms_of c.args.walk.now.leaves.now) place (enabling_of (side_of c.args.left.now) c.args.side.now) (enabled (shape_of
    c.deref-in-Enabled.result.now)) c.args.at (of_shape place (enabling_of (side_of c.args.left.now) c.args.side.now) (shape_of
    c.args.shape.now) (enabled (shape_of c.deref-in-Enabled.result.now)) c.args.at (ap (λ (s : Shape). enabled (shape_of s))
    c.deref-in-Enabled.ensures ∙ sym (ap shape_of c.in-Enabled.is)) there) c.in_err-moved-in-Enabled.field-0.0
    (walked_part (ground_of (g.D.Deciding.known_data c.args.data.now) (g.D.Deciding.canon c.args.data.now) c.args.walk.now.spec.now)
    (terms_of c.args.walk.now.leaves.now) (stand (enabling_of (side_of c.args.left.now) c.args.side.now) (enabled (shape_of
    c.deref-in-Enabled.result.now)) place.number c.args.at.leaf) (stand (side_of c.args.left.now) (shape_of
    c.deref-in-Enabled.result.now) (suc place.number) c.args.at.leaf) _ (enabled_row (setting_on (ground_of (g.D.Deciding.known_data
    c.args.data.now) (g.D.Deciding.canon c.args.data.now) c.args.walk.now.spec.now)) (terms_of c.args.walk.now.leaves.now) (shape_of
    c.deref-in-Enabled.result.now) place.number c.args.at.leaf (side_of c.args.left.now) (variables_of
    c.args.side.now.variables.now.items) (followed c.args.side.now)) refl c.in_err-moved-in-Enabled.field-0.0
    (c.in_err-moved-in-Enabled.ensures.answer (stand (side_of c.args.left.now) (shape_of c.deref-in-Enabled.result.now) (suc
    place.number) c.args.at.leaf) (below_there place (enabling_of (side_of c.args.left.now) c.args.side.now) (side_of
    c.args.left.now) (enabled (shape_of c.deref-in-Enabled.result.now)) (shape_of c.deref-in-Enabled.result.now) c.args.at
    c.below-in-Enabled.result (of_shape place (enabling_of (side_of c.args.left.now) c.args.side.now) (shape_of c.args.shape.now)
    (enabled (shape_of c.deref-in-Enabled.result.now)) c.args.at (ap (λ (s : Shape). enabled (shape_of s)) c.deref-in-Enabled.ensures
    ∙ sym (ap shape_of c.in-Enabled.is)) there) c.below-in-Enabled.ensures.node c.args.at.leaf c.below-in-Enabled.ensures.leaf))))

pub enable_step-returns-in_ok-moved-in-Enabled-clause-answer : goal.enable_step-returns-in_ok-moved-in-Enabled-clause-answer
enable_step-returns-in_ok-moved-in-Enabled-clause-answer g t c =
    λ place there.
    there_walked (ground_of (g.D.Deciding.known_data c.args.data.now) (g.D.Deciding.canon c.args.data.now) c.args.walk.now.spec.now)
    (terms_of c.args.walk.now.leaves.now) place (enabling_of (side_of c.args.left.now) c.args.side.now) (enabled (shape_of
    c.deref-in-Enabled.result.now)) c.args.at (of_shape place (enabling_of (side_of c.args.left.now) c.args.side.now) (shape_of
    c.args.shape.now) (enabled (shape_of c.deref-in-Enabled.result.now)) c.args.at (ap (λ (s : Shape). enabled (shape_of s))
    c.deref-in-Enabled.ensures ∙ sym (ap shape_of c.in-Enabled.is)) there) c.enabled.result
    (c.enabled.ensures (ground_of (g.D.Deciding.known_data c.args.data.now) (g.D.Deciding.canon c.args.data.now)
    c.args.walk.now.spec.now) (terms_of c.args.walk.now.leaves.now) (stand (enabling_of (side_of c.args.left.now) c.args.side.now)
    (enabled (shape_of c.deref-in-Enabled.result.now)) place.number c.args.at.leaf) (stand (side_of c.args.left.now) (shape_of
    c.deref-in-Enabled.result.now) (suc place.number) c.args.at.leaf) there.node (enabled_row (setting_on (ground_of
    (g.D.Deciding.known_data c.args.data.now) (g.D.Deciding.canon c.args.data.now) c.args.walk.now.spec.now)) (terms_of
    c.args.walk.now.leaves.now) (shape_of c.deref-in-Enabled.result.now) place.number c.args.at.leaf (side_of c.args.left.now)
    (variables_of c.args.side.now.variables.now.items) (followed c.args.side.now)) (is_below (enabling_of (side_of c.args.left.now)
    c.args.side.now) (side_of c.args.left.now) (enabled (shape_of c.deref-in-Enabled.result.now)) (shape_of
    c.deref-in-Enabled.result.now) place.number c.args.at.leaf refl) (
      (record {
        binders = c.requires.part.closed.1;
        closed =
            c.requires.part.closed.2;
        terms_of_signature = second_terms (g.D.Deciding.known_data c.args.data.now).signature (side_profiles
            c.args.left.now) (following_profiles c.args.side.now) c.requires.part.terms_of_signature;
        states = c.requires.states.1;
      }),
      label_closed (ground_of (g.D.Deciding.known_data c.args.data.now) (g.D.Deciding.canon c.args.data.now) c.args.walk.now.spec.now)
          (g.met.D.Deciding.is_canon c.args.data.now) c.requires.walk.over (terms_of c.args.walk.now.leaves.now) (stand (side_of
          c.args.left.now) (shape_of c.deref-in-Enabled.result.now) (suc place.number) c.args.at.leaf) (within_terms
          c.args.walk.now.leaves.now c.args.at.leaf c.requires.walk.within) c.requires.part.closed.0 c.in_ok-moved-in-Enabled.moved
          (c.in_ok-moved-in-Enabled.ensures.answer (stand (side_of c.args.left.now) (shape_of c.deref-in-Enabled.result.now) (suc
          place.number) c.args.at.leaf) (below_there place (enabling_of (side_of c.args.left.now) c.args.side.now) (side_of
          c.args.left.now) (enabled (shape_of c.deref-in-Enabled.result.now)) (shape_of c.deref-in-Enabled.result.now) c.args.at
          c.below-in-Enabled.result (of_shape place (enabling_of (side_of c.args.left.now) c.args.side.now) (shape_of c.args.shape.now)
          (enabled (shape_of c.deref-in-Enabled.result.now)) c.args.at (ap (λ (s : Shape). enabled (shape_of s))
          c.deref-in-Enabled.ensures
          ∙ sym (ap shape_of c.in-Enabled.is)) there) c.below-in-Enabled.ensures.node c.args.at.leaf c.below-in-Enabled.ensures.leaf)),
    )
    (c.in_ok-moved-in-Enabled.ensures.answer (stand (side_of c.args.left.now) (shape_of c.deref-in-Enabled.result.now) (suc
    place.number) c.args.at.leaf) (below_there place (enabling_of (side_of c.args.left.now) c.args.side.now) (side_of
    c.args.left.now) (enabled (shape_of c.deref-in-Enabled.result.now)) (shape_of c.deref-in-Enabled.result.now) c.args.at
    c.below-in-Enabled.result (of_shape place (enabling_of (side_of c.args.left.now) c.args.side.now) (shape_of c.args.shape.now)
    (enabled (shape_of c.deref-in-Enabled.result.now)) c.args.at (ap (λ (s : Shape). enabled (shape_of s)) c.deref-in-Enabled.ensures
    ∙ sym (ap shape_of c.in-Enabled.is)) there) c.below-in-Enabled.ensures.node c.args.at.leaf c.below-in-Enabled.ensures.leaf)))

pub disable_step-returns-in_default : goal.disable_step-returns-in_default
disable_step-returns-in_default g t c =
    record {
      answer = λ place there. misfit_there (ground_of (g.D.Deciding.known_data c.args.data.now) (g.D.Deciding.canon c.args.data.now)
          c.args.walk.now.spec.now) (terms_of c.args.walk.now.leaves.now) place (disable (side_of c.args.left.now) (side_of
          c.args.right.now)) (shape_of c.args.shape.now) c.args.at there c.misfit.result
          (unfit_disable (setting_on (ground_of (g.D.Deciding.known_data c.args.data.now) (g.D.Deciding.canon c.args.data.now)
          c.args.walk.now.spec.now)) (terms_of c.args.walk.now.leaves.now) c.args.at.leaf c.args.shape.now (side_of c.args.left.now)
          (side_of c.args.right.now) (λ part is. c.in_default.not-Left part is) (λ part is. c.in_default.not-Right part is))
          c.misfit.ensures;
      same_known = keeps_itself;
    }

pub disable_step-side_step-requires : goal.disable_step-side_step-requires
disable_step-side_step-requires g t c κs within = (
  (part_less (shape_of c.args.shape.now) (shape_of c.deref.result.now) (side_of c.args.left.now) 4 _ (omega arith) (ap (λ (s : Shape).
      size (shape_of s)) c.in-Left.is ∙ ap (λ (s : Shape). suc (size (shape_of s))) (sym c.deref.ensures)) c.decreases),
  (
    search rules,
    (
      (subst (λ (k : ℕ). IsStepWalk (ground_of (g.D.Deciding.known_data c.args.data.now) (g.D.Deciding.canon c.args.data.now)
          c.args.walk.now.spec.now) c.args.walk.now.leaves.now k) (sym c.below.ensures.leaf) c.requires.walk),
      (record {
        passable = (record {
          closed = c.requires.part.closed.0;
          terms_of_signature = first_terms (g.D.Deciding.known_data c.args.data.now).signature
              (side_profiles c.args.left.now) (side_profiles c.args.right.now) c.requires.part.terms_of_signature;
        });
        states =
            c.requires.states.0;
      }),
    ),
  ),
)

pub disable_step-returns-in_err-moved-in-Left-clause-answer : goal.disable_step-returns-in_err-moved-in-Left-clause-answer
disable_step-returns-in_err-moved-in-Left-clause-answer g t c =
    λ place there.
    refusal_walked (ground_of (g.D.Deciding.known_data c.args.data.now) (g.D.Deciding.canon c.args.data.now) c.args.walk.now.spec.now)
    (terms_of c.args.walk.now.leaves.now) place c.from_residual.result c.in_err-moved-in-Left.field-0.0 c.from_residual.ensures.1
    (there_refused (ground_of (g.D.Deciding.known_data c.args.data.now) (g.D.Deciding.canon c.args.data.now) c.args.walk.now.spec.now)
    (terms_of c.args.walk.now.leaves.now) place (disable (side_of c.args.left.now) (side_of c.args.right.now)) (left_side (shape_of
    c.deref.result.now)) c.args.at (of_shape place (disable (side_of c.args.left.now) (side_of c.args.right.now)) (shape_of
    c.args.shape.now) (left_side (shape_of c.deref.result.now)) c.args.at (ap (λ (s : Shape). left_side (shape_of s)) c.deref.ensures
    ∙ sym (ap shape_of c.in-Left.is)) there) c.in_err-moved-in-Left.field-0.0
    (walked_part (ground_of (g.D.Deciding.known_data c.args.data.now) (g.D.Deciding.canon c.args.data.now) c.args.walk.now.spec.now)
    (terms_of c.args.walk.now.leaves.now) (stand (disable (side_of c.args.left.now) (side_of c.args.right.now)) (left_side (shape_of
    c.deref.result.now)) place.number c.args.at.leaf) (stand (side_of c.args.left.now) (shape_of c.deref.result.now) (suc
    place.number) c.args.at.leaf) _ (disabled_row (setting_on (ground_of (g.D.Deciding.known_data c.args.data.now)
    (g.D.Deciding.canon c.args.data.now) c.args.walk.now.spec.now)) (terms_of c.args.walk.now.leaves.now) (shape_of
    c.deref.result.now) place.number c.args.at.leaf (side_of c.args.left.now) (side_of c.args.right.now)) refl
    c.in_err-moved-in-Left.field-0.0
    (c.in_err-moved-in-Left.ensures.answer (stand (side_of c.args.left.now) (shape_of c.deref.result.now) (suc place.number)
    c.args.at.leaf) (below_there place (disable (side_of c.args.left.now) (side_of c.args.right.now)) (side_of c.args.left.now)
    (left_side (shape_of c.deref.result.now)) (shape_of c.deref.result.now) c.args.at c.below.result (of_shape place (disable
    (side_of c.args.left.now) (side_of c.args.right.now)) (shape_of c.args.shape.now) (left_side (shape_of c.deref.result.now))
    c.args.at (ap (λ (s : Shape). left_side (shape_of s)) c.deref.ensures ∙ sym (ap shape_of c.in-Left.is)) there)
    c.below.ensures.node c.args.at.leaf c.below.ensures.leaf))))

pub disable_step-returns-in_ok-moved-in-Left-clause-answer : goal.disable_step-returns-in_ok-moved-in-Left-clause-answer
disable_step-returns-in_ok-moved-in-Left-clause-answer g t c =
    λ place there.
    there_walked (ground_of (g.D.Deciding.known_data c.args.data.now) (g.D.Deciding.canon c.args.data.now) c.args.walk.now.spec.now)
    (terms_of c.args.walk.now.leaves.now) place (disable (side_of c.args.left.now) (side_of c.args.right.now)) (left_side (shape_of
    c.deref.result.now)) c.args.at (of_shape place (disable (side_of c.args.left.now) (side_of c.args.right.now)) (shape_of
    c.args.shape.now) (left_side (shape_of c.deref.result.now)) c.args.at (ap (λ (s : Shape). left_side (shape_of s)) c.deref.ensures
    ∙ sym (ap shape_of c.in-Left.is)) there) c.disabled.result
    (c.disabled.ensures (ground_of (g.D.Deciding.known_data c.args.data.now) (g.D.Deciding.canon c.args.data.now)
    c.args.walk.now.spec.now) (terms_of c.args.walk.now.leaves.now) (stand (disable (side_of c.args.left.now) (side_of
    c.args.right.now)) (left_side (shape_of c.deref.result.now)) place.number c.args.at.leaf) (stand (side_of c.args.left.now)
    (shape_of c.deref.result.now) (suc place.number) c.args.at.leaf) there.node (disabled_row (setting_on (ground_of
    (g.D.Deciding.known_data c.args.data.now) (g.D.Deciding.canon c.args.data.now) c.args.walk.now.spec.now)) (terms_of
    c.args.walk.now.leaves.now) (shape_of c.deref.result.now) place.number c.args.at.leaf (side_of c.args.left.now) (side_of
    c.args.right.now)) (is_below (disable (side_of c.args.left.now) (side_of c.args.right.now)) (side_of c.args.left.now) (left_side
    (shape_of c.deref.result.now)) (shape_of c.deref.result.now) place.number c.args.at.leaf refl) (record {
      passable = (record {
        closed = c.requires.part.closed.1;
        terms_of_signature = second_terms (g.D.Deciding.known_data c.args.data.now).signature
            (side_profiles c.args.left.now) (side_profiles c.args.right.now) c.requires.part.terms_of_signature;
      });
      states =
          c.requires.states.1;
    }) (c.in_ok-moved-in-Left.ensures.answer (stand (side_of c.args.left.now) (shape_of c.deref.result.now) (suc
    place.number) c.args.at.leaf) (below_there place (disable (side_of c.args.left.now) (side_of c.args.right.now)) (side_of
    c.args.left.now) (left_side (shape_of c.deref.result.now)) (shape_of c.deref.result.now) c.args.at c.below.result (of_shape place
    (disable (side_of c.args.left.now) (side_of c.args.right.now)) (shape_of c.args.shape.now) (left_side (shape_of
    c.deref.result.now)) c.args.at (ap (λ (s : Shape). left_side (shape_of s)) c.deref.ensures ∙ sym (ap shape_of c.in-Left.is))
    there) c.below.ensures.node c.args.at.leaf c.below.ensures.leaf)))

pub disable_step-side_step-requires-in-Right : goal.disable_step-side_step-requires-in-Right
disable_step-side_step-requires-in-Right g t c κs within = (
  (part_less (shape_of c.args.shape.now) (shape_of c.deref-in-Right.result.now) (side_of c.args.right.now) 4 _ (omega arith) (ap (λ (s
      : Shape). size (shape_of s)) c.in-Right.is ∙ ap (λ (s : Shape). suc (size (shape_of s))) (sym c.deref-in-Right.ensures))
      c.decreases),
  (
    search rules,
    (
      (subst (λ (k : ℕ). IsStepWalk (ground_of (g.D.Deciding.known_data c.args.data.now) (g.D.Deciding.canon
          c.args.data.now) c.args.walk.now.spec.now) c.args.walk.now.leaves.now k) (sym c.below-in-Right.ensures.leaf) c.requires.walk),
      (record {
        passable = (record {
          closed = c.requires.part.closed.1;
          terms_of_signature = second_terms (g.D.Deciding.known_data
              c.args.data.now).signature (side_profiles c.args.left.now) (side_profiles c.args.right.now)
              c.requires.part.terms_of_signature;
        });
        states = c.requires.states.1;
      }),
    ),
  ),
)

pub disable_step-returns-in-Right-clause-answer : goal.disable_step-returns-in-Right-clause-answer
disable_step-returns-in-Right-clause-answer g t c =
    λ place there.
    there_walked (ground_of (g.D.Deciding.known_data c.args.data.now) (g.D.Deciding.canon c.args.data.now) c.args.walk.now.spec.now)
    (terms_of c.args.walk.now.leaves.now) place (disable (side_of c.args.left.now) (side_of c.args.right.now)) (right_side (shape_of
    c.deref-in-Right.result.now)) c.args.at (of_shape place (disable (side_of c.args.left.now) (side_of c.args.right.now)) (shape_of
    c.args.shape.now) (right_side (shape_of c.deref-in-Right.result.now)) c.args.at (ap (λ (s : Shape). right_side (shape_of s))
    c.deref-in-Right.ensures ∙ sym (ap shape_of c.in-Right.is)) there) c.side_step-in-Right.result
    (walked_on (ground_of (g.D.Deciding.known_data c.args.data.now) (g.D.Deciding.canon c.args.data.now) c.args.walk.now.spec.now)
    (terms_of c.args.walk.now.leaves.now) (stand (disable (side_of c.args.left.now) (side_of c.args.right.now)) (right_side (shape_of
    c.deref-in-Right.result.now)) place.number c.args.at.leaf) (stand (side_of c.args.right.now) (shape_of
    c.deref-in-Right.result.now) (suc place.number) c.args.at.leaf) same_row (undisabled_row (setting_on (ground_of
    (g.D.Deciding.known_data c.args.data.now) (g.D.Deciding.canon c.args.data.now) c.args.walk.now.spec.now)) (terms_of
    c.args.walk.now.leaves.now) (shape_of c.deref-in-Right.result.now) place.number c.args.at.leaf (side_of c.args.left.now) (side_of
    c.args.right.now)) refl (λ l. refl) (λ m. m) (λ m. refl) (λ m. refl) (λ m. refl)
    (nodes_below (stand (disable (side_of c.args.left.now) (side_of c.args.right.now)) (right_side (shape_of
    c.deref-in-Right.result.now)) place.number c.args.at.leaf) (stand (side_of c.args.right.now) (shape_of
    c.deref-in-Right.result.now) (suc place.number) c.args.at.leaf) (is_below (disable (side_of c.args.left.now) (side_of
    c.args.right.now)) (side_of c.args.right.now) (right_side (shape_of c.deref-in-Right.result.now)) (shape_of
    c.deref-in-Right.result.now) place.number c.args.at.leaf refl)) (λ m. refl) c.side_step-in-Right.result
    (c.side_step-in-Right.ensures.answer (stand (side_of c.args.right.now) (shape_of c.deref-in-Right.result.now) (suc place.number)
    c.args.at.leaf) (below_there place (disable (side_of c.args.left.now) (side_of c.args.right.now)) (side_of c.args.right.now)
    (right_side (shape_of c.deref-in-Right.result.now)) (shape_of c.deref-in-Right.result.now) c.args.at c.below-in-Right.result
    (of_shape place (disable (side_of c.args.left.now) (side_of c.args.right.now)) (shape_of c.args.shape.now) (right_side (shape_of
    c.deref-in-Right.result.now)) c.args.at (ap (λ (s : Shape). right_side (shape_of s)) c.deref-in-Right.ensures ∙ sym (ap shape_of
    c.in-Right.is)) there) c.below-in-Right.ensures.node c.args.at.leaf c.below-in-Right.ensures.leaf)))

pub let_step-returns-in_default : goal.let_step-returns-in_default
let_step-returns-in_default g t c =
    record {
      answer = λ place there. misfit_there (ground_of (g.D.Deciding.known_data c.args.data.now) (g.D.Deciding.canon c.args.data.now)
          c.args.walk.now.spec.now) (terms_of c.args.walk.now.leaves.now) place (let_be (map let_of c.args.bindings.now.items)
          (behaviour_of c.args.next.now)) (shape_of c.args.shape.now) c.args.at there c.misfit.result
          (unfit_let (setting_on (ground_of (g.D.Deciding.known_data c.args.data.now) (g.D.Deciding.canon c.args.data.now)
          c.args.walk.now.spec.now)) (terms_of c.args.walk.now.leaves.now) c.args.at.leaf c.args.shape.now (map let_of
          c.args.bindings.now.items) (behaviour_of c.args.next.now) (λ part is. c.in_default.not-Bound part is)) c.misfit.ensures;
      same_known = keeps_itself;
    }

pub let_step-let_body-requires : goal.let_step-let_body-requires
let_step-let_body-requires g t c =
    c.requires.part

pub let_step-returns-in_err-body-clause-answer : goal.let_step-returns-in_err-body-clause-answer
let_step-returns-in_err-body-clause-answer g t c =
    λ place there. memory_walked (ground_of (g.D.Deciding.known_data c.args.data.now) (g.D.Deciding.canon c.args.data.now)
    c.args.walk.now.spec.now) (terms_of c.args.walk.now.leaves.now) place c.from_residual.result c.from_residual.ensures.1

pub let_step-beh_step-requires : goal.let_step-beh_step-requires
let_step-beh_step-requires g t c κs within = (
  (part_less (shape_of c.args.shape.now) (shape_of c.deref.result.now) (behaviour_of c.in_ok-body.body) 2 _ (omega arith) (ap (λ (s :
      Shape). size (shape_of s)) c.in-Bound.is ∙ ap (λ (s : Shape). suc (size (shape_of s))) (sym c.deref.ensures)) c.decreases),
  (
    search rules,
    (
      (holds_after (λ (d : Data) (f : Term → Term). IsStepWalk (ground_of d f c.args.walk.now.spec.now)
          c.args.walk.now.leaves.now c.below.result.leaf) c.let_body.ensures.same_known
          (subst (λ (k : ℕ). IsStepWalk (ground_of (g.D.Deciding.known_data c.args.data.now) (g.D.Deciding.canon c.args.data.now)
          c.args.walk.now.spec.now) c.args.walk.now.leaves.now k) (sym c.below.ensures.leaf) c.requires.walk)),
      (holds_after (λ (d : Data) (f :
          Term → Term). IsPassable (ground_of d f c.args.walk.now.spec.now) (behaviour_of c.in_ok-body.body) (profiles_in
          c.in_ok-body.body)) c.let_body.ensures.same_known (record {
            closed = subst (λ (b
                : Behaviour). IsClosedOn (ground_of (g.D.Deciding.known_data c.args.data.now) (g.D.Deciding.canon c.args.data.now)
                c.args.walk.now.spec.now) b) (sym c.in_ok-body.ensures.same) (let_closed (ground_of (g.D.Deciding.known_data
                c.args.data.now)
                (g.D.Deciding.canon c.args.data.now) c.args.walk.now.spec.now) (g.met.D.Deciding.is_canon c.args.data.now)
                c.requires.walk.over
                (map let_of c.args.bindings.now.items) (behaviour_of c.args.next.now) c.requires.part.closed);
            terms_of_signature =
                c.in_ok-body.ensures.terms;
          })),
    ),
  ),
)

pub let_step-returns-clause-answer : goal.let_step-returns-clause-answer
let_step-returns-clause-answer g t c =
    λ place there.
    there_walked (ground_of (g.D.Deciding.known_data c.args.data.now) (g.D.Deciding.canon c.args.data.now) c.args.walk.now.spec.now)
    (terms_of c.args.walk.now.leaves.now) place (let_be (map let_of c.args.bindings.now.items) (behaviour_of c.args.next.now))
    (let_bound (shape_of c.deref.result.now)) c.args.at (of_shape place (let_be (map let_of c.args.bindings.now.items) (behaviour_of
    c.args.next.now)) (shape_of c.args.shape.now) (let_bound (shape_of c.deref.result.now)) c.args.at (ap (λ (s : Shape). let_bound
    (shape_of s)) c.deref.ensures ∙ sym (ap shape_of c.in-Bound.is)) there) c.beh_step.result
    (walked_on (ground_of (g.D.Deciding.known_data c.args.data.now) (g.D.Deciding.canon c.args.data.now) c.args.walk.now.spec.now)
    (terms_of c.args.walk.now.leaves.now) (stand (let_be (map let_of c.args.bindings.now.items) (behaviour_of c.args.next.now))
    (let_bound (shape_of c.deref.result.now)) place.number c.args.at.leaf) (stand (with_values (binding_of (let_variables (map let_of
    c.args.bindings.now.items)) (map (g.D.Deciding.canon c.args.data.now) (let_terms (map let_of c.args.bindings.now.items))))
    (behaviour_of c.args.next.now)) (shape_of c.deref.result.now) (suc place.number) c.args.at.leaf) _ (let_row (setting_on
    (ground_of (g.D.Deciding.known_data c.args.data.now) (g.D.Deciding.canon c.args.data.now) c.args.walk.now.spec.now)) (terms_of
    c.args.walk.now.leaves.now) (shape_of c.deref.result.now) place.number c.args.at.leaf (map let_of c.args.bindings.now.items)
    (behaviour_of c.args.next.now)) refl (λ l. refl) (λ m. m) (λ m. refl) (λ m. refl) (λ m. refl)
    (nodes_below (stand (let_be (map let_of c.args.bindings.now.items) (behaviour_of c.args.next.now)) (let_bound (shape_of
    c.deref.result.now)) place.number c.args.at.leaf) (stand (with_values (binding_of (let_variables (map let_of
    c.args.bindings.now.items)) (map (g.D.Deciding.canon c.args.data.now) (let_terms (map let_of c.args.bindings.now.items))))
    (behaviour_of c.args.next.now)) (shape_of c.deref.result.now) (suc place.number) c.args.at.leaf) (is_below (let_be (map let_of
    c.args.bindings.now.items) (behaviour_of c.args.next.now)) (with_values (binding_of (let_variables (map let_of
    c.args.bindings.now.items)) (map (g.D.Deciding.canon c.args.data.now) (let_terms (map let_of c.args.bindings.now.items))))
    (behaviour_of c.args.next.now)) (let_bound (shape_of c.deref.result.now)) (shape_of c.deref.result.now) place.number
    c.args.at.leaf refl)) (λ m. refl) c.beh_step.result
    (held_before (λ (d : Data) (f : Term → Term). IsWalked (ground_of d f c.args.walk.now.spec.now) (terms_of c.args.walk.now.leaves.now)
    (stand (with_values (binding_of (let_variables (map let_of c.args.bindings.now.items)) (map (g.D.Deciding.canon c.args.data.now)
    (let_terms (map let_of c.args.bindings.now.items)))) (behaviour_of c.args.next.now)) (shape_of c.deref.result.now) (suc
    place.number) c.args.at.leaf) c.beh_step.result) c.let_body.ensures.same_known
    (c.beh_step.ensures.answer (stand (with_values (binding_of (let_variables (map let_of c.args.bindings.now.items)) (map
    (g.D.Deciding.canon c.args.data.now) (let_terms (map let_of c.args.bindings.now.items)))) (behaviour_of c.args.next.now))
    (shape_of c.deref.result.now) (suc place.number) c.args.at.leaf) (part_there place (let_be (map let_of c.args.bindings.now.items)
    (behaviour_of c.args.next.now)) (with_values (binding_of (let_variables (map let_of c.args.bindings.now.items)) (map
    (g.D.Deciding.canon c.args.data.now) (let_terms (map let_of c.args.bindings.now.items)))) (behaviour_of c.args.next.now))
    (behaviour_of c.in_ok-body.body) (let_bound (shape_of c.deref.result.now)) (shape_of c.deref.result.now) (shape_of
    c.deref.result.now) c.args.at c.below.result (of_shape place (let_be (map let_of c.args.bindings.now.items) (behaviour_of
    c.args.next.now)) (shape_of c.args.shape.now) (let_bound (shape_of c.deref.result.now)) c.args.at (ap (λ (s : Shape). let_bound
    (shape_of s)) c.deref.ensures ∙ sym (ap shape_of c.in-Bound.is)) there) c.in_ok-body.ensures.same refl c.below.ensures.node
    c.args.at.leaf c.below.ensures.leaf))))

pub value_step-returns-in_default : goal.value_step-returns-in_default
value_step-returns-in_default g t c =
    record {
      answer = λ place there. misfit_there (ground_of (g.D.Deciding.known_data c.args.data.now) (g.D.Deciding.canon c.args.data.now)
          c.args.walk.now.spec.now) (terms_of c.args.walk.now.leaves.now) place (choose_value (variable_of c.args.variable.now)
          (behaviour_of c.args.next.now)) (shape_of c.args.shape.now) c.args.at there c.misfit.result
          (unfit_value (setting_on (ground_of (g.D.Deciding.known_data c.args.data.now) (g.D.Deciding.canon c.args.data.now)
          c.args.walk.now.spec.now)) (terms_of c.args.walk.now.leaves.now) c.args.at.leaf c.args.shape.now (variable_of
          c.args.variable.now) (behaviour_of c.args.next.now) (λ part is. c.in_default.not-Value part is)) c.misfit.ensures;
      same_known = keeps_itself;
    }

pub value_step-returns-in_err-checked_value-clause-answer : goal.value_step-returns-in_err-checked_value-clause-answer
value_step-returns-in_err-checked_value-clause-answer g t c =
    λ place there.
    refusal_walked (ground_of (g.D.Deciding.known_data c.args.data.now) (g.D.Deciding.canon c.args.data.now) c.args.walk.now.spec.now)
    (terms_of c.args.walk.now.leaves.now) place c.from_residual.result c.in_err-checked_value.field-0.0 c.from_residual.ensures.1
    (there_refused (ground_of (g.D.Deciding.known_data c.args.data.now) (g.D.Deciding.canon c.args.data.now) c.args.walk.now.spec.now)
    (terms_of c.args.walk.now.leaves.now) place (choose_value (variable_of c.args.variable.now) (behaviour_of c.args.next.now))
    (with_value (shape_of c.in-Value.inner.value)) c.args.at (of_shape place (choose_value (variable_of c.args.variable.now)
    (behaviour_of c.args.next.now)) (shape_of c.args.shape.now) (with_value (shape_of c.in-Value.inner.value)) c.args.at (sym (ap
    shape_of c.in-Value.is)) there) c.in_err-checked_value.field-0.0
    (walked_own (ground_of (g.D.Deciding.known_data c.args.data.now) (g.D.Deciding.canon c.args.data.now) c.args.walk.now.spec.now)
    (terms_of c.args.walk.now.leaves.now) (stand (choose_value (variable_of c.args.variable.now) (behaviour_of c.args.next.now))
    (with_value (shape_of c.in-Value.inner.value)) place.number c.args.at.leaf) (stand (with_values (binding_of ((variable_of
    c.args.variable.now) ∷ []) ((g.D.Deciding.canon c.args.data.now) (leaves_in (terms_of c.args.walk.now.leaves.now) c.args.at.leaf
    c.args.variable.now.sort) ∷ [])) (behaviour_of c.args.next.now)) (shape_of c.in-Value.inner.value) (suc place.number) (suc
    c.args.at.leaf)) _ (value_row (setting_on (ground_of (g.D.Deciding.known_data c.args.data.now) (g.D.Deciding.canon
    c.args.data.now) c.args.walk.now.spec.now)) (terms_of c.args.walk.now.leaves.now) (shape_of c.in-Value.inner.value) place.number
    c.args.at.leaf (variable_of c.args.variable.now) (behaviour_of c.args.next.now)) c.in_err-checked_value.field-0.0
    (c.in_err-checked_value.ensures.checked (g.D.Deciding.known_data c.args.data.now).signature place.number
    c.requires.walk.leaves_of_signature there.node)))

pub value_step-value_body-requires-clause-walk : goal.value_step-value_body-requires-clause-walk
value_step-value_body-requires-clause-walk g t c =
    c.requires.walk

pub value_step-value_body-requires-clause-part : goal.value_step-value_body-requires-clause-part
value_step-value_body-requires-clause-part g t c =
    c.requires.part

pub value_step-value_body-requires-clause-leaf : goal.value_step-value_body-requires-clause-leaf
value_step-value_body-requires-clause-leaf g t c =
    (c.in_ok-checked_value.ensures.checked (g.D.Deciding.known_data c.args.data.now).signature c.args.at.node
    c.requires.walk.leaves_of_signature (own_place (choose_value (variable_of c.args.variable.now) (behaviour_of c.args.next.now))
    (shape_of c.args.shape.now) c.args.at (omega arith)).node)

pub value_step-returns-in_err-body-clause-answer : goal.value_step-returns-in_err-body-clause-answer
value_step-returns-in_err-body-clause-answer g t c =
    λ place there. memory_walked (ground_of (g.D.Deciding.known_data c.args.data.now) (g.D.Deciding.canon c.args.data.now)
    c.args.walk.now.spec.now) (terms_of c.args.walk.now.leaves.now) place c.from_residual-in_err-body.result
    c.from_residual-in_err-body.ensures.1

pub value_step-beh_step-requires : goal.value_step-beh_step-requires
value_step-beh_step-requires g t c κs within = (
  (part_less (shape_of c.args.shape.now) (shape_of c.deref.result.now) (behaviour_of c.in_ok-body.body) 2 _ (omega arith) (ap (λ (s :
      Shape). size (shape_of s)) c.in-Value.is ∙ ap (λ (s : Shape). suc (size (shape_of s))) (sym c.deref.ensures)) c.decreases),
  (
    search rules,
    (
      (holds_after (λ (d : Data) (f : Term → Term). IsStepWalk (ground_of d f c.args.walk.now.spec.now)
          c.args.walk.now.leaves.now (c.args.at.leaf + 1)) c.value_body.ensures.same_known (record {
            over = c.requires.walk.over;
            leaves_of_signature =
                c.requires.walk.leaves_of_signature;
            within = c.in_ok-checked_value.ensures.there;
          })),
      (holds_after (λ (d : Data) (f : Term → Term).
          IsPassable (ground_of d f c.args.walk.now.spec.now) (behaviour_of c.in_ok-body.body) (profiles_in c.in_ok-body.body))
          c.value_body.ensures.same_known (record {
            closed = subst (λ (b : Behaviour).
                IsClosedOn (ground_of (g.D.Deciding.known_data c.args.data.now) (g.D.Deciding.canon c.args.data.now)
                c.args.walk.now.spec.now) b)
                (sym c.in_ok-body.ensures.same) (value_closed (ground_of (g.D.Deciding.known_data c.args.data.now) (g.D.Deciding.canon
                c.args.data.now) c.args.walk.now.spec.now) (g.met.D.Deciding.is_canon c.args.data.now) c.requires.walk.over (variable_of
                c.args.variable.now) (behaviour_of c.args.next.now) (leaves_in (terms_of c.args.walk.now.leaves.now) c.args.at.leaf
                c.args.variable.now.sort) (leaf_value (ground_of (g.D.Deciding.known_data c.args.data.now) (g.D.Deciding.canon
                c.args.data.now)
                c.args.walk.now.spec.now) (g.met.D.Deciding.is_canon c.args.data.now) (terms_of c.args.walk.now.leaves.now)
                c.args.at.leaf
                c.args.variable.now.sort (c.in_ok-checked_value.ensures.checked (g.D.Deciding.known_data c.args.data.now).signature
                c.args.at.node c.requires.walk.leaves_of_signature (own_place (choose_value (variable_of c.args.variable.now)
                (behaviour_of
                c.args.next.now)) (shape_of c.args.shape.now) c.args.at (omega arith)).node)) c.requires.part.closed);
            terms_of_signature =
                c.in_ok-body.ensures.terms;
          })),
    ),
  ),
)

pub value_step-returns-clause-answer : goal.value_step-returns-clause-answer
value_step-returns-clause-answer g t c =
    λ place there.
    there_walked (ground_of (g.D.Deciding.known_data c.args.data.now) (g.D.Deciding.canon c.args.data.now) c.args.walk.now.spec.now)
    (terms_of c.args.walk.now.leaves.now) place (choose_value (variable_of c.args.variable.now) (behaviour_of c.args.next.now))
    (with_value (shape_of c.deref.result.now)) c.args.at (of_shape place (choose_value (variable_of c.args.variable.now)
    (behaviour_of c.args.next.now)) (shape_of c.args.shape.now) (with_value (shape_of c.deref.result.now)) c.args.at (ap (λ (s :
    Shape). with_value (shape_of s)) c.deref.ensures ∙ sym (ap shape_of c.in-Value.is)) there) c.beh_step.result
    (walked_on (ground_of (g.D.Deciding.known_data c.args.data.now) (g.D.Deciding.canon c.args.data.now) c.args.walk.now.spec.now)
    (terms_of c.args.walk.now.leaves.now) (stand (choose_value (variable_of c.args.variable.now) (behaviour_of c.args.next.now))
    (with_value (shape_of c.deref.result.now)) place.number c.args.at.leaf) (stand (with_values (binding_of ((variable_of
    c.args.variable.now) ∷ []) ((g.D.Deciding.canon c.args.data.now) (leaves_in (terms_of c.args.walk.now.leaves.now) c.args.at.leaf
    c.args.variable.now.sort) ∷ [])) (behaviour_of c.args.next.now)) (shape_of c.deref.result.now) (suc place.number) (suc
    c.args.at.leaf)) _ (value_row (setting_on (ground_of (g.D.Deciding.known_data c.args.data.now) (g.D.Deciding.canon
    c.args.data.now) c.args.walk.now.spec.now)) (terms_of c.args.walk.now.leaves.now) (shape_of c.deref.result.now) place.number
    c.args.at.leaf (variable_of c.args.variable.now) (behaviour_of c.args.next.now)) (c.in_ok-checked_value.ensures.checked
    (g.D.Deciding.known_data c.args.data.now).signature place.number c.requires.walk.leaves_of_signature there.node) (λ l. refl)
    (after_leaf c.args.variable.now.sort) (λ m. refl) (λ m. refl) (λ m. refl)
    (place_nodes place.number (size (shape_of c.deref.result.now))) (λ m. place_after c.args.at.leaf (length m.sorts)) c.beh_step.result
    (held_before (λ (d : Data) (f : Term → Term). IsWalked (ground_of d f c.args.walk.now.spec.now) (terms_of c.args.walk.now.leaves.now)
    (stand (with_values (binding_of ((variable_of c.args.variable.now) ∷ []) ((g.D.Deciding.canon c.args.data.now) (leaves_in
    (terms_of c.args.walk.now.leaves.now) c.args.at.leaf c.args.variable.now.sort) ∷ [])) (behaviour_of c.args.next.now)) (shape_of
    c.deref.result.now) (suc place.number) (suc c.args.at.leaf)) c.beh_step.result) c.value_body.ensures.same_known
    (c.beh_step.ensures.answer
    (stand (with_values (binding_of ((variable_of c.args.variable.now) ∷
    []) ((g.D.Deciding.canon c.args.data.now) (leaves_in (terms_of c.args.walk.now.leaves.now) c.args.at.leaf
    c.args.variable.now.sort) ∷ [])) (behaviour_of c.args.next.now)) (shape_of c.deref.result.now) (suc place.number) (suc
    c.args.at.leaf)) (part_there place (choose_value (variable_of c.args.variable.now) (behaviour_of c.args.next.now)) (with_values
    (binding_of ((variable_of c.args.variable.now) ∷ []) ((g.D.Deciding.canon c.args.data.now) (leaves_in (terms_of
    c.args.walk.now.leaves.now) c.args.at.leaf c.args.variable.now.sort) ∷ [])) (behaviour_of c.args.next.now)) (behaviour_of
    c.in_ok-body.body) (with_value (shape_of c.deref.result.now)) (shape_of c.deref.result.now) (shape_of c.deref.result.now)
    c.args.at _ (of_shape place (choose_value (variable_of c.args.variable.now) (behaviour_of c.args.next.now)) (shape_of
    c.args.shape.now) (with_value (shape_of c.deref.result.now)) c.args.at (ap (λ (s : Shape). with_value (shape_of s))
    c.deref.ensures ∙ sym (ap shape_of c.in-Value.is)) there) c.in_ok-body.ensures.same refl c.below.ensures.node (suc
    c.args.at.leaf) (add-one c.args.at.leaf)))))

pub gate_step-returns-in_default : goal.gate_step-returns-in_default
gate_step-returns-in_default g t c =
    record {
      answer = λ place there. misfit_there (ground_of (g.D.Deciding.known_data c.args.data.now) (g.D.Deciding.canon c.args.data.now)
          c.args.walk.now.spec.now) (terms_of c.args.walk.now.leaves.now) place (choose_gate c.args.formal c.args.gates.now.items
          (behaviour_of c.args.next.now)) (shape_of c.args.shape.now) c.args.at there c.misfit.result
          (unfit_gate (setting_on (ground_of (g.D.Deciding.known_data c.args.data.now) (g.D.Deciding.canon c.args.data.now)
          c.args.walk.now.spec.now)) (terms_of c.args.walk.now.leaves.now) c.args.at.leaf c.args.shape.now c.args.formal
          c.args.gates.now.items (behaviour_of c.args.next.now) (λ k part is. c.in_default.not-Gate k part is)) c.misfit.ensures;
      same_known = keeps_itself;
    }

pub gate_step-returns-in_default-gate_at-clause-answer : goal.gate_step-returns-in_default-gate_at-clause-answer
gate_step-returns-in_default-gate_at-clause-answer g t c =
    λ place there. absent_there (ground_of (g.D.Deciding.known_data c.args.data.now) (g.D.Deciding.canon c.args.data.now)
    c.args.walk.now.spec.now) (terms_of c.args.walk.now.leaves.now) place (choose_gate c.args.formal c.args.gates.now.items
    (behaviour_of c.args.next.now)) (at_gate c.in-Gate.position (shape_of c.in-Gate.inner.value)) c.args.at
    (of_shape place (choose_gate c.args.formal c.args.gates.now.items (behaviour_of c.args.next.now)) (shape_of c.args.shape.now)
    (at_gate c.in-Gate.position (shape_of c.in-Gate.inner.value)) c.args.at (sym (ap shape_of c.in-Gate.is)) there)
    c.misfit-in_default-gate_at.result
    (no_gate (setting_on (ground_of (g.D.Deciding.known_data c.args.data.now) (g.D.Deciding.canon c.args.data.now)
    c.args.walk.now.spec.now)) (terms_of c.args.walk.now.leaves.now) (shape_of c.in-Gate.inner.value) place.number c.args.at.leaf
    c.in-Gate.position c.args.formal c.args.gates.now.items (behaviour_of c.args.next.now) (sym c.gate_at.ensures ∙ none_unless_some
    c.gate_at.result c.in_default-gate_at.not-Some)) c.misfit-in_default-gate_at.ensures

pub gate_step-beh_step-requires : goal.gate_step-beh_step-requires
gate_step-beh_step-requires g t c κs within = (
  (part_less (shape_of c.args.shape.now) (shape_of c.deref.result.now) (behaviour_of c.args.next.now) 2 _ (omega arith) (ap (λ (s :
      Shape). size (shape_of s)) c.in-Gate.is ∙ ap (λ (s : Shape). suc (size (shape_of s))) (sym c.deref.ensures)) c.decreases),
  (
    search rules,
    (
      (subst (λ (k : ℕ). IsStepWalk (ground_of (g.D.Deciding.known_data c.args.data.now) (g.D.Deciding.canon
          c.args.data.now) c.args.walk.now.spec.now) c.args.walk.now.leaves.now k) (sym c.below.ensures.leaf) c.requires.walk),
      (record {
        closed = c.requires.part.closed.2;
        terms_of_signature = c.requires.part.terms_of_signature;
      }),
    ),
  ),
)

pub gate_step-at_gate-requires : goal.gate_step-at_gate-requires
gate_step-at_gate-requires g t c =
    (c.in_ok-moved.ensures.answer (stand (behaviour_of c.args.next.now) (shape_of c.deref.result.now) (suc c.args.at.node)
    c.args.at.leaf) (below_there (stand (choose_gate c.args.formal c.args.gates.now.items (behaviour_of c.args.next.now)) (at_gate
    c.in-Gate.position (shape_of c.deref.result.now)) c.args.at.node c.args.at.leaf) (choose_gate c.args.formal
    c.args.gates.now.items (behaviour_of c.args.next.now)) (behaviour_of c.args.next.now) (at_gate c.in-Gate.position (shape_of
    c.deref.result.now)) (shape_of c.deref.result.now) c.args.at c.below.result (own_place (choose_gate c.args.formal
    c.args.gates.now.items (behaviour_of c.args.next.now)) (at_gate c.in-Gate.position (shape_of c.deref.result.now)) c.args.at
    (omega arith)) c.below.ensures.node c.args.at.leaf c.below.ensures.leaf)).parts

pub gate_step-returns-in_err-moved-clause-answer : goal.gate_step-returns-in_err-moved-clause-answer
gate_step-returns-in_err-moved-clause-answer g t c =
    λ place there.
    refusal_walked (ground_of (g.D.Deciding.known_data c.args.data.now) (g.D.Deciding.canon c.args.data.now) c.args.walk.now.spec.now)
    (terms_of c.args.walk.now.leaves.now) place c.from_residual.result c.in_err-moved.field-0.0 c.from_residual.ensures.1
    (there_refused (ground_of (g.D.Deciding.known_data c.args.data.now) (g.D.Deciding.canon c.args.data.now) c.args.walk.now.spec.now)
    (terms_of c.args.walk.now.leaves.now) place (choose_gate c.args.formal c.args.gates.now.items (behaviour_of c.args.next.now))
    (at_gate c.in-Gate.position (shape_of c.deref.result.now)) c.args.at (of_shape place (choose_gate c.args.formal
    c.args.gates.now.items (behaviour_of c.args.next.now)) (shape_of c.args.shape.now) (at_gate c.in-Gate.position (shape_of
    c.deref.result.now)) c.args.at (ap (λ (s : Shape). at_gate c.in-Gate.position (shape_of s)) c.deref.ensures ∙ sym (ap shape_of
    c.in-Gate.is)) there) c.in_err-moved.field-0.0
    (walked_part (ground_of (g.D.Deciding.known_data c.args.data.now) (g.D.Deciding.canon c.args.data.now) c.args.walk.now.spec.now)
    (terms_of c.args.walk.now.leaves.now) (stand (choose_gate c.args.formal c.args.gates.now.items (behaviour_of c.args.next.now))
    (at_gate c.in-Gate.position (shape_of c.deref.result.now)) place.number c.args.at.leaf) (stand (behaviour_of c.args.next.now)
    (shape_of c.deref.result.now) (suc place.number) c.args.at.leaf) _ (gate_row (setting_on (ground_of (g.D.Deciding.known_data
    c.args.data.now) (g.D.Deciding.canon c.args.data.now) c.args.walk.now.spec.now)) (terms_of c.args.walk.now.leaves.now) (shape_of
    c.deref.result.now) place.number c.args.at.leaf c.in-Gate.position c.args.formal c.args.gates.now.items (behaviour_of
    c.args.next.now) c.in-Some.actual (sym c.gate_at.ensures ∙ c.in-Some.is)) refl c.in_err-moved.field-0.0
    (c.in_err-moved.ensures.answer (stand (behaviour_of c.args.next.now) (shape_of c.deref.result.now) (suc place.number) c.args.at.leaf)
    (below_there place (choose_gate c.args.formal c.args.gates.now.items (behaviour_of c.args.next.now)) (behaviour_of
    c.args.next.now) (at_gate c.in-Gate.position (shape_of c.deref.result.now)) (shape_of c.deref.result.now) c.args.at
    c.below.result (of_shape place (choose_gate c.args.formal c.args.gates.now.items (behaviour_of c.args.next.now)) (shape_of
    c.args.shape.now) (at_gate c.in-Gate.position (shape_of c.deref.result.now)) c.args.at (ap (λ (s : Shape). at_gate
    c.in-Gate.position (shape_of s)) c.deref.ensures ∙ sym (ap shape_of c.in-Gate.is)) there) c.below.ensures.node c.args.at.leaf
    c.below.ensures.leaf))))

pub gate_step-returns-clause-answer : goal.gate_step-returns-clause-answer
gate_step-returns-clause-answer g t c =
    λ place there.
    there_walked (ground_of (g.D.Deciding.known_data c.args.data.now) (g.D.Deciding.canon c.args.data.now) c.args.walk.now.spec.now)
    (terms_of c.args.walk.now.leaves.now) place (choose_gate c.args.formal c.args.gates.now.items (behaviour_of c.args.next.now))
    (at_gate c.in-Gate.position (shape_of c.deref.result.now)) c.args.at (of_shape place (choose_gate c.args.formal
    c.args.gates.now.items (behaviour_of c.args.next.now)) (shape_of c.args.shape.now) (at_gate c.in-Gate.position (shape_of
    c.deref.result.now)) c.args.at (ap (λ (s : Shape). at_gate c.in-Gate.position (shape_of s)) c.deref.ensures ∙ sym (ap shape_of
    c.in-Gate.is)) there) c.at_gate.result
    (c.at_gate.ensures (ground_of (g.D.Deciding.known_data c.args.data.now) (g.D.Deciding.canon c.args.data.now)
    c.args.walk.now.spec.now) (terms_of c.args.walk.now.leaves.now) (stand (choose_gate c.args.formal c.args.gates.now.items
    (behaviour_of c.args.next.now)) (at_gate c.in-Gate.position (shape_of c.deref.result.now)) place.number c.args.at.leaf) (stand
    (behaviour_of c.args.next.now) (shape_of c.deref.result.now) (suc place.number) c.args.at.leaf) there.node (gate_row (setting_on
    (ground_of (g.D.Deciding.known_data c.args.data.now) (g.D.Deciding.canon c.args.data.now) c.args.walk.now.spec.now)) (terms_of
    c.args.walk.now.leaves.now) (shape_of c.deref.result.now) place.number c.args.at.leaf c.in-Gate.position c.args.formal
    c.args.gates.now.items (behaviour_of c.args.next.now) c.in-Some.actual (sym c.gate_at.ensures ∙ c.in-Some.is)) (is_below
    (choose_gate c.args.formal c.args.gates.now.items (behaviour_of c.args.next.now)) (behaviour_of c.args.next.now) (at_gate
    c.in-Gate.position (shape_of c.deref.result.now)) (shape_of c.deref.result.now) place.number c.args.at.leaf refl) (target_closed
    (ground_of (g.D.Deciding.known_data c.args.data.now) (g.D.Deciding.canon c.args.data.now) c.args.walk.now.spec.now)
    (g.met.D.Deciding.is_canon c.args.data.now) c.requires.walk.over (terms_of c.args.walk.now.leaves.now) (stand (behaviour_of
    c.args.next.now) (shape_of c.deref.result.now) (suc place.number) c.args.at.leaf) (within_terms c.args.walk.now.leaves.now
    c.args.at.leaf c.requires.walk.within) c.requires.part.closed.2 c.in_ok-moved.moved (c.in_ok-moved.ensures.answer (stand
    (behaviour_of c.args.next.now) (shape_of c.deref.result.now) (suc place.number) c.args.at.leaf) (below_there place (choose_gate
    c.args.formal c.args.gates.now.items (behaviour_of c.args.next.now)) (behaviour_of c.args.next.now) (at_gate c.in-Gate.position
    (shape_of c.deref.result.now)) (shape_of c.deref.result.now) c.args.at c.below.result (of_shape place (choose_gate c.args.formal
    c.args.gates.now.items (behaviour_of c.args.next.now)) (shape_of c.args.shape.now) (at_gate c.in-Gate.position (shape_of
    c.deref.result.now)) c.args.at (ap (λ (s : Shape). at_gate c.in-Gate.position (shape_of s)) c.deref.ensures ∙ sym (ap shape_of
    c.in-Gate.is)) there) c.below.ensures.node c.args.at.leaf c.below.ensures.leaf))) (c.in_ok-moved.ensures.answer (stand
    (behaviour_of c.args.next.now) (shape_of c.deref.result.now) (suc place.number) c.args.at.leaf) (below_there place (choose_gate
    c.args.formal c.args.gates.now.items (behaviour_of c.args.next.now)) (behaviour_of c.args.next.now) (at_gate c.in-Gate.position
    (shape_of c.deref.result.now)) (shape_of c.deref.result.now) c.args.at c.below.result (of_shape place (choose_gate c.args.formal
    c.args.gates.now.items (behaviour_of c.args.next.now)) (shape_of c.args.shape.now) (at_gate c.in-Gate.position (shape_of
    c.deref.result.now)) c.args.at (ap (λ (s : Shape). at_gate c.in-Gate.position (shape_of s)) c.deref.ensures ∙ sym (ap shape_of
    c.in-Gate.is)) there) c.below.ensures.node c.args.at.leaf c.below.ensures.leaf)))

pub relabel_step-returns-in_default : goal.relabel_step-returns-in_default
relabel_step-returns-in_default g t c =
    record {
      answer = λ place there. misfit_there (ground_of (g.D.Deciding.known_data c.args.data.now) (g.D.Deciding.canon c.args.data.now)
          c.args.walk.now.spec.now) (terms_of c.args.walk.now.leaves.now) place (relabel c.args.pairs.now.items (stands_for
          c.args.inner.now)) (shape_of c.args.shape.now) c.args.at there c.misfit.result
          (unfit_relabel (setting_on (ground_of (g.D.Deciding.known_data c.args.data.now) (g.D.Deciding.canon c.args.data.now)
          c.args.walk.now.spec.now)) (terms_of c.args.walk.now.leaves.now) c.args.at.leaf c.args.shape.now c.args.pairs.now.items
          (stands_for c.args.inner.now) (λ part is. c.in_default.not-Relabelled part is)) c.misfit.ensures;
      same_known = keeps_itself;
    }

pub relabel_step-node_step-requires : goal.relabel_step-node_step-requires
relabel_step-node_step-requires g t c κs within = (
  (part_less (shape_of c.args.shape.now) (shape_of c.deref.result.now) (stands_for c.args.inner.now) 3 _ (omega arith) (ap (λ (s :
      Shape). size (shape_of s)) c.in-Relabelled.is ∙ ap (λ (s : Shape). suc (size (shape_of s))) (sym c.deref.ensures)) c.decreases),
  (
    search rules,
    (
      (subst (λ (k : ℕ). IsStepWalk (ground_of (g.D.Deciding.known_data c.args.data.now) (g.D.Deciding.canon
          c.args.data.now) c.args.walk.now.spec.now) c.args.walk.now.leaves.now k) (sym c.below.ensures.leaf) c.requires.walk),
      (record {
        passable = (record { closed = c.requires.part.closed.1; terms_of_signature = c.requires.part.terms_of_signature });
        states =
            c.requires.states;
      }),
    ),
  ),
)

pub relabel_step-under_pairs-requires : goal.relabel_step-under_pairs-requires
relabel_step-under_pairs-requires g t c =
    (c.in_ok-moved.ensures.answer (stand (stands_for c.args.inner.now) (shape_of c.deref.result.now) (suc c.args.at.node) c.args.at.leaf)
    (below_there (stand (relabel c.args.pairs.now.items (stands_for c.args.inner.now)) (relabelled (shape_of c.deref.result.now))
    c.args.at.node c.args.at.leaf) (relabel c.args.pairs.now.items (stands_for c.args.inner.now)) (stands_for c.args.inner.now)
    (relabelled (shape_of c.deref.result.now)) (shape_of c.deref.result.now) c.args.at c.below.result (own_place (relabel
    c.args.pairs.now.items (stands_for c.args.inner.now)) (relabelled (shape_of c.deref.result.now)) c.args.at (omega arith))
    c.below.ensures.node c.args.at.leaf c.below.ensures.leaf)).parts

pub relabel_step-returns-in_err-moved-clause-answer : goal.relabel_step-returns-in_err-moved-clause-answer
relabel_step-returns-in_err-moved-clause-answer g t c =
    λ place there.
    refusal_walked (ground_of (g.D.Deciding.known_data c.args.data.now) (g.D.Deciding.canon c.args.data.now) c.args.walk.now.spec.now)
    (terms_of c.args.walk.now.leaves.now) place c.from_residual.result c.in_err-moved.field-0.0 c.from_residual.ensures.1
    (there_refused (ground_of (g.D.Deciding.known_data c.args.data.now) (g.D.Deciding.canon c.args.data.now) c.args.walk.now.spec.now)
    (terms_of c.args.walk.now.leaves.now) place (relabel c.args.pairs.now.items (stands_for c.args.inner.now)) (relabelled (shape_of
    c.deref.result.now)) c.args.at (of_shape place (relabel c.args.pairs.now.items (stands_for c.args.inner.now)) (shape_of
    c.args.shape.now) (relabelled (shape_of c.deref.result.now)) c.args.at (ap (λ (s : Shape). relabelled (shape_of s))
    c.deref.ensures ∙ sym (ap shape_of c.in-Relabelled.is)) there) c.in_err-moved.field-0.0
    (walked_part (ground_of (g.D.Deciding.known_data c.args.data.now) (g.D.Deciding.canon c.args.data.now) c.args.walk.now.spec.now)
    (terms_of c.args.walk.now.leaves.now) (stand (relabel c.args.pairs.now.items (stands_for c.args.inner.now)) (relabelled (shape_of
    c.deref.result.now)) place.number c.args.at.leaf) (stand (stands_for c.args.inner.now) (shape_of c.deref.result.now) (suc
    place.number) c.args.at.leaf) _ (relabel_row (setting_on (ground_of (g.D.Deciding.known_data c.args.data.now) (g.D.Deciding.canon
    c.args.data.now) c.args.walk.now.spec.now)) (terms_of c.args.walk.now.leaves.now) (shape_of c.deref.result.now) place.number
    c.args.at.leaf c.args.pairs.now.items (stands_for c.args.inner.now)) refl c.in_err-moved.field-0.0
    (c.in_err-moved.ensures.answer (stand (stands_for c.args.inner.now) (shape_of c.deref.result.now) (suc place.number) c.args.at.leaf)
    (below_there place (relabel c.args.pairs.now.items (stands_for c.args.inner.now)) (stands_for c.args.inner.now) (relabelled
    (shape_of c.deref.result.now)) (shape_of c.deref.result.now) c.args.at c.below.result (of_shape place (relabel
    c.args.pairs.now.items (stands_for c.args.inner.now)) (shape_of c.args.shape.now) (relabelled (shape_of c.deref.result.now))
    c.args.at (ap (λ (s : Shape). relabelled (shape_of s)) c.deref.ensures ∙ sym (ap shape_of c.in-Relabelled.is)) there)
    c.below.ensures.node c.args.at.leaf c.below.ensures.leaf))))

pub relabel_step-returns-clause-answer : goal.relabel_step-returns-clause-answer
relabel_step-returns-clause-answer g t c =
    λ place there.
    there_walked (ground_of (g.D.Deciding.known_data c.args.data.now) (g.D.Deciding.canon c.args.data.now) c.args.walk.now.spec.now)
    (terms_of c.args.walk.now.leaves.now) place (relabel c.args.pairs.now.items (stands_for c.args.inner.now)) (relabelled (shape_of
    c.deref.result.now)) c.args.at (of_shape place (relabel c.args.pairs.now.items (stands_for c.args.inner.now)) (shape_of
    c.args.shape.now) (relabelled (shape_of c.deref.result.now)) c.args.at (ap (λ (s : Shape). relabelled (shape_of s))
    c.deref.ensures ∙ sym (ap shape_of c.in-Relabelled.is)) there) c.under_pairs.result
    (c.under_pairs.ensures (ground_of (g.D.Deciding.known_data c.args.data.now) (g.D.Deciding.canon c.args.data.now)
    c.args.walk.now.spec.now) (terms_of c.args.walk.now.leaves.now) (stand (relabel c.args.pairs.now.items (stands_for
    c.args.inner.now)) (relabelled (shape_of c.deref.result.now)) place.number c.args.at.leaf) (stand (stands_for c.args.inner.now)
    (shape_of c.deref.result.now) (suc place.number) c.args.at.leaf) there.node (relabel_row (setting_on (ground_of
    (g.D.Deciding.known_data c.args.data.now) (g.D.Deciding.canon c.args.data.now) c.args.walk.now.spec.now)) (terms_of
    c.args.walk.now.leaves.now) (shape_of c.deref.result.now) place.number c.args.at.leaf c.args.pairs.now.items (stands_for
    c.args.inner.now)) (is_below (relabel c.args.pairs.now.items (stands_for c.args.inner.now)) (stands_for c.args.inner.now)
    (relabelled (shape_of c.deref.result.now)) (shape_of c.deref.result.now) place.number c.args.at.leaf refl) (target_closed
    (ground_of (g.D.Deciding.known_data c.args.data.now) (g.D.Deciding.canon c.args.data.now) c.args.walk.now.spec.now)
    (g.met.D.Deciding.is_canon c.args.data.now) c.requires.walk.over (terms_of c.args.walk.now.leaves.now) (stand (stands_for
    c.args.inner.now) (shape_of c.deref.result.now) (suc place.number) c.args.at.leaf) (within_terms c.args.walk.now.leaves.now
    c.args.at.leaf c.requires.walk.within) c.requires.part.closed.1 c.in_ok-moved.moved (c.in_ok-moved.ensures.answer (stand
    (stands_for c.args.inner.now) (shape_of c.deref.result.now) (suc place.number) c.args.at.leaf) (below_there place (relabel
    c.args.pairs.now.items (stands_for c.args.inner.now)) (stands_for c.args.inner.now) (relabelled (shape_of c.deref.result.now))
    (shape_of c.deref.result.now) c.args.at c.below.result (of_shape place (relabel c.args.pairs.now.items (stands_for
    c.args.inner.now)) (shape_of c.args.shape.now) (relabelled (shape_of c.deref.result.now)) c.args.at (ap (λ (s : Shape).
    relabelled (shape_of s)) c.deref.ensures ∙ sym (ap shape_of c.in-Relabelled.is)) there) c.below.ensures.node c.args.at.leaf
    c.below.ensures.leaf))) (c.in_ok-moved.ensures.answer (stand (stands_for c.args.inner.now) (shape_of c.deref.result.now) (suc
    place.number) c.args.at.leaf) (below_there place (relabel c.args.pairs.now.items (stands_for c.args.inner.now)) (stands_for
    c.args.inner.now) (relabelled (shape_of c.deref.result.now)) (shape_of c.deref.result.now) c.args.at c.below.result (of_shape
    place (relabel c.args.pairs.now.items (stands_for c.args.inner.now)) (shape_of c.args.shape.now) (relabelled (shape_of
    c.deref.result.now)) c.args.at (ap (λ (s : Shape). relabelled (shape_of s)) c.deref.ensures ∙ sym (ap shape_of
    c.in-Relabelled.is)) there) c.below.ensures.node c.args.at.leaf c.below.ensures.leaf)))

pub call_step-returns-in_default : goal.call_step-returns-in_default
call_step-returns-in_default g t c =
    record {
      answer = λ place there. misfit_there (ground_of (g.D.Deciding.known_data c.args.data.now) (g.D.Deciding.canon c.args.data.now)
          c.args.walk.now.spec.now) (terms_of c.args.walk.now.leaves.now) place (call c.args.process c.args.gates.now.items (terms_of
          c.args.values.now.items)) (shape_of c.args.shape.now) c.args.at there c.misfit.result
          (unfit_call (setting_on (ground_of (g.D.Deciding.known_data c.args.data.now) (g.D.Deciding.canon c.args.data.now)
          c.args.walk.now.spec.now)) (terms_of c.args.walk.now.leaves.now) c.args.at.leaf c.args.shape.now c.args.process
          c.args.gates.now.items (terms_of c.args.values.now.items) (λ part is. c.in_default.not-Called part is)) c.misfit.ensures;
      same_known = keeps_itself;
    }

pub call_step-returns-in_default-called_at-clause-answer : goal.call_step-returns-in_default-called_at-clause-answer
call_step-returns-in_default-called_at-clause-answer g t c =
    λ place there. absent_there (ground_of (g.D.Deciding.known_data c.args.data.now) (g.D.Deciding.canon c.args.data.now)
    c.args.walk.now.spec.now) (terms_of c.args.walk.now.leaves.now) place (call c.args.process c.args.gates.now.items (terms_of
    c.args.values.now.items)) (called (shape_of c.in-Called.inner.value)) c.args.at
    (of_shape place (call c.args.process c.args.gates.now.items (terms_of c.args.values.now.items)) (shape_of c.args.shape.now) (called
    (shape_of c.in-Called.inner.value)) c.args.at (sym (ap shape_of c.in-Called.is)) there) c.misfit-in_default-called_at.result
    (no_process (setting_on (ground_of (g.D.Deciding.known_data c.args.data.now) (g.D.Deciding.canon c.args.data.now)
    c.args.walk.now.spec.now)) (terms_of c.args.walk.now.leaves.now) (shape_of c.in-Called.inner.value) place.number c.args.at.leaf
    c.args.process c.args.gates.now.items (terms_of c.args.values.now.items)
    (past_map process_of c.args.walk.now.spec.now.processes.items c.args.process (sym c.called_at.ensures ∙ ap (option_map (λ p.
    p.now)) (none_unless_some c.called_at.result c.in_default-called_at.not-Some)))) c.misfit-in_default-called_at.ensures

pub call_step-call_body-requires-clause-walk : goal.call_step-call_body-requires-clause-walk
call_step-call_body-requires-clause-walk g t c =
    c.requires.walk.over

pub call_step-call_body-requires-clause-part : goal.call_step-call_body-requires-clause-part
call_step-call_body-requires-clause-part g t c =
    (is_called (ground_of (g.D.Deciding.known_data c.args.data.now) (g.D.Deciding.canon c.args.data.now) c.args.walk.now.spec.now)
    (g.met.D.Deciding.is_canon c.args.data.now) c.requires.walk.over c.args.process c.args.gates.now.items c.in-Some.called.now
    c.args.values.now.items (sym c.called_at.ensures ∙ ap (option_map (λ p. p.now)) c.in-Some.is) c.requires.part.closed
    c.requires.part.terms_of_signature)

pub call_step-returns-in_err-body-clause-answer : goal.call_step-returns-in_err-body-clause-answer
call_step-returns-in_err-body-clause-answer g t c =
    λ place there. memory_walked (ground_of (g.D.Deciding.known_data c.args.data.now) (g.D.Deciding.canon c.args.data.now)
    c.args.walk.now.spec.now) (terms_of c.args.walk.now.leaves.now) place c.from_residual.result c.from_residual.ensures.1

pub call_step-beh_step-requires : goal.call_step-beh_step-requires
call_step-beh_step-requires g t c κs within = (
  (part_less (shape_of c.args.shape.now) (shape_of c.deref.result.now) (behaviour_of c.in_ok-body.body) 2 _ (omega arith) (ap (λ (s :
      Shape). size (shape_of s)) c.in-Called.is ∙ ap (λ (s : Shape). suc (size (shape_of s))) (sym c.deref.ensures)) c.decreases),
  (
    search rules,
    (
      (holds_after (λ (d : Data) (f : Term → Term). IsStepWalk (ground_of d f c.args.walk.now.spec.now)
          c.args.walk.now.leaves.now c.below.result.leaf) c.call_body.ensures.same_known
          (subst (λ (k : ℕ). IsStepWalk (ground_of (g.D.Deciding.known_data c.args.data.now) (g.D.Deciding.canon c.args.data.now)
          c.args.walk.now.spec.now) c.args.walk.now.leaves.now k) (sym c.below.ensures.leaf) c.requires.walk)),
      (holds_after (λ (d : Data) (f :
          Term → Term). IsPassable (ground_of d f c.args.walk.now.spec.now) (behaviour_of c.in_ok-body.body) (profiles_in
          c.in_ok-body.body)) c.call_body.ensures.same_known (record {
            closed = subst (λ
                (b : Behaviour). IsClosedOn (ground_of (g.D.Deciding.known_data c.args.data.now) (g.D.Deciding.canon c.args.data.now)
                c.args.walk.now.spec.now) b) (sym c.in_ok-body.ensures.same) (call_closed (ground_of (g.D.Deciding.known_data
                c.args.data.now)
                (g.D.Deciding.canon c.args.data.now) c.args.walk.now.spec.now) (g.met.D.Deciding.is_canon c.args.data.now)
                c.requires.walk.over
                c.in-Some.called.now c.args.values.now.items (is_called (ground_of (g.D.Deciding.known_data c.args.data.now)
                (g.D.Deciding.canon
                c.args.data.now) c.args.walk.now.spec.now) (g.met.D.Deciding.is_canon c.args.data.now) c.requires.walk.over
                c.args.process
                c.args.gates.now.items c.in-Some.called.now c.args.values.now.items (sym c.called_at.ensures ∙ ap (option_map (λ p.
                p.now))
                c.in-Some.is) c.requires.part.closed c.requires.part.terms_of_signature));
            terms_of_signature = c.in_ok-body.ensures.terms;
          })),
    ),
  ),
)

pub call_step-returns-in_err-moved-clause-answer : goal.call_step-returns-in_err-moved-clause-answer
call_step-returns-in_err-moved-clause-answer g t c =
    λ place there.
    refusal_walked (ground_of (g.D.Deciding.known_data c.args.data.now) (g.D.Deciding.canon c.args.data.now) c.args.walk.now.spec.now)
    (terms_of c.args.walk.now.leaves.now) place c.from_residual-in_err-moved.result c.in_err-moved.field-0.0
    c.from_residual-in_err-moved.ensures.1
    (there_refused (ground_of (g.D.Deciding.known_data c.args.data.now) (g.D.Deciding.canon c.args.data.now) c.args.walk.now.spec.now)
    (terms_of c.args.walk.now.leaves.now) place (call c.args.process c.args.gates.now.items (terms_of c.args.values.now.items))
    (called (shape_of c.deref.result.now)) c.args.at (of_shape place (call c.args.process c.args.gates.now.items (terms_of
    c.args.values.now.items)) (shape_of c.args.shape.now) (called (shape_of c.deref.result.now)) c.args.at (ap (λ (s : Shape). called
    (shape_of s)) c.deref.ensures ∙ sym (ap shape_of c.in-Called.is)) there) c.in_err-moved.field-0.0
    (walked_part (ground_of (g.D.Deciding.known_data c.args.data.now) (g.D.Deciding.canon c.args.data.now) c.args.walk.now.spec.now)
    (terms_of c.args.walk.now.leaves.now) (stand (call c.args.process c.args.gates.now.items (terms_of c.args.values.now.items))
    (called (shape_of c.deref.result.now)) place.number c.args.at.leaf) (stand (with_values (binding_of (process_of
    c.in-Some.called.now).parameters (map (g.D.Deciding.canon c.args.data.now) (terms_of c.args.values.now.items))) (process_of
    c.in-Some.called.now).body) (shape_of c.deref.result.now) (suc place.number) c.args.at.leaf) _ (call_row (setting_on (ground_of
    (g.D.Deciding.known_data c.args.data.now) (g.D.Deciding.canon c.args.data.now) c.args.walk.now.spec.now)) (terms_of
    c.args.walk.now.leaves.now) (shape_of c.deref.result.now) place.number c.args.at.leaf c.args.process c.args.gates.now.items
    (terms_of c.args.values.now.items) (process_of c.in-Some.called.now) (at_map process_of
    c.args.walk.now.spec.now.processes.items c.args.process c.in-Some.called.now (sym c.called_at.ensures ∙ ap (option_map (λ p.
    p.now)) c.in-Some.is))) refl c.in_err-moved.field-0.0
    (held_before (λ (d : Data) (f : Term → Term). UnlessMemory (IsFirstStepFault (ground_of d f c.args.walk.now.spec.now) (terms_of
    c.args.walk.now.leaves.now) (stand (with_values (binding_of (process_of c.in-Some.called.now).parameters (map (g.D.Deciding.canon
    c.args.data.now) (terms_of c.args.values.now.items))) (process_of c.in-Some.called.now).body) (shape_of c.deref.result.now) (suc
    place.number) c.args.at.leaf)) c.in_err-moved.field-0.0) c.call_body.ensures.same_known
    (c.in_err-moved.ensures.answer (stand (with_values (binding_of (process_of c.in-Some.called.now).parameters (map
    (g.D.Deciding.canon c.args.data.now) (terms_of c.args.values.now.items))) (process_of c.in-Some.called.now).body) (shape_of
    c.deref.result.now) (suc place.number) c.args.at.leaf) (part_there place (call c.args.process c.args.gates.now.items (terms_of
    c.args.values.now.items)) (with_values (binding_of (process_of c.in-Some.called.now).parameters (map (g.D.Deciding.canon
    c.args.data.now) (terms_of c.args.values.now.items))) (process_of c.in-Some.called.now).body) (behaviour_of c.in_ok-body.body)
    (called (shape_of c.deref.result.now)) (shape_of c.deref.result.now) (shape_of c.deref.result.now) c.args.at c.below.result
    (of_shape place (call c.args.process c.args.gates.now.items (terms_of c.args.values.now.items)) (shape_of c.args.shape.now)
    (called (shape_of c.deref.result.now)) c.args.at (ap (λ (s : Shape). called (shape_of s)) c.deref.ensures ∙ sym (ap shape_of
    c.in-Called.is)) there) c.in_ok-body.ensures.same refl c.below.ensures.node c.args.at.leaf c.below.ensures.leaf)))))

pub call_step-in_call-requires : goal.call_step-in_call-requires
call_step-in_call-requires g t c =
    (c.in_ok-moved.ensures.answer (stand (with_values (binding_of (process_of c.in-Some.called.now).parameters (map (g.D.Deciding.canon
    c.args.data.now) (terms_of c.args.values.now.items))) (process_of c.in-Some.called.now).body) (shape_of c.deref.result.now) (suc
    c.args.at.node) c.args.at.leaf) (part_there (stand (call c.args.process c.args.gates.now.items (terms_of
    c.args.values.now.items)) (called (shape_of c.deref.result.now)) c.args.at.node c.args.at.leaf) (call c.args.process
    c.args.gates.now.items (terms_of c.args.values.now.items)) (with_values (binding_of (process_of c.in-Some.called.now).parameters
    (map (g.D.Deciding.canon c.args.data.now) (terms_of c.args.values.now.items))) (process_of c.in-Some.called.now).body)
    (behaviour_of c.in_ok-body.body) (called (shape_of c.deref.result.now)) (shape_of c.deref.result.now) (shape_of
    c.deref.result.now) c.args.at c.below.result (own_place (call c.args.process c.args.gates.now.items (terms_of
    c.args.values.now.items)) (called (shape_of c.deref.result.now)) c.args.at (omega arith)) c.in_ok-body.ensures.same refl
    c.below.ensures.node c.args.at.leaf c.below.ensures.leaf)).parts

pub call_step-returns-clause-answer : goal.call_step-returns-clause-answer
call_step-returns-clause-answer g t c =
    λ place there.
    there_walked (ground_of (g.D.Deciding.known_data c.args.data.now) (g.D.Deciding.canon c.args.data.now) c.args.walk.now.spec.now)
    (terms_of c.args.walk.now.leaves.now) place (call c.args.process c.args.gates.now.items (terms_of c.args.values.now.items))
    (called (shape_of c.deref.result.now)) c.args.at (of_shape place (call c.args.process c.args.gates.now.items (terms_of
    c.args.values.now.items)) (shape_of c.args.shape.now) (called (shape_of c.deref.result.now)) c.args.at (ap (λ (s : Shape). called
    (shape_of s)) c.deref.ensures ∙ sym (ap shape_of c.in-Called.is)) there) c.in_call.result
    (c.in_call.ensures (ground_of (g.D.Deciding.known_data c.args.data.now) (g.D.Deciding.canon c.args.data.now)
    c.args.walk.now.spec.now) (terms_of c.args.walk.now.leaves.now) (stand (call c.args.process c.args.gates.now.items (terms_of
    c.args.values.now.items)) (called (shape_of c.deref.result.now)) place.number c.args.at.leaf) (stand (with_values (binding_of
    (process_of c.in-Some.called.now).parameters (map (g.D.Deciding.canon c.args.data.now) (terms_of c.args.values.now.items)))
    (process_of c.in-Some.called.now).body) (shape_of c.deref.result.now) (suc place.number) c.args.at.leaf) there.node (call_row
    (setting_on (ground_of (g.D.Deciding.known_data c.args.data.now) (g.D.Deciding.canon c.args.data.now) c.args.walk.now.spec.now))
    (terms_of c.args.walk.now.leaves.now) (shape_of c.deref.result.now) place.number c.args.at.leaf c.args.process
    c.args.gates.now.items (terms_of c.args.values.now.items) (process_of c.in-Some.called.now) (at_map process_of
    c.args.walk.now.spec.now.processes.items c.args.process c.in-Some.called.now (sym c.called_at.ensures ∙ ap (option_map (λ p.
    p.now)) c.in-Some.is))) (is_below (call c.args.process c.args.gates.now.items (terms_of c.args.values.now.items)) (with_values
    (binding_of (process_of c.in-Some.called.now).parameters (map (g.D.Deciding.canon c.args.data.now) (terms_of
    c.args.values.now.items))) (process_of c.in-Some.called.now).body) (called (shape_of c.deref.result.now)) (shape_of
    c.deref.result.now) place.number c.args.at.leaf refl)
    (target_closed (ground_of (g.D.Deciding.known_data c.args.data.now) (g.D.Deciding.canon c.args.data.now) c.args.walk.now.spec.now)
    (g.met.D.Deciding.is_canon c.args.data.now) c.requires.walk.over (terms_of c.args.walk.now.leaves.now) (stand (with_values
    (binding_of (process_of c.in-Some.called.now).parameters (map (g.D.Deciding.canon c.args.data.now) (terms_of
    c.args.values.now.items))) (process_of c.in-Some.called.now).body) (shape_of c.deref.result.now) (suc place.number)
    c.args.at.leaf) (within_terms c.args.walk.now.leaves.now c.args.at.leaf c.requires.walk.within) (call_closed (ground_of
    (g.D.Deciding.known_data c.args.data.now) (g.D.Deciding.canon c.args.data.now) c.args.walk.now.spec.now)
    (g.met.D.Deciding.is_canon c.args.data.now) c.requires.walk.over c.in-Some.called.now c.args.values.now.items (is_called
    (ground_of (g.D.Deciding.known_data c.args.data.now) (g.D.Deciding.canon c.args.data.now) c.args.walk.now.spec.now)
    (g.met.D.Deciding.is_canon c.args.data.now) c.requires.walk.over c.args.process c.args.gates.now.items c.in-Some.called.now
    c.args.values.now.items (sym c.called_at.ensures ∙ ap (option_map (λ p. p.now)) c.in-Some.is) c.requires.part.closed
    c.requires.part.terms_of_signature)) c.in_ok-moved.moved (held_before (λ (d : Data) (f : Term → Term). IsMoved (ground_of d f
    c.args.walk.now.spec.now) (terms_of c.args.walk.now.leaves.now) (stand (with_values (binding_of (process_of
    c.in-Some.called.now).parameters (map (g.D.Deciding.canon c.args.data.now) (terms_of c.args.values.now.items))) (process_of
    c.in-Some.called.now).body) (shape_of c.deref.result.now) (suc place.number) c.args.at.leaf) c.in_ok-moved.moved)
    c.call_body.ensures.same_known (c.in_ok-moved.ensures.answer (stand (with_values (binding_of
    (process_of c.in-Some.called.now).parameters (map (g.D.Deciding.canon c.args.data.now) (terms_of c.args.values.now.items)))
    (process_of c.in-Some.called.now).body) (shape_of c.deref.result.now) (suc place.number) c.args.at.leaf) (part_there place (call
    c.args.process c.args.gates.now.items (terms_of c.args.values.now.items)) (with_values (binding_of (process_of
    c.in-Some.called.now).parameters (map (g.D.Deciding.canon c.args.data.now) (terms_of c.args.values.now.items))) (process_of
    c.in-Some.called.now).body) (behaviour_of c.in_ok-body.body) (called (shape_of c.deref.result.now)) (shape_of c.deref.result.now)
    (shape_of c.deref.result.now) c.args.at c.below.result (of_shape place (call c.args.process c.args.gates.now.items (terms_of
    c.args.values.now.items)) (shape_of c.args.shape.now) (called (shape_of c.deref.result.now)) c.args.at (ap (λ (s : Shape). called
    (shape_of s)) c.deref.ensures ∙ sym (ap shape_of c.in-Called.is)) there) c.in_ok-body.ensures.same refl c.below.ensures.node
    c.args.at.leaf c.below.ensures.leaf)))) (held_before (λ (d : Data) (f : Term → Term). IsMoved (ground_of d f
    c.args.walk.now.spec.now) (terms_of c.args.walk.now.leaves.now) (stand (with_values (binding_of (process_of
    c.in-Some.called.now).parameters (map (g.D.Deciding.canon c.args.data.now) (terms_of c.args.values.now.items))) (process_of
    c.in-Some.called.now).body) (shape_of c.deref.result.now) (suc place.number) c.args.at.leaf) c.in_ok-moved.moved)
    c.call_body.ensures.same_known (c.in_ok-moved.ensures.answer (stand (with_values (binding_of
    (process_of c.in-Some.called.now).parameters (map (g.D.Deciding.canon c.args.data.now) (terms_of c.args.values.now.items)))
    (process_of c.in-Some.called.now).body) (shape_of c.deref.result.now) (suc place.number) c.args.at.leaf) (part_there place (call
    c.args.process c.args.gates.now.items (terms_of c.args.values.now.items)) (with_values (binding_of (process_of
    c.in-Some.called.now).parameters (map (g.D.Deciding.canon c.args.data.now) (terms_of c.args.values.now.items))) (process_of
    c.in-Some.called.now).body) (behaviour_of c.in_ok-body.body) (called (shape_of c.deref.result.now)) (shape_of c.deref.result.now)
    (shape_of c.deref.result.now) c.args.at c.below.result (of_shape place (call c.args.process c.args.gates.now.items (terms_of
    c.args.values.now.items)) (shape_of c.args.shape.now) (called (shape_of c.deref.result.now)) c.args.at (ap (λ (s : Shape). called
    (shape_of s)) c.deref.ensures ∙ sym (ap shape_of c.in-Called.is)) there) c.in_ok-body.ensures.same refl c.below.ensures.node
    c.args.at.leaf c.below.ensures.leaf))))
