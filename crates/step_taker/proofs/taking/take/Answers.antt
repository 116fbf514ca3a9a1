use Rattle.std.proofs.Common.{◌≡◌, ◌+◌, ◌∙◌, List, length, refl, ap, sym, subst, arith, None, Some}
use Rattle.std.specs.Prelude.{nat_lt}
use Rattle.behaviour_semantics.specs.Fault.{not_fitting, size}
use Rattle.step_taker.proofs.TakenLemmas.{taken, left_told, root, root_told, target_state}
use Rattle.behaviour_tree.specs.BehaviourTerms.{profiles_of}
use Rattle.behaviour_tree.specs.BehaviourView.{terms_of}
use Rattle.behaviour_tree.specs.MoveView.{shape_of}
use Rattle.behaviour_tree.specs.Over.{AreTermsOf}
use Rattle.behaviour_tree.specs.StateView.{stands_for}
use Rattle.behaviour_tree.specs.declared.states.Node.{Node}
use Rattle.sort_terms.specs.declared.sorted.Sorted.{Sorted}
use Rattle.step_parts.specs.StepFaults.{IsWrongTold, UnlessMemory}
use Rattle.step_taker.specs.Taken.{ground_of}
use Rattle.step_taker.specs.Walked.{IsFirstStepFault, IsMoved, IsPassableNode}
use Rattle.std.specs.Prelude.{if◌then◌else◌}
use Rattle.step_taker.proofs.MatchLemmas.{match_err}
use Rattle.step_taker.proofs.taking.take.Goals as goal

pub node_step-requires-clause-walk : goal.node_step-requires-clause-walk
node_step-requires-clause-walk g c =
    record {
      over = c.requires.over;
      leaves_of_signature = subst (λ (items : List Sorted). AreTermsOf (g.D.Deciding.known_data
          c.args.data.now).signature (profiles_of items)) (sym c.as_slice.ensures.value) c.requires.leaves;
      within = omega arith;
    }

pub node_step-requires-clause-node : goal.node_step-requires-clause-node
node_step-requires-clause-node g c =
    subst (λ (node : Node). IsPassableNode (ground_of (g.D.Deciding.known_data c.args.data.now) (g.D.Deciding.canon c.args.data.now)
    c.args.spec.now) node) (sym c.node.ensures)
    (record {
      passable = record { closed = c.requires.state.closed; terms_of_signature = c.requires.state.terms };
      states =
          c.requires.closed;
    })

pub returns-in_err-moved-clause-answer : goal.returns-in_err-moved-clause-answer
returns-in_err-moved-clause-answer g c =
    match_err _ _ c.from_residual-in_err-moved.result c.in_err-moved.field-0.0 c.from_residual-in_err-moved.ensures.1
    (root_told (ground_of (g.D.Deciding.known_data c.args.data.now) (g.D.Deciding.canon c.args.data.now) c.args.spec.now)
    c.args.state.now c.args.derivation.now c.in_err-moved.field-0.0 (subst (λ (items : List Sorted). UnlessMemory (IsFirstStepFault
    (ground_of (g.D.Deciding.known_data c.args.data.now) (g.D.Deciding.canon c.args.data.now) c.args.spec.now) (terms_of items) (root
    (ground_of (g.D.Deciding.known_data c.args.data.now) (g.D.Deciding.canon c.args.data.now) c.args.spec.now) c.args.state.now
    c.args.derivation.now)) c.in_err-moved.field-0.0) c.as_slice.ensures.value (c.in_err-moved.ensures.answer (root (ground_of
    (g.D.Deciding.known_data c.args.data.now) (g.D.Deciding.canon c.args.data.now) c.args.spec.now) c.args.state.now
    c.args.derivation.now) (record { behaviour = ap stands_for c.node.ensures; same_shape = refl; node = refl; leaf = refl }))))

pub returns-in_err-none_left_over-clause-answer : goal.returns-in_err-none_left_over-clause-answer
returns-in_err-none_left_over-clause-answer g c =
    match_err _ _ c.from_residual-in_err-none_left_over.result c.in_err-none_left_over.field-0.0
    c.from_residual-in_err-none_left_over.ensures.1
    (left_told (ground_of (g.D.Deciding.known_data c.args.data.now) (g.D.Deciding.canon c.args.data.now) c.args.spec.now)
    c.args.state.now c.args.derivation.now c.in_ok-moved.moved (subst (λ (items : List Sorted). IsMoved (ground_of
    (g.D.Deciding.known_data c.args.data.now) (g.D.Deciding.canon c.args.data.now) c.args.spec.now) (terms_of items) (root (ground_of
    (g.D.Deciding.known_data c.args.data.now) (g.D.Deciding.canon c.args.data.now) c.args.spec.now) c.args.state.now
    c.args.derivation.now) c.in_ok-moved.moved) c.as_slice.ensures.value (c.in_ok-moved.ensures.answer (root (ground_of
    (g.D.Deciding.known_data c.args.data.now) (g.D.Deciding.canon c.args.data.now) c.args.spec.now) c.args.state.now
    c.args.derivation.now) (record { behaviour = ap stands_for c.node.ensures; same_shape = refl; node = refl; leaf = refl })))
    c.in_err-none_left_over.field-0.0
    (subst (λ (items : List Sorted). UnlessMemory (IsWrongTold (0 + size (shape_of c.args.derivation.now.shape)) (if nat_lt
    c.in_ok-moved.moved.behind.leaf (length items) then Some not_fitting else None)) c.in_err-none_left_over.field-0.0)
    c.as_slice.ensures.value (c.in_err-none_left_over.ensures (0 + size (shape_of c.args.derivation.now.shape)) (subst (λ (items :
    List Sorted). IsMoved (ground_of (g.D.Deciding.known_data c.args.data.now) (g.D.Deciding.canon c.args.data.now) c.args.spec.now)
    (terms_of items) (root (ground_of (g.D.Deciding.known_data c.args.data.now) (g.D.Deciding.canon c.args.data.now) c.args.spec.now)
    c.args.state.now c.args.derivation.now) c.in_ok-moved.moved) c.as_slice.ensures.value (c.in_ok-moved.ensures.answer (root
    (ground_of (g.D.Deciding.known_data c.args.data.now) (g.D.Deciding.canon c.args.data.now) c.args.spec.now) c.args.state.now
    c.args.derivation.now) (record {
      behaviour = ap stands_for c.node.ensures;
      same_shape = refl;
      node = refl;
      leaf = refl;
    }))).node_behind)))

pub of-requires : goal.of-requires
of-requires g c =
    c.in_ok-node.ensures.closed (target_state (ground_of (g.D.Deciding.known_data
    c.args.data.now) (g.D.Deciding.canon c.args.data.now) c.args.spec.now) c.args.state.now c.args.derivation.now c.in_ok-moved.moved
    (subst (λ (items : List Sorted). IsMoved (ground_of (g.D.Deciding.known_data c.args.data.now) (g.D.Deciding.canon
    c.args.data.now) c.args.spec.now) (terms_of items) (root (ground_of (g.D.Deciding.known_data c.args.data.now) (g.D.Deciding.canon
    c.args.data.now) c.args.spec.now) c.args.state.now c.args.derivation.now) c.in_ok-moved.moved) c.as_slice.ensures.value
    (c.in_ok-moved.ensures.answer (root (ground_of (g.D.Deciding.known_data c.args.data.now) (g.D.Deciding.canon c.args.data.now)
    c.args.spec.now) c.args.state.now c.args.derivation.now) (record {
      behaviour = ap stands_for c.node.ensures;
      same_shape = refl;
      node = refl;
      leaf = refl;
    }))) (g.met.D.Deciding.is_canon c.args.data.now) c.requires.over c.requires.state.closed)

pub returns-clause-answer : goal.returns-clause-answer
returns-clause-answer g c =
    taken (ground_of (g.D.Deciding.known_data c.args.data.now) (g.D.Deciding.canon c.args.data.now) c.args.spec.now) c.args.state.now
    c.args.derivation.now c.in_ok-moved.moved (subst (λ (items : List Sorted). IsMoved (ground_of (g.D.Deciding.known_data
    c.args.data.now) (g.D.Deciding.canon c.args.data.now) c.args.spec.now) (terms_of items) (root (ground_of (g.D.Deciding.known_data
    c.args.data.now) (g.D.Deciding.canon c.args.data.now) c.args.spec.now) c.args.state.now c.args.derivation.now)
    c.in_ok-moved.moved) c.as_slice.ensures.value (c.in_ok-moved.ensures.answer (root (ground_of (g.D.Deciding.known_data
    c.args.data.now) (g.D.Deciding.canon c.args.data.now) c.args.spec.now) c.args.state.now c.args.derivation.now) (record {
      behaviour = ap stands_for c.node.ensures;
      same_shape = refl;
      node = refl;
      leaf = refl;
    }))) (g.met.D.Deciding.is_canon
    c.args.data.now) c.requires.over c.requires.state.closed
    (subst (λ (items : List Sorted). (if nat_lt c.in_ok-moved.moved.behind.leaf (length items) then Some not_fitting else None) ≡ None)
    c.as_slice.ensures.value (c.in_ok-none_left_over.ensures (0 + size (shape_of c.args.derivation.now.shape)) (subst (λ (items :
    List Sorted). IsMoved (ground_of (g.D.Deciding.known_data c.args.data.now) (g.D.Deciding.canon c.args.data.now) c.args.spec.now)
    (terms_of items) (root (ground_of (g.D.Deciding.known_data c.args.data.now) (g.D.Deciding.canon c.args.data.now) c.args.spec.now)
    c.args.state.now c.args.derivation.now) c.in_ok-moved.moved) c.as_slice.ensures.value (c.in_ok-moved.ensures.answer (root
    (ground_of (g.D.Deciding.known_data c.args.data.now) (g.D.Deciding.canon c.args.data.now) c.args.spec.now) c.args.state.now
    c.args.derivation.now) (record {
      behaviour = ap stands_for c.node.ensures;
      same_shape = refl;
      node = refl;
      leaf = refl;
    }))).node_behind))
    c.of.result c.in_ok-node.node c.of.ensures c.in_ok-node.ensures.same c.in_ok-node.ensures.terms c.in_ok-node.ensures.closed
