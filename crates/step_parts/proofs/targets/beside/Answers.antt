use Rattle.std.proofs.Common.{◌++◌, ap, sym, ◌∙◌, subst}
use Rattle.std.proofs.lemmas.List.{append-nil}
use Rattle.behaviour_semantics.specs.Behaviour.{SynchronisationSet, parallel}
use Rattle.behaviour_tree.specs.BehaviourView.{meet_of}
use Rattle.behaviour_tree.specs.StateView.{node_profiles, stands_for}
use Rattle.behaviour_tree.specs.declared.states.Node.{Node}
use Rattle.std.specs.Prelude.{Option}
use Rattle.step_parts.specs.Beside.{HasClosedRest, rest_profiles}
use Rattle.step_parts.specs.TargetNodes.{HasClosedParts}
use Rattle.step_parts.proofs.NodeLemmas.{none_beside, some_beside}
use Rattle.step_parts.proofs.targets.beside.Goals as goal

pub returns-in-None-clause-same : goal.returns-in-None-clause-same
returns-in-None-clause-same c = λ behaviours h.
    none_beside (meet_of c.args.meet.now) c.args.rest c.args.node behaviours c.in-None.is h

pub returns-in-None-clause-terms : goal.returns-in-None-clause-terms
returns-in-None-clause-terms c =
    sym (ap (λ (o : Option Node). node_profiles c.args.node ++ rest_profiles o) c.in-None.is ∙ append-nil (node_profiles c.args.node))

pub returns-in-None-clause-closed_parts : goal.returns-in-None-clause-closed_parts
returns-in-None-clause-closed_parts c = λ h k. h

pub returns-in_ok-copy-in-Some-clause-same : goal.returns-in_ok-copy-in-Some-clause-same
returns-in_ok-copy-in-Some-clause-same c = λ behaviours h.
    some_beside (meet_of c.args.meet.now) c.args.rest c.in-Some.rest c.args.node behaviours _ c.in-Some.is h
    (ap (λ (m : SynchronisationSet). parallel m (stands_for c.in_ok-left-in-Some.left.value) (stands_for
    c.in_ok-right-in-Some.right.value)) c.in_ok-copy-in-Some.ensures
    ∙ (ap (λ (n : Node). parallel (meet_of c.args.meet.now) (stands_for n) (stands_for c.in_ok-right-in-Some.right.value))
    c.in_ok-left-in-Some.ensures
    ∙ ap (λ (n : Node). parallel (meet_of c.args.meet.now) (stands_for c.args.node) (stands_for n)) c.in_ok-right-in-Some.ensures))

pub returns-in_ok-copy-in-Some-clause-terms : goal.returns-in_ok-copy-in-Some-clause-terms
returns-in_ok-copy-in-Some-clause-terms c =
    ap (λ (n : Node). node_profiles n ++ node_profiles c.in_ok-right-in-Some.right.value) c.in_ok-left-in-Some.ensures
    ∙ (ap (λ (n : Node). node_profiles c.args.node ++ node_profiles n) c.in_ok-right-in-Some.ensures
    ∙ ap (λ (o : Option Node). node_profiles c.args.node ++ rest_profiles o) (sym c.in-Some.is))

pub returns-in_ok-copy-in-Some-clause-closed_parts : goal.returns-in_ok-copy-in-Some-clause-closed_parts
returns-in_ok-copy-in-Some-clause-closed_parts c = λ h k. (
  subst (λ (n : Node). HasClosedParts n) (sym c.in_ok-left-in-Some.ensures) h,
  subst (λ (n : Node). HasClosedParts n) (sym c.in_ok-right-in-Some.ensures)
      (subst (λ (o : Option Node). HasClosedRest o) c.in-Some.is k),
)
