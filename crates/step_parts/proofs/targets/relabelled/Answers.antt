use Rattle.std.proofs.Common.{ap, sym, subst}
use Rattle.behaviour_semantics.specs.Behaviour.{relabel}
use Rattle.behaviour_tree.specs.StateView.{node_profiles, stands_for}
use Rattle.behaviour_tree.specs.declared.states.Node.{Node}
use Rattle.step_parts.specs.TargetNodes.{HasClosedParts}
use Rattle.step_parts.proofs.targets.relabelled.Goals as goal

pub returns-clause-same : goal.returns-clause-same
returns-clause-same c = ap (λ (n : Node). relabel c.args.pairs.items (stands_for n)) c.in_ok-inside.ensures

pub returns-clause-terms : goal.returns-clause-terms
returns-clause-terms c = ap node_profiles c.in_ok-inside.ensures

pub returns-clause-closed_parts : goal.returns-clause-closed_parts
returns-clause-closed_parts c = λ h. subst (λ (n : Node). HasClosedParts n) (sym c.in_ok-inside.ensures) h
