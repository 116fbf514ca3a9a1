use Rattle.std.proofs.Common.{◌≡◌, ◌++◌, drop}
use Rattle.term_match.specs.ProfiledInstance.{bare_pairs}
use Rattle.term_match.specs.SubstView.{profiled_pairs}
use Rattle.behaviour_tree.specs.BehaviourView.{terms_of, variables_of}
use Rattle.behaviour_tree.specs.StateView.{environment_of}
use Rattle.draft_parts.specs.Environments.{ArePairsOf}
use Rattle.draft_parts.specs.BelowLaws.{binder_pairs}
use Rattle.draft_parts.specs.HandedOn.{KeepsData}
use Rattle.menu_builder.specs.Bound.{AreValuesReady}
use Rattle.menu_builder.proofs.binders.call_environment.Given as goal

abbrev pub invariant-loop-i : goal.invariant-loop-i
invariant-loop-i g l = record {
  same : environment_of l.pairs.items
      ++ binder_pairs (g.D.Deciding.canon l.fn.decider) (variables_of (drop l.i l.parameters.items)) (terms_of (drop l.i l.values.items))
      (bare_pairs (profiled_pairs l.environment.items))
      ≡ binder_pairs (g.D.Deciding.canon l.fn.decider) (variables_of l.parameters.items) (terms_of l.values.items)
      (bare_pairs (profiled_pairs l.environment.items));
  is_of : ArePairsOf (g.D.Deciding.known_data l.fn.decider).signature (profiled_pairs l.pairs.items);
  left : AreValuesReady (g.D.Deciding.known_data l.fn.decider).signature (profiled_pairs l.environment.items) (drop l.i l.values.items);
  same_known : KeepsData g.D.Deciding.known_data g.D.Deciding.canon l.fn.decider l.decider;
}
