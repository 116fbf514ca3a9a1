use Rattle.std.proofs.Common.{◌≡◌, ◌++◌, drop, map}
use Rattle.behaviour_semantics.specs.Behaviour.{let_variables, let_terms}
use Rattle.term_match.specs.ProfiledInstance.{bare_pairs}
use Rattle.term_match.specs.SubstView.{profiled_pairs}
use Rattle.behaviour_tree.specs.BehaviourView.{let_of}
use Rattle.behaviour_tree.specs.StateView.{environment_of}
use Rattle.draft_parts.specs.Environments.{ArePairsOf}
use Rattle.draft_parts.specs.BelowLaws.{binder_pairs}
use Rattle.draft_parts.specs.HandedOn.{KeepsData}
use Rattle.menu_builder.specs.Bound.{AreBindingsReady}
use Rattle.menu_builder.proofs.binders.bound_values.Given as goal

abbrev pub invariant-loop-binding : goal.invariant-loop-binding
invariant-loop-binding g l = record {
  same : environment_of l.pairs.items
      ++ binder_pairs (g.D.Deciding.canon l.fn.decider) (let_variables (map let_of (drop l.binding-index l.binding-items)))
      (let_terms (map let_of (drop l.binding-index l.binding-items))) (bare_pairs (profiled_pairs l.environment.items))
      ≡ binder_pairs (g.D.Deciding.canon l.fn.decider) (let_variables (map let_of l.binding-items))
      (let_terms (map let_of l.binding-items)) (bare_pairs (profiled_pairs l.environment.items));
  is_of : ArePairsOf (g.D.Deciding.known_data l.fn.decider).signature (profiled_pairs l.pairs.items);
  left : AreBindingsReady (g.D.Deciding.known_data l.fn.decider).signature (profiled_pairs l.environment.items)
      (drop l.binding-index l.binding-items);
  same_known : KeepsData g.D.Deciding.known_data g.D.Deciding.canon l.fn.decider l.decider;
}
