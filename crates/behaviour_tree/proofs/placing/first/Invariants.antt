use Rattle.std.proofs.Common.{◌≡◌, ℕ, drop}
use Rattle.behaviour_tree.specs.StateView.{environment_of}
use Rattle.lotos_base.specs.Substitution.{binding}
use Rattle.behaviour_tree.proofs.placing.first.Given as goal

abbrev pub invariant-loop-pair : goal.invariant-loop-pair
invariant-loop-pair l =
    (sort : ℕ) →
    binding (environment_of l.environment) l.number sort
    ≡ binding (environment_of (drop l.pair-index l.environment)) l.number sort
