use Rattle.std.proofs.Common.{◌≡◌, drop}
use Rattle.behaviour_semantics.specs.Behaviour.{numbers_of}
use Rattle.behaviour_tree.specs.BehaviourView.{variables_of}
use Rattle.lotos_base.specs.Substitution.{is_listed}
use Rattle.behaviour_tree.proofs.binders.lists.Given as goal

abbrev pub invariant-loop-variable : goal.invariant-loop-variable
invariant-loop-variable l =
    is_listed (numbers_of (variables_of l.variable-items)) l.number
    ≡ is_listed (numbers_of (variables_of (drop l.variable-index l.variable-items))) l.number
