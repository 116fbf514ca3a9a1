use Rattle.std.proofs.Common.{◌≡◌, drop, map}
use Rattle.behaviour_semantics.specs.Behaviour.{let_variables, numbers_of}
use Rattle.behaviour_tree.specs.BehaviourView.{let_of}
use Rattle.lotos_base.specs.Substitution.{is_listed}
use Rattle.behaviour_tree.proofs.binders.defines.Given as goal

abbrev pub invariant-loop-binding : goal.invariant-loop-binding
invariant-loop-binding l =
    is_listed (numbers_of (let_variables (map let_of l.binding-items))) l.number
    ≡ is_listed (numbers_of (let_variables (map let_of (drop l.binding-index l.binding-items)))) l.number
