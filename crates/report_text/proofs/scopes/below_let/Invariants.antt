use Rattle.std.proofs.Common.{◌≡◌, ◌++◌, map, drop}
use Rattle.behaviour_semantics.specs.Behaviour.{let_variables}
use Rattle.behaviour_tree.specs.BehaviourView.{let_of, variables_of}
use Rattle.report_text.proofs.scopes.below_let.Given as goal

abbrev pub invariant-loop-binding : goal.invariant-loop-binding
invariant-loop-binding l =
    variables_of l.made.items ++ let_variables (map let_of (drop l.binding-index l.binding-items))
    ≡ let_variables (map let_of l.binding-items)
