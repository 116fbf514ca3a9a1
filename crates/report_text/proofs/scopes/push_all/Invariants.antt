use Rattle.std.proofs.Common.{◌≡◌, ◌++◌, drop}
use Rattle.behaviour_tree.specs.BehaviourView.{variables_of}
use Rattle.report_text.proofs.scopes.push_all.Given as goal

abbrev pub invariant-loop-other : goal.invariant-loop-other
invariant-loop-other l =
    variables_of l.made.items ++ variables_of (drop l.other-index l.other-items)
    ≡ variables_of l.initial.made.items ++ variables_of l.other-items
