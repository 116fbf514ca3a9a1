use Rattle.std.proofs.Common.{◌≡◌, ◌++◌, drop}
use Rattle.draft_parts.specs.Rows.{call_pairs}
use Rattle.draft_parts.proofs.gates.Call.relabelled.Given as goal

abbrev pub invariant-loop-i : goal.invariant-loop-i
invariant-loop-i l =
    l.made.items ++ call_pairs (drop l.i l.self.formals.now.items) (drop l.i l.self.actuals.now.items) l.pairs
    ≡ call_pairs l.self.formals.now.items l.self.actuals.now.items l.pairs
