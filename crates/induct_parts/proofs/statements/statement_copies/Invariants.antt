use Rattle.std.proofs.Common.{◌≡◌, ◌++◌, drop, map}
use Rattle.induct_parts.specs.StatementView.{profiled_sides_of}
use Rattle.induct_parts.proofs.statements.statement_copies.Given as goal

abbrev pub invariant-loop-statement : goal.invariant-loop-statement
invariant-loop-statement l =
    map profiled_sides_of l.made.items ++ map profiled_sides_of (drop l.statement-index l.statement-items)
    ≡ map profiled_sides_of l.statement-items
