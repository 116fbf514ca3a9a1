use Rattle.std.proofs.Common.{◌≡◌, ◌++◌}
use Rattle.demo_walks.specs.DemoText.{cell_lines}
use Rattle.demo_walks.proofs.texts.push_cells.Given as goal

-- the lines of the cells before this one are appended
abbrev pub invariant-loop-cell : goal.invariant-loop-cell
invariant-loop-cell l = l.into.items ≡ l.fn.into.items ++ cell_lines l.cell
