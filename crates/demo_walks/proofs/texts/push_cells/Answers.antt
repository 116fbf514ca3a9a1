use Rattle.demo_walks.proofs.TextLemmas.{one_line_more}
use Rattle.demo_walks.proofs.texts.push_cells.Goals as goal

pub loop-cell-preserved : goal.loop-cell-preserved
loop-cell-preserved c = one_line_more _ _ _ c.loop-cell.cell c.loop-cell.invariant c.in_ok-push_cell.ensures
