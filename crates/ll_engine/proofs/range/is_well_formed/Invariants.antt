use Rattle.std.proofs.Common.{◌≡◌, drop}
use Rattle.std.specs.List.{list_all}
use Rattle.ll_engine.specs.View.{productions, is_row_in_range}
use Rattle.ll_engine.proofs.range.is_well_formed.Given as goal

abbrev pub invariant-loop-row : goal.invariant-loop-row
invariant-loop-row l =
    list_all (is_row_in_range l.parts l.tokens) (productions (drop l.row-index l.rows))
    ≡ list_all (is_row_in_range l.parts l.tokens) (productions l.rows)
