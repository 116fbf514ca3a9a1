use Rattle.std.proofs.Common.{◌≡◌, drop}
use Rattle.std.specs.List.{list_all}
use Rattle.ll_engine.specs.View.{is_in_range}
use Rattle.ll_engine.proofs.range.is_row_in_range.Given as goal

abbrev pub invariant-loop-symbol : goal.invariant-loop-symbol
invariant-loop-symbol l =
    list_all (is_in_range l.parts l.tokens) (drop l.symbol-index l.row.right.items)
    ≡ list_all (is_in_range l.parts l.tokens) l.row.right.items
