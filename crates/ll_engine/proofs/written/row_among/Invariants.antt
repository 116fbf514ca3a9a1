use Rattle.std.proofs.Common.{◌≡◌, ◌+◌, drop}
use Rattle.ll_engine.specs.WrittenTable.{row_among}
use Rattle.ll_engine.proofs.written.row_among.Given as goal

-- what is looked for among the rows that are left
abbrev pub invariant-loop-row : goal.invariant-loop-row
invariant-loop-row l =
    (l.number ≡ l.first + l.row-index) × (row_among (drop l.row-index l.rows) l.number l.part l.token
    ≡ row_among l.rows l.first l.part l.token)
