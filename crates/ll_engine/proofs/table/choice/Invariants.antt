use Rattle.ll_engine.specs.Computed.{is_marked, is_candidate}
use Rattle.ll_engine.specs.Related.{related}
use Rattle.ll_engine.proofs.Choices.{FoundBelow}
use Rattle.ll_engine.proofs.table.choice.Given as goal

abbrev pub invariant-loop-number : goal.invariant-loop-number
invariant-loop-number l =
    FoundBelow (is_candidate (is_marked l.nullable) (related l.first) (related l.follow) l.first.tokens l.part l.token) l.rows l.number
    l.found
