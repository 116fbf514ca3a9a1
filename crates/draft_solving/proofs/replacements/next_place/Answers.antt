use Rattle.std.proofs.Common.{arith}
use Rattle.draft_solving.proofs.FindingLemmas.{given_none_next, gives_at, none_past}
use Rattle.draft_solving.proofs.replacements.next_place.Goals as goal

pub returns-then-is_some-clause-gives : goal.returns-then-is_some-clause-gives
returns-then-is_some-clause-gives c =
    gives_at c.args.conditions.now.items c.loop-place.place c.index-condition.result.now c.replacement.result (omega arith)
    c.index-condition.ensures c.replacement.ensures.same c.if-is_some.ensures

pub loop-place-preserved : goal.loop-place-preserved
loop-place-preserved c = λ from.
    given_none_next c.args.conditions.now.items c.loop-place.place c.index-condition.result.now c.replacement.result (omega arith)
    c.index-condition.ensures c.replacement.ensures.same c.if-is_some.ensures (c.loop-place.invariant from)

pub returns-clause-gives : goal.returns-clause-gives
returns-clause-gives c = λ test at none. none_past c.args.conditions.now.items _ test (omega arith) at
