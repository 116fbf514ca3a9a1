use Rattle.std.proofs.Common.{◌≡◌, ◌∙◌, sym, ap, arith, rules, replicate, false}
use Rattle.ll_engine.proofs.Lists.{set_count, set_count-count_by, set_count-le-length}
use Rattle.ll_engine.proofs.MarkRounds.{next_round, next_round-length, set_count-next_round, AreSound-next_round, AreSound-replicate, set_count-replicate, AreDeriving-from_same_count}
use Rattle.ll_engine.proofs.marks.deriving_parts.Goals as goal
use Rattle.ll_engine.proofs.marks.deriving_parts.Goals.{After-count_set-next_count}

next_is : (c : After-count_set-next_count) → c.in_ok-next.next.items
    ≡ next_round c.args.rows.now c.args.parts c.args.tokens_pass c.loop-marks.marks.items
next_is c = rw c.deref.ensures.value at c.in_ok-next.ensures

count_is : (c : After-count_set-next_count) → c.count_set-next_count.result
    ≡ set_count (next_round c.args.rows.now c.args.parts c.args.tokens_pass c.loop-marks.marks.items)
count_is c =
    c.count_set-next_count.ensures ∙ sym (set_count-count_by c.deref-in-loop-marks.result.now)
    ∙ ap set_count (c.deref-in-loop-marks.ensures.value ∙ next_is c)

pub loop-marks-init : goal.loop-marks-init
loop-marks-init c =
    let e : c.in_ok-marks.marks.items ≡ replicate c.args.parts false = search rules in
    rw e (AreSound-replicate c.args.rows.now c.args.parts c.args.tokens_pass, sym (set_count-replicate c.args.parts))

pub returns-then-next_count-count : goal.returns-then-next_count-count
returns-then-next_count-count c =
    AreDeriving-from_same_count c.args.rows.now c.args.parts c.args.tokens_pass c.loop-marks.marks.items c.requires c.loop-marks.invariant.0
    (sym c.loop-marks.invariant.1 ∙ sym c.if-next_count-count.true
    ∙ count_is (goal.at.returns-then-next_count-count c).After-count_set-next_count)

pub loop-marks-smaller : goal.loop-marks-smaller
loop-marks-smaller c =
    let d = (goal.at.loop-marks-smaller c).After-count_set-next_count in
    let e = count_is d in
    let rises = set_count-next_round c.args.rows.now c.args.parts c.args.tokens_pass c.loop-marks.marks.items
    c.loop-marks.invariant.0.one_each in
    let len = next_round-length c.args.rows.now c.args.parts c.args.tokens_pass c.loop-marks.marks.items in
    let most = set_count-le-length (next_round c.args.rows.now c.args.parts c.args.tokens_pass c.loop-marks.marks.items) in
    omega arith

pub loop-marks-preserved : goal.loop-marks-preserved
loop-marks-preserved c =
    let d = (goal.at.loop-marks-preserved c).After-count_set-next_count in
    let e = next_is d in (
      rw e (AreSound-next_round c.args.rows.now c.args.parts c.args.tokens_pass c.loop-marks.marks.items c.loop-marks.invariant.0),
      count_is d ∙ ap set_count (sym e),
    )
