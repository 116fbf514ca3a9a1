use Rattle.std.proofs.Common.{◌≡◌, ◌∙◌, sym, ap, arith}
use Rattle.ll_engine.proofs.Lists.{set_count, set_count-count_by}
use Rattle.ll_engine.proofs.Closure.{IsOnTheWay-start, IsOnTheWay-next, set_count-next, set_count-next-le, IsClosureOf-same_count}
use Rattle.ll_engine.proofs.relation.Relation.closed.Goals as goal
use Rattle.ll_engine.proofs.relation.Relation.closed.Goals.{After-count_set-next_count}

count_is : (c : After-count_set-next_count) → c.count_set-next_count.result ≡ set_count c.in_ok-next.next.bits.items
count_is c = c.count_set-next_count.ensures ∙ sym (set_count-count_by c.deref-in-loop-relation.result.now)
    ∙ ap set_count c.deref-in-loop-relation.ensures.value

pub loop-relation-init : goal.loop-relation-init
loop-relation-init c = (
  IsOnTheWay-start c.args.self,
  c.count_set-count.ensures ∙ sym (set_count-count_by c.deref.result.now)
      ∙ ap set_count c.deref.ensures.value,
)

pub returns-then-next_count-count : goal.returns-then-next_count-count
returns-then-next_count-count c =
    IsClosureOf-same_count c.loop-relation.relation c.in_ok-next.next c.in_ok-next.ensures c.args.self c.loop-relation.invariant.0
    (sym c.loop-relation.invariant.1 ∙ sym c.if-next_count-count.true
    ∙ count_is (goal.at.returns-then-next_count-count c).After-count_set-next_count)

pub loop-relation-smaller : goal.loop-relation-smaller
loop-relation-smaller c =
    let e = count_is (goal.at.loop-relation-smaller c).After-count_set-next_count in
    let h = c.in_ok-next.ensures in
    let rises = set_count-next c.loop-relation.relation c.in_ok-next.next h in
    let most = set_count-next-le c.loop-relation.relation c.in_ok-next.next h in
    let p = h.same_parts in
    let t = h.same_tokens in
    rw (p, t) (omega arith)

pub loop-relation-preserved : goal.loop-relation-preserved
loop-relation-preserved c = (
  IsOnTheWay-next c.loop-relation.relation c.in_ok-next.next c.in_ok-next.ensures c.args.self c.loop-relation.invariant.0,
  count_is (goal.at.loop-relation-preserved c).After-count_set-next_count,
)
