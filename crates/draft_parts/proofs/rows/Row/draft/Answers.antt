use Rattle.std.proofs.Common.{◌≡◌, ◌-◌, length, ap, sym, ◌∙◌, arith}
use Rattle.std.proofs.lemmas.Result.{IfOk-weaker}
use Rattle.lotos_base.proofs.Pieces.{one_less}
use Rattle.draft_parts.proofs.RowDraftLemmas.{joined_begun, joined_more, joined_done}
use Rattle.draft_parts.proofs.rows.Row.draft.Goals as goal

pub loop-left-init : goal.loop-left-init
loop-left-init c = (
  joined_begun c.args.first c.args.self _ c.in_ok-by.by c.in_ok-raised.field-0 c.of-made.result
      c.into_iter-left-iterator.ensures.into_iter_gives.0 c.in_ok-by.ensures c.in_ok-raised.ensures.same c.of-made.ensures.same
      (λ signature h. c.in_ok-raised.ensures.over signature h) (λ signature h. c.of-made.ensures.over signature h),
  c.into_iter-left-iterator.ensures.into_iter_gives.1 ∙ c.args.self.lefts.ok.0
      ∙ ap length (sym c.into_iter-left-iterator.ensures.into_iter_gives.0),
)

pub loop-left-preserved : goal.loop-left-preserved
loop-left-preserved c = (
  joined_more c.args.first c.args.self _ _ c.loop-left.by c.saturating_sub-by.result c.in-Some.left c.in_ok-left.left c.loop-left.made
      c.in_ok-made.made c.in-Some.ensures.steps.0
      (let less : c.saturating_sub-by.result ≡ c.loop-left.by - length c.in-Some.left.leaves.items = omega arith in less)
      c.in_ok-left.ensures.same c.in_ok-made.ensures.same (λ signature h. c.in_ok-left.ensures.over signature h)
      (λ signature h k. c.in_ok-made.ensures.over signature h k) c.loop-left.invariant.0,
  one_less c.in-Some.left _ _ _ _ c.in-Some.ensures.steps.0 c.in-Some.ensures.steps.1 c.loop-left.invariant.1,
)

pub returns-clause-same : goal.returns-clause-same
returns-clause-same c =
    IfOk-weaker c.whole.result _ _ (λ made e.
    e ∙ joined_done c.args.first c.args.self _ c.loop-left.by c.loop-left.made (sym c.loop-left.invariant.1 ∙ c.in-None.ensures.steps.0)
    c.loop-left.invariant.0) c.whole.ensures.same

pub returns-clause-over : goal.returns-clause-over
returns-clause-over c =
    IfOk-weaker c.whole.result _ _ (λ made e signature h. e signature (c.loop-left.invariant.0.over signature h).0) c.whole.ensures.over
