use Rattle.std.proofs.Common.{sym, ◌∙◌, arith}
use Rattle.lotos_base.proofs.PlainLemmas.{same_length, same_at, same_more}
use Rattle.lotos_base.proofs.plain.+identity.Goals as goal

-- lists of different lengths
pub all_same-returns-then-len : goal.all_same-returns-then-len
all_same-returns-then-len t c = (
  (λ h. cc),
  (λ same. absurd (c.if-len.true (c.len.ensures ∙ c.args.terms.now.ok.0 ∙ same_length c.args.terms.now.items c.args.others.now.items same
      ∙ sym c.args.others.now.ok.0 ∙ sym c.len-2.ensures))),
)

-- two members that differ
pub all_same-returns-then-not-same : goal.all_same-returns-then-not-same
all_same-returns-then-not-same t c = (
  (λ h. cc),
  (λ same. sym c.if-not-same.true ∙ c.same.ensures.1
      (same_at c.args.terms.now.items c.args.others.now.items c.loop-i.i c.index.result.now c.index-in-loop-i.result.now (omega arith)
      c.index.ensures c.index-in-loop-i.ensures same)),
)

pub all_same-loop-i-preserved : goal.all_same-loop-i-preserved
all_same-loop-i-preserved t c =
    same_more c.args.terms.now.items c.args.others.now.items c.loop-i.i c.index.result.now c.index-in-loop-i.result.now (omega arith)
    (omega arith) c.index.ensures c.index-in-loop-i.ensures c.loop-i.invariant (c.same.ensures.0 c.if-not-same.false)
