use Rattle.std.proofs.Common.{sym, ◌∙◌, arith}
use Rattle.bisim_check.proofs.DataLemmas.{as_many, never, related_at, related_more}
use Rattle.bisim_check.proofs.agreeing.all_agree.Goals as goal

-- lists of different lengths
pub returns-then-members-others : goal.returns-then-members-others
returns-then-members-others g c = (
  (λ h. absurd (never h)),
  (λ all. absurd (c.if-members-others.true (as_many g.T.Agreeing.agree c.args.members.now c.args.others.now all))),
)

-- two members that do not agree
pub returns-then-not-agrees : goal.returns-then-not-agrees
returns-then-not-agrees g c = (
  (λ h. absurd (never h)),
  (λ all. sym c.if-not-agrees.true ∙ c.agrees.ensures.1
      (related_at g.T.Agreeing.agree c.args.members.now c.args.others.now c.loop-i.i c.index-members-i.result c.index-others-i.result
      (omega arith) c.index-members-i.is c.index-others-i.is all)),
)

pub loop-i-preserved : goal.loop-i-preserved
loop-i-preserved g c =
    related_more g.T.Agreeing.agree c.args.members.now c.args.others.now c.loop-i.i c.index-members-i.result c.index-others-i.result
    (omega arith) (omega arith) c.index-members-i.is c.index-others-i.is c.loop-i.invariant (c.agrees.ensures.0 c.if-not-agrees.false)
