use Rattle.std.proofs.Common.{sym, ◌∙◌}
use Rattle.induct_parts.proofs.CoverFacts.{says_no, says_yes, not_once, once_more, once_all}
use Rattle.induct_parts.proofs.covers.differ.Goals as goal

pub returns-then-is_listed : goal.returns-then-is_listed
returns-then-is_listed c =
    says_no (not_once c.args.numbers.now c.loop-i.i c.loop-i-test.true (sym c.is_listed.ensures ∙ c.if-is_listed.true))

pub loop-i-preserved : goal.loop-i-preserved
loop-i-preserved c =
    once_more c.args.numbers.now c.loop-i.i c.loop-i-test.true (sym c.is_listed.ensures ∙ c.if-is_listed.false) c.loop-i.invariant

pub returns : goal.returns
returns c = says_yes (once_all c.args.numbers.now c.loop-i.i c.loop-i-test.false c.loop-i.invariant)
