use Rattle.draft_parts.proofs.MetLemmas.{one_behind, one_over}
use Rattle.draft_parts.proofs.sides.push_both.Goals as goal

pub returns-clause-same : goal.returns-clause-same
returns-clause-same c =
    one_behind c.args.drafts.now.items c.push.new.self.items c.in_ok-made.made _ c.in_ok-push.ensures.items c.in_ok-made.ensures.same

pub returns-clause-over : goal.returns-clause-over
returns-clause-over c = λ signature h k before.
    one_over signature c.args.drafts.now.items c.push.new.self.items c.in_ok-made.made c.in_ok-push.ensures.items before
    (c.in_ok-made.ensures.over signature h k)
