use Rattle.draft_parts.proofs.TermLemmas.{both_over}
use Rattle.draft_parts.proofs.meeting.together.Goals as goal

pub returns-clause-over : goal.returns-clause-over
returns-clause-over c = λ signature h k.
    both_over signature c.args.left c.args.right c.in_ok-made.made c.args.renaming.now c.in_ok-made.ensures.values
    c.in_ok-made.ensures.leaves c.in_ok-made.ensures.conditions h k
