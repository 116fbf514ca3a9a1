use Rattle.draft_parts.proofs.TermLemmas.{copy_over}
use Rattle.draft_parts.proofs.copies.copied.Goals as goal

pub returns-clause-over : goal.returns-clause-over
returns-clause-over c = λ signature h.
    copy_over signature c.args.draft.now c.in_ok-made.made c.in_ok-made.ensures.values c.in_ok-made.ensures.leaves
    c.in_ok-made.ensures.conditions h
