use Rattle.draft_parts.proofs.MeetingLemmas.{not_ended, is_ended}
use Rattle.draft_parts.proofs.meeting.enabled.Goals as goal

pub returns-then-not-have_sorts-clause-same : goal.returns-then-not-have_sorts-clause-same
returns-then-not-have_sorts-clause-same c = λ signature h. not_ended signature _ c.args.draft c.in-Exit.values c.in-Exit.is
    c.if-not-have_sorts.ensures h

pub returns-in-Exit-clause-same : goal.returns-in-Exit-clause-same
returns-in-Exit-clause-same c = λ signature h.
    is_ended signature _ c.args.draft c.in-Exit.values _ c.in-Exit.is c.if-not-have_sorts.ensures c.in_ok-made.ensures.same h
