use Rattle.draft_parts.proofs.meeting.ended.Goals as goal

pub returns-clause-over : goal.returns-clause-over
returns-clause-over c = λ signature h. record { values = tt; leaves = h.leaves; conditions = h.conditions }
