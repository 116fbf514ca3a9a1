use Rattle.draft_parts.proofs.rules.below.Goals as goal

pub returns-clause-over : goal.returns-clause-over
returns-clause-over c = λ signature h. record { values = h.values; leaves = h.leaves; conditions = h.conditions }
