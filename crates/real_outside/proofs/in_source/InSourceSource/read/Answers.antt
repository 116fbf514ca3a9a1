use Rattle.real_outside.proofs.in_source.InSourceSource.read.Goals as goal

pub returns-in-Ok-clause-counted : goal.returns-in-Ok-clause-counted
returns-in-Ok-clause-counted g c = c.moved_by.ensures.counted _ _

pub returns-in-Err-clause-counted : goal.returns-in-Err-clause-counted
returns-in-Err-clause-counted g c = c.failed.ensures.counted _ _
