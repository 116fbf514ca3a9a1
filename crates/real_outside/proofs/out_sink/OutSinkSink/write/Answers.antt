use Rattle.real_outside.proofs.out_sink.OutSinkSink.write.Goals as goal

pub returns-in-Ok-clause-counted : goal.returns-in-Ok-clause-counted
returns-in-Ok-clause-counted g c = c.moved_by.ensures.counted _ _

pub returns-in_default-clause-counted : goal.returns-in_default-clause-counted
returns-in_default-clause-counted g c = c.failed.ensures.counted _ _
