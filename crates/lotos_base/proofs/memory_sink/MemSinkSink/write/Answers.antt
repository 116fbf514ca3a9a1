use Rattle.std.proofs.Common.{None}
use Rattle.lotos_base.proofs.memory_sink.MemSinkSink.write.Goals as goal

pub returns-then-listed-clause-counted : goal.returns-then-listed-clause-counted
returns-then-listed-clause-counted c = c.failed.ensures.counted _ _

pub returns-then-listed-clause-calls : goal.returns-then-listed-clause-calls
returns-then-listed-clause-calls c = (c.failed.ensures.counted None None).calls

pub returns-clause-counted : goal.returns-clause-counted
returns-clause-counted c = c.moved_by.ensures.counted _ _

pub returns-clause-calls : goal.returns-clause-calls
returns-clause-calls c = (c.moved_by.ensures.counted None None).call.calls
