use Rattle.direct_texts.proofs.order.BytesSink.write.Goals as goal

pub returns-clause-counted : goal.returns-clause-counted
returns-clause-counted c = c.moved_by.ensures.counted _ _
