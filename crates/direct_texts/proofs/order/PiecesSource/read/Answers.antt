use Rattle.direct_texts.proofs.order.PiecesSource.read.Goals as goal

pub returns-in_default-clause-counted : goal.returns-in_default-clause-counted
returns-in_default-clause-counted c = c.moved_by.ensures.counted _ _

pub returns-clause-counted : goal.returns-clause-counted
returns-clause-counted c = c.moved_by-2.ensures.counted _ _
