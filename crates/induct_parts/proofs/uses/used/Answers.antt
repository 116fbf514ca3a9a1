use Rattle.induct_parts.proofs.uses.used.Goals as goal

pub returns-in-None-clause-none : goal.returns-in-None-clause-none
returns-in-None-clause-none c = λ data_ canon made used. c.in-None.ensures used.statement used.is_there
