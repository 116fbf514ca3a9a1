-- By the equation of the fold at an opened value.
use Rattle.lotos_base.proofs.WrittenLemmas.{heads_seen, arguments_seen}
use Rattle.lotos_base.proofs.written_laws.written_terms_are_seen_by_parts.Goals as goal

pub returns-clause-heads : goal.returns-clause-heads
returns-clause-heads c = heads_seen

pub returns-clause-arguments : goal.returns-clause-arguments
returns-clause-arguments c = arguments_seen
