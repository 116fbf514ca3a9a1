use Rattle.std.proofs.Common.{sym, ◌∙◌}
use Rattle.type_equations.proofs.declaring.give_over.Goals as goal

pub give_by_reader-requires-clause-same : goal.give_by_reader-requires-clause-same
give_by_reader-requires-clause-same c = c.requires.same ∙ sym c.in_ok-reader.ensures

pub returns-clause-given : goal.returns-clause-given
returns-clause-given c = c.give_by_reader.ensures.given

pub returns-clause-sound : goal.returns-clause-sound
returns-clause-sound c = c.give_by_reader.ensures.sound

pub returns-clause-within : goal.returns-clause-within
returns-clause-within c = c.give_by_reader.ensures.within
