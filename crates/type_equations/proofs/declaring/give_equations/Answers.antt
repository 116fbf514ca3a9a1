use Rattle.std.proofs.Common.{sym}
use Rattle.type_equations.proofs.declaring.give_equations.Goals as goal

pub give_over-requires-clause-same : goal.give_over-requires-clause-same
give_over-requires-clause-same c = sym c.in_ok-signature.ensures

pub returns-clause-given : goal.returns-clause-given
returns-clause-given c = c.give_over.ensures.given

pub returns-clause-sound : goal.returns-clause-sound
returns-clause-sound c = c.give_over.ensures.sound

pub returns-clause-within : goal.returns-clause-within
returns-clause-within c = c.give_over.ensures.within
