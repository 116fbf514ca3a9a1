use Rattle.critical_pairs.proofs.finding.Finder.number.Goals as goal

pub canonical-requires-clause-index : goal.canonical-requires-clause-index
canonical-requires-clause-index c = c.requires.finder.indexed

pub canonical-requires-clause-sound : goal.canonical-requires-clause-sound
canonical-requires-clause-sound c = c.requires.finder.sound

pub returns-clause-finder : goal.returns-clause-finder
returns-clause-finder c = record {
  indexed = c.requires.finder.indexed;
  profiled = c.requires.finder.profiled;
  sound = c.canonical.ensures.stay.sound;
}

pub returns-in_err-found-clause-finder : goal.returns-in_err-found-clause-finder
returns-in_err-found-clause-finder c = record {
  indexed = c.requires.finder.indexed;
  profiled = c.requires.finder.profiled;
  sound = c.canonical.ensures.stay.sound;
}
