use Rattle.session_histories.proofs.ReplayLemmas.{replay_once, replay_lawful}
use Rattle.session_histories.proofs.laws.replay_is_exact.Goals as goal

pub returns : goal.returns
returns c = record {
  once = replay_once c.texts_have_one_outcome.ensures c.reading_comes_to_one_thing.ensures.terms c.steps_are_exact.ensures
      c.targets_are_well_formed.ensures;
  lawful = replay_lawful;
}
