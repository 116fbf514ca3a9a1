use Rattle.history_lines.proofs.LineOnceLemmas.{line_once, line_failed}
use Rattle.history_lines.proofs.outcome_laws.lines_come_to_one_thing.Goals as goal

pub returns : goal.returns
returns c = record {
  once = line_once c.sessions_follow_derivations.ensures c.sessions_stay_lawful.ensures c.steps_are_exact.ensures
      c.replay_is_exact.ensures c.texts_have_one_outcome.ensures c.reading_comes_to_one_thing.ensures.terms
      c.questions_have_one_answer.ensures
      c.lists_have_one_answer.ensures.values c.lists_have_one_answer.ensures.instances;
  failed = line_failed;
}
