use Rattle.session_histories.proofs.StepLemmas.{taken, not_refused, stepped_once}
use Rattle.session_histories.proofs.laws.steps_are_exact.Goals as goal

pub returns : goal.returns
returns c = record {
  taken = taken c.equal_leaves_give_like_moves.ensures;
  not_refused = not_refused;
  once = stepped_once c.moves_are_determined.ensures c.at_most_one_menu_is_exact.ensures;
}
