use Rattle.behaviour_semantics.proofs.EnvironmentLemmas.{environments_in_turn, listed_closes, behaviour_agrees, closed_stays, closes, inner_closes}
use Rattle.behaviour_semantics.proofs.closing.values_close.Goals as goal

pub returns : goal.returns
returns c = record {
  closed = closes;
  listed = listed_closes;
  inner_closed = inner_closes;
  in_turn = environments_in_turn;
  agreeing = λ signature names processes scope first second b h agree.
      behaviour_agrees signature names processes scope first second agree b h;
  unchanged = closed_stays;
}
