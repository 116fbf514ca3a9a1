use Rattle.session_histories.proofs.ProgressLemmas.{follow}
use Rattle.session_histories.proofs.laws.sessions_follow_derivations.Goals as goal

pub returns : goal.returns
returns c = record {
  kept = follow;
  derived = λ basis first last steps over h. c.runs_are_alike.ensures.derived basis.data_ basis.canon basis.specification first.state
      over _ last.state (follow basis first last steps h);
  over = λ basis first last steps over h. c.targets_are_well_formed.ensures.reached basis.data_ basis.canon basis.specification
      first.state over _ last.state (follow basis first last steps h);
}
