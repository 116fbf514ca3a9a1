use Rattle.std.proofs.Common.{◌≤◌, ◌+◌, length}
use Rattle.session_histories.specs.Replay.{StatedLinesComeTo}
use Rattle.session_histories.specs.TraceLine.{lines_of}
use Rattle.menu_builder.specs.HandedOn.{KeepsData}
use Rattle.session_log.specs.CourseView.{basis_over, progress_of}
use Rattle.session_log.specs.Kept.{AreSuited, IsKeptCourse}
use Rattle.session_log.proofs.ReplayLemmas.{Decides}
use Rattle.session_log.proofs.replaying.replay_stated.Given as goal

-- what is left of the lines decides what all come to
abbrev pub invariant-loop-rest : goal.invariant-loop-rest
invariant-loop-rest g l = record {
  suited : AreSuited g.M.MenuMaker.suits (g.D.Deciding.known_data l.fn.data) (g.D.Deciding.canon l.fn.data) l.base.spec.now
      l.base.ranks.now l.maker;
  kept : IsKeptCourse (g.D.Deciding.known_data l.fn.data) (g.D.Deciding.canon l.fn.data) l.base.spec.now l.course;
  same_known : KeepsData g.D.Deciding.known_data g.D.Deciding.canon l.fn.data l.data;
  counted : 1 ≤ l.number;
  short : l.number + length l.rest ≤ length l.steps + 1;
  decides : Decides (StatedLinesComeTo (basis_over (g.D.Deciding.known_data l.fn.data) (g.D.Deciding.canon l.fn.data) l.base.spec.now)) (l.number + 1)
      (progress_of l.course) l.rest
      (StatedLinesComeTo (basis_over (g.D.Deciding.known_data l.fn.data) (g.D.Deciding.canon l.fn.data) l.base.spec.now) 2
      (progress_of l.fn.course) (lines_of l.steps));
}

abbrev pub decreases-loop-rest : goal.decreases-loop-rest
decreases-loop-rest g l = length l.rest
