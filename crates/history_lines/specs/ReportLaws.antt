-- What whole sessions obey.
use Rattle.std.specs.Prelude.{◌≡◌, ℕ, ◌<◌, Bool, List, Option}
use Rattle.lotos_base.specs.Counts.{last_count}
use Rattle.lotos_base.specs.Outside.{Texts}
use Rattle.line_server.specs.Answered as served
use Rattle.history_lines.specs.Standing.{Standing}
use Rattle.history_lines.specs.Befallen.{Befallen}
use Rattle.history_lines.specs.Answer.{LineComesTo}
use Rattle.history_lines.specs.SessionMachine.{SessionPoint, history_machine}
use Rattle.history_lines.specs.Beginning.{Beginning, CanBegin, standing_at}
use Rattle.history_lines.specs.Reached.{IsReached}
use Rattle.history_lines.specs.Answered.{AreAnswered}

-- Whatever a line asks for, taken or refused, it leads from a state that is reached to one that is reached.
pub record LinesLeadOn : Type 0 where
  pub begins : (begun : Beginning) (texts : Option Texts) → CanBegin begun → IsReached begun (standing_at begun texts)
  pub goes_on :
      (begun : Beginning) (standing : Standing) (line : List ℕ) (it : Befallen) →
      CanBegin begun →
      IsReached begun standing →
      LineComesTo standing line it →
      IsReached begun it.reply.next

-- Lines that a server of sessions answered were answered one after another by what they come to, each from a state that is
-- reached, where the shelf counted no fault from the first of them to the last.
abbrev pub ServedLinesAreAnswered : Type 0
ServedLinesAreAnswered =
    (begun : Beginning) (before last : SessionPoint) (lines : List (List ℕ)) (text : List ℕ) (quits : Bool) →
    CanBegin begun →
    IsReached begun before.standing →
    before.faults < last_count →
    last.faults ≡ before.faults →
    served.Answered history_machine before lines text last quits →
    AreAnswered begun before.standing lines text last.standing
