-- The numbers of entries and the values that a session got by its lines are such as a line of a trace can hold.
use Rattle.std.specs.Prelude.{◌≡◌, ℕ, Bool, List, []}
use Rattle.behaviour_semantics.specs.WellFormed.{Every}
use Rattle.session_histories.specs.Session.{Progress, items_of}
use Rattle.session_laws.specs.TraceReadings.{IsWithinLine}
use Rattle.line_server.specs.Answered as served
use Rattle.lotos_top.specs.HandedOn.{Standing, Befallen, LineComesTo, SessionPoint, history_machine}

-- the number of each entry has at most ten digits, and the values are nested at most as deep as those that are read
abbrev pub IsWithinLines : Progress → Type 0
IsWithinLines progress = Every IsWithinLine (items_of progress.steps)

pub record LinesKeepWithin : Type 0 where
  -- it is so before the first step
  pub at_start : (progress : Progress) → progress.steps ≡ [] → IsWithinLines progress
  -- and stays so whatever a line comes to, taken or refused
  pub line :
      (standing : Standing) (line : List ℕ) (it : Befallen) →
      IsWithinLines standing.progress →
      LineComesTo standing line it →
      IsWithinLines it.reply.next.progress
  -- and so along the lines that a server of sessions answers
  pub lines :
      (before last : SessionPoint) (lines : List (List ℕ)) (text : List ℕ) (quits : Bool) →
      IsWithinLines before.standing.progress →
      served.Answered history_machine before lines text last quits →
      IsWithinLines last.standing.progress
