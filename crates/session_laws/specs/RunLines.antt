-- The lines of a run: it serves the session of what it accepted, and each line is answered where those before it lead.
use Rattle.std.specs.Prelude.{◌≡◌, ◌⊎◌, ℕ, Bool, true, false, List, ◌∷◌, ◌++◌, Some}
use Rattle.line_server.specs.Answered as served
use Rattle.line_server.specs.Machine.{Reply}
use Rattle.lotos_top.specs.HandedOn.{SessionPoint, LineIs, history_machine, Beginning, ShelfState, Gives, Asked, Acceptance, IsAccepted, goes_on, GotFile, session, serves, Ended}
use Rattle.lotos_top.specs.Opening.{SessionBegins}
use Rattle.lotos_top.specs.Run.{Streams, Ran}

-- the shelf gave the files with which the specification was accepted, and its session begins so
pub record ServesAccepted (asked : Asked) (shelf between : ShelfState) (begun : Beginning) : Type 0 where
  pub files : List GotFile
  pub gives : Gives shelf between files
  pub acceptance : Acceptance
  pub accepted : IsAccepted asked files (goes_on acceptance)
  pub begins : SessionBegins acceptance begun

-- the earlier lines were answered up to a point, and there the line is
pub record IsAnsweredThere (start : SessionPoint) (earlier : List (List ℕ)) (line : List ℕ) : Type 0 where
  pub now : SessionPoint
  pub text : List ℕ
  pub answered : served.Answered history_machine start earlier text now false
  pub reply : Reply SessionPoint
  pub comes : LineIs now line reply

pub record RunLinesAreAnswered : Type 0 where
  -- a run that serves a session serves that of what it accepted
  pub accepted :
      (asked : Asked) (shelf shelf_after : ShelfState) (before after : Streams) (answer : Ended) (begun : Beginning)
      (ran : Ran (Some (session asked)) shelf shelf_after before after answer) →
      ran.comes ≡ goes_on (serves begun) →
      ServesAccepted asked shelf ran.between begun
  -- each of its lines is answered where those before it lead, unless one of these ended the session
  pub each :
      (start last : SessionPoint) (earlier later : List (List ℕ)) (line text : List ℕ) (quits : Bool) →
      served.Answered history_machine start (earlier ++ line ∷ later) text last quits →
      IsAnsweredThere start earlier line ⊎ ((first : List ℕ) × served.Answered history_machine start earlier first last true)
