-- A line of a session comes to one thing, and the lines of a text to one report.
use Rattle.std.specs.Prelude.{◌≡◌, ℕ, true, false, List, Some}
use Rattle.lotos_base.specs.Outside.{Texts}
use Rattle.line_server.specs.Request.{Request}
use Rattle.session_log.specs.HandedOn.{first_situation, IsLawful, IsStateOver}
use Rattle.history_lines.specs.Standing.{Standing}
use Rattle.history_lines.specs.Befallen.{Befallen}
use Rattle.history_lines.specs.Answer.{RequestComesTo}
use Rattle.history_lines.specs.Beginning.{Beginning, CanBegin}
use Rattle.history_lines.specs.Reached.{IsReached}
use Rattle.history_lines.specs.Answered.{AreAnswered}

-- The session is lawful, and the state in which it began is closed and well formed over the specification.
pub record IsLawfulStanding (standing : Standing) : Type 0 where
  pub over : IsStateOver standing.basis (first_situation standing.progress).state
  pub lawful : IsLawful standing.basis standing.progress

-- The same is printed, and the session stands where it stood. What the shelf has then is left open.
pub record AreAlike (standing : Standing) (one other : Befallen) : Type 0 where
  pub text : one.reply.text ≡ other.reply.text
  pub quits : one.reply.quits ≡ other.reply.quits
  pub basis : one.reply.next.basis ≡ standing.basis
  pub progress : one.reply.next.progress ≡ standing.progress

pub record LinesComeToOneThing : Type 0 where
  -- where the shelf tells its texts and counts no fault, a line comes to one thing at most
  pub once :
      (standing : Standing) (told : Texts) (request : Request) (one other : Befallen) →
      IsLawfulStanding standing →
      standing.texts ≡ Some told →
      RequestComesTo standing request one →
      RequestComesTo standing request other →
      one.faulty ≡ false →
      other.faulty ≡ false →
      one ≡ other
  -- and where the shelf counts a fault, one thing is printed, and nothing is changed but the shelf
  pub failed :
      (standing : Standing) (request : Request) (one other : Befallen) →
      RequestComesTo standing request one →
      RequestComesTo standing request other →
      one.faulty ≡ true →
      other.faulty ≡ true →
      AreAlike standing one other

-- The lines that are answered from a standing that is reached, beside a shelf that tells its texts, have one report, and lead to
-- one standing.
abbrev pub SessionsHaveOneReport : Type 0
SessionsHaveOneReport = (begun : Beginning) (standing last other : Standing) (told : Texts) (lines : List (List ℕ)) (text another : List ℕ)
    → CanBegin begun
    → IsReached begun standing
    → standing.texts ≡ Some told
    → AreAnswered begun standing lines text last
    → AreAnswered begun standing lines another other
    → (text ≡ another) × (last ≡ other)
