-- What is owed for a line: its answer with what it does to session and shelf, or, where memory was wanted, that both are those
-- before the line or behind it.
use Rattle.std.specs.Prelude.{◌≡◌, ◌⊎◌, ℕ, Bool, true, false, List, IfSome, codes}
use Rattle.lotos_base.specs.Counts.{Rises}
use Rattle.line_server.specs.Request.{Request, undo, leave}
use Rattle.history_lines.specs.Standing.{Standing}
use Rattle.history_lines.specs.Befallen.{Befallen}
use Rattle.history_lines.specs.StepAnswer.{StepAnswer, declined}
use Rattle.session_log.specs.HandedOn.{SessionBasis, Progress}
use Rattle.history_lines.specs.Answer.{RequestComesTo, undone_text}
use Rattle.history_lines.specs.RefusalView.{decline_of}
use Rattle.history_lines.specs.declared.refusals.Decline.{Decline}

-- a session beside a shelf, and the shelf's count of faults
pub record SessionMoment : Type 0 where
  pub standing : Standing
  pub faults : ℕ

abbrev pub moment_of : Standing → ℕ → SessionMoment
moment_of standing faults = record { standing = standing; faults = faults }

-- the shelf counted a fault, or none
abbrev pub ShelfCounts : (faulty : Bool) → (before after : ℕ) → Type 0
ShelfCounts true before after = Rises before after
ShelfCounts false before after = after ≡ before

-- whether a request ends the session
abbrev pub ends_session : Request → Bool
ends_session leave = true
ends_session _ = false

-- The text is the answer to the request, and session and shelf are as it leaves them. The shelf counted a fault exactly where
-- the answer says so.
pub record GivesAnswer (before : SessionMoment) (request : Request) (text : List ℕ) (after : SessionMoment) : Type 0 where
  pub it : Befallen
  pub comes : RequestComesTo before.standing request it
  pub printed : text ≡ it.reply.text
  pub next : after.standing ≡ it.reply.next
  pub quits : it.reply.quits ≡ ends_session request
  pub counted : ShelfCounts it.faulty before.faults after.faults

-- Session and shelf are as before. A shelf that does not tell its texts is not spoken of.
pub record IsAsBefore (before after : SessionMoment) : Type 0 where
  pub basis : after.standing.basis ≡ before.standing.basis
  pub progress : after.standing.progress ≡ before.standing.progress
  pub texts : IfSome before.standing.texts (λ told. after.standing.texts ≡ before.standing.texts)
  pub faults : after.faults ≡ before.faults

-- Session and shelf are as before the line, or as they are behind it.
abbrev pub IsBeforeOrBehind : SessionMoment → Request → SessionMoment → Type 0
IsBeforeOrBehind before request after = IsAsBefore before after ⊎ ((text : List ℕ) × GivesAnswer before request text after)

-- the line of a step is refused, unless memory was wanted
abbrev pub Declines : (StepAnswer → Type 0) → Decline → Type 0
Declines Is decline = IfSome (decline_of decline) (λ why. Is (declined why))

-- whether a step was undone, and the menu before it
abbrev pub undo_text : Bool → SessionBasis → Progress → List ℕ
undo_text true basis new = undone_text basis new
undo_text false basis new = codes "nothing to undo\n"
