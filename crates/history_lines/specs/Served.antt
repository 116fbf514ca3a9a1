-- What a call does that serves one line.
use Rattle.std.specs.Prelude.{◌≡◌, ℕ, Bool, true, false, List, ◌++◌}
use Rattle.line_server.specs.Machine.{Reply}
use Rattle.history_lines.specs.SessionMachine.{SessionPoint, LineIs, LineLeaves}
use Rattle.history_lines.specs.declared.served.Served.{Served}
use Rattle.history_lines.specs.declared.served.Served.TheVariants.{Next, Quit}

-- whether the session ends behind the line
abbrev pub ends_behind : Served → Bool
ends_behind Next = false
ends_behind Quit = true

-- The line comes to a reply. Its text is put behind the one that was there, session and shelf are as it leaves them, and the answer
-- says whether it ends the session.
pub record AppendsReply (before : SessionPoint) (line : List ℕ) (after : SessionPoint) (text text_after : List ℕ) (served : Served) : Type 0
  where
    pub reply : Reply SessionPoint
    pub comes : LineIs before line reply
    pub appended : text_after ≡ text ++ reply.text
    pub next : after ≡ reply.next
    pub ends : ends_behind served ≡ reply.quits

-- Memory was wanted: the text is the one that was there, and session and shelf are those before the line or those behind it.
pub record AppendsNothing (before : SessionPoint) (line : List ℕ) (after : SessionPoint) (text text_after : List ℕ) : Type 0 where
  pub kept : text_after ≡ text
  pub leaves : LineLeaves before line after
