-- What befalls a line: its answer, and whether it met a fault of the shelf.
use Rattle.std.specs.Prelude.{ℕ, Bool, true, false, List, [], Option}
use Rattle.lotos_base.specs.Outside.{Texts}
use Rattle.line_server.specs.Machine.{Reply}
use Rattle.session_log.specs.HandedOn.{Progress}
use Rattle.history_lines.specs.Standing.{Standing}

pub record Befallen : Type 0 where
  pub reply : Reply Standing
  pub faulty : Bool

-- a text is printed, and the session goes on from here
abbrev pub says : Standing → List ℕ → Befallen
says next text = record { reply = record { text = text; next = next; quits = false }; faulty = false }

-- the same where the shelf counted a fault
abbrev pub says_faulty : Standing → List ℕ → Befallen
says_faulty next text = record { reply = record { text = text; next = next; quits = false }; faulty = true }

-- nothing is printed, and the session ends here
abbrev pub leaves_session : Standing → Befallen
leaves_session standing = record { reply = record { text = []; next = standing; quits = true }; faulty = false }

-- the session has come so far, or the shelf has these texts
abbrev pub come_to : Standing → Progress → Standing
come_to standing progress = record standing { progress = progress }

abbrev pub with_texts : Standing → Option Texts → Standing
with_texts standing texts = record standing { texts = texts }
