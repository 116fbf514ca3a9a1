-- Sessions beside their shelves as machines that answer lines.
use Rattle.std.specs.Prelude.{◌≡◌, ℕ, List}
use Rattle.line_server.specs.Machine.{Machine, Reply}
use Rattle.line_server.specs.Request.{request_of}
use Rattle.history_lines.specs.Standing.{Standing}
use Rattle.history_lines.specs.Befallen.{Befallen}
use Rattle.history_lines.specs.Answer.{LineComesTo}
use Rattle.history_lines.specs.Calls.{CallsShelf, MayCallShelf}
use Rattle.history_lines.specs.Serving.{ShelfCounts, moment_of, IsBeforeOrBehind}

-- where a session stands beside its shelf, which has counted so many faults and so many calls
pub record SessionPoint : Type 0 where
  pub standing : Standing
  pub faults : ℕ
  pub calls : ℕ

abbrev pub point : Standing → ℕ → ℕ → SessionPoint
point standing faults calls = record { standing = standing; faults = faults; calls = calls }

-- A line comes to this reply. The shelf counted a fault exactly where a fault befell the line, and it was called as often as the
-- line asks.
pub record LineIs (before : SessionPoint) (line : List ℕ) (reply : Reply SessionPoint) : Type 0 where
  pub it : Befallen
  pub comes : LineComesTo before.standing line it
  pub text : reply.text ≡ it.reply.text
  pub next : reply.next.standing ≡ it.reply.next
  pub quits : reply.quits ≡ it.reply.quits
  pub counted : ShelfCounts it.faulty before.faults reply.next.faults
  pub called : CallsShelf before.standing (request_of line) before.calls reply.next.calls

-- Memory was wanted at a line: session and shelf are as before it, or as they are behind it, and the shelf was called no more
-- often than the line asks.
pub record LineLeaves (before : SessionPoint) (line : List ℕ) (after : SessionPoint) : Type 0 where
  pub is :
      IsBeforeOrBehind (moment_of before.standing before.faults) (request_of line) (moment_of after.standing after.faults)
  pub called : MayCallShelf (request_of line) before.calls after.calls

abbrev pub history_machine : Machine SessionPoint
history_machine = record { comes = LineIs; leaves = LineLeaves }
