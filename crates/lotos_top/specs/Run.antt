-- A whole run: what came of its work, and what it did then.
use Rattle.std.specs.Prelude.{◌≡◌, Option}
use Rattle.lotos_base.specs.Outside.{Stream, Stands, Fails}
use Rattle.certificate_verbs.specs.HandedOn.{ShelfState, Did, Comes, goes_on, unread, stops, wants_memory, Standing, point, history_machine}
use Rattle.certificate_verbs.specs.HandedOn.{Beginning, standing_at, CommandLine}
use Rattle.line_server.specs.Session.{IsSessionServed}
use Rattle.line_server.specs.Turn.{around}
use Rattle.line_server.specs.Writing.{WritesAll, WritesBeginning}
use Rattle.line_server.specs.declared.ends.SessionEnd.{SessionEnd}
use Rattle.line_server.specs.declared.ends.SessionEnd.TheVariants as end
use Rattle.certificate_verbs.specs.Finishing.{Print, Finish, prints, serves, unread_printed}
use Rattle.certificate_verbs.specs.declared.ended.Ended.{Ended}
use Rattle.certificate_verbs.specs.declared.ended.Ended.TheVariants.{Done, InputFault, OutputFault, NoMemory, InputTooLong}
use Rattle.lotos_top.specs.Opening.{opening_text}
use Rattle.lotos_top.specs.Work.{work_of}

-- input and output at one time
pub record Streams : Type 0 where
  pub input : Stream
  pub output : Stream

abbrev pub streams : Stream → Stream → Streams
streams input output = record { input = input; output = output }

-- how the run ends by the end of its session
abbrev pub ended_by : SessionEnd → Ended
ended_by end.Finished = Done
ended_by end.InputFailed = InputFault
ended_by end.InputTooLong = InputTooLong
ended_by end.OutputFailed = OutputFault
ended_by end.NoMemory = NoMemory

-- A text is written: the whole of it, and the run ends with its status; or the output failed at one of its bytes; or memory was
-- wanted before anything was written.
pub data Writes (p : Print) (before after : Stream) (answer : Ended) : Type 0 where
  whole : answer ≡ p.status → WritesAll before.bytes after.bytes p.text → Stands before after → Writes p before after answer
  in_part :
      answer ≡ OutputFault → WritesBeginning before.bytes after.bytes p.text → Fails before after → Writes p before after answer
  nothing : answer ≡ NoMemory → after ≡ before → Writes p before after answer

-- A text is printed and nothing else is done: the input is not read, and the shelf is not called.
pub record Prints (p : Print) (shelf shelf_after : ShelfState) (before after : Streams) (answer : Ended) : Type 0 where
  pub shelf_kept : shelf_after ≡ shelf
  pub input_kept : after.input ≡ before.input
  pub writes : Writes p before.output after.output answer

-- The head of the report and the menu are printed, and then the session is served, whose lines are answered by what they come to
-- one after another, beside the shelf; or the output failed at a byte of the head, or memory was wanted before it.
pub data ServesSession (begun : Beginning) (shelf shelf_after : ShelfState) (before after : Streams) (answer : Ended) : Type 0 where
  in_front :
      shelf_after ≡ shelf → after.input ≡ before.input → answer ≡ OutputFault
      → WritesBeginning before.output.bytes after.output.bytes (opening_text begun)
      → Fails before.output after.output
      → ServesSession begun shelf shelf_after before after answer
  in_want : shelf_after ≡ shelf → after ≡ before → answer ≡ NoMemory → ServesSession begun shelf shelf_after before after answer
  behind :
      (between : Stream) (last : Standing) (end : SessionEnd)
      → WritesAll before.output.bytes between.bytes (opening_text begun) → Stands before.output between
      → last.texts ≡ shelf_after.texts
      → IsSessionServed history_machine
      (around (point (standing_at begun shelf.texts) shelf.faults shelf.calls) before.input between)
      (around (point last shelf_after.faults shelf_after.calls) after.input after.output) end
      → answer ≡ ended_by end
      → ServesSession begun shelf shelf_after before after answer

-- Memory was wanted, and nothing else is done.
pub record Stops (shelf shelf_after : ShelfState) (before after : Streams) (answer : Ended) : Type 0 where
  pub is : answer ≡ NoMemory
  pub shelf_kept : shelf_after ≡ shelf
  pub kept : after ≡ before

-- what follows from what came of the work
abbrev pub FollowsFromWork : Comes Print Finish → (shelf shelf_after : ShelfState) → (before after : Streams) → Ended → Type 0
FollowsFromWork (goes_on (prints p)) shelf shelf_after before after answer = Prints p shelf shelf_after before after answer
FollowsFromWork (goes_on (serves begun)) shelf shelf_after before after answer = ServesSession begun shelf shelf_after before after answer
FollowsFromWork (unread name) shelf shelf_after before after answer = Prints (unread_printed name) shelf shelf_after before after answer
FollowsFromWork (stops p) shelf shelf_after before after answer = Prints p shelf shelf_after before after answer
FollowsFromWork wants_memory shelf shelf_after before after answer = Stops shelf shelf_after before after answer

-- The run did the work of its words, over what the shelf gave, and then what follows from what came of it. The shelf stood so
-- between the two.
pub record Ran (line : Option CommandLine) (shelf shelf_after : ShelfState) (before after : Streams) (answer : Ended) : Type 0 where
  pub comes : Comes Print Finish
  pub between : ShelfState
  pub did : Did shelf between (work_of line) comes
  pub follows : FollowsFromWork comes between shelf_after before after answer
