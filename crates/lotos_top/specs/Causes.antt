-- Each answer of a run comes where its cause stands, and where a cause stands its answer comes. Want of memory alone may come at any
-- time.
use Rattle.std.specs.Prelude.{◌≡◌, ◌≢◌, ◌⊎◌, ℕ, ◌+◌, ◌<◌, ◌≤◌, List, ◌++◌, length, Option, None, Some, IfSome}
use Rattle.lotos_base.specs.Counts.{Rises, raised_count}
use Rattle.lotos_base.specs.Outside.{Stream, Stands, FindsEnd, Fails}
use Rattle.certificate_verbs.specs.HandedOn.{ShelfState, Did, unread, CommandLine, session, demonstration, unread_text}
use Rattle.line_server.specs.Limits.{input_limit}
use Rattle.certificate_verbs.specs.declared.ended.Ended.{Ended}
use Rattle.certificate_verbs.specs.declared.ended.Ended.TheVariants.{WordsRefused, FileFault, InputFault, OutputFault, NoMemory, InputTooLong}
use Rattle.line_server.specs.Writing.{WritesAll}
use Rattle.lotos_top.specs.Run.{Streams}
use Rattle.lotos_top.specs.Work.{work_of}

-- another answer stands in the place of this one: the output failed at its text, or memory was wanted
abbrev pub GivesWay : Ended → Type 0
GivesWay answer = (answer ≡ OutputFault) ⊎ (answer ≡ NoMemory)

-- Byte 16,777,217 of the input was read: so many bytes were taken of it, and where it tells its bytes they are the first ones.
pub record IsReadPast (before after : Stream) : Type 0 where
  pub count : ℕ
  pub whole : count ≡ input_limit + 1
  pub moved : after.moved ≡ raised_count before.moved count
  pub told :
      IfSome before.bytes (λ bytes. (read : List ℕ) × (rest : List ℕ)
      × (length read ≡ count) × (bytes ≡ read ++ rest) × (after.bytes ≡ Some rest))

-- more than 16,777,216 bytes were taken of the input
abbrev pub TakesPast : Stream → Stream → Type 0
TakesPast before after = (count : ℕ) × (input_limit < count) × (before.moved + count ≤ after.moved)

-- How input and output were called. The input is not called again after a call that gave no byte, since it failed or nothing was
-- left, and the output not after one that failed. Of the input 16,777,217 bytes at most are taken, whether it tells them or not.
pub record CallsEnd (before after : Streams) : Type 0 where
  pub input : Stands before.input after.input ⊎ FindsEnd before.input after.input ⊎ Fails before.input after.input
  pub output : Stands before.output after.output ⊎ Fails before.output after.output
  pub taken : ℕ
  pub within : taken ≤ input_limit + 1
  pub bytes : after.input.moved ≤ before.input.moved + taken

-- a line of words that serves a session, and one of a demonstration
abbrev pub ServesLines : Option CommandLine → Type 0
ServesLines (Some (session asked)) = Unit {0}
ServesLines line = ⊥

abbrev pub IsDemonstration : Option CommandLine → Type 0
IsDemonstration (Some (demonstration cells)) = Unit {0}
IsDemonstration line = ⊥

-- The file of the name could not be got, for which the work asks behind others. The shelf gave each of those by one call, and then it
-- had one call more, for that name: there it counted a fault, or it tells its texts and has none of the name.
abbrev pub IsUnread : Option CommandLine → (shelf shelf_after : ShelfState) → (name : List ℕ) → Type 0
IsUnread line shelf shelf_after name = Did shelf shelf_after (work_of line) (unread name)

-- that file is the one whose name is printed, and the input is untouched
pub record IsUnreadPrinted (line : Option CommandLine) (shelf shelf_after : ShelfState) (before after : Streams) : Type 0 where
  pub name : List ℕ
  pub unread_is : IsUnread line shelf shelf_after name
  pub printed : WritesAll before.output.bytes after.output.bytes (unread_text name)
  pub input_kept : after.input ≡ before.input

-- Words that are no line are answered so, and nothing else is; likewise a file that could not be got, a fault of the input, one of
-- the output, and byte 16,777,217 of a session. A failed output, or want of memory, may stand in the place of the others. No text of
-- the shelf changes but by lines of a session. Input and output are not called behind their ends, and no byte more is read.
pub record AnswersHaveCauses (line : Option CommandLine) (shelf shelf_after : ShelfState) (before after : Streams) (answer : Ended)
    : Type 0 where
  -- the words are no line
  pub words : answer ≡ WordsRefused → line ≡ None
  pub no_line : line ≡ None → (answer ≡ WordsRefused) ⊎ GivesWay answer
  -- a file could not be got, whose name is printed
  pub files : answer ≡ FileFault → IsUnreadPrinted line shelf shelf_after before after
  pub shelf_fault : shelf.faults < shelf_after.faults → (answer ≡ FileFault) ⊎ GivesWay answer ⊎ ServesLines line
  -- a demonstration asks for no file, and nothing of the shelf
  pub no_file : IsDemonstration line → (answer ≢ FileFault) × (shelf_after ≡ shelf)
  -- the input counted a fault
  pub input : answer ≡ InputFault → Rises before.input.faults after.input.faults
  pub input_fault : before.input.faults < after.input.faults → (answer ≡ InputFault) ⊎ (answer ≡ OutputFault)
  -- the output counted a fault
  pub output : answer ≡ OutputFault → Rises before.output.faults after.output.faults
  pub output_fault : before.output.faults < after.output.faults → answer ≡ OutputFault
  -- byte 16,777,217 of the session was read
  pub long : answer ≡ InputTooLong → IsReadPast before.input after.input
  pub long_read : TakesPast before.input after.input → (answer ≡ InputTooLong) ⊎ (answer ≡ OutputFault)
  -- input and output are not called on behind their ends
  pub calls : CallsEnd before after
  -- no text of the shelf changes but by lines of a session
  pub texts : (shelf_after.texts ≡ shelf.texts) ⊎ ServesLines line
