-- One turn of a session: one call of the input, and the answers to the lines that it completes, all written before the turn ends.
use Rattle.std.specs.Prelude.{◌≡◌, ◌≢◌, ℕ, ◌+◌, ◌≤◌, Bool, true, false, List, [], ◌++◌, ◌∷◌, codes, length, Option, Some, IfSome}
use Rattle.lotos_base.specs.Outside.{Stream, Stands, FindsEnd, Fails, IsCall, FailsInCall}
use Rattle.line_server.specs.Limits.{input_limit, piece_limit}
use Rattle.line_server.specs.Cutting.{complete, unfinished, last_line}
use Rattle.line_server.specs.Machine.{Machine}
use Rattle.line_server.specs.Answered.{Answered}
use Rattle.line_server.specs.Writing.{WritesAll, WritesBeginning}
use Rattle.line_server.specs.Serving.{Moment, HasServed, StopsAt}
use Rattle.line_server.specs.declared.ends.SessionEnd.{SessionEnd}
use Rattle.line_server.specs.declared.ends.SessionEnd.TheVariants.{Finished, InputFailed, InputTooLong, OutputFailed, NoMemory}
use Rattle.line_server.specs.declared.ends.Stop.{Stop}
use Rattle.line_server.specs.declared.ends.Stop.TheVariants as stop

-- what surrounds a session at one time: where it stands, the input and the output
pub record Surroundings (State : Type 0) : Type 0 where
  pub state : State
  pub input : Stream
  pub output : Stream

abbrev pub around : {State : Type 0} → State → Stream → Stream → Surroundings State
around state input output = record { state = state; input = input; output = output }

abbrev pub moment_in : {State : Type 0} → Surroundings State → Moment State
moment_in it = record { state = it.state; output = it.output }

-- a session between two turns: the line that has begun, and how many bytes were read
pub record Turning (State : Type 0) : Type 0 where
  pub around : Surroundings State
  pub line : List ℕ
  pub total : ℕ

abbrev pub turning : {State : Type 0} → Surroundings State → List ℕ → ℕ → Turning State
turning around line total = record { around = around; line = line; total = total }

-- these bytes were read of the input, and the others are left
abbrev pub IsReadOfInput : Option (List ℕ) → (bytes : List ℕ) → Option (List ℕ) → Type 0
IsReadOfInput before bytes after = IfSome before (λ left. (rest : List ℕ) × (left ≡ bytes ++ rest) × (after ≡ Some rest))

-- nothing was left of the input
abbrev pub IsAtEnd : Option (List ℕ) → Option (List ℕ) → Type 0
IsAtEnd before after = IfSome before (λ left. (left ≡ []) × (after ≡ Some []))

-- one call of the input gave these bytes
pub record Gives (before after : Stream) (bytes : List ℕ) : Type 0 where
  pub some : bytes ≢ []
  pub short : length bytes ≤ piece_limit
  pub read : IsReadOfInput before.bytes bytes after.bytes
  pub call : IsCall before after (length bytes)
  pub stands : Stands before after

-- one call of the input found nothing left
pub record GivesNone (before after : Stream) : Type 0 where
  pub none : IsAtEnd before.bytes after.bytes
  pub call : IsCall before after 0
  pub ends : FindsEnd before after

-- one call of the input failed
pub record GivesFault (before after : Stream) : Type 0 where
  pub kept : IsReadOfInput before.bytes [] after.bytes
  pub fails : FailsInCall before after

-- the closing lines, of an input that failed and of one that is too long
abbrev pub failed_text : List ℕ
failed_text = codes "input failed\n"

abbrev pub too_long_text : List ℕ
too_long_text = codes "input too long\n"

-- A call of the input gave some bytes, the lines that they complete were answered, and the answers written.
pub record TurnGoesOn {State : Type 0} (machine : Machine State) (before after : Turning State) : Type 0 where
  pub bytes : List ℕ
  pub gives : Gives before.around.input after.around.input bytes
  pub total : after.total ≡ before.total + length bytes
  pub within : after.total ≤ input_limit
  pub served : HasServed machine before.line (moment_in before.around) bytes (moment_in after.around) false
  pub line : after.line ≡ unfinished before.line bytes

-- how a session ends where serving stops
abbrev pub end_at : Stop → SessionEnd
end_at stop.OutputFailed = OutputFailed
end_at stop.NoMemory = NoMemory

-- The lines were answered, and the answers written; or serving stopped at one of them.
pub data LinesEndWith {State : Type 0} (machine : Machine State) (lines : List (List ℕ)) (before after : Moment State) : SessionEnd → Type 0
  where
    all_served :
        (text : List ℕ) (quits : Bool) →
        Answered machine before.state lines text after.state quits →
        WritesAll before.output.bytes after.output.bytes text →
        Stands before.output after.output →
        LinesEndWith machine lines before after Finished
    stopped_at :
        (why : Stop) →
        StopsAt why machine lines before after →
        LinesEndWith machine lines before after (end_at why)

-- The closing line is written, and the session ends so; or the output failed at one of its bytes.
pub data SessionCloses (text : List ℕ) (end : SessionEnd) (before after : Stream) : SessionEnd → Type 0 where
  closed :
      WritesAll before.bytes after.bytes text →
      Stands before after →
      SessionCloses text end before after end
  broken_off :
      WritesBeginning before.bytes after.bytes text →
      Fails before after →
      SessionCloses text end before after OutputFailed

-- A line in these bytes ended the session, or serving stopped at one.
pub data EndsInPiece {State : Type 0} (machine : Machine State) (line bytes : List ℕ) (before after : Moment State) : SessionEnd → Type 0
  where
    by_line :
        HasServed machine line before bytes after true →
        EndsInPiece machine line bytes before after Finished
    by_stop :
        (why : Stop) →
        StopsAt why machine (complete line bytes) before after →
        EndsInPiece machine line bytes before after (end_at why)

-- The session ended in a turn: the input gave no more bytes, and the last line was served, if it has a byte; the input failed; it
-- has a byte past the limit, which was read by itself; or a line ended the session, or serving stopped.
pub data EndsIn {State : Type 0} (machine : Machine State) (before : Turning State) (after : Surroundings State) (end : SessionEnd) : Type 0
  where
    at_end :
        GivesNone before.around.input after.input →
        LinesEndWith machine (last_line before.line) (moment_in before.around) (moment_in after) end →
        EndsIn machine before after end
    input_failed :
        GivesFault before.around.input after.input →
        after.state ≡ before.around.state →
        SessionCloses failed_text InputFailed before.around.output after.output end →
        EndsIn machine before after end
    past_limit :
        (byte : ℕ) →
        before.total ≡ input_limit →
        Gives before.around.input after.input (byte ∷ []) →
        after.state ≡ before.around.state →
        SessionCloses too_long_text InputTooLong before.around.output after.output end →
        EndsIn machine before after end
    in_piece :
        (bytes : List ℕ) →
        Gives before.around.input after.input bytes →
        before.total + length bytes ≤ input_limit →
        EndsInPiece machine before.line bytes (moment_in before.around) (moment_in after) end →
        EndsIn machine before after end
