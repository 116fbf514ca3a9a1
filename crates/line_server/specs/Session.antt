-- A session that was served, from the first read of the input to the answer.
use Rattle.std.specs.Prelude.{◌≡◌, ℕ, ◌≤◌, Bool, true, false, List, [], ◌∷◌, ◌++◌, length}
use Rattle.lotos_base.specs.Outside.{Stream, Stands, Fails}
use Rattle.line_server.specs.Limits.{input_limit}
use Rattle.line_server.specs.Cutting.{complete, unfinished, last_line, lines_in}
use Rattle.line_server.specs.Machine.{Machine}
use Rattle.line_server.specs.Answered.{Answered}
use Rattle.line_server.specs.Writing.{WritesAll, WritesUpTo}
use Rattle.line_server.specs.Serving.{Moment, HasServed, StopsAt}
use Rattle.line_server.specs.Turn.{Surroundings, Turning, moment_in, turning, Gives, GivesNone, GivesFault, TurnGoesOn, EndsIn, failed_text, too_long_text}
use Rattle.line_server.specs.declared.ends.SessionEnd.{SessionEnd}
use Rattle.line_server.specs.declared.ends.SessionEnd.TheVariants.{Finished, InputFailed, InputTooLong, OutputFailed, NoMemory}
use Rattle.line_server.specs.declared.ends.Stop.{Stop}
use Rattle.line_server.specs.declared.ends.Stop.TheVariants as stop

-- turns that go on, one after another, and then one in which the session ends
pub data Turns {State : Type 0} (machine : Machine State) (after : Surroundings State) (end : SessionEnd) : Turning State → Type 0 where
  last_turn : (now : Turning State) → EndsIn machine now after end → Turns machine after end now
  one_turn : (now next : Turning State) → TurnGoesOn machine now next → Turns machine after end next → Turns machine after end now

-- A session is its turns, from the one on in which no line has begun and no byte was read.
abbrev pub IsServedInTurns : {State : Type 0} → Machine State → Surroundings State → Surroundings State → SessionEnd → Type 0
IsServedInTurns machine before after end = Turns machine after end (turning before [] 0)

-- the bytes were read by calls one after another, each of which gave some of them
pub data Reads (before : Stream) : (seen : List ℕ) → (after : Stream) → Type 0 where
  no_call : (seen : List ℕ) (after : Stream) → seen ≡ [] → after ≡ before → Reads before seen after
  one_call :
      (earlier bytes seen : List ℕ) (between after : Stream) →
      Reads before earlier between →
      Gives between after bytes →
      seen ≡ earlier ++ bytes →
      Reads before seen after

-- they were read so, and one call more found nothing left
pub record ReadsAll (before : Stream) (seen : List ℕ) (after : Stream) : Type 0 where
  pub between : Stream
  pub reads : Reads before seen between
  pub none : GivesNone between after

-- they were read so, and one call more failed
pub record ReadsUpToFault (before : Stream) (seen : List ℕ) (after : Stream) : Type 0 where
  pub between : Stream
  pub reads : Reads before seen between
  pub fault : GivesFault between after

-- they were as many as a session may have, and one call more gave one byte
pub record ReadsPastLimit (before : Stream) (seen : List ℕ) (after : Stream) : Type 0 where
  pub between : Stream
  pub byte : ℕ
  pub whole : length seen ≡ input_limit
  pub reads : Reads before seen between
  pub more : Gives between after (byte ∷ [])

-- the complete lines among the bytes were answered with this text, and none of them ended the session
abbrev pub AnsweredWhole : {State : Type 0} → Machine State → Surroundings State → List ℕ → List ℕ → Surroundings State → Type 0
AnsweredWhole machine before seen text after = Answered machine before.state (complete [] seen) text after.state false

-- The closing line that the output did not take whole, by what it says: the input failed, or it has a byte past the limit.
pub data FailsToClose (before : Stream) (seen : List ℕ) (after : Stream) : (text : List ℕ) → Type 0 where
  of_failed_input : ReadsUpToFault before seen after → FailsToClose before seen after failed_text
  of_long_input : ReadsPastLimit before seen after → FailsToClose before seen after too_long_text

-- What is left to be served of the bytes that were read, behind those whose complete lines were answered: the bytes that the last
-- call of the input gave, and the lines that these complete; or, where that call found nothing left, the line without a line feed,
-- if it has a byte.
pub data Brings (before after : Stream) (earlier seen : List ℕ) (lines : List (List ℕ)) : Type 0 where
  gave :
      (between : Stream) (piece : List ℕ) →
      Reads before earlier between →
      Gives between after piece →
      seen ≡ earlier ++ piece →
      lines ≡ complete (unfinished [] earlier) piece →
      Brings before after earlier seen lines
  found_none :
      ReadsAll before earlier after →
      seen ≡ earlier →
      lines ≡ last_line (unfinished [] earlier) →
      Brings before after earlier seen lines

-- Serving stopped at one of the lines that were left to be served, where the complete lines of the bytes before them had been
-- answered, and the answers written whole.
pub record HasStopped {State : Type 0} (machine : Machine State) (before after : Surroundings State) (seen : List ℕ) (why : Stop) : Type 0
  where
    pub earlier : List ℕ
    pub between : Moment State
    pub lines : List (List ℕ)
    pub served : HasServed machine [] (moment_in before) earlier between false
    pub brings : Brings before.input after.input earlier seen lines
    pub stops : StopsAt why machine lines between (moment_in after)

-- What became of a session, by its end. `seen` are the bytes that were read. Of these the line behind the last line feed is served
-- only where the input ended there.
pub data SessionCame {State : Type 0} (machine : Machine State) (before after : Surroundings State) (seen : List ℕ) : SessionEnd → Type 0
  where
    -- all lines were answered up to the end of the input
    finished :
        (text : List ℕ) (quits : Bool) →
        ReadsAll before.input seen after.input →
        Answered machine before.state (lines_in seen) text after.state quits →
        WritesAll before.output.bytes after.output.bytes text →
        Stands before.output after.output →
        SessionCame machine before after seen Finished
    -- a line ended the session
    quit :
        (text : List ℕ) →
        Reads before.input seen after.input →
        Answered machine before.state (complete [] seen) text after.state true →
        WritesAll before.output.bytes after.output.bytes text →
        Stands before.output after.output →
        SessionCame machine before after seen Finished
    input_failed :
        (text : List ℕ) →
        ReadsUpToFault before.input seen after.input →
        AnsweredWhole machine before seen text after →
        WritesAll before.output.bytes after.output.bytes (text ++ failed_text) →
        Stands before.output after.output →
        SessionCame machine before after seen InputFailed
    too_long :
        (text : List ℕ) →
        ReadsPastLimit before.input seen after.input →
        AnsweredWhole machine before seen text after →
        WritesAll before.output.bytes after.output.bytes (text ++ too_long_text) →
        Stands before.output after.output →
        SessionCame machine before after seen InputTooLong
    -- the output failed at an answer, or at the closing line
    output_failed :
        HasStopped machine before after seen stop.OutputFailed →
        SessionCame machine before after seen OutputFailed
    closing_failed :
        (text closing : List ℕ) →
        FailsToClose before.input seen after.input closing →
        AnsweredWhole machine before seen text after →
        WritesUpTo before.output.bytes after.output.bytes text closing →
        Fails before.output after.output →
        SessionCame machine before after seen OutputFailed
    wanted_memory :
        HasStopped machine before after seen stop.NoMemory →
        SessionCame machine before after seen NoMemory

-- A session was served: there are bytes, within the limit, of which this became.
pub record IsSessionServed {State : Type 0} (machine : Machine State) (before after : Surroundings State) (end : SessionEnd) : Type 0 where
  pub seen : List ℕ
  pub within : length seen ≤ input_limit
  pub came : SessionCame machine before after seen end
