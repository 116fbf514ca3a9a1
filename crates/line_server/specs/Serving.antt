-- What the bytes of an input do to a session in which they come: it goes on, it has ended by a line, or serving stopped.
use Rattle.std.specs.Prelude.{◌≡◌, ◌≢◌, ℕ, ◌≤◌, Bool, true, false, List, length}
use Rattle.std.specs.List.{All}
use Rattle.lotos_base.specs.Outside.{Stream, Stands, Fails}
use Rattle.line_server.specs.Limits.{input_limit}
use Rattle.line_server.specs.Cutting.{complete, unfinished}
use Rattle.line_server.specs.Machine.{Machine, Reply}
use Rattle.line_server.specs.Answered.{Answered, FailedAt, WantedAt}
use Rattle.line_server.specs.Writing.{WritesAll}
use Rattle.line_server.specs.declared.lines.Answer.{Answer}
use Rattle.line_server.specs.declared.ends.Stop.{Stop}
use Rattle.line_server.specs.declared.ends.Stop.TheVariants.{OutputFailed, NoMemory}

-- a line within a session has no line feed, and no more bytes than a session may have
pub record IsLine (line : List ℕ) : Type 0 where
  pub plain : All (λ byte. byte ≢ 10) line
  pub short : length line ≤ input_limit

-- a line was answered: it comes to a reply, which the answer is
pub record ServesLine {State : Type 0} (machine : Machine State) (before : State) (line : List ℕ) (after : State) (answer : Answer) : Type 0
  where
    pub reply : Reply State
    pub comes : machine.comes before line reply
    pub text : answer.text.items ≡ reply.text
    pub next : after ≡ reply.next
    pub quits : answer.quits ≡ reply.quits

-- a moment of a session: where it stands, and the output
pub record Moment (State : Type 0) : Type 0 where
  pub state : State
  pub output : Stream

abbrev pub moment : {State : Type 0} → State → Stream → Moment State
moment state output = record { state = state; output = output }

-- where a line has begun these bytes came; the lines that they complete were answered, the answers written, and no write failed
pub record HasServed {State : Type 0} (machine : Machine State) (line : List ℕ) (before : Moment State) (bytes : List ℕ)
    (after : Moment State)
    (quits : Bool) : Type 0 where
  pub text : List ℕ
  pub answered : Answered machine before.state (complete line bytes) text after.state quits
  pub wrote : WritesAll before.output.bytes after.output.bytes text
  pub stands : Stands before.output after.output

-- serving stopped at one of these lines
abbrev pub StopsAt : {State : Type 0} → Stop → Machine State → List (List ℕ) → Moment State → Moment State → Type 0
StopsAt OutputFailed machine lines before after =
    FailedAt machine before.state lines before.output.bytes after.output.bytes after.state × Fails before.output after.output
StopsAt NoMemory machine lines before after =
    WantedAt machine before.state lines before.output.bytes after.output.bytes after.state × Stands before.output after.output

-- the line that has begun behind the bytes, unless one of them ended the session
abbrev pub Begins : (quits : Bool) → (line bytes line_after : List ℕ) → Type 0
Begins true line bytes line_after = Unit {0}
Begins false line bytes line_after = line_after ≡ unfinished line bytes
