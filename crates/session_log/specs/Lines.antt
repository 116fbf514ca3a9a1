-- What the code reads in the lines of a trace.
use Rattle.std.specs.Prelude.{ℕ, ◌+◌, ◌≤◌, length, List, [], ◌∷◌, ◌++◌, take, drop, nat_eq, if◌then◌else◌}
use Rattle.std.specs.Char.{is_ascii_digit}
use Rattle.std.proofs.Common.{Bor}
use Rattle.session_histories.specs.TraceLine as plain
use Rattle.session_histories.specs.TraceLine.{AroundArrow}
use Rattle.session_log.specs.declared.lines.Heading.{Heading}
use Rattle.session_log.specs.declared.lines.Heading.TheVariants.{NoHeading, OfSteps, OfStates}
use Rattle.session_log.specs.declared.lines.StepLine.{StepLine}

-- what a line says
abbrev pub said_by : StepLine → plain.StepLine
said_by said = record { number = said.number; terms = said.terms.now; label = said.label.now }

-- the bytes that are borrowed
abbrev pub borrowed_bytes : Bor (List ℕ) → List ℕ
borrowed_bytes bytes = bytes.now

-- what the first line says
abbrev pub heading_said : Heading → plain.TraceHeading
heading_said NoHeading = plain.no_heading
heading_said OfSteps = plain.of_steps
heading_said (OfStates name) = plain.of_states name.now

-- a heading with a name has more than a byte
abbrev pub IsLongHeading : Heading → List ℕ → Type 0
IsLongHeading NoHeading line = Unit {0}
IsLongHeading OfSteps line = Unit {0}
IsLongHeading (OfStates name) line = 2 ≤ length line

-- how many bytes stand before the first line feed
abbrev pub line_length : List ℕ → ℕ
line_length [] = 0
line_length (byte ∷ bytes) = if nat_eq 10 byte then 0 else line_length bytes + 1

-- how many digits a text begins with
abbrev pub digit_count : List ℕ → ℕ
digit_count [] = 0
digit_count (byte ∷ bytes) = if is_ascii_digit byte then digit_count bytes + 1 else 0

-- the two sides of an arrow of four bytes at this position
abbrev pub around_at : List ℕ → ℕ → AroundArrow
around_at line position = record { before = take position line; behind = drop (position + 4) line }

-- more bytes before what stands before an arrow
abbrev pub with_bytes : List ℕ → AroundArrow → AroundArrow
with_bytes bytes around = record around { before = bytes ++ around.before }
