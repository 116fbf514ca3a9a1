-- The lines of a trace: what the first one says, what a line of a step says, and which state a line keeps.
use Rattle.std.specs.Prelude.{ℕ, List, [], ◌∷◌, drop, length, Bool, false, ◌&&◌, ◌||◌, not, nat_eq, nat_lt, if◌then◌else◌, Option, None, Some, option_map}
use Rattle.std.specs.Char.{is_ascii_digit}
use Rattle.std.specs.List.{list_any, starts_with}
use Rattle.std.specs.Str.Parse.{digits_value}
use Rattle.std.specs.Str.{bytes_eq}
use Rattle.session_histories.specs.TraceText.{arrow, plain_heading, heading_mark, state_mark}

-- the lines of a text, without their line feeds. The last line may lack its line feed
abbrev pub with_first : ℕ → List (List ℕ) → List (List ℕ)
with_first byte [] = (byte ∷ []) ∷ []
with_first byte (line ∷ lines) = (byte ∷ line) ∷ lines

abbrev pub lines_of : List ℕ → List (List ℕ)
lines_of [] = []
lines_of (byte ∷ bytes) = if nat_eq 10 byte then [] ∷ lines_of bytes else with_first byte (lines_of bytes)

-- What a line of a step says: the number of the entry, and the texts of its terms and of its label.
pub record StepLine : Type 0 where
  pub number : ℕ
  pub terms : List ℕ
  pub label : List ℕ

-- what stands before the first ` => ` of a line, and what stands behind it
pub record AroundArrow : Type 0 where
  pub before : List ℕ
  pub behind : List ℕ

abbrev pub with_byte : ℕ → AroundArrow → AroundArrow
with_byte byte around = record around { before = byte ∷ around.before }

abbrev pub around_arrow : List ℕ → Option AroundArrow
around_arrow [] = None
around_arrow (byte ∷ bytes) =
    if starts_with nat_eq (byte ∷ bytes) arrow
    then Some (record { before = []; behind = drop 3 bytes })
    else option_map (with_byte byte) (around_arrow bytes)

-- the digits that a text begins with, and what stands behind them
abbrev pub first_digits : List ℕ → List ℕ
first_digits [] = []
first_digits (byte ∷ bytes) = if is_ascii_digit byte then byte ∷ first_digits bytes else []

abbrev pub behind_digits : List ℕ → List ℕ
behind_digits [] = []
behind_digits (byte ∷ bytes) = if is_ascii_digit byte then behind_digits bytes else byte ∷ bytes

-- one to ten digits without a leading zero, or `0`
abbrev pub leads_with_zero : List ℕ → Bool
leads_with_zero [] = false
leads_with_zero (digit ∷ digits) = nat_eq digit 48

abbrev pub is_number : List ℕ → Bool
is_number digits =
    (nat_lt 0 (length digits) && nat_lt (length digits) 11) && (nat_eq (length digits) 1 || not (leads_with_zero digits))

-- the terms, if there are some, behind the number: a space comes before them
abbrev pub with_terms : ℕ → List ℕ → List ℕ → Option StepLine
with_terms number [] label = Some (record { number = number; terms = []; label = label })
with_terms number (byte ∷ rest) label =
    if nat_eq 32 byte then Some (record { number = number; terms = rest; label = label }) else None

abbrev pub step_with_number : List ℕ → List ℕ → List ℕ → Option StepLine
step_with_number digits rest label = if is_number digits then with_terms (digits_value 10 digits) rest label else None

abbrev pub with_arrow : Option AroundArrow → Option StepLine
with_arrow None = None
with_arrow (Some around) = step_with_number (first_digits around.before) (behind_digits around.before) around.behind

-- what a line says, if it has the form of a step: `N t, t => LABEL`, or `N => LABEL`. A line with a carriage return has it not
abbrev pub has_return : List ℕ → Bool
has_return line = list_any (nat_eq 13) line

abbrev pub step_line : List ℕ → Option StepLine
step_line line = if has_return line then None else with_arrow (around_arrow line)

-- What stands behind a mark, if the line begins with it. A line with a carriage return has no form.
abbrev pub behind_mark : List ℕ → List ℕ → Option (List ℕ)
behind_mark mark line =
    if has_return line then None else if starts_with nat_eq line mark then Some (drop (length mark) line) else None

-- the text of the state that a line keeps, if it has the form `at STATE`
abbrev pub kept_state : List ℕ → Option (List ℕ)
kept_state line = behind_mark state_mark line

-- What the first line says: it is no heading; the lines of steps alone follow; or lines of steps and states follow, of a
-- specification with this name.
pub data TraceHeading : Type 0 where
  no_heading : TraceHeading
  of_steps : TraceHeading
  of_states : (name : List ℕ) → TraceHeading

-- a name has at least one byte
abbrev pub heading_with_name : Option (List ℕ) → TraceHeading
heading_with_name None = no_heading
heading_with_name (Some []) = no_heading
heading_with_name (Some (byte ∷ bytes)) = of_states (byte ∷ bytes)

abbrev pub trace_heading_of : List ℕ → TraceHeading
trace_heading_of line = if bytes_eq line plain_heading then of_steps else heading_with_name (behind_mark heading_mark line)
