-- What each line of a session asks for: a command word in lower case, and what stands behind it.
use Rattle.std.specs.Prelude.{ℕ, nat_eq, nat_le, nat_lt, if◌then◌else◌, Bool, false, ◌&&◌, ◌||◌, not, List, [], ◌∷◌, length, Option, None, Some, codes}
use Rattle.std.specs.Char.{is_ascii_digit}
use Rattle.std.specs.List.{list_all}
use Rattle.std.specs.Str.{bytes_eq, is_utf8}
use Rattle.std.specs.Str.Parse.{digits_value}
use Rattle.line_server.specs.Line.{stripped, first_word, behind_word}

-- A line asks for nothing; for the menu, the behaviour or the trace; to undo the last step; for the end of the session; to take
-- the step by the entry with a number and with values for its variables; to save the trace under a name, or to replay the text
-- under it; for the normal form of a term, or whether two terms are equal; for the values of the sort with a name, or the
-- instances of the entry with a number, by terms with at most so many operations; or it has none of these forms. Terms and names
-- are as they are written.
pub data Request : Type 0 where
  skip show_menu show_behaviour show_trace undo leave no_request : Request
  take_step : (number : ℕ) (terms : List ℕ) → Request
  save replay : (name : List ℕ) → Request
  show_normal compare : (terms : List ℕ) → Request
  list_values : (name : List ℕ) (size : ℕ) → Request
  list_instances : (number size : ℕ) → Request

-- ---- Numbers

abbrev pub begins_with_zero : List ℕ → Bool
begins_with_zero [] = false
begins_with_zero (digit ∷ digits) = nat_eq digit 48

-- one to ten decimal digits without a leading zero, or `0`
abbrev pub has_number_form : List ℕ → Bool
has_number_form word =
    (nat_lt 0 (length word) && nat_lt (length word) 11) && (nat_eq (length word) 1 || not (begins_with_zero word))

abbrev pub is_decimal_number : List ℕ → Bool
is_decimal_number word = list_all is_ascii_digit word && has_number_form word

-- the number that a word is, if it is one
abbrev pub number_in_word : List ℕ → Option ℕ
number_in_word word = if is_decimal_number word then Some (digits_value 10 word) else None

-- ---- What stands behind a word

-- nothing may stand there
abbrev pub only : Request → List ℕ → Request
only asked [] = asked
only asked (byte ∷ bytes) = no_request

-- the number of an entry, and the terms behind it and the spaces
abbrev pub step_by : Option ℕ → List ℕ → Request
step_by None terms = no_request
step_by (Some number) terms = take_step number terms

abbrev pub step_in : List ℕ → Request
step_in rest = step_by (number_in_word (first_word rest)) (behind_word rest)

-- the name that bytes are, if there are some and they are UTF-8
abbrev pub name_of : List ℕ → Option (List ℕ)
name_of [] = None
name_of (byte ∷ bytes) = if is_utf8 (byte ∷ bytes) then Some (byte ∷ bytes) else None

abbrev pub request_with_name : (List ℕ → Request) → Option (List ℕ) → Request
request_with_name make None = no_request
request_with_name make (Some name) = make name

abbrev pub request_named : (List ℕ → Request) → List ℕ → Request
request_named make rest = request_with_name make (name_of rest)

-- the size that bytes are, from 1 to 64
abbrev pub list_size_of : Option ℕ → Option ℕ
list_size_of None = None
list_size_of (Some number) = if nat_le 1 number && nat_le number 64 then Some number else None

abbrev pub size_in : List ℕ → Option ℕ
size_in bytes = list_size_of (number_in_word bytes)

-- the name of a sort, which any word may be, and a size
abbrev pub values_request_by : List ℕ → Option ℕ → Request
values_request_by name None = no_request
values_request_by name (Some size) = list_values name size

abbrev pub values_request : List ℕ → Request
values_request rest = values_request_by (first_word rest) (size_in (behind_word rest))

-- the number of an entry, and a size
abbrev pub instances_up_to : ℕ → Option ℕ → Request
instances_up_to number None = no_request
instances_up_to number (Some size) = list_instances number size

abbrev pub instances_by : Option ℕ → Option ℕ → Request
instances_by None size = no_request
instances_by (Some number) size = instances_up_to number size

abbrev pub instances_in : List ℕ → Request
instances_in rest = instances_by (number_in_word (first_word rest)) (size_in (behind_word rest))

-- ---- Words

-- the words behind which something stands
abbrev pub asked_with : (word rest : List ℕ) → Request
asked_with word rest =
    if bytes_eq word (codes "step") then step_in rest
    else if bytes_eq word (codes "save") then request_named save rest
    else if bytes_eq word (codes "replay") then request_named replay rest
    else if bytes_eq word (codes "normal") then show_normal rest
    else if bytes_eq word (codes "equal") then compare rest
    else if bytes_eq word (codes "values") then values_request rest
    else if bytes_eq word (codes "instances") then instances_in rest
    else no_request

-- and those that stand alone
abbrev pub requested_by : (word rest : List ℕ) → Request
requested_by word rest =
    if bytes_eq word (codes "menu") then only show_menu rest
    else if bytes_eq word (codes "show") then only show_behaviour rest
    else if bytes_eq word (codes "trace") then only show_trace rest
    else if bytes_eq word (codes "undo") then only undo rest
    else if bytes_eq word (codes "quit") then only leave rest
    else asked_with word rest

-- what a line without blanks at its ends asks for
abbrev pub requested_in : List ℕ → Request
requested_in [] = skip
requested_in (byte ∷ bytes) = requested_by (first_word (byte ∷ bytes)) (behind_word (byte ∷ bytes))

-- what a line asks for
abbrev pub request_of : List ℕ → Request
request_of line = requested_in (stripped line)
