-- The numbers of entries in lines have at most ten digits.
use Rattle.std.proofs.Common.{◌≡◌, ℕ, ◌+◌, ◌*◌, ◌-◌, ◌^◌, ◌<◌, Bool, true, false, nat_lt, nat_eq, ◌&&◌, ◌||◌, not, if◌then◌else◌, List, [], ◌∷◌, length, Option, None, Some, codes, refl, sym, subst, arith, ltb-true, lt_of_lt_of_le}
use Rattle.std.specs.Char.{is_ascii_digit, digit_value}
use Rattle.std.specs.List.{list_all}
use Rattle.std.specs.Str.{bytes_eq}
use Rattle.std.specs.Str.Parse.{digits_value, digits_value_after}
use Rattle.std.proofs.Math.Nat.{pow-le-pow_right}
use Rattle.std.proofs.lemmas.Bool.{and_parts}
use Rattle.std.proofs.lemmas.Option.{same_Some}
use Rattle.lotos_base.proofs.Digits.{digit_is, digit_value_is, one_digit_more}
use Rattle.lotos_base.proofs.Truth.{unit}
use Rattle.line_server.specs.Line.{first_word, behind_word, stripped}
use Rattle.line_server.specs.Request as request
use Rattle.line_server.specs.Request.{Request, show_menu, show_behaviour, show_trace, undo, leave, take_step, save, replay, only, number_in_word, step_by, values_request_by, instances_by, request_with_name, asked_with, requested_by, requested_in, request_of}
use Rattle.session_histories.specs.TraceLine.{StepLine, AroundArrow, is_number, leads_with_zero, step_line, has_return, with_arrow, around_arrow, with_terms, first_digits, behind_digits}
use Rattle.session_histories.proofs.TraceLemmas.{all_are_digits}

abbrev pub ten_digits : ℕ
ten_digits = 10000000000

-- ---- Digits

-- behind a number of so many digits
digits_below : (digits : List ℕ) (index value : ℕ) → list_all is_ascii_digit digits ≡ true → value < 10 ^ index
    → digits_value_after 10 value digits < 10 ^ (index + length digits)
digits_below [] index value all below =
    subst (λ (n : ℕ). value < 10 ^ n) (let same : index ≡ index + length {A = ℕ} [] = omega arith in same) below
digits_below (digit ∷ digits) index value all below =
    let parts = and_parts (is_ascii_digit digit) (list_all is_ascii_digit digits) all in
    let range = digit_is digit parts.0 in
    let more : value * 10 + digit_value digit < 10 ^ (index + 1) =
    subst (λ (d : ℕ). value * 10 + d < 10 ^ (index + 1)) (sym (digit_value_is digit range.0 range.1))
    (one_digit_more index value digit below range.1 range.0) in
    let same : (index + 1) + length digits ≡ index + length (digit ∷ digits) = omega arith in
    subst (λ (n : ℕ). digits_value_after 10 (value * 10 + digit_value digit) digits < 10 ^ n) same
    (digits_below digits (index + 1) (value * 10 + digit_value digit) parts.1 more)

short_below : (digits : List ℕ) → list_all is_ascii_digit digits ≡ true → length digits < 11 → digits_value 10 digits < ten_digits
short_below digits all short =
    lt_of_lt_of_le (digits_below digits 0 0 all (omega arith))
    (pow-le-pow_right {n = 10} (omega arith) {i = 0 + length digits} {j = 10} (omega (arith, short)))

-- the form of a number, of which the length alone counts here
form_short : (digits : List ℕ) (zero_first : Bool) → ((nat_lt 0 (length digits) && nat_lt (length digits) 11) && zero_first) ≡ true
    → length digits < 11
form_short digits zero_first form =
    let outer = and_parts (nat_lt 0 (length digits) && nat_lt (length digits) 11) zero_first form in
    let inner = and_parts (nat_lt 0 (length digits)) (nat_lt (length digits) 11) outer.0 in
    ltb-true (length digits) 11 inner.1

-- ---- Lines of a session

-- a number that a request carries is below this
abbrev pub IsNumbered : Request → Type 0
IsNumbered (take_step number terms) = number < ten_digits
IsNumbered _ = Unit {0}

either_numbered : (test : Bool) (one other : Request) → IsNumbered one → IsNumbered other → IsNumbered (if test then one else other)
either_numbered true one other first second = first
either_numbered false one other first second = second

only_numbered : (asked : Request) (rest : List ℕ) → IsNumbered asked → IsNumbered (only asked rest)
only_numbered asked [] is = is
only_numbered asked (byte ∷ bytes) is = unit

name_numbered : (make : List ℕ → Request) (name : Option (List ℕ)) → ((n : List ℕ) → IsNumbered (make n))
    → IsNumbered (request_with_name make name)
name_numbered make None is = unit
name_numbered make (Some name) is = is name

step_numbered : (word terms : List ℕ) → IsNumbered (step_by (number_in_word word) terms)
step_numbered word terms = by (request.is_decimal_number word) refl
  where
    by : (b : Bool) → request.is_decimal_number word ≡ b → IsNumbered (step_by (if b then Some (digits_value 10 word) else None) terms)
    by true is =
        let parts = and_parts (list_all is_ascii_digit word) (request.has_number_form word) is in
        short_below word parts.0 (form_short word (nat_eq (length word) 1 || not (request.begins_with_zero word)) parts.1)
    by false is = unit

values_numbered : (name : List ℕ) (size : Option ℕ) → IsNumbered (values_request_by name size)
values_numbered name None = unit
values_numbered name (Some size) = unit

instances_numbered : (number size : Option ℕ) → IsNumbered (instances_by number size)
instances_numbered None size = unit
instances_numbered (Some number) None = unit
instances_numbered (Some number) (Some size) = unit

with_numbered : (word rest : List ℕ) → IsNumbered (asked_with word rest)
with_numbered word rest =
    either_numbered (bytes_eq word (codes "step")) _ _ (step_numbered (first_word rest) (behind_word rest))
    (either_numbered (bytes_eq word (codes "save")) _ _ (name_numbered save (request.name_of rest) (λ n. unit))
    (either_numbered (bytes_eq word (codes "replay")) _ _ (name_numbered replay (request.name_of rest) (λ n. unit))
    (either_numbered (bytes_eq word (codes "normal")) _ _ unit
    (either_numbered (bytes_eq word (codes "equal")) _ _ unit
    (either_numbered (bytes_eq word (codes "values")) _ _
    (values_numbered (first_word rest) (request.size_in (behind_word rest)))
    (either_numbered (bytes_eq word (codes "instances")) _ _
    (instances_numbered (request.number_in_word (first_word rest)) (request.size_in (behind_word rest))) unit))))))

word_numbered : (word rest : List ℕ) → IsNumbered (requested_by word rest)
word_numbered word rest =
    either_numbered (bytes_eq word (codes "menu")) _ _ (only_numbered show_menu rest unit)
    (either_numbered (bytes_eq word (codes "show")) _ _ (only_numbered show_behaviour rest unit)
    (either_numbered (bytes_eq word (codes "trace")) _ _ (only_numbered show_trace rest unit)
    (either_numbered (bytes_eq word (codes "undo")) _ _ (only_numbered undo rest unit)
    (either_numbered (bytes_eq word (codes "quit")) _ _ (only_numbered leave rest unit) (with_numbered word rest)))))

line_numbered : (line : List ℕ) → IsNumbered (requested_in line)
line_numbered [] = unit
line_numbered (byte ∷ bytes) = word_numbered (first_word (byte ∷ bytes)) (behind_word (byte ∷ bytes))

pub request_numbered : (line : List ℕ) → IsNumbered (request_of line)
request_numbered line = line_numbered (stripped line)

-- ---- Lines of a trace

terms_number : (number : ℕ) (rest label : List ℕ) (said : StepLine) → with_terms number rest label ≡ Some said → said.number ≡ number
terms_number number [] label said is =
    let same = same_Some said (record { number = number; terms = []; label = label }) (sym is) in (λ i. (same i).number)
terms_number number (byte ∷ rest) label said is = by (nat_eq 32 byte) is
  where
    by : (b : Bool) → (if b then Some (record { number = number; terms = rest; label = label }) else None) ≡ Some said
        → said.number ≡ number
    by true is = let same = same_Some said (record { number = number; terms = rest; label = label }) (sym is) in (λ i. (same i).number)
    by false is = absurd (cc is)

arrow_numbered : (around : Option AroundArrow) (said : StepLine) → with_arrow around ≡ Some said → said.number < ten_digits
arrow_numbered None said is = absurd (cc is)
arrow_numbered (Some around) said is = by (is_number (first_digits around.before)) refl is
  where
    by : (b : Bool) → is_number (first_digits around.before) ≡ b
        → (if b then with_terms (digits_value 10 (first_digits around.before)) (behind_digits around.before) around.behind else None)
        ≡ Some said
        → said.number < ten_digits
    by true form is =
        let small = short_below (first_digits around.before) (all_are_digits around.before)
        (form_short (first_digits around.before)
        (nat_eq (length (first_digits around.before)) 1 || not (leads_with_zero (first_digits around.before))) form) in
        let same = terms_number (digits_value 10 (first_digits around.before)) (behind_digits around.before) around.behind said is in
        omega (arith, small, same)
    by false form is = absurd (cc is)

pub line_numbered_in : (line : List ℕ) (said : StepLine) → step_line line ≡ Some said → said.number < ten_digits
line_numbered_in line said is = by (has_return line) is
  where
    by : (b : Bool) → (if b then None else with_arrow (around_arrow line)) ≡ Some said → said.number < ten_digits
    by true is = absurd (cc is)
    by false is = arrow_numbered (around_arrow line) said is
