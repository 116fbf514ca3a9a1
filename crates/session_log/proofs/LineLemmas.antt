-- How the lines of a trace are read.
use Rattle.std.proofs.Common.{◌≡◌, ◌<◌, ◌+◌, ◌-◌, ℕ, suc, zero, List, [], ◌∷◌, ◌++◌, take, drop, length, Bool, true, false, ◌&&◌, ◌||◌, nat_eq, if◌then◌else◌, Option, Some, None, option_map, refl, ap, ap₂, sym, ◌∙◌, arith, add-one, length-drop, take_all, append_assoc, append-nil, drop-drop}
use Rattle.std.specs.List.{list_all, starts_with}
use Rattle.std.specs.Char.{is_ascii_digit}
use Rattle.std.specs.Str.Parse.{digits_value}
use Rattle.std.specs.Prelude.{nat_lt, not}
use Rattle.behaviour_semantics.proofs.OptionLemmas.{some_value}
use Rattle.line_server.specs.Request as request
use Rattle.session_histories.specs.TraceLine as plain
use Rattle.session_histories.specs.TraceLine.{AroundArrow, StepLine, with_byte, around_arrow, first_digits, behind_digits, with_first, lines_of}
use Rattle.session_histories.specs.TraceText.{arrow}
use Rattle.session_log.specs.Lines.{line_length, digit_count, around_at, with_bytes}

-- ---- The first line

pub first_cut : (text : List ℕ) → 0 < length text
    → lines_of text ≡ take (line_length text) text ∷ lines_of (drop (line_length text + 1) text)
first_cut [] h = absurd (omega (arith, h))
first_cut (byte ∷ []) h = by (nat_eq 10 byte)
  where
    by : (b : Bool) → (if b then [] ∷ lines_of [] else with_first byte (lines_of []))
        ≡ take (if b then 0 else 1) (byte ∷ []) ∷ lines_of (drop ((if b then 0 else 1) + 1) (byte ∷ []))
    by true = refl
    by false = refl
first_cut (byte ∷ next ∷ bytes) h =
    by (nat_eq 10 byte) (first_cut (next ∷ bytes) (omega arith))
  where
    more : List ℕ
    more = next ∷ bytes

    by : (b : Bool) → lines_of more ≡ take (line_length more) more ∷ lines_of (drop (line_length more + 1) more)
        → (if b then [] ∷ lines_of more else with_first byte (lines_of more))
        ≡ take (if b then 0 else line_length more + 1) (byte ∷ more)
        ∷ lines_of (drop ((if b then 0 else line_length more + 1) + 1) (byte ∷ more))
    by true rest = refl
    by false rest =
        ap (with_first byte) rest
        ∙ ap₂ (λ (n m : ℕ). take n (byte ∷ more) ∷ lines_of (drop m (byte ∷ more))) (sym (add-one (line_length more)))
        (sym (add-one (line_length more + 1)))

-- ---- The digits of a text

pub digits_taken : (text : List ℕ) → first_digits text ≡ take (digit_count text) text
digits_taken [] = refl
digits_taken (byte ∷ bytes) = by (is_ascii_digit byte) (digits_taken bytes)
  where
    by : (b : Bool) → first_digits bytes ≡ take (digit_count bytes) bytes
        → (if b then byte ∷ first_digits bytes else []) ≡ take (if b then digit_count bytes + 1 else 0) (byte ∷ bytes)
    by true rest = ap (λ (it : List ℕ). byte ∷ it) rest ∙ ap (λ (n : ℕ). take n (byte ∷ bytes)) (sym (add-one (digit_count bytes)))
    by false rest = refl

pub digits_dropped : (text : List ℕ) → behind_digits text ≡ drop (digit_count text) text
digits_dropped [] = refl
digits_dropped (byte ∷ bytes) = by (is_ascii_digit byte) (digits_dropped bytes)
  where
    by : (b : Bool) → behind_digits bytes ≡ drop (digit_count bytes) bytes
        → (if b then behind_digits bytes else byte ∷ bytes) ≡ drop (if b then digit_count bytes + 1 else 0) (byte ∷ bytes)
    by true rest = rest ∙ ap (λ (n : ℕ). drop n (byte ∷ bytes)) (sym (add-one (digit_count bytes)))
    by false rest = refl

-- ---- The first arrow

pub arrow_here : (position : ℕ) (line rest : List ℕ) → starts_with nat_eq rest arrow ≡ true → 0 < length rest
    → rest ≡ drop position line
    → option_map (with_bytes (take position line)) (around_arrow rest) ≡ around_arrow line
    → Some (around_at line position) ≡ around_arrow line
arrow_here position line [] here some is whole = absurd (omega (arith, some))
arrow_here position line (byte ∷ bytes) here some is whole =
    let found : around_arrow (byte ∷ bytes) ≡ Some (record { before = []; behind = drop 4 (byte ∷ bytes) }) =
    ap (λ (b : Bool). if b then Some (record { before = []; behind = drop 3 bytes })
    else option_map (with_byte byte) (around_arrow bytes)) here in
    let behind : drop (position + 4) line ≡ drop 4 (byte ∷ bytes) =
    sym (drop-drop 4 position line) ∙ ap (drop 4) (sym is) in
    (λ i. Some (record { before = sym (append-nil (take position line)) i; behind = behind i }))
    ∙ (ap (option_map (with_bytes (take position line))) (sym found) ∙ whole)

take_next : (position : ℕ) (line : List ℕ) (byte : ℕ) (bytes : List ℕ) → byte ∷ bytes ≡ drop position line
    → take (suc position) line ≡ take position line ++ (byte ∷ [])
take_next zero [] byte bytes e = absurd (cc e)
take_next zero (first ∷ line) byte bytes e = ap (λ (it : ℕ). it ∷ []) (sym (heads e))
  where
    heads : byte ∷ bytes ≡ first ∷ line → byte ≡ first
    heads e = cc e
take_next (suc position) [] byte bytes e = absurd (cc e)
take_next (suc position) (first ∷ line) byte bytes e = ap (λ (it : List ℕ). first ∷ it) (take_next position line byte bytes e)

put_before : (before : List ℕ) (byte : ℕ) (o : Option AroundArrow)
    → option_map (with_bytes (before ++ (byte ∷ []))) o ≡ option_map (with_bytes before) (option_map (with_byte byte) o)
put_before before byte None = refl
put_before before byte (Some around) =
    λ i. Some (record { before = append_assoc before (byte ∷ []) around.before i; behind = around.behind })

pub arrow_later : (position : ℕ) (line : List ℕ) (byte : ℕ) (bytes : List ℕ) → starts_with nat_eq (byte ∷ bytes) arrow ≡ false
    → byte ∷ bytes ≡ drop position line
    → option_map (with_bytes (take position line)) (around_arrow (byte ∷ bytes)) ≡ around_arrow line
    → option_map (with_bytes (take (position + 1) line)) (around_arrow bytes) ≡ around_arrow line
arrow_later position line byte bytes here is whole =
    let next : around_arrow (byte ∷ bytes) ≡ option_map (with_byte byte) (around_arrow bytes) =
    ap (λ (b : Bool). if b then Some (record { before = []; behind = drop 3 bytes })
    else option_map (with_byte byte) (around_arrow bytes)) here in
    let longer : take (position + 1) line ≡ take position line ++ (byte ∷ []) =
    ap (λ (n : ℕ). take n line) (add-one position) ∙ take_next position line byte bytes is in
    ap (λ (it : List ℕ). option_map (with_bytes it) (around_arrow bytes)) longer
    ∙ (put_before (take position line) byte (around_arrow bytes)
    ∙ (ap (option_map (with_bytes (take position line))) (sym next) ∙ whole))

-- the same of a rest that was taken apart
pub arrow_behind : (position : ℕ) (line rest more : List ℕ) → 0 < length rest → more ≡ drop 1 rest
    → starts_with nat_eq rest arrow ≡ false → rest ≡ drop position line
    → option_map (with_bytes (take position line)) (around_arrow rest) ≡ around_arrow line
    → (option_map (with_bytes (take (position + 1) line)) (around_arrow more) ≡ around_arrow line) × (more ≡ drop (position + 1) line)
arrow_behind position line [] more some is here whole_rest whole = absurd (omega (arith, some))
arrow_behind position line (byte ∷ bytes) more some is here whole_rest whole = (
  ap (λ (it : List ℕ). option_map (with_bytes (take (position + 1) line)) (around_arrow it)) is
      ∙ arrow_later position line byte bytes here whole_rest whole,
  is ∙ (ap (drop 1) whole_rest ∙ drop-drop 1 position line),
)

pub no_arrow : (position : ℕ) (line rest : List ℕ) → length rest < 1
    → option_map (with_bytes (take position line)) (around_arrow rest) ≡ around_arrow line → around_arrow line ≡ None
no_arrow position line [] none whole = sym whole
no_arrow position line (byte ∷ rest) none whole = absurd (omega (arith, none))

-- ---- Numbers

number_form : (digits : List ℕ) → request.has_number_form digits ≡ plain.is_number digits
number_form digits =
    ap (λ (zero_first : Bool).
    (nat_lt 0 (length digits) && nat_lt (length digits) 11) && (nat_eq (length digits) 1 || not zero_first)) (by digits)
  where
    by : (digits : List ℕ) → request.begins_with_zero digits ≡ plain.leads_with_zero digits
    by [] = refl
    by (digit ∷ digits) = refl

-- a number in a line of a session is one in a line of a trace
number_as : (digits : List ℕ) → list_all is_ascii_digit digits ≡ true
    → request.number_in_word digits ≡ (if plain.is_number digits then Some (digits_value 10 digits) else None)
number_as digits all =
    ap₂ (λ (are_digits has_form : Bool). if are_digits && has_form then Some (digits_value 10 digits) else None) all
    (number_form digits)

pub no_number : (digits rest label : List ℕ) (found : Option ℕ) → list_all is_ascii_digit digits ≡ true
    → found ≡ request.number_in_word digits → found ≡ None → None ≡ plain.step_with_number digits rest label
no_number digits rest label found all is none = by (plain.is_number digits) (sym none ∙ (is ∙ number_as digits all))
  where
    by : (b : Bool) → None ≡ (if b then Some (digits_value 10 digits) else None)
        → None ≡ (if b then plain.with_terms (digits_value 10 digits) rest label else None)
    by true e = absurd (cc e)
    by false e = refl

pub number_there : (digits rest label : List ℕ) (found : Option ℕ) (number : ℕ) (said : Option StepLine)
    → list_all is_ascii_digit digits ≡ true → found ≡ request.number_in_word digits → found ≡ Some number
    → said ≡ plain.with_terms number rest label → said ≡ plain.step_with_number digits rest label
number_there digits rest label found number said all is some says =
    says ∙ by (plain.is_number digits) (sym some ∙ (is ∙ number_as digits all))
  where
    by : (b : Bool) → Some number ≡ (if b then Some (digits_value 10 digits) else None)
        → plain.with_terms number rest label ≡ (if b then plain.with_terms (digits_value 10 digits) rest label else None)
    by true e = ap (λ (n : ℕ). plain.with_terms n rest label) (some_value e)
    by false e = absurd (cc e)

-- the rest behind so many members, and that behind the first one, as slices have them
pub whole_rest : (count : ℕ) (xs : List ℕ) → take (length xs - count) (drop count xs) ≡ drop count xs
whole_rest count xs = take_all (length xs - count) (drop count xs) (omega (arith, length-drop count xs))

pub rest_is_whole : (xs : List ℕ) → take (length xs - 1) (drop 1 xs) ≡ drop 1 xs
rest_is_whole xs = take_all (length xs - 1) (drop 1 xs) (omega (arith, length-drop 1 xs))
