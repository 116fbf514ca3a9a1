-- What a request carries is shorter than its line.
use Rattle.std.proofs.Common.{◌≡◌, ◌≢◌, ℕ, zero, suc, ◌+◌, ◌≤◌, ◌-◌, Bool, true, false, if◌then◌else◌, List, [], ◌∷◌, take, drop, length, Option, None, Some, codes, refl, ap, sym, ◌∙◌, arith, length-drop}
use Rattle.std.specs.Str.{bytes_eq, is_utf8, IsUtf8}
use Rattle.std.proofs.lemmas.Str.{IsUtf8-from_is_utf8, is_utf8-from_IsUtf8}
use Rattle.std.proofs.lemmas.List.{take_rest}
use Rattle.lotos_base.proofs.Truth.{unit}
use Rattle.line_server.specs.Line.{behind_blanks, behind_spaces, first_word, behind_word, length_to_space, stripped}
use Rattle.line_server.specs.Request.{Request, show_menu, show_behaviour, show_trace, undo, leave, save, replay, only, number_in_word, size_in, step_by, values_request_by, instances_by, request_with_name, name_of, request_named, asked_with, requested_by, requested_in, request_of}
use Rattle.line_server.specs.RequestLaws.{Carries}
use Rattle.line_server.proofs.LineLemmas.{blanks_short, end_short, spaces_short, word_short, first_short}

either_carries : (n : ℕ) (test : Bool) (one other : Request) → Carries n one → Carries n other
    → Carries n (if test then one else other)
either_carries n true one other first second = first
either_carries n false one other first second = second

only_carries : (n : ℕ) (request : Request) (rest : List ℕ) → Carries n request → Carries n (only request rest)
only_carries n asked [] within = within
only_carries n asked (byte ∷ bytes) within = unit

step_carries : (n : ℕ) (number : Option ℕ) (terms : List ℕ) → length terms ≤ n → Carries n (step_by number terms)
step_carries n None terms within = unit
step_carries n (Some number) terms within = within

values_carry : (n : ℕ) (name : List ℕ) (size : Option ℕ) → length name ≤ n → Carries n (values_request_by name size)
values_carry n name None within = unit
values_carry n name (Some size) within = within

instances_carry : (n : ℕ) (number size : Option ℕ) → Carries n (instances_by number size)
instances_carry n None size = unit
instances_carry n (Some number) None = unit
instances_carry n (Some number) (Some size) = unit

name_carries : (n : ℕ) (request : List ℕ → Request) (rest : List ℕ)
    → ((name : List ℕ) → length name ≤ n → Carries n (request name)) → length rest ≤ n → Carries n (request_named request rest)
name_carries n make [] so within = unit
name_carries n make (byte ∷ bytes) so within = by (is_utf8 (byte ∷ bytes))
  where
    by : (test : Bool) → Carries n (request_with_name make (if test then Some (byte ∷ bytes) else None))
    by true = so (byte ∷ bytes) within
    by false = unit

with_carries : (n : ℕ) (word rest : List ℕ) → length rest ≤ n → Carries n (asked_with word rest)
with_carries n word rest within =
    either_carries n (bytes_eq word (codes "step")) _ _
    (step_carries n (number_in_word (first_word rest)) (behind_word rest) (omega (arith, word_short rest, within)))
    (either_carries n (bytes_eq word (codes "save")) _ _ (name_carries n save rest (λ name short. short) within)
    (either_carries n (bytes_eq word (codes "replay")) _ _ (name_carries n replay rest (λ name short. short) within)
    (either_carries n (bytes_eq word (codes "normal")) _ _ within
    (either_carries n (bytes_eq word (codes "equal")) _ _ within
    (either_carries n (bytes_eq word (codes "values")) _ _
    (values_carry n (first_word rest) (size_in (behind_word rest)) (omega (arith, first_short rest, within)))
    (either_carries n (bytes_eq word (codes "instances")) _ _
    (instances_carry n (number_in_word (first_word rest)) (size_in (behind_word rest))) unit))))))

word_carries : (n : ℕ) (word rest : List ℕ) → length rest ≤ n → Carries n (requested_by word rest)
word_carries n word rest within =
    either_carries n (bytes_eq word (codes "menu")) _ _ (only_carries n show_menu rest unit)
    (either_carries n (bytes_eq word (codes "show")) _ _ (only_carries n show_behaviour rest unit)
    (either_carries n (bytes_eq word (codes "trace")) _ _ (only_carries n show_trace rest unit)
    (either_carries n (bytes_eq word (codes "undo")) _ _ (only_carries n undo rest unit)
    (either_carries n (bytes_eq word (codes "quit")) _ _ (only_carries n leave rest unit)
    (with_carries n word rest within)))))

-- a line that begins with a space has no form
no_word : (n : ℕ) (rest : List ℕ) → Carries n (requested_by [] rest)
no_word n rest = unit

line_carries : (n : ℕ) (line : List ℕ) → length line ≤ n + 1 → Carries n (requested_in line)
line_carries n [] within = unit
line_carries n (byte ∷ bytes) within = by (length_to_space (byte ∷ bytes))
  where
    by : (count : ℕ) → Carries n (requested_by (take count (byte ∷ bytes)) (behind_spaces (drop count (byte ∷ bytes))))
    by zero = no_word n (behind_spaces (byte ∷ bytes))
    by (suc count) =
        word_carries n (byte ∷ take count bytes) (behind_spaces (drop count bytes))
        (omega (arith, spaces_short (drop count bytes), length-drop count bytes, within))

pub request_within : (line : List ℕ) (n : ℕ) → length line ≤ n + 1 → Carries n (request_of line)
request_within line n within =
    line_carries n (stripped line) (omega (arith, end_short (behind_blanks line), blanks_short line, within))

-- ---- What the code reads

-- a line that is not empty, by its first word and what stands behind this
pub asked_here : (line whole word rest : List ℕ) (count : ℕ) → whole ≡ stripped line → whole ≢ [] → count ≡ length_to_space whole
    → word ≡ take count whole → rest ≡ behind_spaces (take (length whole - count) (drop count whole))
    → requested_by word rest ≡ request_of line
asked_here line [] word rest count is some counted first more = absurd (some refl)
asked_here line (byte ∷ bytes) word rest count is some counted first more =
    ap (λ (it : List ℕ). requested_by it rest) (first ∙ ap (λ (n : ℕ). take n (byte ∷ bytes)) counted)
    ∙ (ap (requested_by (first_word (byte ∷ bytes)))
    (more ∙ (ap behind_spaces (take_rest (byte ∷ bytes) count)
    ∙ ap (λ (n : ℕ). behind_spaces (drop n (byte ∷ bytes))) counted))
    ∙ ap requested_in is)

pub name_there : (bytes name : List ℕ) → bytes ≢ [] → name ≡ bytes → IsUtf8 bytes → Some name ≡ name_of bytes
name_there [] name some is right = absurd (some refl)
name_there (byte ∷ bytes) name some is right =
    ap (λ (it : List ℕ). Some it) is
    ∙ sym (ap (λ (b : Bool). if b then Some (byte ∷ bytes) else None) (is_utf8-from_IsUtf8 (byte ∷ bytes) right))

pub no_name_there : (bytes : List ℕ) → ¬ IsUtf8 bytes → None ≡ name_of bytes
no_name_there [] wrong = refl
no_name_there (byte ∷ bytes) wrong = by (is_utf8 (byte ∷ bytes)) refl
  where
    by : (b : Bool) → is_utf8 (byte ∷ bytes) ≡ b → None ≡ (if b then Some (byte ∷ bytes) else None)
    by true right = absurd (wrong (IsUtf8-from_is_utf8 (byte ∷ bytes) right))
    by false right = refl
