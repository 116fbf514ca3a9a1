-- The lines of a certificate of induction as they are written: a text cut at its line feeds, and the form of each line.
use Rattle.std.specs.Prelude.{ℕ, suc, ◌-◌, ◌==◌, nat_lt, if◌then◌else◌, Bool, false, ◌&&◌, not, List, [], ◌∷◌, Option, None, Some, codes, take, drop, position}
use Rattle.std.specs.Char.{is_ascii_digit}
use Rattle.std.specs.List.{list_all}
use Rattle.std.specs.Option.{option_map}
use Rattle.std.specs.Str.{bytes_eq}
use Rattle.std.specs.Str.Parse.{digits_value}
use Rattle.lotos_base.specs.Equality.{Direction, forward, backward}
use Rattle.induct_parts.specs.HandedOn.{Side, left_side, right_side, Source, by_lemma, by_hypothesis, Use}

-- ---- Parts

-- The parts, of which there is at least one, with the byte before the first of them.
abbrev pub byte_before : ℕ → List (List ℕ) → List (List ℕ)
byte_before byte [] = (byte ∷ []) ∷ []
byte_before byte (part ∷ parts) = (byte ∷ part) ∷ parts

-- The parts of bytes that a separator parts. The lines of a text are its parts at line feeds but for the last, which no line feed
-- ends.
abbrev pub parts_at : ℕ → List ℕ → List (List ℕ)
parts_at separator [] = [] ∷ []
parts_at separator (byte ∷ bytes) =
    if byte == separator then [] ∷ parts_at separator bytes else byte_before byte (parts_at separator bytes)

-- A word with what stands behind the blank that ends it, if one does.
pub record Cut : Type 0 where
  pub word : List ℕ
  pub rest : Option (List ℕ)

abbrev pub word_cut_by : List ℕ → Option ℕ → Cut
word_cut_by bytes None = record { word = bytes; rest = None }
word_cut_by bytes (Some place) = record { word = take place bytes; rest = Some (drop (suc place) bytes) }

-- The bytes cut at their first blank.
abbrev pub cut_at_blank : List ℕ → Cut
cut_at_blank bytes = word_cut_by bytes (position (λ byte. byte == 32) bytes)

-- ---- Numbers and paths

-- No number of a certificate that is there is above this one: a text has fewer lines, and a term fewer arguments.
unfoldable pub most : ℕ
most = 4294967295

-- Decimal digits without a leading zero, or `0`.
abbrev pub is_certificate_number : List ℕ → Bool
is_certificate_number [] = false
is_certificate_number (digit ∷ []) = is_ascii_digit digit
is_certificate_number (digit ∷ next ∷ digits) = not (digit == 48) && list_all is_ascii_digit (digit ∷ next ∷ digits)

-- The number itself, or the most where it is above that.
abbrev pub at_most : ℕ → ℕ
at_most n = if nat_lt most n then most else n

-- The number that a word is, if it is one.
abbrev pub number_of_word : List ℕ → Option ℕ
number_of_word word = if is_certificate_number word then Some (at_most (digits_value 10 word)) else None

-- A number that is counted from 1 in the text, and from 0 here. 0 reads as the most, which nothing has as its number.
abbrev pub from_nought : ℕ → ℕ
from_nought n = if n == 0 then most else n - 1

-- a number before others, if all are there
abbrev pub number_before : Option ℕ → Option (List ℕ) → Option (List ℕ)
number_before None path = None
number_before (Some n) path = option_map (λ (more : List ℕ). n ∷ more) path

abbrev pub numbers_of_words : List (List ℕ) → Option (List ℕ)
numbers_of_words [] = Some []
numbers_of_words (word ∷ words) = number_before (number_of_word word) (numbers_of_words words)

-- A path: `-` for the root, or positions from 0 joined by points.
abbrev pub path_of : List ℕ → Option (List ℕ)
path_of word = if bytes_eq word (codes "-") then Some [] else numbers_of_words (parts_at 46 word)

-- ---- Uses

abbrev pub side_of_word : List ℕ → Option Side
side_of_word word =
    if bytes_eq word (codes "left") then Some left_side
    else if bytes_eq word (codes "right") then Some right_side
    else None

abbrev pub direction_of_word : List ℕ → Option Direction
direction_of_word word =
    if bytes_eq word (codes "forward") then Some forward
    else if bytes_eq word (codes "backward") then Some backward
    else None

-- the lemma or the hypothesis with a number
abbrev pub source_by : (ℕ → Source) → Option ℕ → Option Source
source_by source number = option_map (λ (n : ℕ). source (from_nought n)) number

abbrev pub source_of_words : List ℕ → List ℕ → Option Source
source_of_words kind number =
    if bytes_eq kind (codes "lemma") then source_by by_lemma (number_of_word number)
    else if bytes_eq kind (codes "hyp") then source_by by_hypothesis (number_of_word number)
    else None

-- a use, if all of it is there
abbrev pub use_from : Option Source → Option Side → Option (List ℕ) → Option Direction → Option Use
use_from (Some source) (Some side) (Some path) (Some direction) =
    Some (record { source = source; side = side; path = path; direction = direction })
use_from source side path direction = None

-- What stands behind `use`: `lemma K SIDE PATH DIR` or `hyp K SIDE PATH DIR`.
abbrev pub use_by : List (List ℕ) → Option Use
use_by (kind ∷ number ∷ side ∷ path ∷ direction ∷ []) =
    use_from (source_of_words kind number) (side_of_word side) (path_of path) (direction_of_word direction)
use_by words = None

-- ---- Forms

-- The form of a line: `cover S` and what stands behind it; `tree` and an item; `split` and a word; `leaf`; `lemma`, alone or with
-- variables; `left` or `right` and a term; a use; `same`; or none of these.
pub data LineForm : Type 0 where
  cover_form : (sort items : List ℕ) → LineForm
  tree_form : (item : List ℕ) → LineForm
  split_form : (word : List ℕ) → LineForm
  lemma_form : (variables : Option (List ℕ)) → LineForm
  left_form right_form : (term : List ℕ) → LineForm
  use_form : Use → LineForm
  leaf_form same_form no_form : LineForm

-- the items of a cover, of which there may be none
abbrev pub cover_by : List ℕ → Option (List ℕ) → LineForm
cover_by sort None = cover_form sort []
cover_by sort (Some items) = cover_form sort items

-- one word that is not empty
abbrev pub split_by : List ℕ → Option (List ℕ) → LineForm
split_by [] rest = no_form
split_by (byte ∷ bytes) None = split_form (byte ∷ bytes)
split_by (byte ∷ bytes) (Some more) = no_form

abbrev pub use_or_none : Option Use → LineForm
use_or_none None = no_form
use_or_none (Some use_) = use_form use_

-- a line of one word
abbrev pub form_alone : List ℕ → LineForm
form_alone word =
    if bytes_eq word (codes "leaf") then leaf_form
    else if bytes_eq word (codes "same") then same_form
    else if bytes_eq word (codes "lemma") then lemma_form None
    else no_form

-- a word, and what stands behind it and a blank
abbrev pub form_with : (word rest : List ℕ) → LineForm
form_with word rest =
    if bytes_eq word (codes "cover") then cover_by (cut_at_blank rest).word (cut_at_blank rest).rest
    else if bytes_eq word (codes "tree") then tree_form rest
    else if bytes_eq word (codes "split") then split_by (cut_at_blank rest).word (cut_at_blank rest).rest
    else if bytes_eq word (codes "lemma") then lemma_form (Some rest)
    else if bytes_eq word (codes "left") then left_form rest
    else if bytes_eq word (codes "right") then right_form rest
    else if bytes_eq word (codes "use") then use_or_none (use_by (parts_at 32 rest))
    else no_form

abbrev pub form_by : List ℕ → Option (List ℕ) → LineForm
form_by word None = form_alone word
form_by word (Some rest) = form_with word rest

-- the form of a line
abbrev pub line_form_of : List ℕ → LineForm
line_form_of line = form_by (cut_at_blank line).word (cut_at_blank line).rest
