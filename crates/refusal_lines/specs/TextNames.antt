-- How texts and places in them are named: the specification and the order file by the words of the command line, a library by
-- its file, or by `library` and its name where it is shipped, and the start values by `with`.
use Rattle.std.specs.Prelude.{ℕ, ◌-◌, List, [], ◌++◌, Option, None, Some, slice_get, nat_eq, if◌then◌else◌, codes, decimal}
use Rattle.lotos_base.specs.Equation.{Place}
use Rattle.lotos_library.specs.Library.{library_text}
use Rattle.lotos_grammar.specs.Gathering.{library_file}

-- the two words, and the names of the libraries that were read, in the order of the numbers of their texts
pub record TextNames : Type 0 where
  pub spec : List ℕ
  pub order : List ℕ
  pub libraries : List (List ℕ)

-- a library, by its text where it is shipped
abbrev pub shown_library : List ℕ → Option (List ℕ) → List ℕ
shown_library name None = library_file name
shown_library name (Some text) = codes "library " ++ name

abbrev pub library_name : List ℕ → List ℕ
library_name name = shown_library name (library_text name)

-- the library with the number, from 0
abbrev pub library_at : Option (List ℕ) → List ℕ
library_at None = []
library_at (Some name) = library_name name

-- the text with the number
abbrev pub text_name : TextNames → ℕ → List ℕ
text_name names text =
    if nat_eq text 0 then names.spec
    else if nat_eq text 1 then names.order
    else if nat_eq text 66 then codes "with"
    else library_at (slice_get names.libraries (text - 2))

-- a place in it
abbrev pub place_text : TextNames → Place → List ℕ
place_text names place =
    text_name names place.text ++ codes ":" ++ decimal place.line ++ codes ":" ++ decimal place.column

-- the place of a refusal, if it has one
abbrev pub at_text : TextNames → Option Place → List ℕ
at_text names None = []
at_text names (Some place) = codes " at " ++ place_text names place
