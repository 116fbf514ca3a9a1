-- The shipped libraries by name, in any letter case.
use Rattle.std.specs.Prelude.{ℕ, List, Option, None, Some, codes, if◌then◌else◌}
use Rattle.std.specs.Str.{bytes_eq}
use Rattle.lotos_base.specs.Name.{folded}
use Rattle.lotos_library.specs.declared.boolean.TheConstants.{BOOLEAN}
use Rattle.lotos_library.specs.declared.natural_number.TheConstants.{NATURAL_NUMBER}

-- the text of the library with this name, if it is shipped
abbrev pub library_text : List ℕ → Option (List ℕ)
library_text name =
    if bytes_eq (folded name) (folded (codes "Boolean")) then Some BOOLEAN.now
    else if bytes_eq (folded name) (folded (codes "NaturalNumber")) then Some NATURAL_NUMBER.now
    else None
