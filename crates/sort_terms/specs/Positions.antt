-- The positions in a list of names at which a name stands.
use Rattle.std.specs.Prelude.{ℕ, suc, List, [], ◌∷◌, ◌++◌, if◌then◌else◌}
use Rattle.std.specs.Str.{bytes_eq}
use Rattle.lotos_base.specs.Names.{folded}

-- the positions, counted from a number on, of the spellings that have these small letters
abbrev pub positions_from : ℕ → List ℕ → List (List ℕ) → List ℕ
positions_from first key [] = []
positions_from first key (name ∷ names) =
    (if bytes_eq key (folded name) then first ∷ [] else []) ++ positions_from (suc first) key names

-- the positions from 0
abbrev pub positions_of : List ℕ → List (List ℕ) → List ℕ
positions_of key names = positions_from 0 key names
