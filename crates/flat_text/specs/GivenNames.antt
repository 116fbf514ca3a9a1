-- The names that the processes of a specification are given, so that no two of them have one name.
use Rattle.std.specs.Prelude.{ℕ, List, [], ◌∷◌, ◌++◌, if◌then◌else◌, codes}
use Rattle.flat_text.specs.FreeNames.{has_name, with_number, least_free}

-- a name with its number behind a `_`, which is the least from 2 that gives no taken name: `P_2`
abbrev pub numbered_name : List (List ℕ) → List ℕ → List ℕ
numbered_name taken name = with_number (name ++ codes "_") (least_free taken (name ++ codes "_") 2)

-- The name that a process is given: its own, or its own with a number where an earlier process has it.
abbrev pub given_name : List (List ℕ) → List (List ℕ) → List ℕ → List ℕ
given_name earlier taken name = if has_name earlier name then numbered_name taken name else name

-- The names that these are given one after another. The earlier ones and all that are taken stand before them, the last one first.
abbrev pub given_behind : List (List ℕ) → List (List ℕ) → List (List ℕ) → List (List ℕ)
given_behind earlier taken [] = []
given_behind earlier taken (name ∷ names) =
    given_name earlier taken name ∷ given_behind (name ∷ earlier) (given_name earlier taken name ∷ taken) names

-- The names that are given in the place of these. A name with a number differs from all of them and from all names given before.
abbrev pub given_names : List (List ℕ) → List (List ℕ)
given_names names = given_behind [] names names
