-- The tuples of some lists by their numbers.
use Rattle.std.specs.Prelude.{ℕ, List, [], ◌∷◌, Bool, true, false, get_or, ◌/◌, ◌%◌}
use Rattle.value_lists.specs.Tuples.{tuple_count}

-- whether one of the lists is empty
abbrev pub has_empty : {X : Type 0} → List (List X) → Bool
has_empty [] = false
has_empty ([] ∷ choices) = true
has_empty ((x ∷ choice) ∷ choices) = has_empty choices

-- the tuple with this number: as many of them have one first member as there are tuples of the other lists
abbrev pub tuple_at : {X : Type 0} → List (List X) → ℕ → X → List X
tuple_at [] number default = []
tuple_at (choice ∷ choices) number default =
    get_or choice (number / tuple_count choices) default ∷ tuple_at choices (number % tuple_count choices) default
