-- The first position of a name in a list of names.
use Rattle.std.specs.Prelude.{ℕ, List, Option, None, Some, if◌then◌else◌}
use Rattle.std.specs.List.{list_any}
use Rattle.sort_terms.specs.ReadingOutcome.{one_name}
use Rattle.type_definitions.specs.Presentation.{first_position}

-- the first position of one that is the same name, if there is one
abbrev pub position_of_name : List (List ℕ) → List ℕ → Option ℕ
position_of_name names name =
    if list_any (λ (n : List ℕ). one_name n name) names then Some (first_position (λ (n : List ℕ). one_name n name) names)
    else None
