-- The names of formal sorts, and the pairs whose old name is none of them.
use Rattle.std.specs.Prelude.{ℕ, List, [], ◌∷◌, map, if◌then◌else◌}
use Rattle.lotos_base.specs.Signature.{Sort}
use Rattle.syntax_trees.specs.WrittenItem.{WrittenPair}
use Rattle.type_definitions.specs.Presentation.{Presentation}
use Rattle.type_definitions.specs.Actualisation.{formal_sorts_of, is_formal_sort}

-- the names of the formal sorts
abbrev pub names_of_formal_sorts : Presentation → List (List ℕ)
names_of_formal_sorts base = map (λ (s : Sort). s.name) (formal_sorts_of base)

-- the pairs whose old name is that of no formal sort
abbrev pub other_pairs : Presentation → List WrittenPair → List WrittenPair
other_pairs base [] = []
other_pairs base (pair ∷ pairs) =
    if is_formal_sort base pair.replaced.name then other_pairs base pairs else pair ∷ other_pairs base pairs
