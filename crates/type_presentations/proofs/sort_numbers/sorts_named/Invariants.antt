use Rattle.std.proofs.Common.{◌≡◌, map, take}
use Rattle.std.specs.Prelude.{None}
use Rattle.syntax_trees.specs.TreeViews.{placed_names_of}
use Rattle.type_presentations.specs.NamesView.{HasNames}
use Rattle.type_definitions.specs.Presentation.{Presentation}
use Rattle.type_definitions.specs.Declarations.{sort_numbered, unknown_sort_among}
use Rattle.type_presentations.specs.DeclaredOperation.{sort_names}
use Rattle.type_presentations.proofs.sort_numbers.sorts_named.Given as goal

abbrev pub invariant-loop-named : goal.invariant-loop-named
invariant-loop-named l = (p : Presentation) → HasNames l.sorts (sort_names p)
    → (unknown_sort_among p (placed_names_of (take l.named-index l.names)) ≡ None)
    × (l.numbers.items ≡ map (λ s. sort_numbered p s.name) (placed_names_of (take l.named-index l.names)))
