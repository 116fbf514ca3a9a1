-- The plain value of the code's first nodes.
use Rattle.std.specs.Prelude.{map, option_map, reverse}
use Rattle.lotos_base.specs.WrittenView.{text_place_of}
use Rattle.syntax_trees.specs.declared.firsts.FirstNodes.{FirstNodes}
use Rattle.syntax_trees.specs.Firsts.{Firsts}

-- the places are held from the deepest to the root, so that a node in front is a push
abbrev pub firsts_of : FirstNodes → Firsts
firsts_of nodes = record { places = reverse (map text_place_of nodes.places.items); rest = option_map text_place_of nodes.rest }
