-- The places of a text that was read rise along it: each part stands wholly before the next, but for what several names share.
-- They do so still where the types are taken out of the text.
use Rattle.std.specs.Prelude.{ℕ, List}
use Rattle.syntax_trees.specs.WrittenDefinition.{WrittenSpecification}
use Rattle.syntax_trees.specs.TakenItems.{without_items}
use Rattle.tree_building.specs.Reading.{IsSpecificationReading}
use Rattle.scope_parts.specs.TextOrder.{PlacesRise}

abbrev pub ReadTextsRise : Type 0
ReadTextsRise = (number : ℕ) (text : List ℕ) (tree : WrittenSpecification) → IsSpecificationReading number text tree → PlacesRise tree

abbrev pub PlacesStay : Type 0
PlacesStay = (tree : WrittenSpecification) → PlacesRise tree → PlacesRise (without_items tree)
