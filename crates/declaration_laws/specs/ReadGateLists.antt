-- Each list of gates of a `par` in a text that was read has a gate (ISO 8807:1989, concrete syntax), and has it still where
-- the types are taken out of the text.
use Rattle.std.specs.Prelude.{ℕ, List}
use Rattle.syntax_trees.specs.WrittenDefinition.{WrittenSpecification}
use Rattle.syntax_trees.specs.TakenItems.{without_items}
use Rattle.tree_building.specs.Reading.{IsSpecificationReading}
use Rattle.scope_parts.specs.GateLists.{TextHasGateLists}

abbrev pub ReadTextsHaveGateLists : Type 0
ReadTextsHaveGateLists = (number : ℕ) (text : List ℕ) (tree : WrittenSpecification) → IsSpecificationReading number text tree
    → TextHasGateLists tree

abbrev pub GateListsStay : Type 0
GateListsStay = (tree : WrittenSpecification) → TextHasGateLists tree → TextHasGateLists (without_items tree)
