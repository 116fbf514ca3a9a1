-- What holds of the grouping of operands and signs.
use Rattle.std.specs.Prelude.{◌≡◌, ◌↔◌, List, Some}
use Rattle.syntax_trees.specs.Grouping.{IsGrouped, grouped}
use Rattle.syntax_trees.specs.Strength.{PlacedSign, strength_of, joined_by_sign}
use Rattle.syntax_trees.specs.WrittenBehaviour.{WrittenBehaviour}

-- the computed tree of a flat list of behaviours is the one that it is grouped to; so there is one at most
abbrev pub FlatListsHaveOneTree : Type 0
FlatListsHaveOneTree =
    (operands : List WrittenBehaviour) (signs : List PlacedSign) (tree : WrittenBehaviour) →
    (grouped strength_of joined_by_sign operands signs ≡ Some tree) ↔ IsGrouped strength_of joined_by_sign operands signs tree
