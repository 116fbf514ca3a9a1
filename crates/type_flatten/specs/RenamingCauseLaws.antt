-- The fault of a renaming comes exactly where its cause stands, and the first cause counts.
use Rattle.std.specs.Prelude.{◌≡◌, ◌↔◌, ℕ, List, Some}
use Rattle.syntax_trees.specs.WrittenItem.{WrittenPairs}
use Rattle.type_definitions.specs.TypeFault.{TypeFault}
use Rattle.type_definitions.specs.Presentation.{Presentation}
use Rattle.type_definitions.specs.Renaming.{renaming_fault}
use Rattle.type_flatten.specs.RenamingCauses.{RenamingBrings}

abbrev pub RenamingsAreFaultyWhereCaused : Type 0
RenamingsAreFaultyWhereCaused =
    (base : Presentation) (type_name : List ℕ) (pairs : WrittenPairs) (fault : TypeFault) →
    (renaming_fault base type_name pairs ≡ Some fault) ↔ RenamingBrings base type_name pairs fault
