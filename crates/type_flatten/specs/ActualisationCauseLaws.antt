-- The fault of an actualisation comes exactly where its cause stands, and the first cause counts.
use Rattle.std.specs.Prelude.{◌≡◌, ◌↔◌, ℕ, List, Some}
use Rattle.syntax_trees.specs.WrittenItem.{WrittenPairs}
use Rattle.type_definitions.specs.TypeFault.{TypeFault}
use Rattle.type_definitions.specs.Union.{Mentioned}
use Rattle.type_definitions.specs.ActualisationFaults.{actualisation_fault}
use Rattle.type_flatten.specs.ActualisationCauses.{ActualisationBrings}

abbrev pub ActualisationsAreFaultyWhereCaused : Type 0
ActualisationsAreFaultyWhereCaused =
    (base : Mentioned) (actuals : List Mentioned) (type_name : List ℕ) (pairs : WrittenPairs) (fault : TypeFault) →
    (actualisation_fault base actuals type_name pairs ≡ Some fault) ↔ ActualisationBrings base actuals type_name pairs fault
