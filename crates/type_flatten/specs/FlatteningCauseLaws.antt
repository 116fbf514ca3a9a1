-- The fault of types comes exactly where its cause stands, and the first cause in the order of flattening counts.
use Rattle.std.specs.Prelude.{◌↔◌, ℕ, List}
use Rattle.lotos_base.specs.Equation.{Data}
use Rattle.syntax_trees.specs.WrittenItem.{WrittenTypeBody}
use Rattle.type_definitions.specs.DeclaredTypes.{DeclaredType, mention_graph}
use Rattle.type_definitions.specs.FlatteningOrder.{IsFlatteningOrder}
use Rattle.type_definitions.specs.TypeFault.{TypeFault}
use Rattle.type_definitions.specs.Presentation.{Presentation}
use Rattle.type_definitions.specs.Union.{Mentioned}
use Rattle.type_definitions.specs.Flattened.{IsPresentation, IsFaultOfType, types_at, IsFlattening, IsFlatteningFault}
use Rattle.type_flatten.specs.FirstCause.{IsNowhere}
use Rattle.type_flatten.specs.NameCauses.{NamesBring}
use Rattle.type_flatten.specs.FlatteningCauses.{BodyBrings, FlatteningBrings}

pub record TypesAreFaultyWhereCaused : Type 0 where
  -- one type, behind those that are flattened already
  pub one :
      (done : List Mentioned) (type_name : List ℕ) (body : WrittenTypeBody) (fault : TypeFault) →
      IsFaultOfType done type_name body fault ↔ BodyBrings done type_name body fault
  -- without a cause it has a presentation
  pub presented :
      (done : List Mentioned) (type_name : List ℕ) (body : WrittenTypeBody) →
      IsNowhere (BodyBrings done type_name body) ↔ ((p : Presentation) × IsPresentation done type_name body p)
  -- all types, in the order of flattening
  pub all :
      (types : List DeclaredType) (fault : TypeFault) →
      IsFlatteningFault types fault
      ↔ ((order : List ℕ) × IsFlatteningOrder (mention_graph types) order × FlatteningBrings (types_at types order) fault)
  -- where the names of the types have no fault there is such an order
  pub ordered :
      (types : List DeclaredType) →
      IsNowhere (NamesBring types) →
      (order : List ℕ) × IsFlatteningOrder (mention_graph types) order
  -- without a cause they have data
  pub flattened :
      (types : List DeclaredType) (order : List ℕ) →
      IsFlatteningOrder (mention_graph types) order →
      IsNowhere (FlatteningBrings (types_at types order)) ↔ ((data_ : Data) × IsFlattening types data_)
