-- What the order of types stands for.
use Rattle.std.specs.Prelude.{◌≡◌, List}
use Rattle.type_definitions.specs.DeclaredTypes.{DeclaredType, mention_graph}
use Rattle.type_definitions.specs.GraphView.{graph_of}
use Rattle.type_definitions.specs.MentionFaults.{AreInOrder}
use Rattle.type_definitions.specs.TypeNamesView.{types_in}
use Rattle.type_definitions.specs.declared.type_order.TypeOrder.{TypeOrder}

-- it is that of these types, with the graph of their mentions
pub record IsOrderOf (types : List DeclaredType) (order : TypeOrder) : Type 0 where
  pub same_types : types_in order.names ≡ types
  pub mentioned : graph_of order.mentions ≡ mention_graph types
  pub in_order : AreInOrder types order.order.items
