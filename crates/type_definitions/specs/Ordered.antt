-- What comes of putting types in their order.
use Rattle.std.specs.Prelude.{ℕ, List}
use Rattle.type_definitions.specs.TypeGraph.{IsAcyclic, IsFirstMentionOnCycle}
use Rattle.type_definitions.specs.FlatteningOrder.{IsFlatteningOrder}
use Rattle.type_definitions.specs.Walking.{IsSorted}
use Rattle.type_definitions.specs.declared.order.Ordered.{Ordered}
use Rattle.type_definitions.specs.declared.order.Ordered.TheVariants.{InOrder, Cyclic}

-- no mention lies on a cycle, and this is the order, in which each type stands behind all that it mentions; or this is the
-- first mention on a cycle
abbrev pub IsOrdered : List (List ℕ) → Ordered → Type 0
IsOrdered graph (InOrder order) = IsAcyclic graph × IsFlatteningOrder graph order.items × IsSorted graph order.items
IsOrdered graph (Cyclic by position) = IsFirstMentionOnCycle graph by position
