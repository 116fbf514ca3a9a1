-- How one shape stands to another.
use Rattle.behaviour_semantics.specs.Shape.{Shape, Agree, Before}
use Rattle.behaviour_tree.specs.declared.order.Standing.{Standing}
use Rattle.behaviour_tree.specs.declared.order.Standing.TheVariants as standing

-- What the answer says of two shapes: the first comes before the second, they agree, or neither.
abbrev pub TellsStanding : Standing → Shape → Shape → Type 0
TellsStanding standing.Before s t = Before s t
TellsStanding standing.Agreeing s t = Agree s t
TellsStanding standing.Otherwise s t = (Before s t → ⊥) × (Agree s t → ⊥)
