-- Where the faults of members stand that come in, and which of them is kept.
use Rattle.std.specs.Prelude.{ℕ, Bool, List, Option, None, Some, if◌then◌else◌}
use Rattle.lotos_base.specs.WrittenTerm.{PlacedName}
use Rattle.lotos_base.specs.Equation.{Place}
use Rattle.syntax_trees.specs.WrittenItem.{WrittenPair}
use Rattle.type_definitions.specs.TypeFault.{TypeFault}

-- at the pair that made the member, or without one at the mention of the base
abbrev pub stands_at : Option WrittenPair → PlacedName → PlacedName
stands_at None mention = mention
stands_at (Some pair) mention = record { place = pair.place; name = pair.given }

-- the first place that is kept, and the next one if it is that of a fault
abbrev pub kept_place : Option PlacedName → Bool → PlacedName → Option PlacedName
kept_place (Some first) is_fault next = Some first
kept_place None is_fault next = if is_fault then Some next else None

-- the fault that stands there
abbrev pub fault_at : (Place → List ℕ → TypeFault) → Option PlacedName → Option TypeFault
fault_at kind None = None
fault_at kind (Some at) = Some (kind at.place at.name)
