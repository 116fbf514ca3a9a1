use Rattle.std.proofs.Common.{◌≡◌, ◌++◌, drop}
use Rattle.type_definitions.specs.Flattened.{types_at}
use Rattle.type_definitions.specs.TypeNamesView.{types_in}
use Rattle.type_definitions.specs.TypeView.{declared_types_of}
use Rattle.type_flatten.proofs.flattening.in_order.Given as goal

abbrev pub invariant-loop-number : goal.invariant-loop-number
invariant-loop-number l =
    declared_types_of l.texts.items ++ types_at (types_in l.names) (drop l.number-index l.order) ≡ types_at (types_in l.names) l.order
