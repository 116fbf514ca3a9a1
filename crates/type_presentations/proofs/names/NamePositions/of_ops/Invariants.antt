use Rattle.std.proofs.Common.{map, take}
use Rattle.sort_terms.specs.Operations.{operation_of}
use Rattle.type_presentations.specs.NamesView.{HasNames}
use Rattle.type_presentations.proofs.names.NamePositions.of_ops.Given as goal

abbrev pub invariant-loop-number : goal.invariant-loop-number
invariant-loop-number l = HasNames l.names (map (λ o. o.name) (map (λ op. operation_of op.value) (take l.number l.ops)))
