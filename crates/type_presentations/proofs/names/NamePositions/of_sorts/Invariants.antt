use Rattle.std.proofs.Common.{map, take}
use Rattle.sort_terms.specs.Operations.{sort_of}
use Rattle.type_presentations.specs.NamesView.{HasNames}
use Rattle.type_presentations.proofs.names.NamePositions.of_sorts.Given as goal

abbrev pub invariant-loop-number : goal.invariant-loop-number
invariant-loop-number l = HasNames l.names (map (λ s. s.name) (map sort_of (take l.number l.sorts)))
