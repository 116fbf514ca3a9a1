use Rattle.std.proofs.Common.{map, take}
use Rattle.sort_terms.specs.Operations.{operation_of}
use Rattle.type_equations.specs.ResultsView.{TellTwins}
use Rattle.type_equations.proofs.twins.results_by_key.Given as goal

abbrev pub invariant-loop-op : goal.invariant-loop-op
invariant-loop-op l = TellTwins (map operation_of (take l.op-index l.ops)) l.results
