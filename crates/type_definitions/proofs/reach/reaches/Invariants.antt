use Rattle.std.proofs.Common.{◌+◌, length}
use Rattle.type_definitions.specs.GraphView.{graph_of}
use Rattle.type_definitions.specs.Reaching.{IsReaching, unseen_count}
use Rattle.type_definitions.proofs.reach.reaches.Given as goal

abbrev pub invariant-loop-number : goal.invariant-loop-number
invariant-loop-number l = IsReaching (graph_of l.graph) l.from l.to l.seen.items l.work.items

abbrev pub decreases-loop-number : goal.decreases-loop-number
decreases-loop-number l = unseen_count l.seen.items + length l.work.items
