use Rattle.std.proofs.Common.{◌≡◌, ◌*◌, ◌-◌}
use Rattle.ll_engine.specs.Related.{width_of}
use Rattle.ll_engine.proofs.Lists.{set_count}
use Rattle.ll_engine.proofs.Closure.{IsOnTheWay}
use Rattle.ll_engine.proofs.relation.Relation.closed.Given as goal

abbrev pub invariant-loop-relation : goal.invariant-loop-relation
invariant-loop-relation l = (IsOnTheWay l.fn.self l.relation) × (l.count ≡ set_count l.relation.bits.items)

abbrev pub decreases-loop-relation : goal.decreases-loop-relation
decreases-loop-relation l = l.relation.parts * width_of l.relation - l.count
