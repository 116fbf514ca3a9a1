use Rattle.std.proofs.Common.{◌≡◌, ◌++◌, take, drop, length}
use Rattle.path_order.specs.Steps.{given_status}
use Rattle.path_order.proofs.listings.with_all.Given as goal

abbrev pub invariant-loop-op : goal.invariant-loop-op
invariant-loop-op l =
    (l.made.order.items ≡ l.fn.made.order.items ++ take l.op-index l.found)
    × (length l.made.listed.items ≡ length l.fn.made.listed.items)
    × (given_status l.made.statuses.items (drop l.op-index l.found) l.status ≡ given_status l.fn.made.statuses.items l.found l.status)
