use Rattle.std.proofs.Common.{◌≡◌, ◌+◌, ◌*◌, vec_len}
use Rattle.syntax_trees.specs.TreeViews.{inner_list_of}
use Rattle.syntax_trees.proofs.TakingItems.{count_in, count_waiting}
use Rattle.syntax_trees.proofs.taking.count_declarations.Given as goal

abbrev pub invariant-loop-list : goal.invariant-loop-list
invariant-loop-list l = l.count + count_waiting l.waiting.items ≡ count_in (inner_list_of l.inner)

abbrev pub decreases-loop-list : goal.decreases-loop-list
decreases-loop-list l = 2 * count_waiting l.waiting.items + vec_len l.waiting
