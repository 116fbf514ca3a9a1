use Rattle.std.proofs.Common.{◌≡◌}
use Rattle.std.specs.Prelude.{reverse}
use Rattle.static_scope.specs.Sizes.{counted_out, sizes_of_all, steps_left}
use Rattle.static_scope.specs.SizesView.{uncounted_in, written_inners}
use Rattle.static_scope.proofs.sizes.sizes.Given as goal

abbrev pub invariant-loop-entry : goal.invariant-loop-entry
invariant-loop-entry l = counted_out (uncounted_in l.stack.items) (reverse l.made.items) ≡ sizes_of_all (written_inners l.inner)

abbrev pub decreases-loop-entry : goal.decreases-loop-entry
decreases-loop-entry l = steps_left (uncounted_in l.stack.items)
