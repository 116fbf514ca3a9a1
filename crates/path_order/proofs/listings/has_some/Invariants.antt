use Rattle.std.proofs.Common.{◌≡◌, ◌<◌, ℕ, false}
use Rattle.std.specs.Prelude.{Some, slice_get}
use Rattle.path_order.specs.Contains.{contains}
use Rattle.path_order.proofs.listings.has_some.Given as goal

abbrev pub invariant-loop-op : goal.invariant-loop-op
invariant-loop-op l = (k f : ℕ) → k < l.op-index → slice_get l.found k ≡ Some f → contains f l.made.order.items ≡ false
