use Rattle.std.proofs.Common.{◌≡◌, ◌<◌, ℕ, Some, slice_get}
use Rattle.menu_builder.specs.HandedOn.{Entry, menu_entries}
use Rattle.bisim_check.specs.Readings.{IsClosedOne}
use Rattle.bisim_check.proofs.named.closed_menu.Given as goal

abbrev pub invariant-loop-position : goal.invariant-loop-position
invariant-loop-position l =
    (k : ℕ) (entry : Entry) → k < l.position → slice_get (menu_entries l.menu) k ≡ Some entry → IsClosedOne entry
