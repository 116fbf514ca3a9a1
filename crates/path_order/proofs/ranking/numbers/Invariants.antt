use Rattle.std.proofs.Common.{◌≡◌, ◌<◌, ℕ, length}
use Rattle.std.specs.Prelude.{slice_index}
use Rattle.path_order.proofs.ranking.numbers.Given as goal

abbrev pub invariant-loop-f : goal.invariant-loop-f
invariant-loop-f l = ((g : ℕ) → g < l.f → slice_index l.made.items g ≡ g) × (length l.made.items ≡ l.f)
