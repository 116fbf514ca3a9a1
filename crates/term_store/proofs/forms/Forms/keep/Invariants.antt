use Rattle.std.proofs.Common.{◌≡◌, ◌+◌, ◌-◌, ℕ, length}
use Rattle.term_store.specs.Kept.{kept_at}
use Rattle.term_store.proofs.forms.Forms.keep.Given as goal

abbrev pub decreases-loop-self : goal.decreases-loop-self
decreases-loop-self l = l.number + 1 - length l.self.kept.items

abbrev pub invariant-loop-self : goal.invariant-loop-self
invariant-loop-self l = (l.self.shared ≡ l.fn.self.shared) × ((n : ℕ) → kept_at l.self.kept.items n ≡ kept_at l.fn.self.kept.items n)
