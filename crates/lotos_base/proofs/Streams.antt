-- Calls of an input or an output, one after another.
use Rattle.std.proofs.Common.{ℕ, refl, subst, ap, ◌∙◌}
use Rattle.lotos_base.specs.Counts.{Rises, next_count}
use Rattle.lotos_base.specs.Outside.{Stream, Stands, FindsEnd, Fails}

pub stands_still : (now : Stream) → Stands now now
stands_still now = record { faults = refl; vain = refl; last_vain = refl }

pub stands_then : (before between after : Stream) → Stands before between → Stands between after → Stands before after
stands_then before between after one two =
    record { faults = two.faults ∙ one.faults; vain = two.vain ∙ one.vain; last_vain = two.last_vain ∙ one.last_vain }

pub end_then : (before between after : Stream) → Stands before between → FindsEnd between after → FindsEnd before after
end_then before between after one two = record {
  faults = two.faults ∙ one.faults;
  vain = two.vain ∙ ap (λ (n : ℕ). next_count n) one.vain;
  last_vain = two.last_vain;
}

pub fails_then : (before between after : Stream) → Stands before between → Fails between after → Fails before after
fails_then before between after one two = record {
  faults = subst (λ (n : ℕ). Rises n after.faults) one.faults two.faults;
  vain = two.vain ∙ ap (λ (n : ℕ). next_count n) one.vain;
  last_vain = two.last_vain;
}
