use Rattle.std.proofs.Common.{◌≡◌, ℕ, length}
use Rattle.path_order.proofs.RuleLemmas.{under}
use Rattle.std.specs.Prelude.{[]}
use Rattle.path_order.proofs.head_index.HeadIndex.new.Given as goal

abbrev pub invariant-loop : goal.invariant-loop
invariant-loop l = ((f : ℕ) → under l.numbers.items f ≡ []) × (length l.numbers.items ≡ l.counter)
