use Rattle.std.proofs.Common.{◌≡◌, ◌++◌, ℕ, drop, length}
use Rattle.path_order.specs.HeadIndexView.{numbers_at}
use Rattle.path_order.specs.RuleHead.{headed, headed_from}
use Rattle.path_order.specs.RuleView.{plain_rules}
use Rattle.path_order.proofs.indexing.indexed.Given as goal

abbrev pub invariant-loop-number : goal.invariant-loop-number
invariant-loop-number l =
    ((f : ℕ) → numbers_at l.made f ++ headed_from f l.number (plain_rules (drop l.number l.rules.items)) ≡ headed f
    (plain_rules l.rules.items))
    × (length l.made.numbers.items ≡ length l.signature.ops.items)
