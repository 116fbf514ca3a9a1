use Rattle.std.proofs.Common.{◌≡◌, ◌++◌, ℕ, drop, length}
use Rattle.path_order.specs.HeadIndexView.{numbers_at}
use Rattle.path_order.specs.RuleView.{plain_rules}
use Rattle.path_order.specs.RulesView.{plain_rules_in}
use Rattle.term_rewriter.specs.FirstHead.{has_first, is_open, numbered_where}
use Rattle.term_rewriter.specs.FirstIndexView.{HasRoom}
use Rattle.term_rewriter.proofs.first_index.indexed.Given as goal

abbrev pub invariant-loop-number : goal.invariant-loop-number
invariant-loop-number l = record {
  opens : (f : ℕ) → numbers_at l.index.open f ++ numbered_where (is_open f) l.number (plain_rules (drop l.number l.rules.rules.items))
      ≡ numbered_where (is_open f) 0 (plain_rules_in l.rules);
  begins : (f : ℕ) → numbers_at l.index.firsts f ++ numbered_where (has_first f) l.number (plain_rules (drop l.number l.rules.rules.items))
      ≡ numbered_where (has_first f) 0 (plain_rules_in l.rules);
  room : HasRoom l.index (length l.rules.signature.ops.items);
}
