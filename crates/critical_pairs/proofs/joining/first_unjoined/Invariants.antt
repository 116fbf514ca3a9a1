use Rattle.std.proofs.Common.{◌≡◌, ◌<◌, ℕ}
use Rattle.std.specs.Prelude.{Some, slice_get}
use Rattle.lotos_base.specs.Term.{Term}
use Rattle.rewriting_theory.specs.CriticalPair.{CriticalPair}
use Rattle.rewriting_theory.specs.PairList.{IsUnjoined}
use Rattle.path_order.specs.RulesView.{plain_rules_in}
use Rattle.critical_pairs.specs.Finding.{IsFinderOf}
use Rattle.critical_pairs.specs.PairView.{critical_pairs_in}
use Rattle.critical_pairs.proofs.joining.first_unjoined.Given as goal

abbrev pub invariant-loop-pair : goal.invariant-loop-pair
invariant-loop-pair l =
    ((k : ℕ) → k < l.pair-index → (pair : CriticalPair) (t u : Term) → slice_get (critical_pairs_in l.pairs) k ≡ Some pair
    → ¬ IsUnjoined (plain_rules_in l.rules) pair t u) × IsFinderOf l.rules l.finder
