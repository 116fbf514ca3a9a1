-- Whether rules are confluent is decided, so what a `Joined` keeps can be used.
use Rattle.std.proofs.Common.{inl, inr}
use Rattle.std.specs.Prelude.{◌⊎◌}
use Rattle.std.proofs.Math.Logic.{∥∥₁_elim}
use Rattle.rewriting_theory.specs.Rewriting.{AreConfluent}
use Rattle.rewriting_theory.proofs.PairListLemmas.{first_unjoined, decided}
use Rattle.rewriting_theory.proofs.ExistLemmas.{list_exists}
use Rattle.path_order.specs.RulesView.{plain_rules_in}
use Rattle.path_order.specs.declared.rules.Rules.{Rules}
use Rattle.path_order.proofs.RulesLemmas.{rules_well_formed, rules_end}
use Rattle.critical_pairs.specs.declared.joined.Joined.{Joined}

pub confluence_decided : (rules : Rules) → AreConfluent (plain_rules_in rules) ⊎ (¬ AreConfluent (plain_rules_in rules))
confluence_decided rules =
    decided (plain_rules_in rules) (list_exists (plain_rules_in rules)).0 (rules_well_formed rules) (rules_end rules)
    (list_exists (plain_rules_in rules)).1
    (first_unjoined (plain_rules_in rules) (rules_well_formed rules) (rules_end rules) (list_exists (plain_rules_in rules)).0)

-- the rules of a `Joined` are confluent
pub joined_confluent : (joined : Joined) → AreConfluent (plain_rules_in joined.rules)
joined_confluent joined = go (confluence_decided joined.rules)
  where
    go : AreConfluent (plain_rules_in joined.rules) ⊎ (¬ AreConfluent (plain_rules_in joined.rules))
        → AreConfluent (plain_rules_in joined.rules)
    go (inl is) = is
    go (inr is_not) = absurd (∥∥₁_elim joined.confluent (λ a b. absurd a) is_not)
