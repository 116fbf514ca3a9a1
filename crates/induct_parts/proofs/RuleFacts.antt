-- What is known where the left side of a rule matches a pattern, and where none does.
use Rattle.std.proofs.Common.{ℕ, subst}
use Rattle.lotos_base.specs.Substitution.{binding}
use Rattle.rewriting_theory.specs.Matching.{Matches, NoMatch}
use Rattle.rewriting_theory.specs.Rule.{Rule as PlainRule, IsRule}
use Rattle.sort_terms.specs.ProfiledTerm.{ProfiledTerm, bare}
use Rattle.sort_terms.specs.SortedView.{profiled_in}
use Rattle.path_order.specs.RuleView.{rule_of}
use Rattle.path_order.specs.RulesView.{plain_rules_in}
use Rattle.path_order.specs.declared.rules.Rules.{Rules}
use Rattle.term_match.specs.ProfiledInstance.{bare_pairs}
use Rattle.term_match.proofs.MatchLemmas.{search_is_match}
use Rattle.term_rewriter.specs.FirstMatch.{NoneMatches, IsFirstRule}
use Rattle.term_rewriter.proofs.FirstLemmas.{code_at, plain_at}

pub first_is_rule : (rules : Rules) (number : ℕ) (t : ProfiledTerm) → IsFirstRule rules.rules.items number t
    → (rule : PlainRule) × IsRule (plain_rules_in rules) rule × Matches rule.left (bare t)
first_is_rule rules number t first =
    let m = first.is_first in (
      rule_of m.rule,
      (number, plain_at rules.rules.items number m.rule m.is_at),
      (binding (bare_pairs first.pairs), (search_is_match (profiled_in m.rule.left) t first.pairs m.found).makes),
    )

pub none_is_rule : (rules : Rules) (t : ProfiledTerm) → NoneMatches rules.rules.items t → NoMatch (plain_rules_in rules) (bare t)
none_is_rule rules t none rule there =
    let from = code_at rules.rules.items there.0 rule there.1 in
    subst (λ (r : PlainRule). ¬ Matches r.left (bare t)) from.2 (none there.0 from.0 from.1)
