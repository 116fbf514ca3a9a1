use Rattle.std.proofs.Common.{ℕ, subst}
use Rattle.rewriting_theory.specs.Matching.{Matches, NoMatch}
use Rattle.rewriting_theory.specs.Rule.{Rule, IsRule}
use Rattle.sort_terms.specs.TermView.{profiled_of, term_of}
use Rattle.sort_terms.specs.declared.terms.Term.{Term as CodeTerm}
use Rattle.term_rewriter.specs.FirstMatch.{NoneMatches, IsFirstRule}
use Rattle.induct_parts.specs.SettingView.{setting_rules}
use Rattle.induct_parts.proofs.Outcomes.{there_is_one, there_is_none}
use Rattle.induct_parts.proofs.RuleFacts.{first_is_rule, none_is_rule}
use Rattle.induct_parts.proofs.patterns.some_rule_matches.Goals as goal

pub returns-clause-yes : goal.returns-clause-yes
returns-clause-yes c = λ is.
    let rules = c.args.setting.now.rules.now in
    let found = there_is_one (NoneMatches rules.rules.items (profiled_of c.term.result.now))
    (λ (number : ℕ). IsFirstRule rules.rules.items number (profiled_of c.term.result.now)) c.in_ok-found.found c.is_some.result
    c.is_some.ensures is c.in_ok-found.ensures in
    subst (λ (t : CodeTerm). (rule : Rule) × IsRule (setting_rules c.args.setting.now) rule × Matches rule.left (term_of t)) c.term.ensures
    (first_is_rule rules found.0 (profiled_of c.term.result.now) found.1)

pub returns-clause-none : goal.returns-clause-none
returns-clause-none c = λ is.
    let rules = c.args.setting.now.rules.now in
    subst (λ (t : CodeTerm). NoMatch (setting_rules c.args.setting.now) (term_of t)) c.term.ensures
    (none_is_rule rules (profiled_of c.term.result.now)
    (there_is_none (NoneMatches rules.rules.items (profiled_of c.term.result.now))
    (λ (number : ℕ). IsFirstRule rules.rules.items number (profiled_of c.term.result.now)) c.in_ok-found.found c.is_some.result
    c.is_some.ensures is c.in_ok-found.ensures))
