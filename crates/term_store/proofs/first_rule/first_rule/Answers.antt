use Rattle.std.proofs.Common.{rules, ap, sym, subst}
use Rattle.std.specs.Prelude.{Option, MatchOption}
use Rattle.sort_terms.specs.ProfiledTerm.{bare, all_bare}
use Rattle.path_order.specs.RulesView.{signature_in}
use Rattle.term_store.specs.Cells.{members, key_terms}
use Rattle.term_store.specs.FirstRule.{Found, NoRule, IsFirstRuleAt}
use Rattle.term_store.specs.SharedView.{keys_in}
use Rattle.term_store.proofs.FirstRuleLemmas.{no_rule_variable, operation_term, open_rules, first_of_two, among_found, of_found}
use Rattle.term_store.proofs.SearchLemmas.{members_below}
use Rattle.term_store.proofs.first_rule.first_rule.Goals as goal

pub returns-in_default : goal.returns-in_default
returns-in_default c =
    no_rule_variable c.args.rules.now (keys_in c.args.shared.now) c.args.number c.requires.have c.requires.within c.in_default.ensures

pub beginning-begun-requires-clause-below : goal.beginning-begun-requires-clause-below
beginning-begun-requires-clause-below c =
    members_below (keys_in c.args.shared.now) c.args.number c.in-Some.op c.in-Some.arguments.now c.requires.have.cells
    c.requires.within c.in-Some.ensures

pub first_among-requires-clause-numbers : goal.first_among-requires-clause-numbers
first_among-requires-clause-numbers c =
    (open_rules c.args.rules.now c.args.index.now c.in-Some.op c.under.result.now c.requires.index c.under.ensures).within

pub returns : goal.returns
returns c =
    let rules_ = c.args.rules.now in
    let keys = keys_in c.args.shared.now in
    let ns = c.in-Some.arguments.now in
    of_found rules_ keys c.args.number c.earlier.new.lists.pairs.items c.earlier.result
    (subst (λ (o : Option Found). MatchOption o (NoRule c.args.rules.now (keys_in c.args.shared.now) c.args.number)
    (λ found. IsFirstRuleAt c.args.rules.now (keys_in c.args.shared.now) c.args.number found.0 found.1))
    (sym c.earlier.ensures)
    (first_of_two rules_ keys c.args.number c.in-Some.op (all_bare (members (key_terms (signature_in rules_) keys) ns))
    c.under.result.now c.beginning-begun.result.now _ _
    (ap bare (operation_term (signature_in rules_) keys c.args.number c.in-Some.op ns c.requires.have c.requires.within
    c.in-Some.ensures))
    (open_rules rules_ c.args.index.now c.in-Some.op c.under.result.now c.requires.index c.under.ensures) c.beginning-begun.ensures
    (among_found rules_ keys c.args.number c.under.result.now _ c.in_ok-open.open c.in_ok-open.ensures)
    (among_found rules_ keys c.args.number c.beginning-begun.result.now _ c.in_ok-other.other c.in_ok-other.ensures)))
