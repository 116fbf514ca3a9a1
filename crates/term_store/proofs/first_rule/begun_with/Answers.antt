use Rattle.term_store.proofs.FirstRuleLemmas.{headed_rules, first_rules}
use Rattle.term_store.proofs.first_rule.begun_with.Goals as goal

pub returns-then-firsts-headed : goal.returns-then-firsts-headed
returns-then-firsts-headed c =
    first_rules c.args.rules.now c.args.index.now c.args.op c.args.first c.under-firsts.result.now c.requires c.under-firsts.ensures

pub returns-else-firsts-headed : goal.returns-else-firsts-headed
returns-else-firsts-headed c = headed_rules c.args.rules.now c.args.op c.args.first c.headed-headed.result.now c.headed-headed.ensures
