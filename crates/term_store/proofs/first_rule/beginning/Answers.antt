use Rattle.std.proofs.Common.{sym, subst, ◌∙◌}
use Rattle.std.specs.Prelude.{Option, ℕ}
use Rattle.term_store.specs.FirstRule.{BeginsAs, HasAllRules}
use Rattle.term_store.proofs.FirstRuleLemmas.{listed_none}
use Rattle.term_store.proofs.first_rule.beginning.Goals as goal

pub returns-in-None : goal.returns-in-None
returns-in-None c = listed_none c.args.rules.now c.args.op _ (sym c.in-None.is ∙ c.first_operation.ensures)

pub returns-in-Some : goal.returns-in-Some
returns-in-Some c =
    subst (λ (o : Option ℕ). HasAllRules c.args.rules.now (BeginsAs c.args.op o) c.begun_with.result.now)
    (sym c.in-Some.is ∙ c.first_operation.ensures) c.begun_with.ensures
