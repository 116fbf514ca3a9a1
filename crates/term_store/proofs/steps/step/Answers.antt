use Rattle.std.proofs.Common.{subst, List, ℕ}
use Rattle.sort_terms.specs.TermView.{profiled_of}
use Rattle.term_store.specs.Numbered.{IsInstanceOf, numbered_substitution}
use Rattle.term_store.specs.SharedView.{keys_in}
use Rattle.term_store.proofs.StepLemmas.{no_step, found_rule, right_kept, right_made}
use Rattle.term_store.proofs.steps.step.Goals as goal

pub returns-in_err-instance-in-Some-clause-have : goal.returns-in_err-instance-in-Some-clause-have
returns-in_err-instance-in-Some-clause-have c =
    right_kept c.args.rules.now (keys_in c.args.shared.now) (keys_in c.instance.new.shared) c.in-Some.rule c.rule_at.result.now
    c.term-right.result.now c.rule_at.ensures c.term-right.ensures c.instance.ensures.takes c.requires.have

pub returns-in-None-clause-step : goal.returns-in-None-clause-step
returns-in-None-clause-step c =
    no_step c.args.rules.now (keys_in c.args.shared.now) c.args.number c.first_rule.new.lists.pairs.items c.in_ok-first_rule.field-0 c.in-None.is c.in_ok-first_rule.ensures

pub returns-in_ok-instance-in-Some-clause-have : goal.returns-in_ok-instance-in-Some-clause-have
returns-in_ok-instance-in-Some-clause-have c =
    right_kept c.args.rules.now (keys_in c.args.shared.now) (keys_in c.instance.new.shared) c.in-Some.rule c.rule_at.result.now
    c.term-right.result.now c.rule_at.ensures c.term-right.ensures c.instance.ensures.takes c.requires.have

pub returns-in_ok-instance-in-Some-clause-step : goal.returns-in_ok-instance-in-Some-clause-step
returns-in_ok-instance-in-Some-clause-step c =
    let found = found_rule c.args.rules.now (keys_in c.args.shared.now) c.args.number c.in-Some.rule c.first_rule.new.lists.pairs.items
    c.in_ok-first_rule.field-0 c.in-Some.is c.in_ok-first_rule.ensures in
    let made = subst (λ (pairs : List (ℕ × ℕ)). IsInstanceOf (numbered_substitution pairs (keys_in c.args.shared.now))
    (profiled_of c.term-right.result.now) (keys_in c.args.shared.now) (keys_in c.instance.new.shared) c.in_ok-instance-in-Some.field-0)
    c.as_slice.ensures.value c.in_ok-instance-in-Some.ensures.number in
    right_made c.args.rules.now (keys_in c.args.shared.now) (keys_in c.instance.new.shared) c.args.number c.in-Some.rule
    c.in_ok-instance-in-Some.field-0 c.first_rule.new.lists.pairs.items c.rule_at.result.now c.term-right.result.now c.requires.have
    c.requires.within found c.rule_at.ensures c.term-right.ensures c.instance.ensures.takes made
