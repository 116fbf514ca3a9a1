use Rattle.std.proofs.Common.{arith, ◌<◌, length}
use Rattle.path_order.specs.RulesView.{signature_in}
use Rattle.term_store.specs.SharedView.{keys_in}
use Rattle.term_store.proofs.FirstRuleLemmas.{first_variable, first_is}
use Rattle.term_store.proofs.first_rule.first_operation.Goals as goal

pub returns-in-None : goal.returns-in-None
returns-in-None c =
    let some : 0 < length c.args.numbers.now = grind arith in
    first_variable (signature_in c.args.rules.now) (keys_in c.args.shared.now) c.args.numbers.now c.requires.have c.requires.below some
    c.in-None.ensures

pub returns-in-Some : goal.returns-in-Some
returns-in-Some c =
    let some : 0 < length c.args.numbers.now = grind arith in
    first_is (signature_in c.args.rules.now) (keys_in c.args.shared.now) c.args.numbers.now c.in-Some.op c.in-Some.field-0-1.now
    c.requires.have c.requires.below some c.in-Some.ensures
