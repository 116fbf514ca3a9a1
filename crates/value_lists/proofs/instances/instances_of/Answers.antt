use Rattle.std.proofs.Common.{arith}
use Rattle.value_lists.proofs.TupleCodeLemmas.{count_lists}
use Rattle.value_lists.proofs.instances.instances_of.Goals as goal

pub returns-in_default-clause-fault : goal.returns-in_default-clause-fault
returns-in_default-clause-fault g c =
    let same = count_lists c.args.choices.now in
    let more = c.in_default.ensures in
    omega (arith, same, more)

pub returns-clause-few : goal.returns-clause-few
returns-clause-few g c =
    let same = count_lists c.args.choices.now in
    let is = c.in-Some.ensures.0 in
    let few = c.in-Some.ensures.1 in
    omega (arith, same, is, few)
