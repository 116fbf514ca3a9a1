use Rattle.std.proofs.Common.{length, map, refl, arith}
use Rattle.sort_terms.specs.Operations.{sort_of}
use Rattle.type_presentations.specs.SortListView.{sorts_in}
use Rattle.type_renaming.proofs.MemberLemmas.{as_long, fresh_for, same_sorts}
use Rattle.type_renaming.proofs.coming_sorts.bring_sorts.Goals as goal

pub bring_each-requires-clause-few : goal.bring_each-requires-clause-few
bring_each-requires-clause-few c =
    let many = as_long sort_of c.sorts-coming.result.now (sorts_in c.args.base.now.sorts) c.sorts-coming.ensures in
    omega (arith, many, c.requires.few)

pub bring_each-requires-clause-actuals : goal.bring_each-requires-clause-actuals
bring_each-requires-clause-actuals c =
    let many = as_long sort_of c.sorts-coming.result.now (sorts_in c.args.base.now.sorts) c.sorts-coming.ensures in
    omega (arith, many, c.requires.actuals)

pub bring_each-requires-clause-fresh : goal.bring_each-requires-clause-fresh
bring_each-requires-clause-fresh c =
    fresh_for sort_of c.sorts-there.result.now (sorts_in c.args.list.now) c.in_ok-came.came
    (length c.sorts-there.result.now) c.sorts-there.ensures refl
    c.in_ok-came.ensures

pub returns-clause-came : goal.returns-clause-came
returns-clause-came c = λ a of.
    c.in_ok-bring_each.ensures.came a
    (same_sorts a c.args.source.now (sorts_in c.args.list.now) (sorts_in c.args.base.now.sorts) (map sort_of c.sorts-coming.result.now)
    c.args.actuals.now c.sorts-coming.ensures of)
