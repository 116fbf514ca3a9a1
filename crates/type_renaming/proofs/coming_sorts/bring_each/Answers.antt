use Rattle.std.proofs.Common.{◌+◌, map, drop, length, refl, ap, ◌∙◌, arith}
use Rattle.lotos_base.proofs.Pieces.{next_member}
use Rattle.type_definitions.proofs.WalkLemmas.{next_of, none_of}
use Rattle.sort_terms.specs.Operations.{sort_of}
use Rattle.type_presentations.specs.SortListView.{sorts_in}
use Rattle.type_renaming.specs.CameView.{sorts_with}
use Rattle.type_renaming.proofs.ArrivingLemmas.{begins, ends, one_next}
use Rattle.type_renaming.proofs.MemberLemmas.{sorts_came, sorts_are_lawful, sorts_of, none_counted}
use Rattle.type_renaming.proofs.coming_sorts.bring_each.Goals as goal

pub loop-number-init : goal.loop-number-init
loop-number-init c = record {
  keyed = c.requires.keyed;
  few = omega arith;
  makers = ap (λ ps. length ps) c.requires.fresh.makers ∙ none_counted (length (sorts_in c.args.list.now));
  arriving = λ a of.
      begins (sorts_of a) (sorts_with c.args.list.now c.args.came.now) (sorts_in c.args.list.now) (map sort_of c.args.coming.now)
      c.args.actuals.now of.there_are of.coming_are refl c.requires.fresh.numbers c.requires.fresh.makers c.requires.fresh.clash
      c.requires.fresh.too_many c.requires.differ of.actuals_are;
}

pub actual_at-actual-requires : goal.actual_at-actual-requires
actual_at-actual-requires c = omega (arith, c.loop-number-test.true, c.requires.actuals)

pub bring_one-requires-clause-keyed : goal.bring_one-requires-clause-keyed
bring_one-requires-clause-keyed c = c.loop-number.invariant.keyed

pub bring_one-requires-clause-few : goal.bring_one-requires-clause-few
bring_one-requires-clause-few c = omega (arith, c.loop-number.invariant.few, c.requires.few, c.loop-number-test.true)

pub bring_one-requires-clause-makers : goal.bring_one-requires-clause-makers
bring_one-requires-clause-makers c = c.loop-number.invariant.makers

pub loop-number-preserved : goal.loop-number-preserved
loop-number-preserved c = record {
  keyed = c.in_ok-bring_one.ensures.keyed;
  few = omega (arith, c.in_ok-bring_one.ensures.few, c.loop-number.invariant.few);
  makers = c.in_ok-bring_one.ensures.makers;
  arriving = λ a of.
      one_next (sorts_of a) (sorts_with c.loop-number.list c.loop-number.came) (sorts_with c.bring_one.new.list c.bring_one.new.came)
      c.loop-number.number (map sort_of (drop c.loop-number.number c.args.coming.now))
      (map sort_of (drop (c.loop-number.number + 1) c.args.coming.now)) (sort_of c.index-coming-number.result)
      (drop c.loop-number.number c.args.actuals.now) (drop (c.loop-number.number + 1) c.args.actuals.now) c.actual_at-actual.result
      sorts_are_lawful (c.loop-number.invariant.arriving a of)
      (next_of sort_of c.args.coming.now c.loop-number.number c.index-coming-number.result c.loop-number-test.true
      c.index-coming-number.is)
      (next_member c.args.actuals.now c.loop-number.number c.actual_at-actual.result
      (omega (arith, c.loop-number-test.true, c.requires.actuals)) c.actual_at-actual.ensures)
      (c.in_ok-bring_one.ensures.came a of.source_is);
}

pub returns-clause-keyed : goal.returns-clause-keyed
returns-clause-keyed c = c.loop-number.invariant.keyed

pub returns-clause-came : goal.returns-clause-came
returns-clause-came c = λ a of.
    sorts_came a (sorts_with c.loop-number.list c.loop-number.came)
    (ends (sorts_of a) (sorts_with c.loop-number.list c.loop-number.came) c.loop-number.number
    (map sort_of (drop c.loop-number.number c.args.coming.now)) (drop c.loop-number.number c.args.actuals.now)
    (c.loop-number.invariant.arriving a of)
    (none_of sort_of c.args.coming.now c.loop-number.number (omega (arith, c.loop-number-test.false))))
