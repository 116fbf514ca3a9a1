use Rattle.std.proofs.Common.{◌+◌, map, drop, length, refl, ap, ◌∙◌, arith}
use Rattle.lotos_base.proofs.Pieces.{next_member}
use Rattle.type_definitions.proofs.WalkLemmas.{next_of, none_of}
use Rattle.sort_terms.specs.Operations.{operation_of}
use Rattle.type_presentations.specs.OperationListView.{operations_in}
use Rattle.type_renaming.specs.CameView.{operations_with}
use Rattle.type_renaming.proofs.ArrivingLemmas.{begins, ends, one_next}
use Rattle.type_renaming.proofs.MemberLemmas.{operations_came, operations_are_lawful, operations_of, none_counted, turned_settled}
use Rattle.type_renaming.proofs.coming_operations.bring_each.Goals as goal

pub loop-number-init : goal.loop-number-init
loop-number-init c = record {
  keyed = c.requires.keyed;
  few = omega arith;
  makers = ap (λ ps. length ps) c.requires.fresh.makers ∙ none_counted (length (operations_in c.args.list.now));
  arriving = λ a of.
      begins (operations_of a) (operations_with c.args.list.now c.args.came.now) (operations_in c.args.list.now) (map
      (λ op. operation_of op.value) c.args.coming.now)
      c.args.actuals.now of.there_are of.coming_are refl c.requires.fresh.numbers c.requires.fresh.makers c.requires.fresh.clash
      c.requires.fresh.too_many c.requires.differ of.actuals_are;
}

pub actual_at-actual-requires : goal.actual_at-actual-requires
actual_at-actual-requires c = omega (arith, c.loop-number-test.true, c.requires.actuals)

pub bring_one-requires-clause-keyed : goal.bring_one-requires-clause-keyed
bring_one-requires-clause-keyed c = c.loop-number.invariant.keyed

pub bring_one-requires-clause-few : goal.bring_one-requires-clause-few
bring_one-requires-clause-few c = omega (arith, c.loop-number.invariant.few, c.requires.few, c.loop-number-test.true)

pub bring_one-requires-clause-makers : goal.bring_one-requires-clause-makers
bring_one-requires-clause-makers c = c.loop-number.invariant.makers

pub loop-number-preserved : goal.loop-number-preserved
loop-number-preserved c = record {
  keyed = c.in_ok-bring_one.ensures.keyed;
  few = omega (arith, c.in_ok-bring_one.ensures.few, c.loop-number.invariant.few);
  makers = c.in_ok-bring_one.ensures.makers;
  arriving = λ a of.
      one_next (operations_of a) (operations_with c.loop-number.list c.loop-number.came)
      (operations_with c.bring_one.new.list c.bring_one.new.came)
      c.loop-number.number (map (λ op. operation_of op.value) (drop c.loop-number.number c.args.coming.now))
      (map (λ op. operation_of op.value) (drop (c.loop-number.number + 1) c.args.coming.now))
      (operation_of c.index-coming-number.result.value)
      (drop c.loop-number.number c.args.actuals.now) (drop (c.loop-number.number + 1) c.args.actuals.now) c.actual_at-actual.result
      operations_are_lawful (c.loop-number.invariant.arriving a of)
      (next_of (λ op. operation_of op.value) c.args.coming.now c.loop-number.number c.index-coming-number.result c.loop-number-test.true
      c.index-coming-number.is)
      (next_member c.args.actuals.now c.loop-number.number c.actual_at-actual.result
      (omega (arith, c.loop-number-test.true, c.requires.actuals)) c.actual_at-actual.ensures)
      (turned_settled c.deref.result.now c.index-coming-number.result.value a _ _ c.actual_at-actual.result c.deref.ensures
      (c.in_ok-bring_one.ensures.came a of.source_is));
}

pub returns-clause-keyed : goal.returns-clause-keyed
returns-clause-keyed c = c.loop-number.invariant.keyed

pub returns-clause-came : goal.returns-clause-came
returns-clause-came c = λ a of.
    operations_came a (operations_with c.loop-number.list c.loop-number.came)
    (ends (operations_of a) (operations_with c.loop-number.list c.loop-number.came) c.loop-number.number
    (map (λ op. operation_of op.value) (drop c.loop-number.number c.args.coming.now)) (drop c.loop-number.number c.args.actuals.now)
    (c.loop-number.invariant.arriving a of)
    (none_of (λ op. operation_of op.value) c.args.coming.now c.loop-number.number (omega (arith, c.loop-number-test.false))))
