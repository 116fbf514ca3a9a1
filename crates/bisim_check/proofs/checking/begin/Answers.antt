use Rattle.std.proofs.Common.{ap, sym, subst}
use Rattle.lotos_base.specs.Equation.{Data}
use Rattle.lotos_base.specs.Term.{Term}
use Rattle.menu_builder.proofs.HandedOn.{held_before, holds_after}
use Rattle.bisim_check.specs.Readings.{pairs_among, AreListedIn}
use Rattle.bisim_check.specs.Surveys.{AreSurveyed, IsSideOf, IsStateIn}
use Rattle.bisim_check.proofs.checking.begin.Goals as goal

pub start-requires-2-clause-side : goal.start-requires-2-clause-side
start-requires-2-clause-side g c =
    holds_after (λ (d : Data) (k : Term → Term). IsSideOf d.signature c.args.right.now.spec.now) c.in_ok-lefts.ensures.same_known
    c.requires.right

pub start-requires-2-clause-start : goal.start-requires-2-clause-start
start-requires-2-clause-start g c =
    holds_after (λ (d : Data) (k : Term → Term). IsStateIn d.signature c.args.right.now.spec.now c.args.right_start.now)
    c.in_ok-lefts.ensures.same_known c.requires.right_start

pub returns-clause-begins : goal.returns-clause-begins
returns-clause-begins g c = λ i. record {
  lefts = c.in_ok-lefts.ensures.one i;
  rights = c.in_ok-rights.ensures.one i;
  pairs = ap (pairs_among c.in_ok-lefts.lefts.items c.in_ok-rights.rights.items) c.new.ensures.items i;
}

pub returns-clause-kept : goal.returns-clause-kept
returns-clause-kept g c = record {
  lefts = c.in_ok-lefts.ensures.surveyed;
  rights = held_before (λ (d : Data) (k : Term → Term). AreSurveyed d k c.args.right.now.spec.now c.in_ok-rights.rights.items)
      c.in_ok-lefts.ensures.same_known c.in_ok-rights.ensures.surveyed;
  pairs = subst (AreListedIn c.in_ok-lefts.lefts.items c.in_ok-rights.rights.items) (sym c.new.ensures.items) tt;
}
