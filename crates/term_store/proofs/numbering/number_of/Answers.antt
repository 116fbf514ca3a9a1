use Rattle.std.proofs.Common.{[], arith, subst}
use Rattle.sort_terms.specs.TermView.{profiled_of}
use Rattle.term_store.specs.OnTheWay.{halfway_of, IsOnItsWay}
use Rattle.term_store.specs.SharedView.{keys_in}
use Rattle.term_store.proofs.OnTheWayLemmas.{turns_next, way_begun_with}
use Rattle.term_store.proofs.numbering.number_of.Goals as goal

pub returns-in_err-begin-clause-takes : goal.returns-in_err-begin-clause-takes
returns-in_err-begin-clause-takes c =
    c.begin.ensures.taken (profiled_of c.args.term.now) (keys_in c.args.shared.now)
    (way_begun_with (profiled_of c.args.term.now) (keys_in c.args.shared.now) c.new-left.result.items c.new-made.result.items
    c.new-left.ensures.items c.new-made.ensures.items)

pub loop-next-init : goal.loop-next-init
loop-next-init c =
    c.in_ok-begin.ensures.way (profiled_of c.args.term.now) (keys_in c.args.shared.now)
    (way_begun_with (profiled_of c.args.term.now) (keys_in c.args.shared.now) c.new-left.result.items c.new-made.result.items
    c.new-left.ensures.items c.new-made.ensures.items)

pub loop-next-smaller : goal.loop-next-smaller
loop-next-smaller c =
    let all = turns_next c.loop-next.left.items c.pop.new.self.items c.in-Some.next c.in-Some.ensures.items in
    omega (arith, all, c.in_ok-number_next.ensures.less)

pub loop-next-preserved : goal.loop-next-preserved
loop-next-preserved c =
    c.in_ok-number_next.ensures.way (profiled_of c.args.term.now) (keys_in c.args.shared.now)
    (subst (λ left. IsOnItsWay (profiled_of c.args.term.now) (keys_in c.args.shared.now) []
    (halfway_of (keys_in c.loop-next.shared) left c.loop-next.made.items)) c.in-Some.ensures.items c.loop-next.invariant)

pub returns-in_err-number_next-clause-takes : goal.returns-in_err-number_next-clause-takes
returns-in_err-number_next-clause-takes c =
    c.number_next.ensures.taken (profiled_of c.args.term.now) (keys_in c.args.shared.now)
    (subst (λ left. IsOnItsWay (profiled_of c.args.term.now) (keys_in c.args.shared.now) []
    (halfway_of (keys_in c.loop-next.shared) left c.loop-next.made.items)) c.in-Some.ensures.items c.loop-next.invariant)
