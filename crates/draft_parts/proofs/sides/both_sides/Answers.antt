use Rattle.std.proofs.Common.{◌≡◌, length, arith, vec_len}
use Rattle.behaviour_tree.specs.BehaviourView.{meet_of}
use Rattle.draft_parts.proofs.ListLemmas.{empty_rest}
use Rattle.draft_parts.proofs.MetLemmas.{half_more, half_done}
use Rattle.draft_parts.proofs.sides.both_sides.Goals as goal

pub loop-left-preserved : goal.loop-left-preserved
loop-left-preserved c =
    half_more (meet_of c.args.meet.now) c.args.first c.len.result c.args.lefts.items c.args.rights.items c.loop-left.rest.items
    c.pop.new.self.items c.loop-left.others.items c.met_rights.new.rights.items c.loop-left.made.items c.push_met.new.drafts.items
    c.in_ok-met.met.items c.in-Some.left c.in-Some.ensures.items
    (let count : c.len.result ≡ length c.in-Some.left.leaves.items = omega arith in count)
    c.in_ok-met.ensures.same c.in_ok-push_met.ensures.same c.in_ok-met.ensures.kept
    (λ signature h k made. c.in_ok-push_met.ensures.over signature h (c.in_ok-met.ensures.over signature k) made)
    (λ signature k. c.in_ok-met.ensures.kept_over signature k) c.loop-left.invariant

pub returns-clause-same : goal.returns-clause-same
returns-clause-same c = λ signature h k.
    half_done (meet_of c.args.meet.now) c.args.first c.args.lefts.items c.args.rights.items c.loop-left.rest.items
    c.loop-left.others.items c.loop-left.made.items signature
    (empty_rest c.pop.result c.loop-left.rest.items (vec_len c.loop-left.rest) c.pop.ensures.variant c.loop-left.rest.ok.0
    c.in_default.not-Some) c.loop-left.invariant h k

pub returns-clause-over : goal.returns-clause-over
returns-clause-over c = λ signature h k. (c.loop-left.invariant.over signature h k).0
