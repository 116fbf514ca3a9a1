use Rattle.std.proofs.Common.{◌<◌, length, arith, ap, sym, ◌∙◌}
use Rattle.std.specs.Prelude.{Vec}
use Rattle.std.specs.declared.alloc.Global.{Global}
use Rattle.behaviour_tree.specs.BehaviourView.{meet_of}
use Rattle.event_offers.specs.declared.drafts.Draft.{Draft}
use Rattle.draft_parts.specs.Meeting.{meet_told}
use Rattle.draft_parts.proofs.MetLemmas.{met_more, met_passed, one_at}
use Rattle.draft_parts.proofs.sides.met_rights.Goals as goal
use Rattle.draft_parts.proofs.sides.met_rights.Goals.{then-may_meet+in_ok-right+in_ok-push, else-may_meet}

pub loop-i-preserved : goal.loop-i-preserved
loop-i-preserved c =
    let within : c.loop-i.i < length c.loop-i.rights.items = omega (arith, c.loop-i.invariant.count) in
    elim c.if-may_meet.branch [
      | then-may_meet+in_ok-right+in_ok-push w ↦
          met_more (meet_of c.args.meet.now) c.args.label.now c.args.later.now.items c.args.rights.now.items c.loop-i.rights.items
          c.if-may_meet.rights.items c.loop-i.made.items c.if-may_meet.made.items c.loop-i.i w.index_mut.result.now w.taken.new.right
          w.in_ok-right.right within w.index_mut.ensures.value
          (ap (λ (v : Vec Draft Global). v.items) w.rights-is)
          (ap (λ (v : Vec Draft Global). v.items) w.made-is ∙ w.in_ok-push.ensures.items)
          (ap (λ (d : Draft). meet_told (meet_of c.args.meet.now) c.args.label.now d.label)
          (one_at c.loop-i.rights.items c.loop-i.i w.index_mut.result.now c.index.result.now within w.index_mut.ensures.value
          c.index.ensures) ∙ sym w.if-may_meet.ensures)
          w.in_ok-right.ensures.same (λ signature h. w.in_ok-right.ensures.over signature h)
          (λ signature h. w.in_ok-right.ensures.kept_over signature h) w.in_ok-right.ensures.kept c.loop-i.invariant
      | else-may_meet w ↦
          rw w.rights-is (rw w.made-is (met_passed (meet_of c.args.meet.now) c.args.label.now c.args.later.now.items
          c.args.rights.now.items c.loop-i.rights.items c.loop-i.made.items c.loop-i.i c.index.result.now within c.index.ensures
          (sym w.if-may_meet.ensures) c.loop-i.invariant))
    ]

pub returns-clause-over : goal.returns-clause-over
returns-clause-over c = λ signature h. (c.loop-i.invariant.over signature h).0

pub returns-clause-kept_over : goal.returns-clause-kept_over
returns-clause-kept_over c = λ signature h. (c.loop-i.invariant.over signature h).1
