use Rattle.std.proofs.Common.{refl, ap}
use Rattle.behaviour_tree.specs.BehaviourView.{meet_of}
use Rattle.event_offers.specs.declared.drafts.Draft.{Draft}
use Rattle.draft_parts.proofs.MetLemmas.{copy_same, taken_same}
use Rattle.draft_parts.proofs.sides.taken.Goals as goal

pub returns-then-is_needed-clause-kept : goal.returns-then-is_needed-clause-kept
returns-then-is_needed-clause-kept c = copy_same (meet_of c.args.meet.now) c.args.right.now c.args.later.now.items

pub returns-clause-kept : goal.returns-clause-kept
returns-clause-kept c =
    taken_same (meet_of c.args.meet.now) c.args.right.now c.replace.new.dest c.args.later.now.items
    (ap (λ (d : Draft). d.label) c.replace.ensures.after) (c.if-is_needed.ensures refl)
