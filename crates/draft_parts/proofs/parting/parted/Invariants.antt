use Rattle.std.proofs.Common.{◌≡◌, ◌++◌, length}
use Rattle.std.specs.Vec.Iter.{into_iter_items, into_iter_len}
use Rattle.behaviour_tree.specs.BehaviourView.{meet_of}
use Rattle.draft_parts.specs.Parting.{alone_among, meeting_among}
use Rattle.draft_parts.proofs.parting.parted.Given as goal

abbrev pub invariant-loop-draft : goal.invariant-loop-draft
invariant-loop-draft l =
    (l.alone.items ++ alone_among (meet_of l.meet) (into_iter_items l.draft-iterator)
    ≡ alone_among (meet_of l.meet) (into_iter_items l.initial.draft-iterator))
    × (l.meeting.items ++ meeting_among (meet_of l.meet) (into_iter_items l.draft-iterator)
    ≡ meeting_among (meet_of l.meet) (into_iter_items l.initial.draft-iterator))
    × (into_iter_len l.draft-iterator ≡ length (into_iter_items l.draft-iterator))
