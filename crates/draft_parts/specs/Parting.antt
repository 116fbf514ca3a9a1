-- The drafts of moves that a side of a parallel makes alone, and the others.
use Rattle.std.specs.Prelude.{List, [], ◌∷◌, if◌then◌else◌}
use Rattle.behaviour_semantics.specs.Behaviour.{SynchronisationSet}
use Rattle.behaviour_semantics.specs.Rule.{moves_alone}
use Rattle.behaviour_tree.specs.MoveView.{label_of}
use Rattle.event_offers.specs.declared.drafts.Draft.{Draft}

abbrev pub alone_among : SynchronisationSet → List Draft → List Draft
alone_among meet [] = []
alone_among meet (d ∷ drafts) =
    if moves_alone meet (label_of d.label) then d ∷ alone_among meet drafts else alone_among meet drafts

abbrev pub meeting_among : SynchronisationSet → List Draft → List Draft
meeting_among meet [] = []
meeting_among meet (d ∷ drafts) =
    if moves_alone meet (label_of d.label) then meeting_among meet drafts else d ∷ meeting_among meet drafts
