-- The drafts of a list that a label meets, and when other drafts may stand for them.
use Rattle.std.specs.Prelude.{◌≡◌, List, [], ◌∷◌, Bool, false, ◌||◌, if◌then◌else◌}
use Rattle.lotos_base.specs.Substitution.{Substitution}
use Rattle.behaviour_semantics.specs.Behaviour.{SynchronisationSet}
use Rattle.behaviour_semantics.specs.Draft as plain
use Rattle.behaviour_semantics.specs.Draft.{draft_with}
use Rattle.behaviour_semantics.specs.Join.{both_drafts}
use Rattle.behaviour_tree.specs.declared.moves.Label.{Label}
use Rattle.event_offers.specs.OfferView.{plain_draft}
use Rattle.event_offers.specs.declared.drafts.Draft.{Draft}
use Rattle.draft_parts.specs.Meeting.{meet_told}

-- the drafts that the label of a left side meets
abbrev pub met_of : SynchronisationSet → Label → List Draft → List plain.Draft
met_of meet label [] = []
met_of meet label (d ∷ drafts) =
    if meet_told meet label d.label then plain_draft d ∷ met_of meet label drafts else met_of meet label drafts

-- Whether one of the left drafts meets the label.
abbrev pub is_met_by : SynchronisationSet → Label → List Draft → Bool
is_met_by meet label [] = false
is_met_by meet label (d ∷ lefts) = meet_told meet d.label label || is_met_by meet label lefts

-- both sides, the right one with terms for its variables
abbrev pub both_with : plain.Draft → Substitution → plain.Draft → plain.Draft
both_with left values right = both_drafts left (draft_with values right)

-- To the left draft one list of right drafts is as good as another: it meets the same.
abbrev pub AreSameFor : SynchronisationSet → List Draft → List Draft → Draft → Type 0
AreSameFor meet rights others left = met_of meet left.label others ≡ met_of meet left.label rights

-- and one right draft as good as another
abbrev pub IsSameFor : SynchronisationSet → Draft → Draft → Draft → Type 0
IsSameFor meet right other left = AreSameFor meet (right ∷ []) (other ∷ []) left
