-- When sides meet and what ends `>>`, told by the profiles that values carry.
use Rattle.std.specs.Prelude.{ℕ, List, [], ◌∷◌, Bool, true, false, ◌&&◌, nat_eq}
use Rattle.behaviour_semantics.specs.Behaviour.{SynchronisationSet}
use Rattle.behaviour_semantics.specs.Rule.{synchronises}
use Rattle.sort_terms.specs.ProfiledTerm.{ProfiledTerm, head_sort}
use Rattle.behaviour_tree.specs.declared.moves.Label.{Label}
use Rattle.behaviour_tree.specs.declared.moves.Label.TheVariants.{Inner, Gate, Exit}
use Rattle.event_offers.specs.Joining.{like_labels}

-- The sides synchronise at the gate of the label, or it is an end.
abbrev pub may_be_met : SynchronisationSet → Label → Bool
may_be_met meet Inner = false
may_be_met meet (Gate g values) = synchronises meet g
may_be_met meet (Exit values) = true

-- The labels are those of one event at which the sides synchronise.
abbrev pub meet_told : SynchronisationSet → Label → Label → Bool
meet_told meet left right = like_labels left right && may_be_met meet left

-- As many terms as sorts, and the head of each tells its sort.
abbrev pub sorts_told : List ProfiledTerm → List ℕ → Bool
sorts_told [] [] = true
sorts_told [] (s ∷ ss) = false
sorts_told (t ∷ ts) [] = false
sorts_told (t ∷ ts) (s ∷ ss) = nat_eq (head_sort t) s && sorts_told ts ss
