-- Moves with terms put in, leaf variables with higher numbers, and what two drafts make together.
use Rattle.std.specs.Prelude.{ℕ, ◌+◌, ◌++◌, length, map, Bool, nat_lt, if◌then◌else◌, Option, None, Some}
use Rattle.lotos_base.specs.Signature.{Signature}
use Rattle.lotos_base.specs.Substitution.{Substitution, renaming}
use Rattle.behaviour_semantics.specs.Behaviour.{SynchronisationSet, all_gates}
use Rattle.behaviour_semantics.specs.Label.{Label, inner_event, gate_event, exit_event}
use Rattle.behaviour_semantics.specs.Replacement.{test_with, with_values}
use Rattle.behaviour_semantics.specs.Rule.{synchronises, move_together, label_values, pairwise}
use Rattle.behaviour_semantics.specs.Shape.{both_sides}
use Rattle.behaviour_semantics.specs.Move.{Move}
use Rattle.behaviour_semantics.specs.Draft.{Draft, label_with, draft_with}

-- The move with terms put in for its variables.
abbrev pub move_with : Substitution → Move → Move
move_with values m = record {
  label = label_with values m.label;
  target = with_values values m.target;
  asked = map (test_with values) m.asked;
  sorts = m.sorts;
}

-- The variables from `base` on with numbers that are higher by `shift`. Those below, which are bound, stay.
abbrev pub raised_from : ℕ → ℕ → Substitution
raised_from base shift = renaming (λ n s. if nat_lt n base then n else n + shift)

-- All variables with numbers that are higher.
abbrev pub raised : ℕ → Substitution
raised shift = renaming (λ n s. n + shift)

-- The draft of both sides together, with the label of the left one and its leaves first; its conditions are those of
-- the left, those of the right, and then one equation for each pair of values.
abbrev pub both_drafts : Draft → Draft → Draft
both_drafts left right = record {
  shape = both_sides left.shape right.shape;
  label = left.label;
  leaves = left.leaves ++ right.leaves;
  conditions = left.conditions ++ right.conditions ++ pairwise (label_values left.label) (label_values right.label);
}

-- The join of two drafts: there is none where the labels differ in kind, gate, number of values or a value's sort, or are
-- inner events. The numbers of the right variables are raised by the number of the left leaves.
abbrev pub join_of_drafts : Signature → Draft → Draft → Option Draft
join_of_drafts signature left right =
    if move_together signature all_gates left.label right.label
    then Some (both_drafts left (draft_with (raised (length left.leaves)) right))
    else None

-- The sides of a parallel meet with this label: at a gate where they meet, or both ending.
abbrev pub meets_with : SynchronisationSet → Label → Bool
meets_with meet inner_event = Bool.false
meets_with meet (gate_event g values) = synchronises meet g
meets_with meet (exit_event values) = Bool.true
