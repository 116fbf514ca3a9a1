-- The drafts and entries that those of the code stand for, and their terms with profiles.
use Rattle.std.specs.Prelude.{List, [], map}
use Rattle.behaviour_semantics.specs.Behaviour.{Test}
use Rattle.behaviour_semantics.specs.Draft as plain
use Rattle.behaviour_semantics.specs.Solving as solving
use Rattle.sort_terms.specs.ProfiledTerm.{ProfiledTerm}
use Rattle.sort_terms.specs.SortedView.{profiled_in, term_in}
use Rattle.sort_terms.specs.declared.sorted.Sorted.{Sorted}
use Rattle.behaviour_tree.specs.BehaviourView.{terms_of}
use Rattle.behaviour_tree.specs.BehaviourTerms.{profiles_of}
use Rattle.behaviour_tree.specs.MoveView.{label_of, shape_of}
use Rattle.behaviour_tree.specs.declared.moves.Label.{Label}
use Rattle.behaviour_tree.specs.declared.moves.Label.TheVariants.{Inner, Gate, Exit}
use Rattle.event_offers.specs.declared.drafts.Draft.{Draft}
use Rattle.event_offers.specs.declared.drafts.Entry.{Entry}

-- the condition, and the conditions of a list
abbrev pub condition_of : Sorted × Sorted → Test
condition_of pair = record { left = term_in pair.0; right = term_in pair.1 }

abbrev pub conditions_of : List (Sorted × Sorted) → List Test
conditions_of conditions = map condition_of conditions

-- the draft
abbrev pub plain_draft : Draft → plain.Draft
plain_draft draft = record {
  shape = shape_of draft.shape;
  label = label_of draft.label;
  leaves = terms_of draft.leaves.items;
  conditions = conditions_of draft.conditions.items;
}

-- the entry
abbrev pub plain_entry : Entry → solving.Entry
plain_entry entry = record {
  shape = shape_of entry.shape;
  label = label_of entry.label;
  variables = entry.vars.items;
  leaves = terms_of entry.leaves.items;
  conditions = conditions_of entry.conditions.items;
}

-- the two sides of a condition with their profiles, and those of the conditions of a list
abbrev pub condition_sides : Sorted × Sorted → ProfiledTerm × ProfiledTerm
condition_sides pair = (profiled_in pair.0, profiled_in pair.1)

abbrev pub condition_profiles : List (Sorted × Sorted) → List (ProfiledTerm × ProfiledTerm)
condition_profiles conditions = map condition_sides conditions

-- the values of a label with their profiles
abbrev pub label_profiles : Label → List ProfiledTerm
label_profiles Inner = []
label_profiles (Gate gate values) = profiles_of values.items
label_profiles (Exit values) = profiles_of values.items
