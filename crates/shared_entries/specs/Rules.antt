-- What the rules of the code make of entries.
use Rattle.std.specs.Prelude.{◌≡◌, List, map, filter_map, Option, Some}
use Rattle.lotos_base.specs.Signature.{Signature}
use Rattle.behaviour_semantics.specs.Behaviour.{sorts_of}
use Rattle.behaviour_semantics.specs.Label.{Label}
use Rattle.behaviour_semantics.specs.Shape.{Shape, relabelled}
use Rattle.behaviour_semantics.specs.Solving.{Entry}
use Rattle.behaviour_semantics.specs.WellFormed.{Every}
use Rattle.behaviour_tree.specs.BehaviourView.{meet_of, variables_of}
use Rattle.menu_builder.specs.HandedOn.{variant_of}
use Rattle.shared_entries.specs.PartRule.{alone_rule, by_rule, enable_entry, hide_rule, passing_on, under_rule}
use Rattle.shared_entries.specs.Items.{HasItemTerms, plain_item}
use Rattle.shared_entries.specs.declared.items.Item.{Item}
use Rattle.shared_entries.specs.declared.rules.PartRule.{PartRule}
use Rattle.shared_entries.specs.declared.rules.PartRule.TheVariants.{Same, Below, Alone, Hidden, Relabelled, Under, Enabled}

-- the entry below a variant, with another label
abbrev pub entry_below : (Shape → Shape) → Label → Entry → Entry
entry_below variant label entry = record entry { shape = variant entry.shape; label = label }

-- the entry that the rule makes of an entry, if it makes one
abbrev pub entry_made_by : Signature → PartRule → Entry → Option Entry
entry_made_by signature Same = λ entry. Some entry
entry_made_by signature (Below variant) = by_rule (passing_on (variant_of variant))
entry_made_by signature (Alone meet variant) = by_rule (alone_rule (meet_of meet.now) (variant_of variant))
entry_made_by signature (Hidden gates) = by_rule (hide_rule gates.now)
entry_made_by signature (Relabelled pairs variant) = by_rule (under_rule (variant_of variant) pairs.items)
entry_made_by signature (Under pairs) = by_rule (under_rule relabelled pairs.now.items)
entry_made_by signature (Enabled variables) = enable_entry signature (sorts_of (variables_of variables.now.items))

-- The entries are those that the rule makes of the given ones, in order, and their terms are of the signature.
pub record AreEntriesMadeBy (signature : Signature) (rule : Entry → Option Entry) (given made : List Item) : Type 0 where
  pub same : map plain_item made ≡ filter_map rule (map plain_item given)
  pub terms : Every (HasItemTerms signature) made
