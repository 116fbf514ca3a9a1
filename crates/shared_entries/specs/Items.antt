-- The entries that those of the code stand for which share what they have, and their terms.
use Rattle.std.specs.Prelude.{List}
use Rattle.lotos_base.specs.Signature.{Signature}
use Rattle.behaviour_semantics.specs.DraftOrder.{IsInOrder, as_draft}
use Rattle.behaviour_semantics.specs.Solving as solving
use Rattle.sort_terms.specs.ProfiledTerm.{ProfiledTerm}
use Rattle.behaviour_tree.specs.BehaviourTerms.{profiles_of}
use Rattle.behaviour_tree.specs.BehaviourView.{terms_of}
use Rattle.behaviour_tree.specs.MoveView.{label_of, shape_of}
use Rattle.behaviour_tree.specs.Over.{AreTermsOf}
use Rattle.event_offers.specs.OfferView.{condition_profiles, conditions_of, label_profiles}
use Rattle.event_offers.specs.Offers.{AreConditionsOf}
use Rattle.event_offers.specs.declared.drafts.Draft.{Draft}
use Rattle.event_offers.specs.declared.drafts.Entry.{Entry}
use Rattle.shared_entries.specs.declared.items.Item.{Item}

-- the entry
abbrev pub plain_item : Item → solving.Entry
plain_item item = record {
  shape = shape_of item.shape.value;
  label = label_of item.label.value;
  variables = item.solved.value.vars.items;
  leaves = terms_of item.solved.value.leaves.items;
  conditions = conditions_of item.solved.value.conditions.items;
}

-- The terms of an entry or a draft, with their profiles: the values of the label, the leaves, and the sides of the conditions.
pub record ItemTerms : Type 0 where
  pub values : List ProfiledTerm
  pub leaves : List ProfiledTerm
  pub conditions : List (ProfiledTerm × ProfiledTerm)

abbrev pub item_terms : Item → ItemTerms
item_terms item = record {
  values = label_profiles item.label.value;
  leaves = profiles_of item.solved.value.leaves.items;
  conditions = condition_profiles item.solved.value.conditions.items;
}

abbrev pub entry_terms : Entry → ItemTerms
entry_terms entry = record {
  values = label_profiles entry.label;
  leaves = profiles_of entry.leaves.items;
  conditions = condition_profiles entry.conditions.items;
}

abbrev pub draft_terms : Draft → ItemTerms
draft_terms draft = record {
  values = label_profiles draft.label;
  leaves = profiles_of draft.leaves.items;
  conditions = condition_profiles draft.conditions.items;
}

-- the same with other values
abbrev pub values_changed : List ProfiledTerm → ItemTerms → ItemTerms
values_changed values terms = record terms { values = values }

-- They are of the signature, and so carry its profiles.
pub record AreItemTerms (signature : Signature) (terms : ItemTerms) : Type 0 where
  pub values : AreTermsOf signature terms.values
  pub leaves : AreTermsOf signature terms.leaves
  pub conditions : AreConditionsOf signature terms.conditions

-- So are those of an entry that shares them, and of one that shares nothing.
abbrev pub HasItemTerms : Signature → Item → Type 0
HasItemTerms signature item = AreItemTerms signature (item_terms item)

abbrev pub HasEntryTerms : Signature → Entry → Type 0
HasEntryTerms signature entry = AreItemTerms signature (entry_terms entry)

-- Read as a draft the entry is in order, and its terms are of the signature.
pub record IsItemOver (signature : Signature) (item : Item) : Type 0 where
  pub order : IsInOrder signature (as_draft (plain_item item))
  pub terms : HasItemTerms signature item
