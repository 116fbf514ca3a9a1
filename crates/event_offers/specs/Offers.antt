-- What calls ask of drafts and entries over a signature: their plain values are in order, and their terms carry the
-- profiles of the signature.
use Rattle.std.specs.Prelude.{◌≡◌, List}
use Rattle.lotos_base.specs.Signature.{Signature, IsSort}
use Rattle.behaviour_semantics.specs.Behaviour.{Test}
use Rattle.behaviour_semantics.specs.Rule.{label_values}
use Rattle.behaviour_semantics.specs.Solving as solving
use Rattle.behaviour_semantics.specs.SolvingLaws.{IsTermOver}
use Rattle.behaviour_semantics.specs.DraftOrder.{IsInOrder, as_draft}
use Rattle.behaviour_semantics.specs.WellFormed.{Every}
use Rattle.sort_terms.specs.ProfiledTerm.{ProfiledTerm, head_sort, IsOf}
use Rattle.behaviour_tree.specs.BehaviourTerms.{profiles_of}
use Rattle.behaviour_tree.specs.Over.{AreTermsOf}
use Rattle.event_offers.specs.OfferView.{condition_profiles, label_profiles, plain_draft, plain_entry}
use Rattle.event_offers.specs.declared.drafts.Draft.{Draft}
use Rattle.event_offers.specs.declared.drafts.Entry.{Entry}

-- Two terms, and two terms each of a list, are of the signature.
abbrev pub IsConditionOf : Signature → ProfiledTerm × ProfiledTerm → Type 0
IsConditionOf signature pair = IsOf signature pair.0 × IsOf signature pair.1

abbrev pub AreConditionsOf : Signature → List (ProfiledTerm × ProfiledTerm) → Type 0
AreConditionsOf signature pairs = Every (IsConditionOf signature) pairs

-- The draft is in order over the signature.
pub record IsDraftOver (signature : Signature) (draft : Draft) : Type 0 where
  pub order : IsInOrder signature (plain_draft draft)
  pub values : AreTermsOf signature (label_profiles draft.label)
  pub leaves : AreTermsOf signature (profiles_of draft.leaves.items)
  pub conditions : AreConditionsOf signature (condition_profiles draft.conditions.items)

-- The two sides of each condition have one sort.
abbrev pub HaveOneSort : List (ProfiledTerm × ProfiledTerm) → Type 0
HaveOneSort pairs = Every (λ (pair : ProfiledTerm × ProfiledTerm). head_sort pair.0 ≡ head_sort pair.1) pairs

-- The entry is in order over the signature: its variables have sorts of the signature, and each variable in it has the
-- number of one of these, and the sort that stands there.
pub record IsOrderedEntry (signature : Signature) (entry : solving.Entry) : Type 0 where
  pub sorts : Every (IsSort signature) entry.variables
  pub over_values : Every (IsTermOver entry.variables) (label_values entry.label)
  pub over_leaves : Every (IsTermOver entry.variables) entry.leaves
  pub over_left : Every (λ (test : Test). IsTermOver entry.variables test.left) entry.conditions
  pub over_right : Every (λ (test : Test). IsTermOver entry.variables test.right) entry.conditions

-- So is the entry of the code, and its terms are of the signature.
pub record IsEntryOf (signature : Signature) (entry : Entry) : Type 0 where
  pub order : IsOrderedEntry signature (plain_entry entry)
  pub values : AreTermsOf signature (label_profiles entry.label)
  pub leaves : AreTermsOf signature (profiles_of entry.leaves.items)
  pub conditions : AreConditionsOf signature (condition_profiles entry.conditions.items)

-- So is the entry that solving leaves, and it is in order when it is read as a draft.
pub record IsEntryOver (signature : Signature) (entry : Entry) : Type 0 where
  pub entry_of : IsEntryOf signature entry
  pub as_draft : IsInOrder signature (as_draft (plain_entry entry))
