-- Lists of drafts that rules make.
use Rattle.std.specs.Prelude.{◌≡◌, ℕ, List, [], ◌∷◌, ◌++◌, length, map, filter_map, Option, None, Some, if◌then◌else◌}
use Rattle.lotos_base.specs.Signature.{Signature}
use Rattle.lotos_base.specs.Substitution.{Substitution}
use Rattle.behaviour_semantics.specs.Behaviour.{SynchronisationSet}
use Rattle.behaviour_semantics.specs.Draft as plain
use Rattle.behaviour_semantics.specs.Draft.{draft_with}
use Rattle.behaviour_semantics.specs.Join.{both_drafts, raised_from}
use Rattle.behaviour_semantics.specs.Rule.{move_together}
use Rattle.behaviour_semantics.specs.WellFormed.{Every}
use Rattle.event_offers.specs.OfferView.{plain_draft}
use Rattle.event_offers.specs.declared.drafts.Draft.{Draft}
use Rattle.draft_parts.specs.DraftTerms.{HasTermsOf}

-- the drafts
abbrev pub plain_drafts : List Draft → List plain.Draft
plain_drafts drafts = map plain_draft drafts

-- The drafts are those that the rule makes of the given ones, in order, and their terms are of the signature.
pub record AreMadeBy (signature : Signature) (rule : plain.Draft → Option plain.Draft) (given made : List Draft) : Type 0 where
  pub same : plain_drafts made ≡ filter_map rule (plain_drafts given)
  pub over : Every (HasTermsOf signature) made

-- What a left draft makes with a right one, whose variables get these terms: both sides together, where they meet.
abbrev pub meet_each : Signature → SynchronisationSet → Substitution → plain.Draft → plain.Draft → Option plain.Draft
meet_each signature meet values left right =
    if move_together signature meet left.label right.label then Some (both_drafts left (draft_with values right)) else None

-- What the left drafts make with the right ones, one after the other. The right variables from a first one on are raised
-- by the number of the left leaves.
abbrev pub both_lists : Signature → SynchronisationSet → ℕ → List plain.Draft → List plain.Draft → List plain.Draft
both_lists signature meet first [] rights = []
both_lists signature meet first (left ∷ lefts) rights =
    filter_map (meet_each signature meet (raised_from first (length left.leaves)) left) rights
    ++ both_lists signature meet first lefts rights
