-- Drafts whose leaves and conditions stand from the last to the first, so that those of a left draft are put behind them.
use Rattle.std.specs.Prelude.{List, ◌++◌, reverse}
use Rattle.lotos_base.specs.Signature.{Signature}
use Rattle.behaviour_semantics.specs.Behaviour.{Test}
use Rattle.behaviour_semantics.specs.Draft as plain
use Rattle.behaviour_semantics.specs.Shape.{both_sides}
use Rattle.event_offers.specs.OfferView.{condition_profiles, conditions_of, plain_draft}
use Rattle.event_offers.specs.Offers.{AreConditionsOf}
use Rattle.draft_parts.specs.DraftTerms.{HasTermsOf}
use Rattle.draft_parts.specs.declared.turned.Turned.{Turned}

-- the draft with its leaves and conditions from the last to the first
abbrev pub reversed_draft : plain.Draft → plain.Draft
reversed_draft d = record { shape = d.shape; label = d.label; leaves = reverse d.leaves; conditions = reverse d.conditions }

-- the right draft with what the left one has put behind, and the shape and label of both
abbrev pub put_behind : plain.Draft → plain.Draft → plain.Draft
put_behind right left = record {
  shape = both_sides left.shape right.shape;
  label = left.label;
  leaves = right.leaves ++ left.leaves;
  conditions = right.conditions ++ left.conditions;
}

-- the draft with conditions behind its own
abbrev pub with_tests_behind : plain.Draft → List Test → plain.Draft
with_tests_behind d tests = record { shape = d.shape; label = d.label; leaves = d.leaves; conditions = d.conditions ++ tests }

-- the draft that was turned round
abbrev pub turned_draft : Turned → plain.Draft
turned_draft turned = with_tests_behind (reversed_draft (plain_draft turned.draft)) (conditions_of turned.last.items)

-- Its terms are of the signature.
pub record IsTurnedOf (signature : Signature) (turned : Turned) : Type 0 where
  pub draft : HasTermsOf signature turned.draft
  pub last : AreConditionsOf signature (condition_profiles turned.last.items)
