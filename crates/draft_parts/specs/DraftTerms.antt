-- Drafts whose terms are of a signature.
use Rattle.lotos_base.specs.Signature.{Signature}
use Rattle.behaviour_tree.specs.BehaviourTerms.{profiles_of}
use Rattle.behaviour_tree.specs.Over.{AreTermsOf}
use Rattle.event_offers.specs.OfferView.{condition_profiles, label_profiles}
use Rattle.event_offers.specs.Offers.{AreConditionsOf}
use Rattle.event_offers.specs.declared.drafts.Draft.{Draft}

-- The terms of the draft are of the signature, and so carry its profiles.
pub record HasTermsOf (signature : Signature) (draft : Draft) : Type 0 where
  pub values : AreTermsOf signature (label_profiles draft.label)
  pub leaves : AreTermsOf signature (profiles_of draft.leaves.items)
  pub conditions : AreConditionsOf signature (condition_profiles draft.conditions.items)
