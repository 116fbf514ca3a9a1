use Rattle.lotos_base.specs.Signature.{Signature}
use Rattle.behaviour_tree.specs.BehaviourTerms.{profiles_of}
use Rattle.behaviour_tree.specs.BehaviourView.{terms_of}
use Rattle.behaviour_tree.specs.Over.{AreTermsOf}
use Rattle.event_offers.specs.OfferView.{condition_profiles, conditions_of}
use Rattle.event_offers.specs.Offers.{AreConditionsOf}
use Rattle.draft_solving.specs.Spreading.{lefts_from}
use Rattle.draft_solving.proofs.SpreadLemmas.{AreLeftsBefore}
use Rattle.draft_solving.proofs.spreading.left_sides.Given as goal

abbrev pub invariant-loop-i : goal.invariant-loop-i
invariant-loop-i l =
    AreLeftsBefore (lefts_from l.first l.count (conditions_of l.spread.items)) l.count l.i (conditions_of l.spread.items)
    (terms_of l.made.items)
    × ((signature : Signature) → AreConditionsOf signature (condition_profiles l.spread.items)
    → AreTermsOf signature (profiles_of l.made.items))
