use Rattle.std.proofs.Common.{drop}
use Rattle.lotos_base.specs.Signature.{Signature}
use Rattle.behaviour_tree.specs.BehaviourTerms.{profiles_of}
use Rattle.behaviour_tree.specs.Over.{AreTermsOf}
use Rattle.event_offers.specs.OfferView.{condition_profiles}
use Rattle.event_offers.specs.Offers.{AreConditionsOf}
use Rattle.draft_solving.proofs.SpreadLemmas.{AreCopiedBefore, selves}
use Rattle.draft_solving.proofs.spreading.spread_terms.Given as goal

abbrev pub invariant-loop-term : goal.invariant-loop-term
invariant-loop-term l =
    AreCopiedBefore l.fn.made.items (selves l.term-items) l.made.items (selves (drop l.term-index l.term-items))
    × ((signature : Signature) → AreConditionsOf signature (condition_profiles l.fn.made.items)
    → AreTermsOf signature (profiles_of l.term-items)
    → AreConditionsOf signature (condition_profiles l.made.items)
    × AreTermsOf signature (profiles_of (drop l.term-index l.term-items)))
