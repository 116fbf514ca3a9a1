use Rattle.std.proofs.Common.{drop}
use Rattle.lotos_base.specs.Signature.{Signature}
use Rattle.event_offers.specs.OfferView.{condition_profiles, conditions_of}
use Rattle.event_offers.specs.Offers.{AreConditionsOf}
use Rattle.draft_solving.proofs.SpreadLemmas.{AreCopiedBefore}
use Rattle.draft_solving.proofs.spreading.spread_conditions.Given as goal

abbrev pub invariant-loop-condition : goal.invariant-loop-condition
invariant-loop-condition l =
    AreCopiedBefore l.fn.made.items (conditions_of l.condition-items) l.made.items
    (conditions_of (drop l.condition-index l.condition-items))
    × ((signature : Signature) → AreConditionsOf signature (condition_profiles l.fn.made.items)
    → AreConditionsOf signature (condition_profiles l.condition-items)
    → AreConditionsOf signature (condition_profiles l.made.items)
    × AreConditionsOf signature (condition_profiles (drop l.condition-index l.condition-items)))
