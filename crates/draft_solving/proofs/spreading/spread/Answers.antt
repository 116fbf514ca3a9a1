use Rattle.std.proofs.Common.{List, subst, sym}
use Rattle.sort_terms.specs.declared.sorted.Sorted.{Sorted}
use Rattle.event_offers.specs.OfferView.{condition_profiles}
use Rattle.event_offers.specs.Offers.{AreConditionsOf}
use Rattle.draft_solving.proofs.spreading.spread.Goals as goal

pub returns-clause-is_of : goal.returns-clause-is_of
returns-clause-is_of c = λ signature values leaves conditions.
    c.in_ok-spread_terms.ensures.is_of signature
    (c.in_ok-spread_values.ensures.is_of signature
    (c.in_ok-spread_conditions.ensures.is_of signature
    (subst (λ (pairs : List (Sorted × Sorted)). AreConditionsOf signature (condition_profiles pairs)) (sym c.new-made.ensures.items) tt)
    conditions) values) leaves
