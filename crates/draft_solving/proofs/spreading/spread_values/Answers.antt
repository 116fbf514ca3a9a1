use Rattle.std.proofs.Common.{subst}
use Rattle.std.proofs.lemmas.Result.{on_ok_weaker}
use Rattle.behaviour_tree.specs.Over.{AreTermsOf}
use Rattle.behaviour_tree.specs.declared.moves.Label.{Label}
use Rattle.event_offers.specs.OfferView.{label_profiles}
use Rattle.draft_solving.proofs.spreading.spread_values.Goals as goal

pub returns-in-Gate-clause-is_of : goal.returns-in-Gate-clause-is_of
returns-in-Gate-clause-is_of c =
    on_ok_weaker c.spread_terms.result
    (λ h signature old all. h signature old (subst (λ (l : Label). AreTermsOf signature (label_profiles l)) c.in-Gate.is all))
    c.spread_terms.ensures.is_of

pub returns-in-Exit-clause-is_of : goal.returns-in-Exit-clause-is_of
returns-in-Exit-clause-is_of c =
    on_ok_weaker c.spread_terms-in-Exit.result
    (λ h signature old all. h signature old (subst (λ (l : Label). AreTermsOf signature (label_profiles l)) c.in-Exit.is all))
    c.spread_terms-in-Exit.ensures.is_of
