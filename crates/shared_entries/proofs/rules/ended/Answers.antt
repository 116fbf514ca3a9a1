use Rattle.std.proofs.Common.{sym, subst}
use Rattle.behaviour_tree.specs.Over.{AreTermsOf}
use Rattle.behaviour_tree.specs.declared.moves.Label.{Label}
use Rattle.event_offers.specs.OfferView.{label_profiles}
use Rattle.shared_entries.specs.Items.{AreItemTerms}
use Rattle.shared_entries.proofs.rules.ended.Goals as goal

pub returns-clause-terms : goal.returns-clause-terms
returns-clause-terms c = λ signature h.
    subst (AreItemTerms signature) (sym c.in_ok-made.ensures.terms) (record {
      values = subst (λ (l : Label). AreTermsOf signature (label_profiles l)) (sym c.in_ok-label.ensures) tt;
      leaves = h.leaves;
      conditions = h.conditions;
    })
