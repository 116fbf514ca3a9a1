use Rattle.std.proofs.Common.{◌∙◌, ap, sym, subst}
use Rattle.behaviour_semantics.specs.Rule.{hidden_label}
use Rattle.behaviour_tree.specs.MoveView.{label_of}
use Rattle.behaviour_tree.specs.Over.{AreTermsOf}
use Rattle.behaviour_tree.specs.declared.moves.Label.{Label}
use Rattle.event_offers.specs.OfferView.{label_profiles}
use Rattle.shared_entries.proofs.labels.hidden.Goals as goal

pub returns-clause-same : goal.returns-clause-same
returns-clause-same c =
    ap label_of c.in_ok-made.ensures ∙ (c.hide_label-changed.ensures.same ∙ ap (hidden_label c.args.gates.now) c.in_ok-copy.ensures.same)

pub returns-clause-terms : goal.returns-clause-terms
returns-clause-terms c = λ signature h.
    subst (λ (l : Label). AreTermsOf signature (label_profiles l)) (sym c.in_ok-made.ensures)
    (c.hide_label-changed.ensures.over signature (subst (AreTermsOf signature) (sym c.in_ok-copy.ensures.profiles) h))
