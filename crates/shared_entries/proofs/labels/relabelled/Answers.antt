use Rattle.std.proofs.Common.{◌∙◌, ap, sym, subst}
use Rattle.behaviour_semantics.specs.Behaviour.{Relabelling}
use Rattle.behaviour_semantics.specs.Label.{label_under}
use Rattle.behaviour_tree.specs.MoveView.{label_of}
use Rattle.behaviour_tree.specs.Over.{AreTermsOf}
use Rattle.behaviour_tree.specs.declared.moves.Label.{Label}
use Rattle.event_offers.specs.OfferView.{label_profiles}
use Rattle.shared_entries.proofs.labels.relabelled.Goals as goal

pub returns-clause-same : goal.returns-clause-same
returns-clause-same c =
    ap label_of c.in_ok-made.ensures
    ∙ (c.relabel-changed.ensures.same
    ∙ (ap (λ (pairs : Relabelling). label_under pairs (label_of c.in_ok-copy.copy)) c.as_slice.ensures.value
    ∙ ap (label_under c.args.pairs.now.items) c.in_ok-copy.ensures.same))

pub returns-clause-terms : goal.returns-clause-terms
returns-clause-terms c = λ signature h.
    subst (λ (l : Label). AreTermsOf signature (label_profiles l)) (sym c.in_ok-made.ensures)
    (subst (AreTermsOf signature) (sym c.relabel-changed.ensures.profiles) (subst (AreTermsOf signature) (sym c.in_ok-copy.ensures.profiles) h))
