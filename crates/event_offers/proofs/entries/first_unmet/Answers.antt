use Rattle.std.proofs.Common.{refl, ap, ◌∙◌, List}
use Rattle.lotos_base.specs.Term.{Term}
use Rattle.lotos_base.specs.Substitution.{substituted}
use Rattle.behaviour_semantics.specs.Derives.{leaves_in}
use Rattle.behaviour_tree.specs.BehaviourView.{terms_of}
use Rattle.sort_terms.specs.SortedView.{term_in}
use Rattle.sort_terms.specs.declared.sorted.Sorted.{Sorted}
use Rattle.event_offers.specs.Instances.{unmet_among}
use Rattle.event_offers.specs.OfferView.{conditions_of}
use Rattle.event_offers.proofs.KeepingLemmas.{keeps_both}
use Rattle.event_offers.proofs.InstanceLemmas.{unmet_here, met_here, valued_from}
use Rattle.event_offers.proofs.entries.first_unmet.Goals as goal

pub returns-then-not-same-clause-first : goal.returns-then-not-same-clause-first
returns-then-not-same-clause-first g c =
    let values = leaves_in (terms_of c.args.values.now) in
    unmet_here (g.D.Deciding.canon c.args.decider.now) values c.deref-condition-items.result.now c.loop-condition.condition-index
    c.condition-item.result
    (term_in c.in_ok-left.left) (term_in c.in_ok-right.right) _ c.loop-condition-test.true c.condition-item.is
    (c.in_ok-left.ensures.same ∙ ap (λ (canon : Term → Term). canon (substituted values (term_in c.condition-item.result.0)))
    c.loop-condition.invariant.2.same_canon)
    (c.in_ok-right.ensures.same ∙ ap (λ (canon : Term → Term). canon (substituted values (term_in c.condition-item.result.1)))
    (c.in_ok-left.ensures.same_known.same_canon ∙ c.loop-condition.invariant.2.same_canon))
    (λ e. cc (c.if-not-same.ensures.1 e)) c.loop-condition.invariant.0
    ∙ ap (λ (ys : List (Sorted × Sorted)). unmet_among (g.D.Deciding.canon c.args.decider.now) values (conditions_of ys))
    c.deref-condition-items.ensures.value

pub loop-condition-preserved : goal.loop-condition-preserved
loop-condition-preserved g c =
    let values = leaves_in (terms_of c.args.values.now) in (
      met_here (g.D.Deciding.canon c.args.decider.now) values c.deref-condition-items.result.now c.loop-condition.condition-index
          c.condition-item.result
          (term_in c.in_ok-left.left) (term_in c.in_ok-right.right) _ c.loop-condition-test.true c.condition-item.is
          (c.in_ok-left.ensures.same ∙ ap (λ (canon : Term → Term). canon (substituted values (term_in c.condition-item.result.0)))
          c.loop-condition.invariant.2.same_canon)
          (c.in_ok-right.ensures.same ∙ ap (λ (canon : Term → Term). canon (substituted values (term_in c.condition-item.result.1)))
          (c.in_ok-left.ensures.same_known.same_canon ∙ c.loop-condition.invariant.2.same_canon))
          (c.if-not-same.ensures.0 refl) c.loop-condition.invariant.0,
      valued_from (g.D.Deciding.known_data c.args.decider.now).signature c.args.values.now c.deref-condition-items.result.now
          c.loop-condition.condition-index c.condition-item.result c.loop-condition-test.true c.condition-item.is
          c.loop-condition.invariant.1,
      keeps_both c.loop-condition.invariant.2 (keeps_both c.in_ok-left.ensures.same_known c.in_ok-right.ensures.same_known),
    )
