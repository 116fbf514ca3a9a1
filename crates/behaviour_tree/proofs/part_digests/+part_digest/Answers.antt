use Rattle.std.proofs.Common.{ℕ, map, ap, sym, ◌∙◌}
use Rattle.lotos_base.specs.Substitution.{Substitution, without}
use Rattle.behaviour_semantics.specs.Behaviour.{asked_variables, numbers_of}
use Rattle.behaviour_semantics.specs.Replacement.{with_values}
use Rattle.behaviour_tree.specs.BehaviourView.{behaviour_of, offer_of}
use Rattle.behaviour_tree.specs.declared.behaviours.Beh.{Beh}
use Rattle.behaviour_tree.specs.Placings.{values_of}
use Rattle.behaviour_tree.specs.Digests.{digest}
use Rattle.behaviour_tree.specs.Mixing.{mixed}
use Rattle.behaviour_tree.proofs.part_digests.+part_digest.Goals as goal

pub returns-in-Action : goal.returns-in-Action
returns-in-Action t c =
    let values = values_of c.args.here.now in
    let inside : Substitution = without (numbers_of (asked_variables (map offer_of c.in-Action.offers.items))) values in
    c.mix-in-Action.ensures
    ∙ (ap (λ (n : ℕ). mixed n c.part_digest.result) c.mix.ensures
    ∙ (ap (mixed (mixed 3 c.in-Action.gate))
    (c.part_digest.ensures ∙ ap (λ (b : Beh). digest (with_values inside (behaviour_of b))) c.deref.ensures)
    ∙ ap (λ (b : Beh). digest (with_values values (behaviour_of b))) (sym c.in-Action.is)))
