use Rattle.std.proofs.Common.{List, ap, subst, sym, ◌∙◌, rules}
use Rattle.std.proofs.lemmas.Fn.{filter_same}
use Rattle.sort_terms.specs.declared.sorted.Sorted.{Sorted}
use Rattle.event_offers.specs.OfferView.{condition_profiles, conditions_of}
use Rattle.event_offers.specs.Offers.{AreConditionsOf}
use Rattle.draft_solving.specs.Changing.{have_other_sides}
use Rattle.draft_solving.proofs.ChangingLemmas.{kept_conditions, kept_of}
use Rattle.draft_solving.proofs.changing.drop_settled.Goals as goal

pub returns-clause-same : goal.returns-clause-same
returns-clause-same c =
    ap (λ (pairs : List (Sorted × Sorted)). conditions_of pairs)
    (filter_same _ have_other_sides _ (λ x b f' k. search rules) _ _ c.retain.ensures.filtered)
    ∙ kept_conditions c.args.conditions.now.items

pub returns-clause-is_of : goal.returns-clause-is_of
returns-clause-is_of c = λ signature h.
    subst (λ (pairs : List (Sorted × Sorted)). AreConditionsOf signature (condition_profiles pairs))
    (sym (filter_same _ have_other_sides _ (λ x b f' k. search rules) _ _ c.retain.ensures.filtered))
    (kept_of signature have_other_sides c.args.conditions.now.items h)
