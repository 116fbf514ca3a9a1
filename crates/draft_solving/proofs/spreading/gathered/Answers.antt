use Rattle.std.proofs.Common.{◌≡◌, ap, length, List, map, subst, sym, ◌∙◌, arith}
use Rattle.std.proofs.lemmas.List.{length-map}
use Rattle.behaviour_semantics.specs.Rule.{label_values}
use Rattle.behaviour_semantics.specs.Solving.{differing, label_in, test_in}
use Rattle.sort_terms.specs.SortedView.{term_in}
use Rattle.sort_terms.specs.declared.sorted.Sorted.{Sorted}
use Rattle.behaviour_tree.specs.BehaviourView.{terms_of}
use Rattle.behaviour_tree.specs.MoveView.{label_of, shape_of}
use Rattle.event_offers.specs.OfferView.{condition_of, condition_profiles, conditions_of}
use Rattle.event_offers.specs.Offers.{AreConditionsOf}
use Rattle.draft_solving.proofs.SpreadLemmas.{conditions_gathered, leaves_gathered, values_gathered}
use Rattle.draft_solving.proofs.spreading.gathered.Goals as goal

pub returns-clause-same : goal.returns-clause-same
returns-clause-same c = λ change told.
    let draft = c.args.draft in
    let conditions = conditions_of draft.conditions.items in
    let values = label_values (label_of draft.label) in
    let leaves = terms_of draft.leaves.items in
    let tests = conditions_of c.args.spread.items in
    let first : c.len.result ≡ length conditions = omega (arith, length-map draft.conditions.items condition_of) in
    let count : c.len-count.result ≡ length leaves = omega (arith, length-map draft.leaves.items term_in) in
    let e_label : label_of c.in_ok-label.label ≡ label_in change (label_of draft.label) =
    c.in_ok-label.ensures.same change (values_gathered change conditions values leaves tests told c.len.result first) in
    let e_leaves : terms_of c.in_ok-leaves.leaves.items ≡ map change leaves =
    c.in_ok-leaves.ensures.same
    ∙ leaves_gathered change conditions values leaves tests told c.saturating_sub.result c.len-count.result
    (omega (arith, length-map c.args.spread.items condition_of)) count in
    let e_conditions : conditions_of c.shrink_to_fit.new.self.items ≡ differing (map (test_in change) conditions) =
    ap conditions_of c.shrink_to_fit.ensures.items
    ∙ (c.drop_settled.ensures.same ∙ conditions_gathered change conditions values leaves tests told) in
    λ i. record { shape = shape_of draft.shape; label = e_label i; leaves = e_leaves i; conditions = e_conditions i }

pub returns-clause-conditions : goal.returns-clause-conditions
returns-clause-conditions c = λ signature are.
    subst (λ (items : List (Sorted × Sorted)). AreConditionsOf signature (condition_profiles items)) (sym c.shrink_to_fit.ensures.items)
    (c.drop_settled.ensures.is_of signature are)
