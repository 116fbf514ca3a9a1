use Rattle.std.proofs.Common.{◌≡◌, ℕ, List, Some, filter_map, ap, sym, ◌∙◌}
use Rattle.std.proofs.lemmas.Result.{IfOk-weaker}
use Rattle.lotos_base.specs.Term.{Term}
use Rattle.lotos_base.specs.Substitution.{binding, substituted}
use Rattle.behaviour_semantics.specs.Behaviour.{Test}
use Rattle.behaviour_semantics.specs.Draft.{Draft}
use Rattle.behaviour_semantics.specs.Replacement.{test_with}
use Rattle.sort_terms.specs.SortedView.{term_in}
use Rattle.term_match.specs.ProfiledInstance.{bare_pairs}
use Rattle.term_match.specs.SubstView.{profiled_pairs}
use Rattle.behaviour_tree.specs.BehaviourView.{test_of}
use Rattle.draft_parts.specs.HandedOn.{condition_of}
use Rattle.draft_parts.proofs.HandedOn.{pairs_bare}
use Rattle.draft_parts.specs.DraftRules.{guarded_draft}
use Rattle.draft_parts.specs.Lists.{plain_drafts}
use Rattle.menu_builder.proofs.guards.guarded_drafts.Goals as goal

pub returns : goal.returns
returns c =
    let left : term_in c.in_ok-left.left
    ≡ substituted (binding (bare_pairs (profiled_pairs c.args.environment.now.items))) (term_in c.args.test.now.left) =
    c.in_ok-left.ensures.same ∙ ap (λ (ps : List (ℕ × Term)). substituted (binding ps) (term_in c.args.test.now.left))
    (sym (pairs_bare c.args.environment.now.items)) in
    let right : term_in c.in_ok-right.right
    ≡ substituted (binding (bare_pairs (profiled_pairs c.args.environment.now.items))) (term_in c.args.test.now.right) =
    c.in_ok-right.ensures.same ∙ ap (λ (ps : List (ℕ × Term)). substituted (binding ps) (term_in c.args.test.now.right))
    (sym (pairs_bare c.args.environment.now.items)) in
    let asked : condition_of (c.in_ok-left.left, c.in_ok-right.right)
    ≡ test_with (binding (bare_pairs (profiled_pairs c.args.environment.now.items))) (test_of c.args.test.now) =
    λ i. record { left = left i; right = right i } in
    IfOk-weaker c.apply_to_all.result _ _ (λ made h signature l r ds.
    let by_rule = h signature (c.in_ok-left.ensures.over signature l, c.in_ok-right.ensures.over signature r) ds in
    record {
      same = by_rule.same
          ∙ ap (λ (t : Test). filter_map (λ (d : Draft). Some (guarded_draft t d)) (plain_drafts c.args.parts.items)) asked;
      over = by_rule.over;
    }) c.apply_to_all.ensures
