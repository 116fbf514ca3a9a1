use Rattle.std.proofs.Common.{◌++◌, ℕ, List, ap, sym, subst}
use Rattle.sort_terms.specs.ProfiledTerm.{ProfiledTerm}
use Rattle.term_match.specs.ProfiledInstance.{bare_pairs}
use Rattle.term_match.specs.SubstView.{profiled_pairs}
use Rattle.behaviour_tree.specs.BehaviourView.{terms_of}
use Rattle.event_offers.specs.OfferView.{conditions_of}
use Rattle.draft_parts.specs.Environments.{ArePairsOf, SuitsTest}
use Rattle.draft_parts.specs.Offered.{asked_pairs}
use Rattle.draft_parts.proofs.DraftLemmas.{acted_is, leaves_are, leaves_of}
use Rattle.draft_parts.proofs.actions.action_draft.Goals as goal

pub asked_conditions-requires : goal.asked_conditions-requires
asked_conditions-requires g c =
    subst (λ (ps : List (ℕ × ProfiledTerm)). SuitsTest (ps ++ profiled_pairs c.args.environment.now.items) c.args.test.now)
    (sym c.in_ok-bound.ensures) c.requires.test

pub returns-clause-same : goal.returns-clause-same
returns-clause-same g c =
    acted_is (g.D.Deciding.canon c.args.decider.now) c.args.gate c.args.first c.args.offers.now.items c.args.test.now
    c.args.environment.now.items (bare_pairs (profiled_pairs c.in_ok-bound.bound.items ++ profiled_pairs c.args.environment.now.items))
    (terms_of c.in_ok-values.values.items) (terms_of c.in_ok-leaves.leaves.items)
    (conditions_of c.in_ok-conditions.conditions.items) c.in_ok-values.ensures.same
    (leaves_are c.in_ok-leaves.leaves.items c.in_ok-bound.bound.items (asked_pairs c.args.first c.args.offers.now.items)
    c.in_ok-leaves.ensures c.in_ok-bound.ensures)
    c.in_ok-conditions.ensures.same
    (ap (λ (ps : List (ℕ × ProfiledTerm)). bare_pairs (ps ++ profiled_pairs c.args.environment.now.items)) c.in_ok-bound.ensures)

pub returns-clause-over : goal.returns-clause-over
returns-clause-over g c = λ values tests. record {
  values = c.in_ok-values.ensures.is_of;
  leaves = leaves_of c.in_ok-leaves.leaves.items c.in_ok-bound.bound.items (asked_pairs c.args.first c.args.offers.now.items)
      c.in_ok-leaves.ensures c.in_ok-bound.ensures (g.D.Deciding.known_data c.args.decider.now).signature _ values;
  conditions = c.in_ok-conditions.ensures.over (g.D.Deciding.known_data c.args.decider.now).signature
      (subst (λ (ps : List (ℕ × ProfiledTerm)). ArePairsOf (g.D.Deciding.known_data c.args.decider.now).signature
      (ps ++ profiled_pairs c.args.environment.now.items)) (sym c.in_ok-bound.ensures) values) tests;
}
