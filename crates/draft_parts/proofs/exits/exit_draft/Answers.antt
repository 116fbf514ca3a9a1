use Rattle.std.proofs.Common.{List, sym, subst}
use Rattle.sort_terms.specs.declared.sorted.Sorted.{Sorted}
use Rattle.term_match.specs.SubstView.{profiled_pairs}
use Rattle.behaviour_tree.specs.BehaviourView.{terms_of}
use Rattle.behaviour_tree.specs.Over.{AreTermsOf}
use Rattle.event_offers.specs.OfferView.{condition_profiles}
use Rattle.event_offers.specs.Offers.{AreConditionsOf}
use Rattle.draft_parts.proofs.DraftLemmas.{ended_is, open_of}
use Rattle.draft_parts.proofs.exits.exit_draft.Goals as goal

pub returns-clause-same : goal.returns-clause-same
returns-clause-same g c =
    ended_is (g.D.Deciding.canon c.args.decider.now) c.args.first c.args.results.now.items c.args.environment.now.items
    (terms_of c.in_ok-values.values.items) c.in_ok-leaves.leaves.items c.new.result.items c.new.ensures.items c.in_ok-values.ensures.same
    c.in_ok-leaves.ensures

pub returns-clause-over : goal.returns-clause-over
returns-clause-over g c = record {
  values = c.in_ok-values.ensures.is_of;
  leaves = subst (AreTermsOf (g.D.Deciding.known_data c.args.decider.now).signature) (sym c.in_ok-leaves.ensures)
      (open_of (g.D.Deciding.known_data c.args.decider.now).signature (profiled_pairs c.args.environment.now.items) c.args.first
      c.args.results.now.items c.requires);
  conditions = subst (λ (cs : List (Sorted × Sorted)). AreConditionsOf (g.D.Deciding.known_data c.args.decider.now).signature
      (condition_profiles cs)) (sym c.new.ensures.items) tt;
}
