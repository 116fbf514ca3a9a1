use Rattle.std.proofs.Common.{ℕ, List, subst}
use Rattle.process_checks.specs.Graph.{IsCallAt, IsFirstOnCycle, IsKeptCycle}
use Rattle.process_checks.specs.GraphView.{lists_of}
use Rattle.process_checks.proofs.CycleLemmas.{first_on_cycle}
use Rattle.process_checks.proofs.ranking.refusal.Goals as goal

pub place_of-requires : goal.place_of-requires
place_of-requires c = (
  c.args.back.process,
  subst (λ (g : List (List ℕ)). IsCallAt g c.args.process c.args.back.position c.args.back.process) c.requires.graph c.requires.back.calls,
)

pub returns : goal.returns
returns c = record {
  position = c.args.back.position;
  stands = c.in_ok-place.ensures;
  first =
      subst (λ (g : List (List ℕ)). IsFirstOnCycle g c.args.process c.args.back.position) c.requires.graph
      (first_on_cycle (lists_of c.args.graph.now.items) c.args.distances.now.items c.args.process c.args.back c.requires.distances
      c.requires.back c.requires.first);
  kept =
      subst (λ (g : List (List ℕ)). IsKeptCycle g c.args.process c.args.back.position c.in_ok-cycle.cycle.items) c.requires.graph
      c.in_ok-cycle.ensures;
}
