use Rattle.std.proofs.Common.{ℕ, ap, Vec, Global}
use Rattle.process_checks.specs.GraphView.{lists_of}
use Rattle.process_checks.proofs.RankLemmas.{found_ranks, guarded_by, ranks_of_graph, refused_cycle}
use Rattle.process_checks.proofs.ranking.ranks.Goals as goal

pub returns-in-Some-clause-exact : goal.returns-in-Some-clause-exact
returns-in-Some-clause-exact c =
    ranks_of_graph c.args.spec.now (lists_of c.in_ok-graph.graph.items) c.of.result c.in-Some.of_process.items c.in_ok-graph.ensures
    (found_ranks (lists_of c.in_ok-graph.graph.items) c.in_ok-of_process.field-0 c.in-Some.of_process c.in-Some.is
    c.in_ok-of_process.ensures)
    (ap (λ (numbers : Vec ℕ Global). numbers.items) c.of.ensures)

pub returns-in-Some-clause-guarded : goal.returns-in-Some-clause-guarded
returns-in-Some-clause-guarded c =
    guarded_by c.args.spec.now c.of.result
    (ranks_of_graph c.args.spec.now (lists_of c.in_ok-graph.graph.items) c.of.result c.in-Some.of_process.items c.in_ok-graph.ensures
    (found_ranks (lists_of c.in_ok-graph.graph.items) c.in_ok-of_process.field-0 c.in-Some.of_process c.in-Some.is
    c.in_ok-of_process.ensures)
    (ap (λ (numbers : Vec ℕ Global). numbers.items) c.of.ensures))

pub returns-clause-unguarded : goal.returns-clause-unguarded
returns-clause-unguarded c =
    λ cyclic guarded. refused_cycle c.args.spec.now c.in_ok-unguarded-in-None.field-0 c.in_ok-unguarded-in-None.ensures cyclic
    guarded
