use Rattle.std.proofs.Common.{◌≡◌, ◌≤◌, length, arith}
use Rattle.type_definitions.specs.GraphView.{graph_of}
use Rattle.type_definitions.proofs.CycleLemmas.{first_of_all, one_more_type, some_in_a_row, found_in_row, not_in_row}
use Rattle.type_definitions.proofs.cycles.first_on_cycle.Goals as goal

pub returns-in-Some : goal.returns-in-Some
returns-in-Some c =
    first_of_all (graph_of c.args.graph.now) c.loop-by.by c.in-Some.position c.loop-by.invariant
    (found_in_row (graph_of c.args.graph.now) c.loop-by.by c.in-Some.position c.in_ok-found.found c.in-Some.is c.in_ok-found.ensures)

pub loop-by-preserved : goal.loop-by-preserved
loop-by-preserved c =
    one_more_type (graph_of c.args.graph.now) c.loop-by.by c.loop-by.invariant
    (not_in_row (graph_of c.args.graph.now) c.loop-by.by c.in_ok-found.found c.in_default.is c.in_ok-found.ensures)

pub unreachable-requires : goal.unreachable-requires
unreachable-requires c =
    let all = c.len-by-end.ensures in
    let end = c.loop-by-test.false in
    let past : length (graph_of c.args.graph.now) ≤ c.loop-by.by = omega (arith, all, end) in
    some_in_a_row (graph_of c.args.graph.now) c.loop-by.by c.loop-by.invariant past c.requires
