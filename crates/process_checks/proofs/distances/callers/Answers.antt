use Rattle.std.proofs.Common.{◌≡◌, ◌≤◌, ◌+◌, ℕ, List, length, sym, subst, arith}
use Rattle.process_checks.specs.GraphView.{lists_of}
use Rattle.process_checks.proofs.CallerLemmas.{AreCallersBelow, all_callers, one_more}
use Rattle.process_checks.proofs.CodeLemmas.{as_many_lists}
use Rattle.process_checks.proofs.WayLemmas.{calls_within}
use Rattle.process_checks.proofs.distances.callers.Goals as goal

pub loop-process-preserved : goal.loop-process-preserved
loop-process-preserved c =
    subst (λ (ls : List (List ℕ)). AreCallersBelow (lists_of c.args.graph.now.items) ls (c.loop-process.process + 1))
    (sym c.in_ok-add_calls.ensures)
    (one_more (lists_of c.args.graph.now.items) (lists_of c.loop-process.made.items) c.loop-process.process c.loop-process.invariant)

pub returns : goal.returns
returns c =
    let many : length (lists_of c.args.graph.now.items) ≡ length c.args.graph.now.items = as_many_lists c.args.graph.now.items in
    let done : length (lists_of c.args.graph.now.items) ≤ c.loop-process.process =
    omega (arith, many, c.loop-process-test.false, c.len-process-end.ensures, c.args.graph.now.ok.0) in
    all_callers (lists_of c.args.graph.now.items) (lists_of c.loop-process.made.items) c.loop-process.process done
    (λ p q calls. calls_within (lists_of c.args.graph.now.items) p q calls) c.loop-process.invariant
