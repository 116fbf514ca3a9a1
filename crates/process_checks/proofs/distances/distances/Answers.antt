use Rattle.std.proofs.Common.{◌≡◌, ◌+◌, ℕ, List, length, subst, arith, add-one}
use Rattle.process_checks.specs.GraphView.{lists_of}
use Rattle.process_checks.proofs.CodeLemmas.{as_many_lists, not_empty, is_nothing}
use Rattle.process_checks.proofs.DistanceLemmas.{IsLevel, all_distances, first_level_made, next_level_made}
use Rattle.process_checks.proofs.distances.distances.Goals as goal

pub loop-alloc-init : goal.loop-alloc-init
loop-alloc-init c =
    let many : length (lists_of c.args.graph.now.items) ≡ length c.args.graph.now.items = as_many_lists c.args.graph.now.items in
    first_level_made (lists_of c.args.graph.now.items) c.args.to c.len.result c.in_ok-made.made.items c.put.new.distances.items
    c.new-frontier.result.items c.push.new.self.items (omega (arith, many, c.requires.there))
    (omega (arith, many, c.len.ensures, c.args.graph.now.ok.0)) c.in_ok-made.ensures c.put.ensures c.new-frontier.ensures.items
    c.in_ok-push.ensures.items

pub loop-alloc-preserved : goal.loop-alloc-preserved
loop-alloc-preserved c =
    next_level_made (lists_of c.args.graph.now.items) (lists_of c.args.callers.now.items) c.args.to c.loop-alloc.made.items
    c.next_level.new.distances.items c.loop-alloc.frontier.items c.in_ok-frontier.frontier.items c.loop-alloc.level
    (c.loop-alloc.level + 1) (not_empty c.loop-alloc.frontier (c.is_empty.ensures) c.loop-alloc-test.true) c.requires.callers
    c.loop-alloc.invariant (add-one c.loop-alloc.level) c.in_ok-frontier.ensures

pub returns : goal.returns
returns c =
    all_distances (lists_of c.args.graph.now.items) c.args.to c.loop-alloc.made.items c.loop-alloc.level
    (subst (λ (ns : List ℕ). IsLevel (lists_of c.args.graph.now.items) c.args.to c.loop-alloc.made.items ns c.loop-alloc.level)
    (is_nothing c.loop-alloc.frontier c.is_empty.ensures c.loop-alloc-test.false) c.loop-alloc.invariant)
