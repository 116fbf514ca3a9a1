use Rattle.std.proofs.Common.{◌≡◌, length, sym, arith}
use Rattle.process_checks.specs.GraphView.{lists_of}
use Rattle.process_checks.proofs.CodeLemmas.{as_many_lists}
use Rattle.process_checks.proofs.SearchSteps.{begun_made, ranks_made}
use Rattle.process_checks.proofs.search.order.Goals as goal

pub loop-root-init : goal.loop-root-init
loop-root-init c = (
  begun_made (lists_of c.args.graph.now.items) c.in_ok-search.search _ (sym (as_many_lists c.args.graph.now.items))
      c.in_ok-search.ensures.statuses c.in_ok-search.ensures.chain c.in_ok-search.ensures.next,
  c.in_ok-search.ensures.chain,
  (λ p lt new. absurd (omega (arith, lt))),
)

pub returns : goal.returns
returns c =
    let many : length (lists_of c.args.graph.now.items) ≡ length c.args.graph.now.items = as_many_lists c.args.graph.now.items in
    ranks_made (lists_of c.args.graph.now.items) c.loop-root.search _ c.loop-root.root c.loop-root.invariant.0
    c.loop-root.invariant.1 c.loop-root.invariant.2
    (omega (arith, many, c.loop-root-test.false, c.len-root-end.ensures, c.args.graph.now.ok.0)) c.in_ok-ranks_in.ensures
