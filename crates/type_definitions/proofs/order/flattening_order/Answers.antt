use Rattle.std.proofs.Common.{◌≡◌, ◌+◌, ◌<◌, ◌≤◌, ◌++◌, List, length, take, drop, replicate, sym, subst, ◌∙◌, arith, rules}
use Rattle.type_definitions.specs.GraphView.{graph_of}
use Rattle.type_definitions.specs.Ordering.{IsOrdering}
use Rattle.type_definitions.specs.declared.walk.Progress.{Progress}
use Rattle.type_definitions.specs.declared.walk.Progress.TheVariants.{Unseen}
use Rattle.type_definitions.proofs.NumberLists.{written_back}
use Rattle.type_definitions.proofs.OrderingLemmas.{ordering_begun, ordering_more, ordering_done}
use Rattle.type_definitions.proofs.order.flattening_order.Goals as goal

pub loop-root-init : goal.loop-root-init
loop-root-init c =
    let progress : c.in_ok-progress.progress.items ≡ replicate c.len.result Unseen = search rules in
    ordering_begun (graph_of c.args.graph.now) c.in_ok-progress.progress.items c.new-order.result.items c.len.result c.len.ensures progress
    c.new-order.ensures.items

pub loop-root-preserved : goal.loop-root-preserved
loop-root-preserved c =
    let on = c.in_ok-cyclic.ensures.1 c.if-cyclic.false in
    let as_many : length c.come_to.new.progress ≡ length c.loop-root.progress.items =
    on.0.covers ∙ sym c.loop-root.invariant.walk.covers in
    let back : take c.loop-root.progress.len (c.come_to.new.progress ++ drop (length c.come_to.new.progress) c.loop-root.progress.items)
    ≡ c.come_to.new.progress =
    written_back c.loop-root.progress.len c.come_to.new.progress c.loop-root.progress.items c.loop-root.progress.ok.0 as_many in
    let all = c.len-root-end.ensures in
    let begun = c.loop-root-test.true in
    let within : c.loop-root.root < length (graph_of c.args.graph.now) = omega (arith, all, begun) in
    subst (λ (p : List Progress). IsOrdering (graph_of c.args.graph.now) p c.come_to.new.order.items (c.loop-root.root + 1)) (sym back)
    (ordering_more (graph_of c.args.graph.now) c.loop-root.progress.items c.loop-root.order.items c.loop-root.root
    c.come_to.new.progress c.come_to.new.order.items c.loop-root.invariant within on.0 on.1)

pub returns : goal.returns
returns c =
    let all = c.len-root-end.ensures in
    let end = c.loop-root-test.false in
    let past : length (graph_of c.args.graph.now) ≤ c.loop-root.root = omega (arith, all, end) in
    ordering_done (graph_of c.args.graph.now) c.loop-root.progress.items c.loop-root.order.items c.loop-root.root c.loop-root.invariant past
