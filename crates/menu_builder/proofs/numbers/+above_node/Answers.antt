use Rattle.std.proofs.lemmas.Result.{IfOk-weaker}
use Rattle.behaviour_semantics.specs.Draft.{above_variables}
use Rattle.behaviour_tree.specs.BehaviourView.{variables_of}
use Rattle.term_match.specs.SubstView.{profiled_pairs}
use Rattle.menu_builder.specs.ClosedParts.{variables_given}
use Rattle.menu_builder.proofs.NumberLemmas.{both_most, later_most, node_form, read_above, read_node, zero_most}
use Rattle.menu_builder.proofs.numbers.+above_node.Goals as goal

pub returns-in-Stop-clause-above : goal.returns-in-Stop-clause-above
returns-in-Stop-clause-above t c =
    node_form c.args.node.now _ c.in-Stop.is c.args.least (zero_most c.args.least)

pub returns-in-Call-clause-above : goal.returns-in-Call-clause-above
returns-in-Call-clause-above t c =
    node_form c.args.node.now _ c.in-Call.is c.args.least (zero_most c.args.least)

pub returns-in_ok-above-in-Part-clause-above : goal.returns-in_ok-above-in-Part-clause-above
returns-in_ok-above-in-Part-clause-above t c =
    node_form c.args.node.now _ c.in-Part.is c.in_ok-above-in-Part.above (both_most (above_variables (variables_given
    (profiled_pairs c.in-Part.environment.items))) _ c.in_ok-above-in-Part.above (later_most (above_variables (variables_given
    (profiled_pairs c.in-Part.environment.items))) c.in_ok-bound-in-Part.bound c.in_ok-above-in-Part.above
    c.in_ok-bound-in-Part.ensures.above c.in_ok-above-in-Part.ensures.least) (read_above c.in-Part.behaviour.value
    c.deref.result.now c.deref.ensures c.in_ok-above-in-Part.above c.in_ok-above-in-Part.ensures.above))

pub returns-in_ok-above-in-Parallel-clause-above : goal.returns-in_ok-above-in-Parallel-clause-above
returns-in_ok-above-in-Parallel-clause-above t c =
    node_form c.args.node.now _ c.in-Parallel.is c.in_ok-above-in-Parallel.above (both_most _ _
    c.in_ok-above-in-Parallel.above (read_node c.in-Parallel.left.value c.deref-in-Parallel.result.now
    c.deref-in-Parallel.ensures c.in_ok-above-in-Parallel.above (later_most _ c.in_ok-first-in-Parallel.first
    c.in_ok-above-in-Parallel.above c.in_ok-first-in-Parallel.ensures.above c.in_ok-above-in-Parallel.ensures.least))
    (read_node c.in-Parallel.right.value c.deref-in-Parallel-2.result.now c.deref-in-Parallel-2.ensures
    c.in_ok-above-in-Parallel.above c.in_ok-above-in-Parallel.ensures.above))

pub returns-in_ok-above-in-Disable-clause-above : goal.returns-in_ok-above-in-Disable-clause-above
returns-in_ok-above-in-Disable-clause-above t c =
    node_form c.args.node.now _ c.in-Disable.is c.in_ok-above-in-Disable.above (both_most _ _ c.in_ok-above-in-Disable.above
    (read_node c.in-Disable.left.value c.deref-in-Disable.result.now c.deref-in-Disable.ensures c.in_ok-above-in-Disable.above
    (later_most _ c.in_ok-first-in-Disable.first c.in_ok-above-in-Disable.above c.in_ok-first-in-Disable.ensures.above
    c.in_ok-above-in-Disable.ensures.least)) (read_node c.in-Disable.right.value c.deref-in-Disable-2.result.now
    c.deref-in-Disable-2.ensures c.in_ok-above-in-Disable.above c.in_ok-above-in-Disable.ensures.above))

pub returns-in-Hide-clause-above : goal.returns-in-Hide-clause-above
returns-in-Hide-clause-above t c =
    IfOk-weaker c.above_node-in-Hide.result _ _ (λ n h. node_form c.args.node.now _ c.in-Hide.is n ((read_node
    c.in-Hide.part.value c.deref-in-Hide.result.now c.deref-in-Hide.ensures n h))) c.above_node-in-Hide.ensures.above

pub returns-in-Relabel-clause-above : goal.returns-in-Relabel-clause-above
returns-in-Relabel-clause-above t c =
    IfOk-weaker c.above_node-in-Relabel.result _ _ (λ n h. node_form c.args.node.now _ c.in-Relabel.is n ((read_node
    c.in-Relabel.part.value c.deref-in-Relabel.result.now c.deref-in-Relabel.ensures n h)))
    c.above_node-in-Relabel.ensures.above

pub returns-in_ok-above-in-Enable-clause-above : goal.returns-in_ok-above-in-Enable-clause-above
returns-in_ok-above-in-Enable-clause-above t c =
    node_form c.args.node.now _ c.in-Enable.is c.in_ok-above-in-Enable.above (both_most _ _ c.in_ok-above-in-Enable.above
    (read_node c.in-Enable.left.value c.deref-in-Enable.result.now c.deref-in-Enable.ensures c.in_ok-above-in-Enable.above
    (later_most _ c.in_ok-first-in-Enable.first c.in_ok-above-in-Enable.above c.in_ok-first-in-Enable.ensures.above
    (later_most c.in_ok-first-in-Enable.first c.in_ok-bound-in-Enable.bound c.in_ok-above-in-Enable.above
    c.in_ok-bound-in-Enable.ensures.least c.in_ok-above-in-Enable.ensures.least))) (both_most (above_variables (variables_of
    c.in-Enable.variables.items)) _ c.in_ok-above-in-Enable.above (later_most (above_variables (variables_of
    c.in-Enable.variables.items)) c.in_ok-bound-in-Enable.bound c.in_ok-above-in-Enable.above
    c.in_ok-bound-in-Enable.ensures.above c.in_ok-above-in-Enable.ensures.least) (read_above c.in-Enable.right.value
    c.deref-in-Enable-2.result.now c.deref-in-Enable-2.ensures c.in_ok-above-in-Enable.above
    c.in_ok-above-in-Enable.ensures.above)))
