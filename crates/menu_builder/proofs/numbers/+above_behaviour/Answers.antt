use Rattle.std.proofs.Common.{suc, map}
use Rattle.std.proofs.lemmas.Result.{IfOk-weaker}
use Rattle.behaviour_semantics.specs.Behaviour.{asked_variables, let_variables}
use Rattle.behaviour_semantics.specs.Draft.{above_variables}
use Rattle.behaviour_tree.specs.BehaviourView.{let_of, offer_of, variables_of}
use Rattle.menu_builder.proofs.NumberLemmas.{above_form, both_most, later_most, past_most, read_above, zero_most}
use Rattle.menu_builder.proofs.numbers.+above_behaviour.Goals as goal

pub returns-in-Stop-clause-above : goal.returns-in-Stop-clause-above
returns-in-Stop-clause-above t c =
    above_form c.args.behaviour.now _ c.in-Stop.is c.args.least (zero_most c.args.least)

pub returns-in-Exit-clause-above : goal.returns-in-Exit-clause-above
returns-in-Exit-clause-above t c =
    above_form c.args.behaviour.now _ c.in-Exit.is c.args.least (zero_most c.args.least)

pub returns-in-Call-clause-above : goal.returns-in-Call-clause-above
returns-in-Call-clause-above t c =
    above_form c.args.behaviour.now _ c.in-Call.is c.args.least (zero_most c.args.least)

pub returns-in_ok-above-in-Action-clause-above : goal.returns-in_ok-above-in-Action-clause-above
returns-in_ok-above-in-Action-clause-above t c =
    above_form c.args.behaviour.now _ c.in-Action.is c.in_ok-above-in-Action.above (both_most (above_variables
    (asked_variables (map offer_of c.in-Action.offers.items))) _ c.in_ok-above-in-Action.above (later_most (above_variables
    (asked_variables (map offer_of c.in-Action.offers.items))) c.in_ok-bound-in-Action.bound c.in_ok-above-in-Action.above
    c.in_ok-bound-in-Action.ensures.above c.in_ok-above-in-Action.ensures.least) (read_above c.in-Action.next.value
    c.deref.result.now c.deref.ensures c.in_ok-above-in-Action.above c.in_ok-above-in-Action.ensures.above))

pub returns-in_ok-above-in-Let-clause-above : goal.returns-in_ok-above-in-Let-clause-above
returns-in_ok-above-in-Let-clause-above t c =
    above_form c.args.behaviour.now _ c.in-Let.is c.in_ok-above-in-Let.above (both_most (above_variables (let_variables (map
    let_of c.in-Let.bindings.items))) _ c.in_ok-above-in-Let.above (later_most (above_variables (let_variables (map let_of
    c.in-Let.bindings.items))) c.in_ok-bound-in-Let.bound c.in_ok-above-in-Let.above c.in_ok-bound-in-Let.ensures.above
    c.in_ok-above-in-Let.ensures.least) (read_above c.in-Let.next.value c.deref-in-Let.result.now c.deref-in-Let.ensures
    c.in_ok-above-in-Let.above c.in_ok-above-in-Let.ensures.above))

pub returns-in_ok-above-in-ChooseValue-clause-above : goal.returns-in_ok-above-in-ChooseValue-clause-above
returns-in_ok-above-in-ChooseValue-clause-above t c =
    above_form c.args.behaviour.now _ c.in-ChooseValue.is c.in_ok-above-in-ChooseValue.above (both_most (suc
    c.in-ChooseValue.variable.number) _ c.in_ok-above-in-ChooseValue.above (past_most c.in-ChooseValue.variable.number
    c.in_ok-bound-in-ChooseValue.bound c.in_ok-above-in-ChooseValue.above c.in_ok-bound-in-ChooseValue.ensures.above
    c.in_ok-above-in-ChooseValue.ensures.least) (read_above c.in-ChooseValue.next.value c.deref-in-ChooseValue.result.now
    c.deref-in-ChooseValue.ensures c.in_ok-above-in-ChooseValue.above c.in_ok-above-in-ChooseValue.ensures.above))

pub returns-in-Inner-clause-above : goal.returns-in-Inner-clause-above
returns-in-Inner-clause-above t c =
    IfOk-weaker c.above_behaviour-in-Inner.result _ _ (λ n h. above_form c.args.behaviour.now _ c.in-Inner.is n ((read_above
    c.in-Inner.next.value c.deref-in-Inner.result.now c.deref-in-Inner.ensures n h))) c.above_behaviour-in-Inner.ensures.above

pub returns-in-Guard-clause-above : goal.returns-in-Guard-clause-above
returns-in-Guard-clause-above t c =
    IfOk-weaker c.above_behaviour-in-Guard.result _ _ (λ n h. above_form c.args.behaviour.now _ c.in-Guard.is n ((read_above
    c.in-Guard.next.value c.deref-in-Guard.result.now c.deref-in-Guard.ensures n h))) c.above_behaviour-in-Guard.ensures.above

pub returns-in-Hide-clause-above : goal.returns-in-Hide-clause-above
returns-in-Hide-clause-above t c =
    IfOk-weaker c.above_behaviour-in-Hide.result _ _ (λ n h. above_form c.args.behaviour.now _ c.in-Hide.is n ((read_above
    c.in-Hide.next.value c.deref-in-Hide.result.now c.deref-in-Hide.ensures n h))) c.above_behaviour-in-Hide.ensures.above

pub returns-in-ChooseGate-clause-above : goal.returns-in-ChooseGate-clause-above
returns-in-ChooseGate-clause-above t c =
    IfOk-weaker c.above_behaviour-in-ChooseGate.result _ _ (λ n h. above_form c.args.behaviour.now _ c.in-ChooseGate.is n
    ((read_above c.in-ChooseGate.next.value c.deref-in-ChooseGate.result.now c.deref-in-ChooseGate.ensures n h)))
    c.above_behaviour-in-ChooseGate.ensures.above

pub returns-in-ParGate-clause-above : goal.returns-in-ParGate-clause-above
returns-in-ParGate-clause-above t c =
    IfOk-weaker c.above_behaviour-in-ParGate.result _ _ (λ n h. above_form c.args.behaviour.now _ c.in-ParGate.is n
    ((read_above c.in-ParGate.next.value c.deref-in-ParGate.result.now c.deref-in-ParGate.ensures n h)))
    c.above_behaviour-in-ParGate.ensures.above

pub returns-in_ok-above-in-Choice-clause-above : goal.returns-in_ok-above-in-Choice-clause-above
returns-in_ok-above-in-Choice-clause-above t c =
    above_form c.args.behaviour.now _ c.in-Choice.is c.in_ok-above-in-Choice.above (both_most _ _
    c.in_ok-above-in-Choice.above (read_above c.in-Choice.left.value c.deref-in-Choice.result.now c.deref-in-Choice.ensures
    c.in_ok-above-in-Choice.above (later_most _ c.in_ok-first-in-Choice.first c.in_ok-above-in-Choice.above
    c.in_ok-first-in-Choice.ensures.above c.in_ok-above-in-Choice.ensures.least)) (read_above c.in-Choice.right.value
    c.deref-in-Choice-2.result.now c.deref-in-Choice-2.ensures c.in_ok-above-in-Choice.above
    c.in_ok-above-in-Choice.ensures.above))

pub returns-in_ok-above-in-Parallel-clause-above : goal.returns-in_ok-above-in-Parallel-clause-above
returns-in_ok-above-in-Parallel-clause-above t c =
    above_form c.args.behaviour.now _ c.in-Parallel.is c.in_ok-above-in-Parallel.above (both_most _ _
    c.in_ok-above-in-Parallel.above (read_above c.in-Parallel.left.value c.deref-in-Parallel.result.now
    c.deref-in-Parallel.ensures c.in_ok-above-in-Parallel.above (later_most _ c.in_ok-first-in-Parallel.first
    c.in_ok-above-in-Parallel.above c.in_ok-first-in-Parallel.ensures.above c.in_ok-above-in-Parallel.ensures.least))
    (read_above c.in-Parallel.right.value c.deref-in-Parallel-2.result.now c.deref-in-Parallel-2.ensures
    c.in_ok-above-in-Parallel.above c.in_ok-above-in-Parallel.ensures.above))

pub returns-in_ok-above-in-Disable-clause-above : goal.returns-in_ok-above-in-Disable-clause-above
returns-in_ok-above-in-Disable-clause-above t c =
    above_form c.args.behaviour.now _ c.in-Disable.is c.in_ok-above-in-Disable.above (both_most _ _
    c.in_ok-above-in-Disable.above (read_above c.in-Disable.left.value c.deref-in-Disable.result.now
    c.deref-in-Disable.ensures c.in_ok-above-in-Disable.above (later_most _ c.in_ok-first-in-Disable.first
    c.in_ok-above-in-Disable.above c.in_ok-first-in-Disable.ensures.above c.in_ok-above-in-Disable.ensures.least)) (read_above
    c.in-Disable.right.value c.deref-in-Disable-2.result.now c.deref-in-Disable-2.ensures c.in_ok-above-in-Disable.above
    c.in_ok-above-in-Disable.ensures.above))

pub returns-in_ok-above-in-Enable-clause-above : goal.returns-in_ok-above-in-Enable-clause-above
returns-in_ok-above-in-Enable-clause-above t c =
    above_form c.args.behaviour.now _ c.in-Enable.is c.in_ok-above-in-Enable.above (both_most _ _
    c.in_ok-above-in-Enable.above (read_above c.in-Enable.left.value c.deref-in-Enable.result.now c.deref-in-Enable.ensures
    c.in_ok-above-in-Enable.above (later_most _ c.in_ok-first-in-Enable.first c.in_ok-above-in-Enable.above
    c.in_ok-first-in-Enable.ensures.above (later_most c.in_ok-first-in-Enable.first c.in_ok-bound-in-Enable.bound
    c.in_ok-above-in-Enable.above c.in_ok-bound-in-Enable.ensures.least c.in_ok-above-in-Enable.ensures.least))) (both_most
    (above_variables (variables_of c.in-Enable.variables.items)) _ c.in_ok-above-in-Enable.above (later_most (above_variables
    (variables_of c.in-Enable.variables.items)) c.in_ok-bound-in-Enable.bound c.in_ok-above-in-Enable.above
    c.in_ok-bound-in-Enable.ensures.above c.in_ok-above-in-Enable.ensures.least) (read_above c.in-Enable.right.value
    c.deref-in-Enable-2.result.now c.deref-in-Enable-2.ensures c.in_ok-above-in-Enable.above
    c.in_ok-above-in-Enable.ensures.above)))
