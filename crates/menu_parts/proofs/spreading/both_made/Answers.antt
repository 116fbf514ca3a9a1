use Rattle.std.proofs.Common.{List}
use Rattle.std.proofs.lemmas.Result.{IfOk-weaker}
use Rattle.behaviour_semantics.specs.Solving.{Entry}
use Rattle.behaviour_tree.specs.StateView.{stands_for}
use Rattle.menu_parts.specs.Spread.{by_way, of_left, of_right}
use Rattle.step_taker.specs.Taken.{ground_of}
use Rattle.menu_parts.proofs.SpreadKept.{both_by_left, both_by_right, ended_none, kept_as_for}
use Rattle.menu_parts.proofs.spreading.both_made.Goals as goal

pub returns-in-None-clause-made : goal.returns-in-None-clause-made
returns-in-None-clause-made g c =
    let basis = ground_of (g.D.Deciding.known_data c.args.decider.now) (g.D.Deciding.canon c.args.decider.now) c.args.making.now.spec.now in
    IfOk-weaker c.both_of.result _ _ (λ made e.
    both_by_left basis (by_way c.args.way.now) (stands_for c.args.node.now.value) (stands_for c.args.left.now.value)
    (stands_for c.args.right.now.value) c.args.first c.args.second made.value e c.requires.form c.requires.first c.requires.second
    (ended_none basis (λ (entries : List Entry). by_way c.args.way.now (of_left entries)) c.ending.result
    c.deref.result.now c.args.first.value c.deref.ensures c.in-None.is c.ending.ensures.none_ends c.requires.first.0)) c.both_of.ensures

pub returns-in-None-ending-clause-made : goal.returns-in-None-ending-clause-made
returns-in-None-ending-clause-made g c =
    let basis = ground_of (g.D.Deciding.known_data c.args.decider.now) (g.D.Deciding.canon c.args.decider.now) c.args.making.now.spec.now in
    IfOk-weaker c.both_of-in-None-ending.result _ _ (λ made e.
    both_by_right basis (by_way c.args.way.now) (stands_for c.args.node.now.value) (stands_for c.args.left.now.value)
    (stands_for c.args.right.now.value) c.args.first c.args.second made.value e c.requires.form c.requires.first c.requires.second
    (ended_none basis (λ (entries : List Entry). by_way c.args.way.now (of_right entries)) c.ending-in-Some.result
    c.deref-in-Some.result.now c.args.second.value c.deref-in-Some.ensures c.in-None-ending.is c.ending-in-Some.ensures.none_ends
    c.requires.second.0)) c.both_of-in-None-ending.ensures

pub returns-in_ok-made-in-Some-ending-clause-made : goal.returns-in_ok-made-in-Some-ending-clause-made
returns-in_ok-made-in-Some-ending-clause-made g c =
    let basis = ground_of (g.D.Deciding.known_data c.args.decider.now) (g.D.Deciding.canon c.args.decider.now) c.args.making.now.spec.now in
    IfOk-weaker c.side_made.result _ _ (λ made e.
    e basis (stands_for c.args.node.now.value)
    (kept_as_for basis c.args.node.now.value c.in_ok-made-in-Some-ending.made.value c.in_ok-made-in-Some-ending.ensures.kept))
    c.side_made.ensures
