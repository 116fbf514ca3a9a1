use Rattle.std.proofs.Common.{◌++◌, ap, sym, subst, arith}
use Rattle.std.proofs.lemmas.Result.{IfOk-weaker}
use Rattle.std.proofs.lemmas.List.{nil_from_length}
use Rattle.behaviour_semantics.specs.Behaviour.{Behaviour, parallel, relabel}
use Rattle.behaviour_tree.specs.BehaviourView.{meet_of}
use Rattle.behaviour_tree.specs.Closed.{IsClosedNode}
use Rattle.behaviour_tree.specs.StateView.{node_profiles, stands_for}
use Rattle.behaviour_tree.specs.declared.states.Node.{Node}
use Rattle.step_taker.proofs.SplitLemmas.{passable_as}
use Rattle.menu_parts.specs.Spread.{IsOpened}
use Rattle.menu_parts.proofs.FormLemmas.{own_part, whole_of_part}
use Rattle.menu_parts.proofs.opening.open_node.Goals as goal

pub returns-in-Relabel : goal.returns-in-Relabel
returns-in-Relabel c =
    IfOk-weaker c.open_relabelling.result _ _ (λ made e basis base h.
    subst (λ (b : Behaviour). IsOpened basis b made) (sym (ap stands_for c.in-Relabel.is))
    (e basis base (passable_as basis (stands_for c.args.node.now)
    (relabel c.in-Relabel.pairs.items (stands_for c.in-Relabel.part.value)) (node_profiles c.args.node.now)
    (node_profiles c.in-Relabel.part.value)
    (ap stands_for c.in-Relabel.is) (ap node_profiles c.in-Relabel.is) h.passable)
    (subst (λ (node : Node). IsClosedNode node) c.in-Relabel.is h.states).1)) c.open_relabelling.ensures

pub returns-in-Parallel : goal.returns-in-Parallel
returns-in-Parallel c =
    IfOk-weaker c.open_parallel.result _ _ (λ made e basis base h.
    subst (λ (b : Behaviour). IsOpened basis b made) (sym (ap stands_for c.in-Parallel.is))
    (e basis base (passable_as basis (stands_for c.args.node.now)
    (parallel (meet_of c.in-Parallel.meet) (stands_for c.in-Parallel.left.value) (stands_for c.in-Parallel.right.value))
    (node_profiles c.args.node.now) (node_profiles c.in-Parallel.left.value ++ node_profiles c.in-Parallel.right.value)
    (ap stands_for c.in-Parallel.is) (ap node_profiles c.in-Parallel.is) h.passable)
    (subst (λ (node : Node). IsClosedNode node) c.in-Parallel.is h.states).0
    (subst (λ (node : Node). IsClosedNode node) c.in-Parallel.is h.states).1)) c.open_parallel.ensures

pub returns-then-len-eq0 : goal.returns-then-len-eq0
returns-then-len-eq0 c =
    IfOk-weaker c.open_behaviour.result _ _ (λ made e basis base h.
    subst (λ (b : Behaviour). IsOpened basis b made)
    (whole_of_part c.in-Part.environment.items c.in-Part.behaviour.value c.deref.result.now c.args.node.now
    (nil_from_length c.in-Part.environment.items (omega (arith, c.if-len-eq0.true, c.len.ensures, c.in-Part.environment.ok.0)))
    c.deref.ensures (ap stands_for c.in-Part.is))
    (e basis base (own_part basis c.in-Part.environment.items c.in-Part.behaviour.value c.deref.result.now c.args.node.now
    (nil_from_length c.in-Part.environment.items (omega (arith, c.if-len-eq0.true, c.len.ensures, c.in-Part.environment.ok.0)))
    c.deref.ensures (ap stands_for c.in-Part.is) (ap node_profiles c.in-Part.is) h.passable))) c.open_behaviour.ensures
