use Rattle.std.proofs.Common.{◌++◌, ◌∙◌, map, ap, sym, subst}
use Rattle.std.proofs.lemmas.Result.{IfOk-weaker}
use Rattle.lotos_base.specs.Substitution.{binding}
use Rattle.behaviour_semantics.specs.Replacement.{with_values}
use Rattle.behaviour_tree.specs.BehaviourTerms.{profiles_in}
use Rattle.behaviour_tree.specs.BehaviourView.{behaviour_of}
use Rattle.behaviour_tree.specs.Closed.{IsClosedBy, IsClosedNode}
use Rattle.behaviour_tree.specs.StateView.{environment_of, node_profiles, pair_profile, stands_for}
use Rattle.behaviour_tree.specs.declared.behaviours.Beh.{Beh}
use Rattle.behaviour_tree.specs.declared.states.Node.{Node}
use Rattle.step_taker.specs.Walked.{IsPassableNode}
use Rattle.step_taker.proofs.SplitLemmas.{passable_as}
use Rattle.menu_parts.proofs.parts.closed_node.Goals as goal

pub returns-in_default-clause-same : goal.returns-in_default-clause-same
returns-in_default-clause-same c = IfOk-weaker c.owner.result _ _ (λ made e. ap stands_for e) c.owner.ensures

pub returns-in_default-clause-passable : goal.returns-in_default-clause-passable
returns-in_default-clause-passable c =
    IfOk-weaker c.owner.result _ _ (λ made e basis h. subst (IsPassableNode basis) (sym e) h) c.owner.ensures

pub returns-then-len-eq0-clause-same : goal.returns-then-len-eq0-clause-same
returns-then-len-eq0-clause-same c = IfOk-weaker c.owner-then-len-eq0.result _ _ (λ made e. ap stands_for e) c.owner-then-len-eq0.ensures

pub returns-then-len-eq0-clause-passable : goal.returns-then-len-eq0-clause-passable
returns-then-len-eq0-clause-passable c =
    IfOk-weaker c.owner-then-len-eq0.result _ _ (λ made e basis h. subst (IsPassableNode basis) (sym e) h) c.owner-then-len-eq0.ensures

pub closed_part-requires : goal.closed_part-requires
closed_part-requires c =
    subst (λ (b : Beh). IsClosedBy c.in-Part.environment.items (behaviour_of b)) (sym c.deref-2.ensures)
    (subst (λ (n : Node). IsClosedNode n) (sym c.deref.ensures ∙ c.in-Part.is) c.requires)

pub returns-clause-same : goal.returns-clause-same
returns-clause-same c =
    IfOk-weaker c.closed_part.result _ _ (λ made e. e
    ∙ (ap (λ (b : Beh). with_values (binding (environment_of c.in-Part.environment.items)) (behaviour_of b)) c.deref-2.ensures
    ∙ sym (ap stands_for (sym c.deref.ensures ∙ c.in-Part.is)))) c.closed_part.ensures.same

pub returns-clause-passable : goal.returns-clause-passable
returns-clause-passable c =
    let is = sym c.deref.ensures ∙ c.in-Part.is in
    let given = sym c.deref-2.ensures in
    IfOk-weaker c.closed_part.result _ _ (λ made e basis h. e basis
    (passable_as basis (stands_for c.args.node.now.value)
    (with_values (binding (environment_of c.in-Part.environment.items)) (behaviour_of c.deref-2.result.now))
    (node_profiles c.args.node.now.value) (profiles_in c.deref-2.result.now ++ map pair_profile c.in-Part.environment.items)
    (ap stands_for is ∙ ap (λ (b : Beh). with_values (binding (environment_of c.in-Part.environment.items)) (behaviour_of b)) given)
    (ap node_profiles is ∙ ap (λ (b : Beh). profiles_in b ++ map pair_profile c.in-Part.environment.items) given) h.passable))
    c.closed_part.ensures.passable
