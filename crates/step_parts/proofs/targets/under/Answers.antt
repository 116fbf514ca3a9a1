use Rattle.std.proofs.Common.{◌≡◌, ap, sym, ◌∙◌, subst}
use Rattle.std.proofs.lemmas.Result.{IfOk-weaker}
use Rattle.std.specs.Prelude.{IfOk}
use Rattle.behaviour_semantics.specs.Behaviour.{Relabelling, relabel}
use Rattle.behaviour_semantics.specs.Label.{under}
use Rattle.behaviour_semantics.specs.WellFormed.{IsClosedBehaviour}
use Rattle.behaviour_tree.specs.Over.{AreTermsOf}
use Rattle.behaviour_tree.specs.StateView.{node_profiles, stands_for}
use Rattle.behaviour_tree.specs.declared.states.Node.{Node}
use Rattle.step_parts.specs.TargetNodes.{HasClosedParts}
use Rattle.behaviour_tree.specs.BehaviourView.{behaviour_of}
use Rattle.behaviour_instances.proofs.InstanceLemmas.{states_suit}
use Rattle.step_parts.proofs.NodeLemmas.{first_terms, other_node, second_terms}
use Rattle.step_parts.proofs.targets.under.Goals as goal

pub returns-in-Stop-clause-same : goal.returns-in-Stop-clause-same
returns-in-Stop-clause-same c = ap (λ (n : Node). under (stands_for n) c.args.pairs.items) (sym (sym c.deref.ensures ∙ c.in-Stop.is))

pub returns-in-Call-clause-same : goal.returns-in-Call-clause-same
returns-in-Call-clause-same c =
    subst (λ (n : Node). IfOk c.call_under.result (λ made. stands_for made ≡ under (stands_for n) c.args.pairs.items))
    (sym (sym c.deref.ensures ∙ c.in-Call.is))
    c.call_under.ensures.same

pub returns-in-Call-clause-terms : goal.returns-in-Call-clause-terms
returns-in-Call-clause-terms c =
    IfOk-weaker c.call_under.result _ _ (λ made e signature h.
    subst (AreTermsOf signature) (sym e) (subst (λ (n : Node). AreTermsOf signature (node_profiles n)) (sym c.deref.ensures ∙ c.in-Call.is)
    h))
    c.call_under.ensures.terms

pub returns-in-Call-clause-closed_parts : goal.returns-in-Call-clause-closed_parts
returns-in-Call-clause-closed_parts c =
    IfOk-weaker c.call_under.result _ _ (λ made f signature specification h.
    f (subst (λ (n : Node). HasClosedParts n) (sym c.deref.ensures ∙ c.in-Call.is) c.requires)) c.call_under.ensures.closed_parts

pub returns-in_default-clause-same : goal.returns-in_default-clause-same
returns-in_default-clause-same c =
    IfOk-weaker c.relabelled-in_default.result _ _ (λ made e.
    e ∙ other_node c.args.pairs.items c.args.node.now.value (λ is. c.in_default.not-Stop (c.deref.ensures ∙ is))
    (λ b e is. c.in_default.not-Part b e (c.deref.ensures ∙ is))
    (λ process gates values is. c.in_default.not-Call process gates values (c.deref.ensures ∙ is))
    (λ inner target is. c.in_default.not-Relabel inner target (c.deref.ensures ∙ is))) c.relabelled-in_default.ensures.same

pub returns-in_default-clause-terms : goal.returns-in_default-clause-terms
returns-in_default-clause-terms c =
    IfOk-weaker c.relabelled-in_default.result _ _ (λ made e signature h. subst (AreTermsOf signature) (sym e) h)
    c.relabelled-in_default.ensures.terms

pub returns-in_default-clause-closed_parts : goal.returns-in_default-clause-closed_parts
returns-in_default-clause-closed_parts c =
    IfOk-weaker c.relabelled-in_default.result _ _ (λ made f signature specification h. f c.requires)
    c.relabelled-in_default.ensures.closed_parts

pub closed-requires : goal.closed-requires
closed-requires c =
    states_suit c.in-Part.environment.items (behaviour_of c.in-Part.behaviour.value)
    (subst (λ (n : Node). HasClosedParts n) (sym c.deref.ensures ∙ c.in-Part.is) c.requires)

pub returns-in_ok-closed-in-Part-clause-terms : goal.returns-in_ok-closed-in-Part-clause-terms
returns-in_ok-closed-in-Part-clause-terms c =
    IfOk-weaker c.beh_under.result _ _ (λ made f signature h.
    let both = subst (λ (n : Node). AreTermsOf signature (node_profiles n)) (sym c.deref.ensures ∙ c.in-Part.is) h in
    f signature (c.in_ok-closed-in-Part.ensures.terms signature (first_terms signature _ _ both) (second_terms signature _ _ both)))
    c.beh_under.ensures.terms
