use Rattle.std.proofs.Common.{◌≡◌, ap, sym, ◌∙◌, subst}
use Rattle.std.proofs.lemmas.Result.{IfOk-weaker}
use Rattle.std.specs.Prelude.{IfOk}
use Rattle.behaviour_semantics.specs.Label.{under}
use Rattle.behaviour_semantics.specs.WellFormed.{IsClosedBehaviour}
use Rattle.behaviour_tree.specs.BehaviourTerms.{profiles_in}
use Rattle.behaviour_tree.specs.BehaviourView.{behaviour_of}
use Rattle.behaviour_tree.specs.Over.{AreTermsOf}
use Rattle.behaviour_tree.specs.StateView.{stands_for}
use Rattle.behaviour_tree.specs.declared.behaviours.Beh.{Beh}
use Rattle.step_parts.proofs.NodeLemmas.{apart_other, call_ground, other_relabelled}
use Rattle.step_parts.proofs.targets.beh_under.Goals as goal

pub returns-in-Stop-clause-same : goal.returns-in-Stop-clause-same
returns-in-Stop-clause-same c = ap (λ (b : Beh). under (behaviour_of b) c.args.pairs.items) (sym (sym c.deref.ensures ∙ c.in-Stop.is))

pub returns-in-Call-clause-same : goal.returns-in-Call-clause-same
returns-in-Call-clause-same c =
    subst (λ (b : Beh). IfOk c.call_under.result (λ made. stands_for made ≡ under (behaviour_of b) c.args.pairs.items))
    (sym (sym c.deref.ensures ∙ c.in-Call.is))
    c.call_under.ensures.same

pub returns-in-Call-clause-terms : goal.returns-in-Call-clause-terms
returns-in-Call-clause-terms c =
    IfOk-weaker c.call_under.result _ _ (λ made e signature h.
    subst (AreTermsOf signature) (sym e) (subst (λ (b : Beh). AreTermsOf signature (profiles_in b)) (sym c.deref.ensures ∙ c.in-Call.is) h))
    c.call_under.ensures.terms

pub returns-in-Call-clause-closed_parts : goal.returns-in-Call-clause-closed_parts
returns-in-Call-clause-closed_parts c =
    IfOk-weaker c.call_under.result _ _ (λ made f signature specification h.
    f (call_ground signature specification c.in-Call.process c.in-Call.gates.items c.in-Call.values.items
    (subst (λ (b : Beh). IsClosedBehaviour signature specification (behaviour_of b)) (sym c.deref.ensures ∙ c.in-Call.is) h)))
    c.call_under.ensures.closed_parts

pub returns-in_default-clause-same : goal.returns-in_default-clause-same
returns-in_default-clause-same c =
    IfOk-weaker c.other_under.result _ _ (λ made e.
    e ∙ other_relabelled c.args.pairs.items c.args.behaviour.now.value
    (sym (apart_other c.args.behaviour.now.value (λ is. c.in_default.not-Stop (c.deref.ensures ∙ is))
    (λ place process gates values is. c.in_default.not-Call place process gates values (c.deref.ensures ∙ is)))))
    c.other_under.ensures.same
