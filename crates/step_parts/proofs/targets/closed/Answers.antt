use Rattle.std.proofs.Common.{◌≡◌, ap, sym, ◌∙◌, subst, arith}
use Rattle.std.proofs.lemmas.Result.{IfOk-weaker}
use Rattle.std.proofs.lemmas.List.{nil_from_length}
use Rattle.lotos_base.specs.Substitution.{binding}
use Rattle.behaviour_semantics.specs.Replacement.{with_values}
use Rattle.term_match.specs.SubstView.{profiled_pairs}
use Rattle.behaviour_tree.specs.BehaviourTerms.{profiles_in}
use Rattle.behaviour_tree.specs.BehaviourView.{behaviour_of}
use Rattle.behaviour_tree.specs.Closed.{IsFree}
use Rattle.behaviour_tree.specs.Over.{AreTermsOf}
use Rattle.behaviour_tree.specs.StateView.{environment_of}
use Rattle.behaviour_tree.specs.declared.behaviours.Beh.{Beh}
use Rattle.behaviour_instances.specs.Suited.{SuitsWhere}
use Rattle.behaviour_instances.proofs.InstanceLemmas.{of_signatures}
use Rattle.step_parts.proofs.NodeLemmas.{no_values}
use Rattle.step_parts.proofs.targets.closed.Goals as goal

pub returns-then-len-eq0-clause-same : goal.returns-then-len-eq0-clause-same
returns-then-len-eq0-clause-same c =
    IfOk-weaker c.owner.result _ _ (λ made e.
    ap behaviour_of e
    ∙ sym (no_values c.args.environment.now.items (behaviour_of c.args.behaviour.now.value)
    (nil_from_length c.args.environment.now.items (omega (arith, c.if-len-eq0.true, c.len.ensures, c.args.environment.now.ok.0)))))
    c.owner.ensures

pub returns-then-len-eq0-clause-terms : goal.returns-then-len-eq0-clause-terms
returns-then-len-eq0-clause-terms c =
    IfOk-weaker c.owner.result _ _ (λ made e signature h k.
    subst (λ (b : Beh). AreTermsOf signature (profiles_in b)) (sym e) h) c.owner.ensures

pub instance-requires : goal.instance-requires
instance-requires c =
    subst (λ (b : Beh). SuitsWhere (profiled_pairs c.args.environment.now.items) (λ n s. IsFree n s (behaviour_of b)))
    (sym c.deref.ensures) c.requires

pub returns-clause-same : goal.returns-clause-same
returns-clause-same c =
    IfOk-weaker c.shared.result _ _ (λ made e.
    ap behaviour_of e ∙ c.in_ok-made.ensures.same
    ∙ ap (λ (b : Beh). with_values (binding (environment_of c.args.environment.now.items)) (behaviour_of b)) c.deref.ensures)
    c.shared.ensures

pub returns-clause-terms : goal.returns-clause-terms
returns-clause-terms c =
    IfOk-weaker c.shared.result _ _ (λ made e signature h k.
    subst (λ (b : Beh). AreTermsOf signature (profiles_in b)) (sym e)
    (subst (AreTermsOf signature) (sym c.in_ok-made.ensures.terms)
    (of_signatures signature c.args.environment.now.items c.deref.result.now
    (subst (λ (b : Beh). AreTermsOf signature (profiles_in b)) (sym c.deref.ensures) h) k))) c.shared.ensures
