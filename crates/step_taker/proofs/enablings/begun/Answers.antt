use Rattle.std.proofs.Common.{◌∙◌, ap, sym, subst}
use Rattle.std.proofs.lemmas.Result.{IfOk-weaker}
use Rattle.lotos_base.specs.Substitution.{binding}
use Rattle.behaviour_semantics.specs.Behaviour.{Behaviour, numbers_of}
use Rattle.behaviour_semantics.specs.Replacement.{with_values, binding_of}
use Rattle.behaviour_tree.specs.BehaviourTerms.{profiles_in}
use Rattle.behaviour_tree.specs.BehaviourView.{behaviour_of, terms_of, variables_of}
use Rattle.behaviour_tree.specs.Over.{AreTermsOf}
use Rattle.behaviour_tree.specs.StateView.{environment_of, node_profiles, stands_for}
use Rattle.behaviour_tree.specs.declared.states.Node.{Node}
use Rattle.step_parts.specs.TargetNodes.{IsAccepting}
use Rattle.step_parts.proofs.NodeLemmas.{first_terms, second_terms}
use Rattle.step_taker.proofs.SplitLemmas.{parts_as}
use Rattle.lotos_base.specs.Substitution.{without}
use Rattle.step_taker.proofs.enablings.begun.Goals as goal

pub accepted-requires : goal.accepted-requires
accepted-requires c =
    c.requires.grounded

pub returns-clause-same : goal.returns-clause-same
returns-clause-same c =
    IfOk-weaker c.shared.result _ _ (λ made e. ap stands_for e ∙ c.in_ok-node.ensures.same
    ∙ ap (λ (b : Behaviour). with_values (binding_of (variables_of c.args.side.now.variables.now.items) (terms_of c.args.made.items))
    (with_values (without (numbers_of (variables_of c.args.side.now.variables.now.items)) (binding (environment_of
    c.args.side.now.environment.now.items))) b)) (ap behaviour_of c.in_ok-right.ensures)) c.shared.ensures

pub returns-clause-terms : goal.returns-clause-terms
returns-clause-terms c =
    IfOk-weaker c.shared.result _ _ (λ made e signature h k. subst (λ (node : Node). AreTermsOf signature (node_profiles node)) (sym e)
    (c.in_ok-node.ensures.terms signature (subst (AreTermsOf signature) (sym (ap profiles_in c.in_ok-right.ensures))
    (first_terms signature _ _ h))
    (second_terms signature _ _ h) k)) c.shared.ensures

pub returns-clause-closed_parts : goal.returns-clause-closed_parts
returns-clause-closed_parts c =
    IfOk-weaker c.shared.result _ _ (λ made e signature specification h. parts_as made.value _ e (c.in_ok-node.ensures.closed_parts
    signature specification
    (subst (λ (b : Behaviour). IsAccepting signature specification (variables_of c.args.side.now.variables.now.items)
    c.args.side.now.environment.now.items c.args.made.items b) (sym (ap behaviour_of c.in_ok-right.ensures)) h))) c.shared.ensures
