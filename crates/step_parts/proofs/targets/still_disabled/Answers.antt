use Rattle.std.proofs.Common.{Bool, if◌then◌else◌, ap, sym, ◌∙◌, subst}
use Rattle.std.proofs.lemmas.Result.{IfOk-weaker}
use Rattle.behaviour_semantics.specs.Behaviour.{disable}
use Rattle.behaviour_tree.specs.Over.{AreTermsOf}
use Rattle.behaviour_tree.specs.StateView.{node_profiles, stands_for}
use Rattle.behaviour_tree.specs.declared.states.Node.{Node}
use Rattle.behaviour_tree.proofs.ClosedLemmas.{terms_both}
use Rattle.step_parts.specs.TargetNodes.{HasClosedParts}
use Rattle.step_parts.proofs.targets.still_disabled.Goals as goal

pub returns-then-ends-clause-same : goal.returns-then-ends-clause-same
returns-then-ends-clause-same c =
    ap (λ (b : Bool). if b then stands_for c.args.target.value
    else disable (stands_for c.args.target.value) (stands_for c.args.right.value)) (sym (sym c.ends.ensures ∙ c.if-ends.true))

pub returns-clause-same : goal.returns-clause-same
returns-clause-same c =
    IfOk-weaker c.shared.result _ _ (λ made e. ap stands_for e
    ∙ ap (λ (b : Bool). if b then stands_for c.args.target.value
    else disable (stands_for c.args.target.value) (stands_for c.args.right.value)) (sym (sym c.ends.ensures ∙ c.if-ends.false)))
    c.shared.ensures

pub returns-clause-terms : goal.returns-clause-terms
returns-clause-terms c =
    IfOk-weaker c.shared.result _ _ (λ made e signature h k.
    subst (λ (n : Node). AreTermsOf signature (node_profiles n)) (sym e) (terms_both signature _ _ h k)) c.shared.ensures

pub returns-clause-closed_parts : goal.returns-clause-closed_parts
returns-clause-closed_parts c =
    IfOk-weaker c.shared.result _ _ (λ made e h k. subst (λ (n : Node). HasClosedParts n) (sym e) (h, k)) c.shared.ensures
