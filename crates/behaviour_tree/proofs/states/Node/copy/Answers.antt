use Rattle.std.proofs.Common.{ap, subst}
use Rattle.behaviour_tree.specs.BehaviourView.{behaviour_of, variables_of}
use Rattle.behaviour_tree.specs.Closed.{IsClosedNode}
use Rattle.behaviour_tree.specs.declared.states.Node.{Node}
use Rattle.behaviour_tree.proofs.ClosedLemmas.{closed_alike, closed_under_alike, same_closed, values_alike}
use Rattle.behaviour_tree.proofs.states.Node.copy.Goals as goal

pub returns-in_ok-owner-in-Part-clause-closed : goal.returns-in_ok-owner-in-Part-clause-closed
returns-in_ok-owner-in-Part-clause-closed c = λ h.
    closed_alike c.in_ok-environment-in-Part.environment.items c.in-Part.environment.items
    (behaviour_of c.in_ok-owner-in-Part.field-0.value) (behaviour_of c.in-Part.behaviour.value)
    c.in_ok-environment-in-Part.ensures.same c.in_ok-environment-in-Part.ensures.terms
    (ap behaviour_of c.in_ok-owner-in-Part.ensures) (subst (λ (n : Node). IsClosedNode n) c.in-Part.is h)

pub returns-in_ok-values-in-Call-clause-closed : goal.returns-in_ok-values-in-Call-clause-closed
returns-in_ok-values-in-Call-clause-closed c = λ h.
    values_alike c.in_ok-values-in-Call.values.items c.in-Call.values.items c.in_ok-values-in-Call.ensures.same
    (subst (λ (n : Node). IsClosedNode n) c.in-Call.is h)

pub returns-in_ok-environment_copy-in-Enable-clause-closed : goal.returns-in_ok-environment_copy-in-Enable-clause-closed
returns-in_ok-environment_copy-in-Enable-clause-closed c = λ h.
    let both = subst (λ (n : Node). IsClosedNode n) c.in-Enable.is h in (
      same_closed _ _ c.in_ok-left-in-Enable.ensures both.0,
      closed_under_alike c.in_ok-environment_copy-in-Enable.field-0.items c.in-Enable.environment.items
          (variables_of c.in_ok-variables-in-Enable.variables.items) (variables_of c.in-Enable.variables.items)
          (behaviour_of c.in_ok-right-in-Enable.right.value) (behaviour_of c.in-Enable.right.value)
          c.in_ok-environment_copy-in-Enable.ensures.same c.in_ok-environment_copy-in-Enable.ensures.terms
          c.in_ok-variables-in-Enable.ensures (ap behaviour_of c.in_ok-right-in-Enable.ensures) both.1,
    )
