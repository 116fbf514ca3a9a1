use Rattle.std.proofs.Common.{ℕ, List, subst}
use Rattle.behaviour_semantics.specs.Fault.{wrong_leaves}
use Rattle.behaviour_tree.specs.BehaviourView.{terms_of}
use Rattle.step_parts.specs.StepFaults.{IsStepChecked}
use Rattle.step_taker.proofs.bodies.checked_value.Goals as goal

pub returns-clause-checked : goal.returns-clause-checked
returns-clause-checked c = λ signature n of e.
    subst (λ (sorts : List ℕ). IsStepChecked n (wrong_leaves signature (terms_of c.args.leaves.now) c.args.at.leaf sorts)
    c.checked_leaves.result)
    c.as_slice.ensures (c.checked_leaves.ensures.checked signature n of e)
