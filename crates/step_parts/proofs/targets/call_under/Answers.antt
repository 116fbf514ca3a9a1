use Rattle.std.proofs.Common.{ℕ, List, map, ap, ◌∙◌}
use Rattle.lotos_base.specs.Term.{Term}
use Rattle.behaviour_semantics.specs.Behaviour.{call}
use Rattle.behaviour_semantics.specs.Label.{gate_under}
use Rattle.behaviour_tree.specs.BehaviourView.{terms_of}
use Rattle.behaviour_tree.proofs.ClosedLemmas.{values_alike}
use Rattle.step_parts.proofs.targets.call_under.Goals as goal

pub returns-clause-same : goal.returns-clause-same
returns-clause-same c =
    ap (λ (gates : List ℕ). call c.args.process gates (terms_of c.in_ok-values.values.items)) c.in_ok-gates.ensures
    ∙ ap (λ (terms : List Term). call c.args.process (map (gate_under c.args.pairs.now.items) c.args.gates.now.items) terms)
    c.in_ok-values.ensures.same

pub returns-clause-terms : goal.returns-clause-terms
returns-clause-terms c = c.in_ok-values.ensures.terms

pub returns-clause-closed_parts : goal.returns-clause-closed_parts
returns-clause-closed_parts c = λ h.
    values_alike c.in_ok-values.values.items c.args.values.now.items c.in_ok-values.ensures.same h
