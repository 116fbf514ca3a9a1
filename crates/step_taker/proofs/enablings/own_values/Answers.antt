use Rattle.std.proofs.Common.{◌∙◌, ap, sym}
use Rattle.behaviour_semantics.specs.Rule.{label_values}
use Rattle.behaviour_tree.specs.BehaviourTerms.{profiles_of}
use Rattle.behaviour_tree.specs.BehaviourView.{terms_of}
use Rattle.behaviour_tree.specs.MoveView.{label_of}
use Rattle.behaviour_tree.specs.declared.moves.Label.{Label}
use Rattle.step_parts.specs.HandedOn.{label_profiles}
use Rattle.step_taker.proofs.enablings.own_values.Goals as goal

pub returns-in-Exit-clause-same : goal.returns-in-Exit-clause-same
returns-in-Exit-clause-same c =
    ap (λ (l : Label). label_values (label_of l)) (sym c.in-Exit.is)

pub returns-in-Exit-clause-profiles : goal.returns-in-Exit-clause-profiles
returns-in-Exit-clause-profiles c =
    ap label_profiles (sym c.in-Exit.is)

pub returns-in-Gate-clause-same : goal.returns-in-Gate-clause-same
returns-in-Gate-clause-same c =
    ap (λ (l : Label). label_values (label_of l)) (sym c.in-Gate.is)

pub returns-in-Gate-clause-profiles : goal.returns-in-Gate-clause-profiles
returns-in-Gate-clause-profiles c =
    ap label_profiles (sym c.in-Gate.is)

pub returns-in-Inner-clause-same : goal.returns-in-Inner-clause-same
returns-in-Inner-clause-same c =
    ap terms_of c.new.ensures.items ∙ ap (λ (l : Label). label_values (label_of l)) (sym c.in-Inner.is)

pub returns-in-Inner-clause-profiles : goal.returns-in-Inner-clause-profiles
returns-in-Inner-clause-profiles c =
    ap profiles_of c.new.ensures.items ∙ ap label_profiles (sym c.in-Inner.is)
