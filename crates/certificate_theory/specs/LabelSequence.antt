-- What a behaviour can do: the labels of its transitions, one after another.
use Rattle.std.specs.Prelude.{List, [], ◌∷◌}
use Rattle.lotos_base.specs.Equation.{Data}
use Rattle.behaviour_semantics.specs.Behaviour.{Behaviour, Process, Specification}
use Rattle.behaviour_semantics.specs.Label.{Label}
use Rattle.behaviour_semantics.specs.Transition.{Transition}
use Rattle.certificate_theory.specs.Agreement.{AgreeingLabels}

module _ (data_ : Data) (processes : List Process) where
  -- The behaviour does these labels in this order and is then the target.
  pub data Does : Behaviour → List Label → Behaviour → Type 0 where
    does_nothing : {b : Behaviour} → Does b [] b
    does_then :
        {b next target : Behaviour} {label : Label} {labels : List Label} →
        Transition data_ processes b label next →
        Does next labels target →
        Does b (label ∷ labels) target

-- The labels agree one by one.
abbrev pub AllLabelsAgree : Data → Specification → Specification → List Label → List Label → Type 0
AllLabelsAgree data_ one other [] [] = Unit {0}
AllLabelsAgree data_ one other (label ∷ labels) (answer ∷ answers) =
    AgreeingLabels data_ one other label answer × AllLabelsAgree data_ one other labels answers
AllLabelsAgree data_ one other _ _ = ⊥

-- The behaviour of the other specification does labels that agree with these.
pub record DoesLike (data_ : Data) (one other : Specification) (labels : List Label) (c : Behaviour) : Type 0 where
  pub answers : List Label
  pub reached : Behaviour
  pub does : Does data_ other.processes c answers reached
  pub agree : AllLabelsAgree data_ one other labels answers
