-- What ties the table of moves to the rules of the standard.
use Rattle.std.specs.Prelude.{◌≡◌, ◌↔◌, List}
use Rattle.lotos_base.specs.Term.{Term}
use Rattle.lotos_base.specs.Equation.{Data}
use Rattle.behaviour_semantics.specs.Behaviour.{Behaviour, Process}
use Rattle.behaviour_semantics.specs.Label.{Label}
use Rattle.behaviour_semantics.specs.Shape.{Derivation}
use Rattle.behaviour_semantics.specs.Derives.{Derives, GivesMove}
use Rattle.behaviour_semantics.specs.Transition.{Transition}

-- a transition exists exactly where some derivation gives it
abbrev pub TransitionsAreDerived : Type 0
TransitionsAreDerived =
    (data_ : Data) (processes : List Process) (b : Behaviour) (label : Label) (target : Behaviour) →
    Transition data_ processes b label target ↔ ((d : Derivation) × Derives data_ processes b d label target)

-- A behaviour and a derivation determine label, target, the equations that are asked and the sorts of the leaves,
-- whatever terms represent values.
pub record SameMove (data_ : Data) (represent : Term → Term) (processes : List Process) (b : Behaviour) (d : Derivation)
    (label other : Label) (target another : Behaviour) (m : GivesMove data_ represent processes b d label target)
    (n : GivesMove data_ represent processes b d other another) : Type 0 where
  pub labels : label ≡ other
  pub targets : target ≡ another
  pub asked : m.asked ≡ n.asked
  pub sorts : m.sorts ≡ n.sorts

abbrev pub MovesAreDetermined : Type 0
MovesAreDetermined =
    (data_ : Data) (represent : Term → Term) (processes : List Process) (b : Behaviour) (d : Derivation) (label other : Label)
    (target another : Behaviour) (m : GivesMove data_ represent processes b d label target)
    (n : GivesMove data_ represent processes b d other another) →
    SameMove data_ represent processes b d label other target another m n
