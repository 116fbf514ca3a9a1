-- What bisimulations and alike behaviours obey.
use Rattle.std.specs.Prelude.{List}
use Rattle.lotos_base.specs.Term.{Term}
use Rattle.lotos_base.specs.Equation.{Data}
use Rattle.behaviour_semantics.specs.Behaviour.{Behaviour, Process, Specification}
use Rattle.behaviour_semantics.specs.Label.{Label}
use Rattle.behaviour_semantics.specs.Transition.{Transition}
use Rattle.behaviour_semantics.specs.Menu.{EqualLabels}
use Rattle.behaviour_semantics.specs.WellFormed.{IsClosedBehaviour, AreOver}
use Rattle.certificate_theory.specs.SameSorts.{AreAlikeInSorts}
use Rattle.certificate_theory.specs.Bisimulation.{IsStrongBisimulation, IsBisimulationUpToAlike, AreJoinedToAPair}
use Rattle.certificate_theory.specs.Certificate.{Comparison, ListedPair, AreListed}

-- A transition of the behaviour whose label equals this one and whose target is alike this one.
pub record AlikeTransition (data_ : Data) (processes : List Process) (c : Behaviour) (label : Label) (target : Behaviour) : Type 0 where
  pub answer : Label
  pub reached : Behaviour
  pub moves : Transition data_ processes c answer reached
  pub labels : EqualLabels data_ label answer
  pub targets : AreAlikeInSorts data_ target reached

-- each transition of a closed behaviour is one of each closed behaviour that is alike it, up to equal values and alike targets
abbrev pub AlikeBehavioursMoveAlike : Type 0
AlikeBehavioursMoveAlike =
    (data_ : Data) (canon : Term → Term) (specification : Specification) (b c : Behaviour) →
    AreOver data_ canon specification b →
    IsClosedBehaviour data_.signature specification c →
    AreAlikeInSorts data_ b c →
    (label : Label) (target : Behaviour) →
    Transition data_ specification.processes b label target →
    AlikeTransition data_ specification.processes c label target

-- What is compared is in order: the data have a canon, both specifications are well formed over the data, and their starts are
-- closed.
pub record IsComparable (c : Comparison) : Type 0 where
  pub left : AreOver c.data_ c.canon c.left c.left_start
  pub right : AreOver c.data_ c.canon c.right c.right_start

-- where listed pairs are a strong bisimulation up to 'alike', what is joined to them by chains of alike behaviours is a strong
-- bisimulation
abbrev pub PairsUpToAlikeGiveABisimulation : Type 0
PairsUpToAlikeGiveABisimulation =
    (c : Comparison) (pairs : List ListedPair) →
    IsComparable c →
    IsBisimulationUpToAlike c.data_ c.left c.right (AreListed pairs) →
    IsStrongBisimulation c.data_ c.left c.right (AreJoinedToAPair c.data_ c.left c.right (AreListed pairs))
