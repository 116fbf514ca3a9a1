-- What same data obey: a specification over the one data is one over the other, with the same transitions.
use Rattle.std.specs.Prelude.{ℕ, List}
use Rattle.lotos_base.specs.Term.{Term}
use Rattle.lotos_base.specs.Sorting.{HasSort}
use Rattle.lotos_base.specs.Equation.{Data}
use Rattle.lotos_base.specs.Equality.{Equal}
use Rattle.behaviour_semantics.specs.Behaviour.{Behaviour, Process, Specification}
use Rattle.behaviour_semantics.specs.Label.{Label}
use Rattle.behaviour_semantics.specs.Transition.{Transition}
use Rattle.behaviour_semantics.specs.WellFormed.{IsSpecification, AreOver}
use Rattle.certificate_theory.specs.SameData.{AreSameData}

pub record SameDataAreInterchangeable : Type 0 where
  -- same data are the same the other way round too
  pub mutual_data : (data_ other : Data) → AreSameData data_ other → AreSameData other data_
  -- terms have the same sorts
  pub sorts :
      (data_ other : Data) (t : Term) (s : ℕ) →
      AreSameData data_ other →
      HasSort data_.signature t s →
      HasSort other.signature t s
  -- equal terms are equal
  pub equality : (data_ other : Data) (t u : Term) → AreSameData data_ other → Equal data_ t u → Equal other t u
  -- well-formed specifications are well formed
  pub specifications :
      (data_ other : Data) (specification : Specification) →
      AreSameData data_ other →
      IsSpecification data_.signature specification →
      IsSpecification other.signature specification
  -- a canon of the one data is one of the other, and closed behaviours are closed
  pub over :
      (data_ other : Data) (canon : Term → Term) (specification : Specification) (b : Behaviour) →
      AreSameData data_ other →
      AreOver data_ canon specification b →
      AreOver other canon specification b
  -- behaviours have the same transitions
  pub transitions :
      (data_ other : Data) (processes : List Process) (b : Behaviour) (label : Label) (target : Behaviour) →
      AreSameData data_ other →
      Transition data_ processes b label target →
      Transition other processes b label target
