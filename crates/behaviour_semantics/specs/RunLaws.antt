-- What runs obey.
use Rattle.std.specs.Prelude.{List}
use Rattle.lotos_base.specs.Term.{Term}
use Rattle.lotos_base.specs.Equation.{Data}
use Rattle.behaviour_semantics.specs.Behaviour.{Behaviour, Specification}
use Rattle.behaviour_semantics.specs.Rule.{as_given}
use Rattle.behaviour_semantics.specs.Shape.{Derivation}
use Rattle.behaviour_semantics.specs.Alike.{Alike}
use Rattle.behaviour_semantics.specs.WellFormed.{AreOver}
use Rattle.behaviour_semantics.specs.Run.{Reaches}

-- With canonical values derivations lead on exactly where they do with values as they are given, to alike behaviours.
pub record RunsAreAlike : Type 0 where
  pub kept :
      (data_ : Data) (canon : Term → Term) (specification : Specification) (b : Behaviour) →
      AreOver data_ canon specification b →
      (ds : List Derivation) (target : Behaviour) →
      Reaches data_ as_given specification.processes b ds target →
      (other : Behaviour) × Reaches data_ canon specification.processes b ds other × Alike data_ other target
  pub derived :
      (data_ : Data) (canon : Term → Term) (specification : Specification) (b : Behaviour) →
      AreOver data_ canon specification b →
      (ds : List Derivation) (target : Behaviour) →
      Reaches data_ canon specification.processes b ds target →
      (other : Behaviour) × Reaches data_ as_given specification.processes b ds other × Alike data_ target other
