-- Where moves lead.
use Rattle.std.specs.Prelude.{List}
use Rattle.lotos_base.specs.Term.{Term}
use Rattle.lotos_base.specs.Equation.{Data}
use Rattle.behaviour_semantics.specs.Behaviour.{Behaviour, Specification}
use Rattle.behaviour_semantics.specs.Label.{Label}
use Rattle.behaviour_semantics.specs.Rule.{as_given}
use Rattle.behaviour_semantics.specs.Shape.{Derivation}
use Rattle.behaviour_semantics.specs.Derives.{Derives, DerivesCanonically}
use Rattle.behaviour_semantics.specs.WellFormed.{IsClosedBehaviour, IsClosedLabel, AreOver}
use Rattle.behaviour_semantics.specs.Run.{Reaches}

-- a move of a closed well-formed behaviour has a closed label and leads to a closed well-formed behaviour, with values
-- as they are given and with canonical values; so the laws that speak of a behaviour over a specification speak of each
-- one that it reaches
pub record TargetsAreWellFormed : Type 0 where
  pub derived :
      (data_ : Data) (canon : Term → Term) (specification : Specification) (b : Behaviour) →
      AreOver data_ canon specification b →
      (d : Derivation) (label : Label) (target : Behaviour) →
      Derives data_ specification.processes b d label target →
      IsClosedLabel data_.signature specification label × IsClosedBehaviour data_.signature specification target
  pub kept :
      (data_ : Data) (canon : Term → Term) (specification : Specification) (b : Behaviour) →
      AreOver data_ canon specification b →
      (d : Derivation) (label : Label) (target : Behaviour) →
      DerivesCanonically data_ canon specification.processes b d label target →
      IsClosedLabel data_.signature specification label × IsClosedBehaviour data_.signature specification target
  pub reached_as_given :
      (data_ : Data) (canon : Term → Term) (specification : Specification) (b : Behaviour) →
      AreOver data_ canon specification b →
      (ds : List Derivation) (target : Behaviour) →
      Reaches data_ as_given specification.processes b ds target →
      AreOver data_ canon specification target
  pub reached :
      (data_ : Data) (canon : Term → Term) (specification : Specification) (b : Behaviour) →
      AreOver data_ canon specification b →
      (ds : List Derivation) (target : Behaviour) →
      Reaches data_ canon specification.processes b ds target →
      AreOver data_ canon specification target
