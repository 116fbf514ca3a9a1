-- What derivations of one shape with equal leaves obey.
use Rattle.std.specs.Prelude.{◌≡◌, ℕ, List}
use Rattle.lotos_base.specs.Term.{Term}
use Rattle.lotos_base.specs.Equation.{Data}
use Rattle.behaviour_semantics.specs.Behaviour.{Behaviour, Specification, Process}
use Rattle.behaviour_semantics.specs.Label.{Label}
use Rattle.behaviour_semantics.specs.Rule.{as_given, AreValues}
use Rattle.behaviour_semantics.specs.Shape.{Derivation}
use Rattle.behaviour_semantics.specs.Derives.{GivesMove, Derives, DerivesCanonically}
use Rattle.behaviour_semantics.specs.Menu.{EqualTerms, EqualLabels}
use Rattle.behaviour_semantics.specs.Alike.{Alike}
use Rattle.behaviour_semantics.specs.WellFormed.{AreOver}

-- Two derivations of one shape, whose leaves are ground values of the same sorts and equal one by one.
pub record EqualDerivations (data_ : Data) (d e : Derivation) : Type 0 where
  pub shape : d.shape ≡ e.shape
  pub sorts : List ℕ
  pub first : AreValues data_.signature sorts d.leaves
  pub second : AreValues data_.signature sorts e.leaves
  pub equal : EqualTerms data_ d.leaves e.leaves

-- A move that the derivation gives, with a label that equals this one and a target that is alike this one.
pub record LikeMove (data_ : Data) (represent : Term → Term) (processes : List Process) (b : Behaviour) (d : Derivation) (label : Label)
    (target : Behaviour) : Type 0 where
  pub label_given : Label
  pub target_given : Behaviour
  pub gives : GivesMove data_ represent processes b d label_given target_given
  pub labels : EqualLabels data_ label_given label
  pub targets : Alike data_ target_given target

-- derivations of one shape with equal leaves give moves with equal labels and alike targets, whether values are as they
-- are given or canonical, in the one or in the other
pub record EqualLeavesGiveLikeMoves : Type 0 where
  pub kept_from_derived :
      (data_ : Data) (canon : Term → Term) (specification : Specification) (b : Behaviour) →
      AreOver data_ canon specification b →
      (d e : Derivation) (label : Label) (target : Behaviour) →
      EqualDerivations data_ d e →
      Derives data_ specification.processes b d label target →
      LikeMove data_ canon specification.processes b e label target
  pub derived_from_kept :
      (data_ : Data) (canon : Term → Term) (specification : Specification) (b : Behaviour) →
      AreOver data_ canon specification b →
      (d e : Derivation) (label : Label) (target : Behaviour) →
      EqualDerivations data_ d e →
      DerivesCanonically data_ canon specification.processes b d label target →
      LikeMove data_ as_given specification.processes b e label target
  pub derived :
      (data_ : Data) (canon : Term → Term) (specification : Specification) (b : Behaviour) →
      AreOver data_ canon specification b →
      (d e : Derivation) (label : Label) (target : Behaviour) →
      EqualDerivations data_ d e →
      Derives data_ specification.processes b d label target →
      LikeMove data_ as_given specification.processes b e label target
  pub kept :
      (data_ : Data) (canon : Term → Term) (specification : Specification) (b : Behaviour) →
      AreOver data_ canon specification b →
      (d e : Derivation) (label : Label) (target : Behaviour) →
      EqualDerivations data_ d e →
      DerivesCanonically data_ canon specification.processes b d label target →
      LikeMove data_ canon specification.processes b e label target
