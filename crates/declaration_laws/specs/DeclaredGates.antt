-- A specification uses the gates that it declares, and each process its formal gates; and the gates of a specification have distinct
-- names.
use Rattle.std.specs.Prelude.{◌≡◌, ℕ, List, slice_get, Some}
use Rattle.lotos_base.specs.Names.{AreOneName}
use Rattle.lotos_base.specs.Signature.{Signature}
use Rattle.syntax_trees.specs.WrittenDefinition.{WrittenSpecification}
use Rattle.behaviour_semantics.specs.Behaviour.{Specification}
use Rattle.behaviour_semantics.specs.WellFormed.{Every, IsSpecification}
use Rattle.scope_parts.specs.Resolution.{resolved}
use Rattle.scope_parts.specs.Definitions.{SpecificationIs}
use Rattle.declaration_laws.specs.VisibleGates.{IsOneOf, UsesOnly, UsesFormals}

-- two gates that the specification declares, whose names are one name, are one gate
abbrev pub HasDistinctGates : Specification → Type 0
HasDistinctGates specification = (i j : ℕ) (one other : List ℕ)
    → IsOneOf specification.gates i
    → IsOneOf specification.gates j
    → slice_get specification.gate_names i ≡ Some one
    → slice_get specification.gate_names j ≡ Some other
    → AreOneName one other
    → i ≡ j

pub record HasDeclaredGates (specification : Specification) : Type 0 where
  pub body : UsesOnly (IsOneOf specification.gates) specification.processes specification.body
  pub processes : Every (UsesFormals specification.processes) specification.processes
  pub names : HasDistinctGates specification

-- what a text stands for has them
abbrev pub TextsHaveDeclaredGates : Type 0
TextsHaveDeclaredGates = (signature : Signature) (text : WrittenSpecification) (specification : Specification)
    → SpecificationIs signature text (resolved specification)
    → IsSpecification signature specification
    → HasDeclaredGates specification
