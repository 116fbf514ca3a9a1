-- What a text stands for is well formed.
use Rattle.lotos_base.specs.Signature.{Signature}
use Rattle.syntax_trees.specs.WrittenDefinition.{WrittenSpecification}
use Rattle.behaviour_semantics.specs.Behaviour.{Specification}
use Rattle.behaviour_semantics.specs.WellFormed.{IsSpecification}
use Rattle.scope_parts.specs.Resolution.{resolved}
use Rattle.scope_parts.specs.Definitions.{SpecificationIs}
use Rattle.scope_parts.specs.GateLists.{TextHasGateLists}

-- the specification of a text in which each list of a `par` has a gate is well formed over the signature
abbrev pub TextsAreWellFormed : Type 0
TextsAreWellFormed = (signature : Signature) (text : WrittenSpecification) (specification : Specification)
    → TextHasGateLists text → SpecificationIs signature text (resolved specification) → IsSpecification signature specification
