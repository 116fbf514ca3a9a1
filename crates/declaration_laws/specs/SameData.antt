-- What a text stands for does not depend on how its data spell their names, nor on which types declared them.
use Rattle.lotos_base.specs.Equation.{Data}
use Rattle.syntax_trees.specs.WrittenDefinition.{WrittenSpecification}
use Rattle.behaviour_semantics.specs.Behaviour.{Specification}
use Rattle.certificate_theory.specs.SameData.{AreSameData}
use Rattle.scope_parts.specs.Resolution.{Resolution}
use Rattle.scope_parts.specs.Definitions.{SpecificationIs}

-- over data that are the same a text comes to the same: to one specification, or to one fault
abbrev pub SameDataResolveAlike : Type 0
SameDataResolveAlike = (data_ other : Data) (text : WrittenSpecification) (resolution : Resolution Specification)
    → AreSameData data_ other → SpecificationIs data_.signature text resolution → SpecificationIs other.signature text resolution
