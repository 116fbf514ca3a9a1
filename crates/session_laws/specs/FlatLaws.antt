-- The law of specifications that are written flatly.
use Rattle.lotos_base.specs.Signature.{IsWellFormedSignature}
use Rattle.syntax_trees.specs.WrittenDefinition.{WrittenSpecification}
use Rattle.behaviour_semantics.specs.Behaviour.{Specification}
use Rattle.printed_texts.specs.BehaviourText.{Naming}
use Rattle.scope_parts.specs.Resolution.{resolved}
use Rattle.scope_parts.specs.Definitions.{SpecificationIs}
use Rattle.session_laws.specs.WrittenSpecifications.{IsFlatNaming, IsFlatlyWritten, renamed}

-- What a text stands for, written flatly, is a text that stands for the very same, but for the names of processes: the same gates with
-- the same names, parameters, functionalities and behaviours, with the same numbers.
abbrev pub FlatTextsStandForTheSame : Type 0
FlatTextsStandForTheSame = (naming : Naming) (text flat : WrittenSpecification) (specification : Specification)
    → IsWellFormedSignature naming.signature
    → IsFlatNaming naming specification
    → SpecificationIs naming.signature text (resolved specification)
    → IsFlatlyWritten naming specification flat
    → SpecificationIs naming.signature flat (resolved (renamed naming specification))
