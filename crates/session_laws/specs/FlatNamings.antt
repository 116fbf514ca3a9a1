-- The naming by which flat texts are written is one that calls no two processes by one name.
use Rattle.std.specs.Prelude.{◌+◌, ◌<◌, ◌^◌, length}
use Rattle.lotos_base.specs.Signature.{Signature}
use Rattle.behaviour_semantics.specs.Behaviour.{Specification}
use Rattle.printed_texts.specs.BehaviourText.{process_names}
use Rattle.flat_text.specs.GivenNames.{given_names}
use Rattle.flat_text.specs.FlatText.{flat_naming}
use Rattle.session_laws.specs.WrittenSpecifications.{IsFlatNaming}

-- As long as numbers stay below 2^64, up to which a number is known to have a text of its own.
abbrev pub FlatTextsHaveFlatNamings : Type 0
FlatTextsHaveFlatNamings = (signature : Signature) (specification : Specification)
    → 3 + (length (process_names specification) + length (process_names specification)) < 2 ^ 64
    → IsFlatNaming (flat_naming signature specification (given_names (process_names specification))) specification
