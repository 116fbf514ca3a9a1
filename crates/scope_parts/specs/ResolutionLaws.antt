-- Laws of resolution: a text stands for one specification at most, and breaks one rule first at most.
use Rattle.std.specs.Prelude.{◌≡◌}
use Rattle.lotos_base.specs.Signature.{Signature}
use Rattle.syntax_trees.specs.WrittenBehaviour.{WrittenBehaviour}
use Rattle.syntax_trees.specs.WrittenDefinition.{WrittenSpecification}
use Rattle.behaviour_semantics.specs.Behaviour.{Behaviour, Specification}
use Rattle.scope_parts.specs.Resolution.{Resolution}
use Rattle.scope_parts.specs.Scope.{Scope}
use Rattle.scope_parts.specs.Numbering.{Numbers}
use Rattle.scope_parts.specs.Behaviours.{BehaviourIs}
use Rattle.scope_parts.specs.Definitions.{SpecificationIs}

-- a behaviour as it is written comes to one thing
abbrev pub BehavioursAreOneThing : Type 0
BehavioursAreOneThing = (signature : Signature) (scope : Scope) (numbers : Numbers) (b : WrittenBehaviour)
    (one other : Resolution Behaviour)
    → BehaviourIs signature scope numbers b one → BehaviourIs signature scope numbers b other → one ≡ other

-- and so does a text
abbrev pub TextsAreOneThing : Type 0
TextsAreOneThing = (signature : Signature) (text : WrittenSpecification) (one other : Resolution Specification)
    → SpecificationIs signature text one → SpecificationIs signature text other → one ≡ other
