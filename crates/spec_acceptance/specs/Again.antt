-- An accepted specification whose text is kept, and the same text over other data.
use Rattle.std.specs.Prelude.{◌≡◌, ℕ, List, []}
use Rattle.lotos_base.specs.Signature.{Signature}
use Rattle.sort_terms.specs.EquationView.{data_of}
use Rattle.sort_terms.specs.declared.equations.Flat.{Flat}
use Rattle.syntax_trees.specs.WrittenDefinition.{WrittenSpecification}
use Rattle.behaviour_tree.specs.Closed.{IsClosedNode}
use Rattle.behaviour_tree.specs.DefinitionView.{specification_of}
use Rattle.behaviour_tree.specs.Over.{IsSpecOver, IsStateOf}
use Rattle.behaviour_tree.specs.StateView.{state_of}
use Rattle.behaviour_tree.specs.declared.definitions.Spec.{Spec}
use Rattle.declaration_laws.specs.HandedOn.{AreSameData}
use Rattle.refusal_lines.specs.HandedOn.{IsSpecificationReading, ShelfState}
use Rattle.spec_acceptance.specs.Acceptance.{Asked, Acceptance, IsAccepted}
use Rattle.spec_acceptance.specs.AcceptedView.{HoldsAccepted}
use Rattle.spec_acceptance.specs.Doing.{Did}
use Rattle.spec_acceptance.specs.Part.{goes_on}
use Rattle.spec_acceptance.specs.Scopes.{StandsFor}
use Rattle.spec_acceptance.specs.declared.again.Begun.{Begun}
use Rattle.spec_acceptance.specs.declared.again.WithText.{WithText}

-- The text is that of what was accepted, which has no parameters and so no start values.
pub record IsTextOf (text : List ℕ) (acceptance : Acceptance) : Type 0 where
  pub tree : WrittenSpecification
  pub read : IsSpecificationReading 0 text tree
  pub stands : StandsFor acceptance.data_ tree acceptance.spec
  pub no_parameters : acceptance.spec.parameters ≡ []
  pub no_values : acceptance.values ≡ []

-- It is what was accepted, with its text.
pub record HoldsWithText (acceptance : Acceptance) (whole : WithText) : Type 0 where
  pub holds : HoldsAccepted acceptance whole.accepted
  pub text_is : IsTextOf whole.text.items acceptance

-- The shelf gave what was asked of it, and the answer is what came of it, with its text.
pub record KeepsAccepted (before after : ShelfState) (asked : Asked) (whole : WithText) : Type 0 where
  pub acceptance : Acceptance
  pub came : Did before after (IsAccepted asked) (goes_on acceptance)
  pub holds : HoldsWithText acceptance whole

-- The data are the same as those over which the text was accepted.
pub record IsOverSame (text : List ℕ) (flat : Flat) (acceptance : Acceptance) : Type 0 where
  pub text_is : IsTextOf text acceptance
  pub same : AreSameData (data_of flat) acceptance.data_

-- The text whose tree this is stands for the specification over the data.
pub record StandsOver (flat : Flat) (tree : WrittenSpecification) (made : Spec) : Type 0 where
  pub stands : StandsFor (data_of flat) tree (specification_of made)
  pub over : IsSpecOver (data_of flat).signature made

-- It is the specification that was accepted, over the signature, with the closed state in which it begins: its body.
pub record BeginsOver (signature : Signature) (acceptance : Acceptance) (begun : Begun) : Type 0 where
  pub spec_is : specification_of begun.spec ≡ acceptance.spec
  pub over : IsSpecOver signature begun.spec
  pub begins : state_of begun.start ≡ acceptance.spec.body
  pub state : IsStateOf signature begun.spec begun.start
  pub closed : IsClosedNode begun.start.node
