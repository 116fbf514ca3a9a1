-- What the parts of a derivation mean, as plain values.
use Rattle.std.specs.Prelude.{ℕ, List, [], ◌∷◌, Option, Some, None, option_map}
use Rattle.lotos_base.specs.Equation.{Place}
use Rattle.lotos_base.specs.WrittenTerm.{PlacedName, WrittenTerm, ListedOperation}
use Rattle.syntax_trees.specs.WrittenVariable.{WrittenVariable}
use Rattle.syntax_trees.specs.WrittenEquation.{WrittenPremiss, WrittenEquation, WrittenGroup, WrittenEquations}
use Rattle.syntax_trees.specs.WrittenItem.{WrittenOperation, WrittenPair, WrittenPairs, WrittenSections, WrittenTypeBody, WrittenItem}
use Rattle.syntax_trees.specs.WrittenBehaviour.{WrittenGateChoice, WrittenExitValue, WrittenOffer, WrittenBehaviour}
use Rattle.syntax_trees.specs.WrittenDefinition.{WrittenHeading, WrittenInner, WrittenSpecification}
use Rattle.syntax_trees.specs.Strength.{PlacedSign}
use Rattle.lotos_rows.specs.Names.{NamedOperation, PlacedProfile}

-- a term, and the place of its first token
pub record PlainStartedTerm : Type 0 where
  pub start : Place
  pub term : WrittenTerm

-- the end of an equation with premisses: those behind the first one, and the equation behind `=>`
pub record PlainConclusion : Type 0 where
  pub premisses : List WrittenPremiss
  pub arrow : Place
  pub left : WrittenTerm
  pub right : WrittenTerm

-- what stands behind the first term of an equation: the right side of a pair, and the end of an equation with premisses
pub record PlainAfterTerm : Type 0 where
  pub right : Option WrittenTerm
  pub conclusion : Option PlainConclusion

-- what stands behind the first name of a type's body
pub data PlainAfterBase : Type 0 where
  renamed : WrittenPairs → PlainAfterBase
  actualised : List PlacedName → WrittenPairs → PlainAfterBase
  extended : List PlacedName → WrittenSections → PlainAfterBase

-- a flat list of operands with the signs between them, or the tail of one
pub record PlainFlat : Type 0 where
  pub operands : List WrittenBehaviour
  pub signs : List PlacedSign

-- an action without its gate, and the flat list behind it
pub record PlainActionEnd : Type 0 where
  pub offers : List WrittenOffer
  pub test : Option WrittenPremiss
  pub behind : PlainFlat

-- a call without its name, and the tail behind it
pub record PlainCallEnd : Type 0 where
  pub gates : List PlacedName
  pub values : List WrittenTerm
  pub behind : PlainFlat

-- a choice of values without its first names
pub record PlainValueChoiceEnd : Type 0 where
  pub sort : PlacedName
  pub more : List WrittenVariable
  pub inside : WrittenBehaviour

-- a choice of gates without its first names
pub record PlainGateChoiceEnd : Type 0 where
  pub among : List PlacedName
  pub more : List WrittenGateChoice
  pub inside : WrittenBehaviour

-- the meaning of a part
pub data Meaning : Type 0 where
  a_name : PlacedName → Meaning
  some_names : List PlacedName → Meaning
  some_variables : List WrittenVariable → Meaning
  an_operation : NamedOperation → Meaning
  some_named_operations : List NamedOperation → Meaning
  a_profile : PlacedProfile → Meaning
  maybe_profile : Option PlacedProfile → Meaning
  maybe_name : Option PlacedName → Meaning
  a_term : PlainStartedTerm → Meaning
  some_factors : List (PlacedName × WrittenTerm) → Meaning
  some_terms : List WrittenTerm → Meaning
  some_groups : List WrittenGroup → Meaning
  some_equations : List WrittenEquation → Meaning
  an_equation : WrittenEquation → Meaning
  a_conclusion : PlainConclusion → Meaning
  maybe_conclusion : Option PlainConclusion → Meaning
  after_term : PlainAfterTerm → Meaning
  a_premiss : WrittenPremiss → Meaning
  maybe_term : Option WrittenTerm → Meaning
  some_pairs : List WrittenPair → Meaning
  both_pairs : WrittenPairs → Meaning
  an_item : WrittenItem → Meaning
  some_items : List WrittenItem → Meaning
  a_body : WrittenTypeBody → Meaning
  after_base : PlainAfterBase → Meaning
  some_sections : WrittenSections → Meaning
  declared_operations : List WrittenOperation → Meaning
  an_equation_section : WrittenEquations → Meaning
  some_operands : PlainFlat → Meaning
  an_action : PlainActionEnd → Meaning
  a_call : PlainCallEnd → Meaning
  some_offers : List WrittenOffer → Meaning
  some_exit_values : List WrittenExitValue → Meaning
  some_lets : List (WrittenVariable × WrittenTerm) → Meaning
  some_gate_choices : List WrittenGateChoice → Meaning
  a_value_choice : PlainValueChoiceEnd → Meaning
  a_gate_choice : PlainGateChoiceEnd → Meaning
  a_behaviour : WrittenBehaviour → Meaning
  a_sign : PlacedSign → Meaning
  a_heading : WrittenHeading → Meaning
  a_functionality : Option (List PlacedName) → Meaning
  some_inner : List WrittenInner → Meaning
  a_process : WrittenInner → Meaning
  a_word : Unit {0} → Meaning
  a_specification : WrittenSpecification → Meaning
  some_order_items : List ListedOperation → Meaning
