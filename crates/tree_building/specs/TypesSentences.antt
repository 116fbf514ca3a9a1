-- The parts of types.
use Rattle.std.specs.Prelude.{ℕ, ◌==◌, List, [], ◌∷◌, ◌++◌}
use Rattle.lotos_base.specs.WrittenTerm.{PlacedName}
use Rattle.lotos_lexer.specs.declared.kinds.TheConstants.{COMMA, RENAMEDBY, ACTUALIZEDBY, USING, FORMALSORTS, FORMALOPNS, FORMALEQNS, SORTS, OPNS, EQNS}
use Rattle.lotos_lexer.specs.declared.tokens.Token.{Token}
use Rattle.lotos_rows.specs.declared.types.TheConstants as types
use Rattle.syntax_trees.specs.WrittenItem.{WrittenPairs, WrittenSections}
use Rattle.lotos_rows.specs.Words.{IsOfKind, Optional, Behind}
use Rattle.lotos_rows.specs.Names.{IsName, AreNames, AreLooseNames, IsWrittenOperation}
use Rattle.lotos_rows.specs.Equations.{AreEquations}
use Rattle.lotos_rows.specs.Renamings.{AreRenames}
use Rattle.lotos_rows.specs.Types.{AreOperations, no_equations, AreSections, IsTypeBody, IsItem}
use Rattle.tree_building.specs.Meaning.{Meaning, PlainAfterBase, renamed, actualised, extended, an_item, a_body, after_base, some_sections, some_names, declared_operations, an_equation_section, some_named_operations}
use Rattle.tree_building.specs.PartSentences.{As, choose}
use Rattle.tree_building.specs.NamesSentences.{Further}

-- what stands behind the first name of a type's body
pub data IsAfterBase (text : List ℕ) : List Token → PlainAfterBase → Type 0 where
  renaming_behind : {word : Token} {tokens : List Token} {pairs : WrittenPairs} →
      IsOfKind RENAMEDBY word → AreRenames text tokens pairs → IsAfterBase text (word ∷ tokens) (renamed pairs)
  actualising_behind : {word using : Token} {actual_tokens tokens : List Token} {actuals : List PlacedName} {pairs : WrittenPairs} →
      IsOfKind ACTUALIZEDBY word → AreNames text actual_tokens actuals → IsOfKind USING using → AreRenames text tokens pairs →
      IsAfterBase text (word ∷ (actual_tokens ++ using ∷ tokens)) (actualised actuals pairs)
  extending_behind : {import_tokens tokens : List Token} {imports : List PlacedName} {sections : WrittenSections} →
      Further COMMA (IsName text) import_tokens imports → AreSections text tokens sections →
      IsAfterBase text (import_tokens ++ tokens) (extended imports sections)

abbrev pub types_part : List ℕ → ℕ → List Token → Meaning → Type 0
types_part text p tokens meaning =
    choose (p == types.ITEM) (As an_item (IsItem text) tokens meaning)
    (choose (p == types.BODY) (As a_body (IsTypeBody text) tokens meaning)
    (choose (p == types.AFTER_BASE) (As after_base (IsAfterBase text) tokens meaning)
    (choose (p == types.SECTIONS) (As some_sections (AreSections text) tokens meaning)
    (choose (p == types.FORMAL_SORTS) (As some_names (Optional [] (Behind FORMALSORTS (AreLooseNames text))) tokens meaning)
    (choose (p == types.FORMAL_OPERATIONS) (As declared_operations (Optional [] (Behind FORMALOPNS (AreOperations text))) tokens meaning)
    (choose (p == types.FORMAL_EQUATIONS)
    (As an_equation_section (Optional no_equations (Behind FORMALEQNS (AreEquations text))) tokens meaning)
    (choose (p == types.SORTS) (As some_names (Optional [] (Behind SORTS (AreLooseNames text))) tokens meaning)
    (choose (p == types.OPERATIONS) (As declared_operations (Optional [] (Behind OPNS (AreOperations text))) tokens meaning)
    (choose (p == types.EQUATIONS) (As an_equation_section (Optional no_equations (Behind EQNS (AreEquations text))) tokens meaning)
    (choose (p == types.OPERATION_LINES) (As declared_operations (AreOperations text) tokens meaning)
    (As some_named_operations (Further COMMA (IsWrittenOperation text)) tokens meaning)))))))))))
