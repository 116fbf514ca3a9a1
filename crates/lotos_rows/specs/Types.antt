-- Data types and mentions of libraries:
--
--   item     = type | "library" names "endlib"
--   type     = "type" name "is" body "endtype"
--   body     = name ( "renamedby" renames | "actualizedby" names "using" renames | { "," name } sections ) | sections
--   sections = ["formalsorts" list] ["formalopns" opns] ["formaleqns" eqns] ["sorts" list] ["opns" opns] ["eqns" eqns]
--   opns     = { op { "," op } ":" [names] "->" name }
use Rattle.std.specs.Prelude.{ℕ, List, [], ◌∷◌, ◌++◌, map, flat_map}
use Rattle.lotos_base.specs.WrittenTerm.{PlacedName}
use Rattle.lotos_lexer.specs.declared.kinds.TheConstants.{NAME, COMMA, LIBRARY, ENDLIB, TYPE, IS, ENDTYPE, RENAMEDBY, ACTUALIZEDBY, USING, FORMALSORTS, FORMALOPNS, FORMALEQNS, SORTS, OPNS, EQNS}
use Rattle.lotos_lexer.specs.declared.tokens.Token.{Token}
use Rattle.syntax_trees.specs.WrittenEquation.{WrittenEquations}
use Rattle.syntax_trees.specs.WrittenItem.{WrittenOperation, WrittenSections, WrittenPairs, WrittenTypeBody, extends, renames, actualises, WrittenItem, libraries, type_declared}
use Rattle.lotos_rows.specs.Words.{IsOfKind, Optional, Many, Separated, Behind}
use Rattle.lotos_rows.specs.Names.{place_of, spelled, named, AreNames, AreLooseNames, NamedOperation, IsWrittenOperation, PlacedProfile, IsProfile}
use Rattle.lotos_rows.specs.Equations.{AreEquations}
use Rattle.lotos_rows.specs.Renamings.{AreRenames}

-- an operation for each of the names, with the profile
abbrev pub operations_of_profile : List NamedOperation → PlacedProfile → List WrittenOperation
operations_of_profile operations profile = map
    (λ operation. record {
      place = operation.name.place;
      name = operation.name.name;
      form = operation.form;
      arguments = profile.arguments;
      result = profile.result;
    }) operations

-- op { "," op } ":" [names] "->" name
pub data IsOperationLine (text : List ℕ) : List Token → List WrittenOperation → Type 0 where
  operations_line : {tokens profile_tokens : List Token} {operations : List NamedOperation} {profile : PlacedProfile} →
      Separated COMMA (IsWrittenOperation text) tokens operations → IsProfile text profile_tokens profile →
      IsOperationLine text (tokens ++ profile_tokens) (operations_of_profile operations profile)

-- opns = { op { "," op } ":" [names] "->" name }
pub data AreOperations (text : List ℕ) : List Token → List WrittenOperation → Type 0 where
  operations : {tokens : List Token} {lines : List (List WrittenOperation)} →
      Many (IsOperationLine text) tokens lines → AreOperations text tokens (flat_map (λ line. line) lines)

-- a section of equations that is left out
abbrev pub no_equations : WrittenEquations
no_equations = record { variables = []; groups = [] }

-- sections = ["formalsorts" list] ["formalopns" opns] ["formaleqns" eqns] ["sorts" list] ["opns" opns] ["eqns" eqns]
pub data AreSections (text : List ℕ) : List Token → WrittenSections → Type 0 where
  sections : {formal_sort_tokens formal_operation_tokens formal_equation_tokens sort_tokens operation_tokens equation_tokens : List Token}
      {formal_sorts sorts : List PlacedName} {formal_operations operations : List WrittenOperation}
      {formal_equations equations : WrittenEquations} →
      Optional [] (Behind FORMALSORTS (AreLooseNames text)) formal_sort_tokens formal_sorts →
      Optional [] (Behind FORMALOPNS (AreOperations text)) formal_operation_tokens formal_operations →
      Optional no_equations (Behind FORMALEQNS (AreEquations text)) formal_equation_tokens formal_equations →
      Optional [] (Behind SORTS (AreLooseNames text)) sort_tokens sorts →
      Optional [] (Behind OPNS (AreOperations text)) operation_tokens operations →
      Optional no_equations (Behind EQNS (AreEquations text)) equation_tokens equations →
      AreSections text
      (formal_sort_tokens ++ (formal_operation_tokens ++ (formal_equation_tokens ++
      (sort_tokens ++ (operation_tokens ++ equation_tokens)))))
      (record {
        formal_sorts = formal_sorts;
        formal_operations = formal_operations;
        formal_equations = formal_equations;
        sorts = sorts;
        operations = operations;
        equations = equations;
      })

-- body = name ( "renamedby" renames | "actualizedby" names "using" renames | { "," name } sections ) | sections
pub data IsTypeBody (text : List ℕ) : List Token → WrittenTypeBody → Type 0 where
  renaming : {base word : Token} {tokens : List Token} {pairs : WrittenPairs} →
      IsOfKind NAME base → IsOfKind RENAMEDBY word → AreRenames text tokens pairs →
      IsTypeBody text (base ∷ word ∷ tokens) (renames (named text base) pairs)
  actualising : {base word using : Token} {actual_tokens tokens : List Token} {actuals : List PlacedName} {pairs : WrittenPairs} →
      IsOfKind NAME base → IsOfKind ACTUALIZEDBY word → AreNames text actual_tokens actuals → IsOfKind USING using
      → AreRenames text tokens pairs →
      IsTypeBody text (base ∷ word ∷ (actual_tokens ++ using ∷ tokens)) (actualises (named text base) actuals pairs)
  extending : {import_tokens tokens : List Token} {imports : List PlacedName} {sections : WrittenSections} →
      AreNames text import_tokens imports → AreSections text tokens sections →
      IsTypeBody text (import_tokens ++ tokens) (extends imports sections)
  extending_nothing : {tokens : List Token} {sections : WrittenSections} →
      AreSections text tokens sections → IsTypeBody text tokens (extends [] sections)

-- item = type | "library" names "endlib", with type = "type" name "is" body "endtype"
pub data IsItem (text : List ℕ) : List Token → WrittenItem → Type 0 where
  a_library : {word end : Token} {tokens : List Token} {names : List PlacedName} →
      IsOfKind LIBRARY word → AreNames text tokens names → IsOfKind ENDLIB end →
      IsItem text (word ∷ (tokens ++ end ∷ [])) (libraries (place_of word) names)
  a_type : {word name is end : Token} {tokens : List Token} {body : WrittenTypeBody} →
      IsOfKind TYPE word → IsOfKind NAME name → IsOfKind IS is → IsTypeBody text tokens body → IsOfKind ENDTYPE end →
      IsItem text (word ∷ name ∷ is ∷ (tokens ++ end ∷ [])) (type_declared (place_of name) (spelled text name) body)
