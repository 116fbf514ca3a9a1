-- Processes and what a `where` declares:
--
--   where   = "where" { item | process }
--   process = "process" name [gates] [params] ":" func ":=" beh [where] "endproc"
--   func    = "noexit" | "exit" [ "(" names ")" ]
--
-- A process is placed at its name.
use Rattle.std.specs.Prelude.{ℕ, List, [], ◌∷◌, ◌++◌, Option, Some, None}
use Rattle.lotos_base.specs.WrittenTerm.{PlacedName}
use Rattle.lotos_lexer.specs.declared.kinds.TheConstants.{NAME, COLON, NOEXIT, EXIT, WHERE, PROCESS, DEFINITION, ENDPROC, LEFT_PARENTHESIS, RIGHT_PARENTHESIS}
use Rattle.lotos_lexer.specs.declared.tokens.Token.{Token}
use Rattle.syntax_trees.specs.WrittenVariable.{WrittenVariable}
use Rattle.syntax_trees.specs.WrittenItem.{WrittenItem}
use Rattle.syntax_trees.specs.WrittenBehaviour.{WrittenBehaviour}
use Rattle.syntax_trees.specs.WrittenDefinition.{WrittenHeading, WrittenInner, inner_item, process, inners_of}
use Rattle.lotos_rows.specs.Words.{IsOfKind, Optional, Between}
use Rattle.lotos_rows.specs.Names.{place_of, spelled, AreNames, AreOptionalGates, AreParameters}
use Rattle.lotos_rows.specs.Types.{IsItem}
use Rattle.lotos_rows.specs.Behaviours.{IsBehaviourText}

-- func = "noexit" | "exit" [ "(" names ")" ]
pub data IsWrittenFunctionality (text : List ℕ) : List Token → Option (List PlacedName) → Type 0 where
  no_exit : {word : Token} → IsOfKind NOEXIT word → IsWrittenFunctionality text (word ∷ []) None
  exit_of : {word : Token} {tokens : List Token} {sorts : List PlacedName} →
      IsOfKind EXIT word → Optional [] (Between LEFT_PARENTHESIS RIGHT_PARENTHESIS (AreNames text)) tokens sorts →
      IsWrittenFunctionality text (word ∷ tokens) (Some sorts)

-- name [gates] [params] ":" func
pub data IsHeading (text : List ℕ) : List Token → WrittenHeading → Type 0 where
  heading : {name colon : Token} {gate_tokens parameter_tokens tokens : List Token}
      {gates : List PlacedName} {parameters : List WrittenVariable} {functionality : Option (List PlacedName)} →
      IsOfKind NAME name → AreOptionalGates text gate_tokens gates → Optional [] (AreParameters text) parameter_tokens parameters →
      IsOfKind COLON colon → IsWrittenFunctionality text tokens functionality →
      IsHeading text (name ∷ (gate_tokens ++ (parameter_tokens ++ colon ∷ tokens)))
      (record { place = place_of name; name = spelled text name; gates = gates; parameters = parameters; functionality = functionality })

mutual
  -- process = "process" name [gates] [params] ":" func ":=" beh [where] "endproc"
  pub data IsProcess (text : List ℕ) : List Token → WrittenInner → Type 0 where
    a_process : {word sign end : Token} {heading_tokens tokens where_tokens : List Token}
        {heading : WrittenHeading} {body : WrittenBehaviour} {inner : List WrittenInner} →
        IsOfKind PROCESS word → IsHeading text heading_tokens heading → IsOfKind DEFINITION sign → IsBehaviourText text tokens body →
        IsWhere text where_tokens inner → IsOfKind ENDPROC end →
        IsProcess text (word ∷ (heading_tokens ++ sign ∷ (tokens ++ (where_tokens ++ end ∷ [])))) (process heading body (inners_of inner))

  -- [where], with where = "where" { item | process }
  pub data IsWhere (text : List ℕ) : List Token → List WrittenInner → Type 0 where
    no_where : IsWhere text [] []
    a_where : {word : Token} {tokens : List Token} {inner : List WrittenInner} →
        IsOfKind WHERE word → AreInner text tokens inner → IsWhere text (word ∷ tokens) inner

  -- { item | process }
  pub data AreInner (text : List ℕ) : List Token → List WrittenInner → Type 0 where
    no_more_inner : AreInner text [] []
    item_then : {tokens rest : List Token} {item : WrittenItem} {inner : List WrittenInner} →
        IsItem text tokens item → AreInner text rest inner → AreInner text (tokens ++ rest) (inner_item item ∷ inner)
    process_then : {tokens rest : List Token} {definition : WrittenInner} {inner : List WrittenInner} →
        IsProcess text tokens definition → AreInner text rest inner → AreInner text (tokens ++ rest) (definition ∷ inner)
