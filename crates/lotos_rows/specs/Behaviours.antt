-- Behaviour expressions:
--
--   beh     = "hide" names "in" beh
--           | "let" letdecl { "," letdecl } "in" beh
--           | "choice" vars "[]" beh
--           | "choice" gdecls "[]" beh
--           | "par" gdecls parsign beh
--           | "i" ";" beh
--           | "[" premiss "]" "->" beh
--           | name ";" beh
--           | name offer { offer } [ "[" premiss "]" ] ";" beh
--           | atom [ sign beh ]
--   atom    = "stop" | "exit" [ "(" exitval { "," exitval } ")" ] | name [gates] [ "(" term { "," term } ")" ] | "(" beh ")"
--   letdecl = name ":" name "=" term
--   gdecls  = names "in" gates { "," names "in" gates }
--   offer   = "!" term | "?" names ":" name
--   exitval = "any" name | term
--   parsign = "|||" | "||" | "|[" [names] "]|"
--   sign    = "[]" | parsign | "[>" | ">>" [ "accept" vars "in" ]
--
-- A `beh` is a flat list of operands and the signs between them, which is then grouped. A prefix and a guard bind
-- most strongly: they belong to the first operand behind them. A word form and a bracket hold a whole behaviour.
use Rattle.std.specs.Prelude.{ℕ, List, [], ◌∷◌, ◌++◌, map, flat_map, Option, Some, None}
use Rattle.lotos_base.specs.WrittenTerm.{PlacedName, WrittenTerm}
use Rattle.lotos_lexer.specs.declared.kinds.TheConstants.{NAME, HIDE, IN, LET, CHOICE, PAR, I, STOP, EXIT, ANY, ACCEPT, COMMA, SEMICOLON, COLON, EQUALS, EXCLAMATION, QUESTION, ARROW, LEFT_BRACKET, RIGHT_BRACKET, LEFT_PARENTHESIS, RIGHT_PARENTHESIS, CHOICE_SIGN, INTERLEAVING, FULL_SYNCHRONISATION, GATES_OPEN, GATES_CLOSE, DISABLING, ENABLING}
use Rattle.lotos_lexer.specs.declared.tokens.Token.{Token}
use Rattle.syntax_trees.specs.WrittenVariable.{WrittenVariable}
use Rattle.syntax_trees.specs.WrittenEquation.{WrittenPremiss}
use Rattle.syntax_trees.specs.WrittenBehaviour.{choice_sign, interleaving, full_synchronisation, synchronising, disabling, enabling, WrittenGateChoice, WrittenExitValue, exit_term, exit_any, WrittenOffer, offer_value, offer_variable, WrittenBehaviour, stop, exit, call, action, inner_action, guard, hide, let_be, choose_value, choose_gate, par_gate}
use Rattle.syntax_trees.specs.Strength.{PlacedSign, strength_of, joined_by_sign}
use Rattle.syntax_trees.specs.Grouping.{IsGrouped}
use Rattle.lotos_rows.specs.Words.{IsOfKind, Optional, Many, Separated, Between}
use Rattle.lotos_rows.specs.Names.{place_of, spelled, named, AreNames, AreOptionalNames, AreWrittenGates, AreOptionalGates, variables_of_sort, AreVariables}
use Rattle.lotos_rows.specs.Terms.{IsTerm, AreArguments}
use Rattle.lotos_rows.specs.Equations.{IsPremiss}

-- the variable that a name of a sort is
abbrev pub variable_named : PlacedName → PlacedName → WrittenVariable
variable_named variable sort = record { place = variable.place; name = variable.name; sort = sort.name; sort_place = sort.place }

-- letdecl = name ":" name "=" term
pub data IsLetDeclaration (text : List ℕ) : List Token → WrittenVariable × WrittenTerm → Type 0 where
  let_declaration : {variable colon sort equals : Token} {tokens : List Token} {term : WrittenTerm} →
      IsOfKind NAME variable → IsOfKind COLON colon → IsOfKind NAME sort → IsOfKind EQUALS equals → IsTerm text tokens term →
      IsLetDeclaration text (variable ∷ colon ∷ sort ∷ equals ∷ tokens) (variable_named (named text variable) (named text sort), term)

-- a declaration for each of the names, among the gates
abbrev pub gate_choices_among : List PlacedName → List PlacedName → List WrittenGateChoice
gate_choices_among names gates = map (λ name. record { place = name.place; name = name.name; among = gates }) names

-- names "in" gates
pub data AreGateChoicesAmong (text : List ℕ) : List Token → List WrittenGateChoice → Type 0 where
  among : {tokens rest : List Token} {word : Token} {names gates : List PlacedName} →
      AreNames text tokens names → IsOfKind IN word → AreWrittenGates text rest gates →
      AreGateChoicesAmong text (tokens ++ word ∷ rest) (gate_choices_among names gates)

-- gdecls = names "in" gates { "," names "in" gates }
pub data AreGateChoices (text : List ℕ) : List Token → List WrittenGateChoice → Type 0 where
  gate_choices : {tokens : List Token} {groups : List (List WrittenGateChoice)} →
      Separated COMMA (AreGateChoicesAmong text) tokens groups → AreGateChoices text tokens (flat_map (λ group. group) groups)

-- offer = "!" term | "?" names ":" name, with an offer for each of the names
pub data IsWrittenOffer (text : List ℕ) : List Token → List WrittenOffer → Type 0 where
  giving : {mark : Token} {tokens : List Token} {term : WrittenTerm} →
      IsOfKind EXCLAMATION mark → IsTerm text tokens term → IsWrittenOffer text (mark ∷ tokens) (offer_value term ∷ [])
  asking : {mark colon sort : Token} {tokens : List Token} {names : List PlacedName} →
      IsOfKind QUESTION mark → AreNames text tokens names → IsOfKind COLON colon → IsOfKind NAME sort →
      IsWrittenOffer text (mark ∷ (tokens ++ colon ∷ sort ∷ [])) (map offer_variable (variables_of_sort names (named text sort)))

-- "[" premiss "]"
pub data IsSelection (text : List ℕ) : List Token → Option WrittenPremiss → Type 0 where
  selection : {left right : Token} {tokens : List Token} {test : WrittenPremiss} →
      IsOfKind LEFT_BRACKET left → IsPremiss text tokens test → IsOfKind RIGHT_BRACKET right →
      IsSelection text (left ∷ (tokens ++ right ∷ [])) (Some test)

-- exitval = "any" name | term
pub data IsWrittenExitValue (text : List ℕ) : List Token → WrittenExitValue → Type 0 where
  any_value : {word sort : Token} → IsOfKind ANY word → IsOfKind NAME sort
      → IsWrittenExitValue text (word ∷ sort ∷ []) (exit_any (named text sort))
  value_given : {tokens : List Token} {term : WrittenTerm} → IsTerm text tokens term → IsWrittenExitValue text tokens (exit_term term)

-- parsign = "|||" | "||" | "|[" [names] "]|"
pub data IsParallelSign (text : List ℕ) : List Token → PlacedSign → Type 0 where
  sign_interleaving : {sign : Token} → IsOfKind INTERLEAVING sign →
      IsParallelSign text (sign ∷ []) (record { place = place_of sign; sign = interleaving })
  sign_full : {sign : Token} → IsOfKind FULL_SYNCHRONISATION sign →
      IsParallelSign text (sign ∷ []) (record { place = place_of sign; sign = full_synchronisation })
  sign_gates : {left right : Token} {tokens : List Token} {gates : List PlacedName} →
      IsOfKind GATES_OPEN left → AreOptionalNames text tokens gates → IsOfKind GATES_CLOSE right →
      IsParallelSign text (left ∷ (tokens ++ right ∷ [])) (record { place = place_of left; sign = synchronising gates })

-- sign = "[]" | parsign | "[>" | ">>" [ "accept" vars "in" ]
pub data IsSign (text : List ℕ) : List Token → PlacedSign → Type 0 where
  sign_choice : {sign : Token} → IsOfKind CHOICE_SIGN sign → IsSign text (sign ∷ []) (record { place = place_of sign; sign = choice_sign })
  sign_parallel : {tokens : List Token} {sign : PlacedSign} → IsParallelSign text tokens sign → IsSign text tokens sign
  sign_disabling : {sign : Token} → IsOfKind DISABLING sign → IsSign text (sign ∷ []) (record { place = place_of sign; sign = disabling })
  sign_enabling : {sign : Token} {tokens : List Token} {accepted : List WrittenVariable} →
      IsOfKind ENABLING sign → Optional [] (Between ACCEPT IN (AreVariables text)) tokens accepted →
      IsSign text (sign ∷ tokens) (record { place = place_of sign; sign = enabling accepted })

-- the first operand with something in front of it; the others stay
abbrev pub before_first : (WrittenBehaviour → WrittenBehaviour) → List WrittenBehaviour → List WrittenBehaviour
before_first prefix [] = []
before_first prefix (first ∷ others) = prefix first ∷ others

mutual
  -- beh, as the operands and the signs between them
  pub data AreOperands (text : List ℕ) : List Token → List WrittenBehaviour → List PlacedSign → Type 0 where
    hiding : {word in_ : Token} {name_tokens tokens : List Token} {gates : List PlacedName} {inside : WrittenBehaviour} →
        IsOfKind HIDE word → AreNames text name_tokens gates → IsOfKind IN in_ → IsBehaviourText text tokens inside →
        AreOperands text (word ∷ (name_tokens ++ in_ ∷ tokens)) (hide (place_of word) gates inside ∷ []) []
    letting : {word in_ : Token} {value_tokens tokens : List Token} {values : List (WrittenVariable × WrittenTerm)}
        {inside : WrittenBehaviour} →
        IsOfKind LET word → Separated COMMA (IsLetDeclaration text) value_tokens values → IsOfKind IN in_
        → IsBehaviourText text tokens inside →
        AreOperands text (word ∷ (value_tokens ++ in_ ∷ tokens)) (let_be (place_of word) values inside ∷ []) []
    choosing_values : {word sign : Token} {variable_tokens tokens : List Token} {variables : List WrittenVariable}
        {inside : WrittenBehaviour} →
        IsOfKind CHOICE word → AreVariables text variable_tokens variables → IsOfKind CHOICE_SIGN sign
        → IsBehaviourText text tokens inside →
        AreOperands text (word ∷ (variable_tokens ++ sign ∷ tokens)) (choose_value (place_of word) variables inside ∷ []) []
    choosing_gates : {word sign : Token} {gate_tokens tokens : List Token} {gates : List WrittenGateChoice} {inside : WrittenBehaviour} →
        IsOfKind CHOICE word → AreGateChoices text gate_tokens gates → IsOfKind CHOICE_SIGN sign → IsBehaviourText text tokens inside →
        AreOperands text (word ∷ (gate_tokens ++ sign ∷ tokens)) (choose_gate (place_of word) gates inside ∷ []) []
    parallel_over_gates : {word : Token} {gate_tokens sign_tokens tokens : List Token} {gates : List WrittenGateChoice} {sign : PlacedSign}
        {inside : WrittenBehaviour} →
        IsOfKind PAR word → AreGateChoices text gate_tokens gates → IsParallelSign text sign_tokens sign
        → IsBehaviourText text tokens inside →
        AreOperands text (word ∷ (gate_tokens ++ (sign_tokens ++ tokens))) (par_gate (place_of word) gates sign.sign inside ∷ []) []
    inner_prefix : {word semicolon : Token} {tokens : List Token} {operands : List WrittenBehaviour} {signs : List PlacedSign} →
        IsOfKind I word → IsOfKind SEMICOLON semicolon → AreOperands text tokens operands signs →
        AreOperands text (word ∷ semicolon ∷ tokens) (before_first (inner_action (place_of word)) operands) signs
    guarding : {left right arrow : Token} {test_tokens tokens : List Token} {test : WrittenPremiss} {operands : List WrittenBehaviour}
        {signs : List PlacedSign} →
        IsOfKind LEFT_BRACKET left → IsPremiss text test_tokens test → IsOfKind RIGHT_BRACKET right → IsOfKind ARROW arrow
        → AreOperands text tokens operands signs →
        AreOperands text (left ∷ (test_tokens ++ right ∷ arrow ∷ tokens)) (before_first (guard (place_of left) test) operands) signs
    acting : {gate semicolon : Token} {tokens : List Token} {operands : List WrittenBehaviour} {signs : List PlacedSign} →
        IsOfKind NAME gate → IsOfKind SEMICOLON semicolon → AreOperands text tokens operands signs →
        AreOperands text (gate ∷ semicolon ∷ tokens) (before_first (action (place_of gate) (spelled text gate) [] None) operands) signs
    offering : {gate semicolon : Token} {first_tokens offer_tokens test_tokens tokens : List Token} {first : List WrittenOffer}
        {offers : List (List WrittenOffer)} {test : Option WrittenPremiss} {operands : List WrittenBehaviour} {signs : List PlacedSign} →
        IsOfKind NAME gate → IsWrittenOffer text first_tokens first → Many (IsWrittenOffer text) offer_tokens offers
        → Optional None (IsSelection text) test_tokens test →
        IsOfKind SEMICOLON semicolon → AreOperands text tokens operands signs →
        AreOperands text (gate ∷ (first_tokens ++ (offer_tokens ++ (test_tokens ++ semicolon ∷ tokens))))
        (before_first (action (place_of gate) (spelled text gate) (first ++ flat_map (λ group. group) offers) test) operands) signs
    last_operand : {tokens : List Token} {operand : WrittenBehaviour} →
        IsAtom text tokens operand → AreOperands text tokens (operand ∷ []) []
    before_sign : {tokens sign_tokens rest : List Token} {operand : WrittenBehaviour} {sign : PlacedSign}
        {operands : List WrittenBehaviour} {signs : List PlacedSign} →
        IsAtom text tokens operand → IsSign text sign_tokens sign → AreOperands text rest operands signs →
        AreOperands text (tokens ++ (sign_tokens ++ rest)) (operand ∷ operands) (sign ∷ signs)

  -- atom = "stop" | "exit" [ "(" exitval { "," exitval } ")" ] | name [gates] [ "(" term { "," term } ")" ] | "(" beh ")"
  pub data IsAtom (text : List ℕ) : List Token → WrittenBehaviour → Type 0 where
    stopping : {word : Token} → IsOfKind STOP word → IsAtom text (word ∷ []) (stop (place_of word))
    exiting : {word : Token} {tokens : List Token} {values : List WrittenExitValue} →
        IsOfKind EXIT word
        → Optional [] (Between LEFT_PARENTHESIS RIGHT_PARENTHESIS (Separated COMMA (IsWrittenExitValue text))) tokens values
        →
        IsAtom text (word ∷ tokens) (exit (place_of word) values)
    calling : {name : Token} {gate_tokens tokens : List Token} {gates : List PlacedName} {values : List WrittenTerm} →
        IsOfKind NAME name → AreOptionalGates text gate_tokens gates → AreArguments text tokens values →
        IsAtom text (name ∷ (gate_tokens ++ tokens)) (call (place_of name) (spelled text name) gates values)
    in_brackets : {left right : Token} {tokens : List Token} {inside : WrittenBehaviour} →
        IsOfKind LEFT_PARENTHESIS left → IsBehaviourText text tokens inside → IsOfKind RIGHT_PARENTHESIS right →
        IsAtom text (left ∷ (tokens ++ right ∷ [])) inside

  -- beh, grouped
  pub data IsBehaviourText (text : List ℕ) : List Token → WrittenBehaviour → Type 0 where
    grouped_operands : {tokens : List Token} {operands : List WrittenBehaviour} {signs : List PlacedSign} {behaviour : WrittenBehaviour} →
        AreOperands text tokens operands signs → IsGrouped strength_of joined_by_sign operands signs behaviour
        → IsBehaviourText text tokens behaviour
