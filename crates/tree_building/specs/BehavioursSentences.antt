-- The parts of behaviours.
use Rattle.std.specs.Prelude.{ℕ, ◌==◌, List, [], ◌∷◌, ◌++◌, Some, None}
use Rattle.lotos_base.specs.WrittenTerm.{PlacedName, WrittenTerm}
use Rattle.lotos_lexer.specs.declared.kinds.TheConstants.{NAME, COMMA, COLON, IN, SEMICOLON, ACCEPT, CHOICE_SIGN, LEFT_BRACKET, RIGHT_BRACKET, LEFT_PARENTHESIS, RIGHT_PARENTHESIS}
use Rattle.lotos_lexer.specs.declared.tokens.Token.{Token}
use Rattle.lotos_rows.specs.declared.behaviours.TheConstants as behaviours
use Rattle.syntax_trees.specs.WrittenVariable.{WrittenVariable}
use Rattle.syntax_trees.specs.WrittenEquation.{WrittenPremiss}
use Rattle.syntax_trees.specs.WrittenBehaviour.{WrittenGateChoice, WrittenOffer, WrittenBehaviour}
use Rattle.syntax_trees.specs.Strength.{PlacedSign}
use Rattle.lotos_rows.specs.Words.{IsOfKind, Optional, Separated, Behind, Between}
use Rattle.lotos_rows.specs.Names.{named, AreWrittenGates, AreOptionalGates, AreVariables}
use Rattle.lotos_rows.specs.Terms.{AreArguments}
use Rattle.lotos_rows.specs.Equations.{IsPremiss}
use Rattle.lotos_rows.specs.Behaviours.{IsLetDeclaration, AreGateChoices, IsWrittenOffer, IsWrittenExitValue, IsParallelSign, IsSign, AreOperands, IsBehaviourText}
use Rattle.tree_building.specs.Meaning.{Meaning, PlainFlat, PlainActionEnd, some_variables, some_operands, an_action, a_call, some_offers, some_exit_values, some_lets, some_gate_choices, a_value_choice, a_gate_choice, a_behaviour, a_sign}
use Rattle.tree_building.specs.PartSentences.{As, choose}
use Rattle.tree_building.specs.NamesSentences.{Further}

-- a flat list of operands and signs
abbrev pub IsFlatList : List ℕ → List Token → PlainFlat → Type 0
IsFlatList text tokens flat = AreOperands text tokens flat.operands flat.signs

-- what may stand behind an operand: a sign and a flat list
pub data IsTail (text : List ℕ) : List Token → PlainFlat → Type 0 where
  nothing_behind : IsTail text [] (record { operands = []; signs = [] })
  sign_and_operands : {sign_tokens tokens : List Token} {sign : PlacedSign} {flat : PlainFlat} → IsSign text sign_tokens sign →
      IsFlatList text tokens flat →
      IsTail text (sign_tokens ++ tokens) (record { operands = flat.operands; signs = sign ∷ flat.signs })

-- what stands behind an offer
pub data IsAfterOffer (text : List ℕ) : List Token → PlainActionEnd → Type 0 where
  one_more_offer : {tokens rest : List Token} {offers : List WrittenOffer} {end : PlainActionEnd} → IsWrittenOffer text tokens offers →
      IsAfterOffer text rest end →
      IsAfterOffer text (tokens ++ rest) (record { offers = offers ++ end.offers; test = end.test; behind = end.behind })
  with_selection : {left right semicolon : Token} {test_tokens tokens : List Token} {test : WrittenPremiss} {flat : PlainFlat} →
      IsOfKind LEFT_BRACKET left →
      IsPremiss text test_tokens test → IsOfKind RIGHT_BRACKET right → IsOfKind SEMICOLON semicolon → IsFlatList text tokens flat →
      IsAfterOffer text (left ∷ (test_tokens ++ right ∷ semicolon ∷ tokens)) (record { offers = []; test = Some test; behind = flat })
  without_selection : {semicolon : Token} {tokens : List Token} {flat : PlainFlat} → IsOfKind SEMICOLON semicolon
      → IsFlatList text tokens flat →
      IsAfterOffer text (semicolon ∷ tokens) (record { offers = []; test = None; behind = flat })

-- what stands behind a name at the start of a behaviour
pub data IsAfterName (text : List ℕ) : List Token → Meaning → Type 0 where
  acts_at_once : {semicolon : Token} {tokens : List Token} {flat : PlainFlat} → IsOfKind SEMICOLON semicolon → IsFlatList text tokens flat →
      IsAfterName text (semicolon ∷ tokens) (an_action (record { offers = []; test = None; behind = flat }))
  acts_with_offers : {tokens rest : List Token} {offers : List WrittenOffer} {end : PlainActionEnd} → IsWrittenOffer text tokens offers →
      IsAfterOffer text rest end →
      IsAfterName text (tokens ++ rest) (an_action (record { offers = offers ++ end.offers; test = end.test; behind = end.behind }))
  calls : {gate_tokens value_tokens tokens : List Token} {gates : List PlacedName} {values : List WrittenTerm} {flat : PlainFlat} →
      AreOptionalGates text gate_tokens gates → AreArguments text value_tokens values → IsTail text tokens flat →
      IsAfterName text (gate_tokens ++ (value_tokens ++ tokens)) (a_call (record { gates = gates; values = values; behind = flat }))

-- a behaviour that is chosen
abbrev pub IsChosenBehaviour : List ℕ → List Token → WrittenBehaviour → Type 0
IsChosenBehaviour text = Behind CHOICE_SIGN (IsBehaviourText text)

-- what stands behind the first names of a `choice`
pub data IsAfterChoice (text : List ℕ) : List Token → Meaning → Type 0 where
  of_values : {colon sort : Token} {more_tokens tokens : List Token} {more : List WrittenVariable} {inside : WrittenBehaviour} →
      IsOfKind COLON colon → IsOfKind NAME sort →
      Optional [] (Behind COMMA (AreVariables text)) more_tokens more → IsChosenBehaviour text tokens inside →
      IsAfterChoice text (colon ∷ sort ∷ (more_tokens ++ tokens))
      (a_value_choice (record { sort = named text sort; more = more; inside = inside }))
  of_gates : {word : Token} {gate_tokens more_tokens tokens : List Token} {gates : List PlacedName} {more : List WrittenGateChoice}
      {inside : WrittenBehaviour} →
      IsOfKind IN word → AreWrittenGates text gate_tokens gates → Optional [] (Behind COMMA (AreGateChoices text)) more_tokens more →
      IsChosenBehaviour text tokens inside →
      IsAfterChoice text (word ∷ (gate_tokens ++ (more_tokens ++ tokens)))
      (a_gate_choice (record { among = gates; more = more; inside = inside }))

abbrev pub behaviours_part : List ℕ → ℕ → List Token → Meaning → Type 0
behaviours_part text p tokens meaning =
    choose (p == behaviours.BEHAVIOUR) (As some_operands (IsFlatList text) tokens meaning)
    (choose (p == behaviours.BEHAVIOUR_TAIL) (As some_operands (IsTail text) tokens meaning)
    (choose (p == behaviours.AFTER_NAME) (IsAfterName text tokens meaning)
    (choose (p == behaviours.OFFER) (As some_offers (IsWrittenOffer text) tokens meaning)
    (choose (p == behaviours.AFTER_OFFER) (As an_action (IsAfterOffer text) tokens meaning)
    (choose (p == behaviours.EXIT_VALUES)
    (As some_exit_values (Optional [] (Between LEFT_PARENTHESIS RIGHT_PARENTHESIS (Separated COMMA (IsWrittenExitValue text)))) tokens
    meaning)
    (choose (p == behaviours.EXIT_LIST) (As some_exit_values (Separated COMMA (IsWrittenExitValue text)) tokens meaning)
    (choose (p == behaviours.MORE_EXIT_VALUES) (As some_exit_values (Further COMMA (IsWrittenExitValue text)) tokens meaning)
    (choose (p == behaviours.LET_LIST) (As some_lets (Separated COMMA (IsLetDeclaration text)) tokens meaning)
    (choose (p == behaviours.MORE_LETS) (As some_lets (Further COMMA (IsLetDeclaration text)) tokens meaning)
    (choose (p == behaviours.AFTER_CHOICE) (IsAfterChoice text tokens meaning)
    (choose (p == behaviours.CHOSEN) (As a_behaviour (IsChosenBehaviour text) tokens meaning)
    (choose (p == behaviours.GATE_CHOICES) (As some_gate_choices (AreGateChoices text) tokens meaning)
    (choose (p == behaviours.MORE_GATE_CHOICES) (As some_gate_choices (Optional [] (Behind COMMA (AreGateChoices text))) tokens meaning)
    (choose (p == behaviours.SIGN) (As a_sign (IsSign text) tokens meaning)
    (choose (p == behaviours.PARALLEL) (As a_sign (IsParallelSign text) tokens meaning)
    (As some_variables (Optional [] (Between ACCEPT IN (AreVariables text))) tokens meaning))))))))))))))))
