-- The rows of behaviours keep what their parts are.
use Rattle.std.proofs.Common.{◌≡◌, ◌∙◌, ℕ, List, [], ◌∷◌, ◌++◌, refl, ap, sym, subst, append_assoc}
use Rattle.std.specs.Prelude.{Option, Some, None}
use Rattle.std.proofs.lemmas.List.{append-nil}
use Rattle.ll_engine.specs.Values.{nothing, token, part}
use Rattle.lotos_lexer.specs.declared.tokens.Token.{Token}
use Rattle.lotos_lexer.specs.declared.kinds.TheConstants as kind
use Rattle.lotos_rows.specs.Row.{row_of}
use Rattle.lotos_rows.specs.declared.behaviours.TheConstants as behaviours
use Rattle.lotos_rows.specs.declared.names.TheConstants as names
use Rattle.lotos_rows.specs.declared.terms.TheConstants as terms
use Rattle.lotos_rows.specs.declared.equations.TheConstants as equations
use Rattle.lotos_rows.specs.declared.behaviours.BehavioursRow.TheVariants as row
use Rattle.lotos_rows.specs.declared.row_names.RowName.TheVariants.{Behaviours}
use Rattle.ll_engine.specs.declared.symbol.Symbol.TheVariants.{Token as Tok, Part}
use Rattle.tree_building.specs.PartSentences.{as_one}
use Rattle.tree_building.specs.Sentences.{KeepsParts}
use Rattle.std.specs.Prelude.{flat_map}
use Rattle.std.proofs.lemmas.Option.{option_and_then_some}
use Rattle.lotos_base.specs.WrittenTerm.{PlacedName}
use Rattle.syntax_trees.specs.WrittenBehaviour.{WrittenGateChoice, WrittenOffer, WrittenBehaviour, action}
use Rattle.syntax_trees.specs.Strength.{strength_of}
use Rattle.syntax_trees.specs.Strength.{joined_by_sign as joined_by}
use Rattle.syntax_trees.specs.Grouping.{grouped}
use Rattle.syntax_trees.proofs.Groupings.{grouped_is}
use Rattle.lotos_rows.specs.Words.{IsOfKind, Optional, left_out, there, Many, no_more, and_then, Separated, last, before_more, Behind, behind, between}
use Rattle.lotos_rows.specs.Names.{place_of, spelled, AreNames, AreWrittenGates}
use Rattle.lotos_rows.specs.Names as names_family
use Rattle.lotos_rows.specs.Behaviours.{before_first, gate_choices_among, AreGateChoices, IsWrittenOffer, IsSelection, AreOperands, IsAtom, IsBehaviourText}
use Rattle.lotos_rows.specs.Behaviours as family
use Rattle.lotos_rows.specs.BehavioursRows.{behaviours_rows}
use Rattle.tree_building.specs.Meaning.{Meaning, PlainFlat, PlainActionEnd}
use Rattle.tree_building.specs.BehavioursMeaning.{with_grouped}
use Rattle.tree_building.specs.NamesSentences.{Further}
use Rattle.tree_building.specs.TermsSentences.{started}
use Rattle.tree_building.specs.BehavioursSentences.{IsTail, nothing_behind, sign_and_operands, IsAfterOffer, one_more_offer, with_selection, without_selection, IsAfterName, acts_at_once, acts_with_offers, calls, IsAfterChoice, of_values, of_gates}
use Rattle.lotos_base.proofs.Each.{Each}
use Rattle.tree_building.proofs.NamesRows.{variables_joined}
use Rattle.tree_building.proofs.Lists.{is_of, shown, joined}

module _ (text : List ℕ) where
  after_name_shown : {tokens : List Token} {value : Meaning} (found : Meaning) (other : List Token) → Some found ≡ Some value →
      IsAfterName text other found →
      other ≡ tokens → IsAfterName text tokens value
  after_name_shown {tokens} {value} found other same it e =
      let is : found ≡ value = cc in
      subst (IsAfterName text tokens) is (subst (λ (l : List Token). IsAfterName text l found) e it)

  after_choice_shown : {tokens : List Token} {value : Meaning} (found : Meaning) (other : List Token) → Some found ≡ Some value →
      IsAfterChoice text other found →
      other ≡ tokens → IsAfterChoice text tokens value
  after_choice_shown {tokens} {value} found other same it e =
      let is : found ≡ value = cc in
      subst (IsAfterChoice text tokens) is (subst (λ (l : List Token). IsAfterChoice text l found) e it)

  atom_before_tail : {own tokens : List Token} {operand : WrittenBehaviour} {tail : PlainFlat} → IsAtom text own operand →
      IsTail text tokens tail →
      AreOperands text (own ++ tokens) (operand ∷ tail.operands) tail.signs
  atom_before_tail {own = own} {operand = operand} it nothing_behind =
      subst (λ (l : List Token). AreOperands text l (operand ∷ []) []) (sym (append-nil own)) (family.last_operand it)
  atom_before_tail it (sign_and_operands sign flat) = family.before_sign it sign flat

  gate_choices_joined : {own gate_tokens tokens : List Token} {word : Token} {xs gates : List PlacedName}
      {more : List WrittenGateChoice} → AreNames text own xs → IsOfKind kind.IN word →
      AreWrittenGates text gate_tokens gates → Optional [] (Behind kind.COMMA (AreGateChoices text)) tokens more →
      AreGateChoices text (own ++ word ∷ (gate_tokens ++ tokens)) (gate_choices_among xs gates ++ more)
  gate_choices_joined {own = own} {gate_tokens = gate_tokens} {word = w} {xs = xs} {gates = gates} names_are word gates_are left_out =
      subst (λ (l : List Token). AreGateChoices text (own ++ w ∷ l) (gate_choices_among xs gates ++ [])) (sym (append-nil gate_tokens))
      (family.gate_choices (last (family.among names_are word gates_are)))
  gate_choices_joined {own = own} {gate_tokens = gate_tokens} {word = w} {xs = xs} {gates = gates} names_are word gates_are
      (there (behind {token = comma} {tokens = rest} is_comma (family.gate_choices {groups = groups} more))) =
      subst (λ (l : List Token). AreGateChoices text l (gate_choices_among xs gates ++ flat_map (λ group. group) groups))
      (append_assoc own (w ∷ gate_tokens) (comma ∷ rest))
      (family.gate_choices (before_more (family.among names_are word gates_are) is_comma more))

  -- the offers of an action, its test, and what is behind them
  record OfferParts (tokens : List Token) (end : PlainActionEnd) : Type 0 where
    offer_tokens : List Token
    test_tokens : List Token
    rest : List Token
    semicolon : Token
    offers : List (List WrittenOffer)
    tokens_are : tokens ≡ offer_tokens ++ (test_tokens ++ semicolon ∷ rest)
    are_offers : Many (IsWrittenOffer text) offer_tokens offers
    offers_are : end.offers ≡ flat_map (λ group. group) offers
    is_test : Optional None (IsSelection text) test_tokens end.test
    is_semicolon : IsOfKind kind.SEMICOLON semicolon
    flat : AreOperands text rest end.behind.operands end.behind.signs

  offer_parts : {tokens : List Token} {end : PlainActionEnd} → IsAfterOffer text tokens end → OfferParts tokens end
  offer_parts (one_more_offer {tokens = own} {offers = first} it more) =
      let inner = offer_parts more in
      record {
        offer_tokens = own ++ inner.offer_tokens;
        test_tokens = inner.test_tokens;
        rest = inner.rest;
        semicolon = inner.semicolon;
        offers = first ∷ inner.offers;
        tokens_are =
            ap (λ l. own ++ l) inner.tokens_are ∙ sym
            (append_assoc own inner.offer_tokens (inner.test_tokens ++ inner.semicolon ∷ inner.rest));
        are_offers = and_then it inner.are_offers;
        offers_are = ap (λ l. first ++ l) inner.offers_are;
        is_test = inner.is_test;
        is_semicolon = inner.is_semicolon;
        flat = inner.flat;
      }
  offer_parts
      (with_selection {left = left} {right = right} {semicolon = semicolon} {test_tokens = own} {tokens = tokens} is_left test is_right
      is_semicolon flat) = record {
        offer_tokens = [];
        test_tokens = left ∷ (own ++ right ∷ []);
        rest = tokens;
        semicolon = semicolon;
        offers = [];
        tokens_are = ap (λ l. left ∷ l) (sym (append_assoc own (right ∷ []) (semicolon ∷ tokens)));
        are_offers = no_more;
        offers_are = refl;
        is_test = there (family.selection is_left test is_right);
        is_semicolon = is_semicolon;
        flat = flat;
      }
  offer_parts (without_selection {semicolon = semicolon} {tokens = tokens} is_semicolon flat) = record {
    offer_tokens = [];
    test_tokens = [];
    rest = tokens;
    semicolon = semicolon;
    offers = [];
    tokens_are = refl;
    are_offers = no_more;
    offers_are = refl;
    is_test = left_out;
    is_semicolon = is_semicolon;
    flat = flat;
  }

  offering_from : {gate : Token} {own tokens : List Token} {first : List WrittenOffer} {end : PlainActionEnd} → IsOfKind kind.NAME gate →
      IsWrittenOffer text own first → OfferParts tokens end →
      AreOperands text (gate ∷ (own ++ tokens))
      (before_first (action (place_of gate) (spelled text gate) (first ++ end.offers) end.test) end.behind.operands) end.behind.signs
  offering_from {gate = gate} {own = own} {tokens = tokens} {first = first} {end = end} is_gate it parts =
      subst (λ (l : List WrittenOffer). AreOperands text (gate ∷ (own ++ tokens))
      (before_first (action (place_of gate) (spelled text gate) (first ++ l) end.test) end.behind.operands) end.behind.signs)
      (sym parts.offers_are)
      (subst (λ (l : List Token). AreOperands text (gate ∷ (own ++ l))
      (before_first (action (place_of gate) (spelled text gate) (first ++ flat_map (λ group. group) parts.offers) end.test)
      end.behind.operands) end.behind.signs)
      (sym parts.tokens_are)
      (family.offering is_gate it parts.are_offers parts.is_test parts.is_semicolon parts.flat))

  joined_further : {A : Type 0} {separator : ℕ} {one : List Token → A → Type 0} (own : List Token) (value : A) {tokens : List Token}
      {values : List A} →
      one own value → Further separator one tokens values → Separated separator one (own ++ tokens) (value ∷ values)
  joined_further own value it more = joined own value it more

  -- the tree of a flat list
  pub with_inside : {P : Type 0} {tokens : List Token} {flat : PlainFlat} {value : Meaning} (next : WrittenBehaviour → Option Meaning) →
      AreOperands text tokens flat.operands flat.signs →
      with_grouped flat next ≡ Some value →
      ((inside : WrittenBehaviour) → IsBehaviourText text tokens inside → next inside ≡ Some value → P) → P
  with_inside {flat = flat} {value = value} next them given then =
      option_and_then_some next (grouped strength_of joined_by flat.operands flat.signs) value given
      (λ inside is same. then inside (family.grouped_operands them (grouped_is strength_of joined_by flat.operands flat.signs inside is))
      same)

  hide_row : KeepsParts text
      (row_of (Behaviours row.Hide) behaviours.BEHAVIOUR (Tok kind.HIDE ∷ Part names.NAMES ∷ Tok kind.IN ∷ Part behaviours.BEHAVIOUR ∷ []))
  hide_row _ _ value (token t1 i1 (part (as_one p1) (token t2 i2 (part (as_one p2) nothing)))) given =
      with_inside _ p2 given (λ inside is same. shown _ _ same (family.hiding (is_of t1 i1) p1 (is_of t2 i2) is) (simp (append-nil) refl))

  let_row : KeepsParts text
      (row_of (Behaviours row.Let) behaviours.BEHAVIOUR
      (Tok kind.LET ∷ Part behaviours.LET_LIST ∷ Tok kind.IN ∷ Part behaviours.BEHAVIOUR ∷ []))
  let_row _ _ value (token t1 i1 (part (as_one p1) (token t2 i2 (part (as_one p2) nothing)))) given =
      with_inside _ p2 given (λ inside is same. shown _ _ same (family.letting (is_of t1 i1) p1 (is_of t2 i2) is) (simp (append-nil) refl))

  choice_row : KeepsParts text
      (row_of (Behaviours row.Choice) behaviours.BEHAVIOUR (Tok kind.CHOICE ∷ Part names.NAMES ∷ Part behaviours.AFTER_CHOICE ∷ []))
  choice_row _ _ value (token t1 i1 (part (as_one p1) (part (of_values c s more (behind sign inside)) nothing))) given =
      shown _ _ given (family.choosing_values (is_of t1 i1) (variables_joined text _ _ p1 c s more) sign inside)
      (simp (append-nil, append_assoc) refl)
  choice_row _ _ value (token t1 i1 (part (as_one p1) (part (of_gates w gs more (behind sign inside)) nothing))) given =
      shown _ _ given (family.choosing_gates (is_of t1 i1) (gate_choices_joined p1 w gs more) sign inside)
      (simp (append-nil, append_assoc) refl)

  par_row : KeepsParts text
      (row_of (Behaviours row.Par) behaviours.BEHAVIOUR
      (Tok kind.PAR ∷ Part behaviours.GATE_CHOICES ∷ Part behaviours.PARALLEL ∷ Part behaviours.BEHAVIOUR ∷ []))
  par_row _ _ value (token t1 i1 (part (as_one p1) (part (as_one p2) (part (as_one p3) nothing)))) given =
      with_inside _ p3 given (λ inside is same. shown _ _ same (family.parallel_over_gates (is_of t1 i1) p1 p2 is) (simp (append-nil) refl))

  internal_row : KeepsParts text
      (row_of (Behaviours row.Internal) behaviours.BEHAVIOUR (Tok kind.I ∷ Tok kind.SEMICOLON ∷ Part behaviours.BEHAVIOUR ∷ []))
  internal_row _ _ value (token t1 i1 (token t2 i2 (part (as_one p1) nothing))) given =
      shown _ _ given (family.inner_prefix (is_of t1 i1) (is_of t2 i2) p1) (simp (append-nil) refl)

  guarded_row : KeepsParts text
      (row_of (Behaviours row.Guarded) behaviours.BEHAVIOUR
      (Tok kind.LEFT_BRACKET ∷ Part equations.PREMISS ∷ Tok kind.RIGHT_BRACKET ∷ Tok kind.ARROW ∷ Part behaviours.BEHAVIOUR ∷ []))
  guarded_row _ _ value (token t1 i1 (part (as_one p1) (token t2 i2 (token t3 i3 (part (as_one p2) nothing))))) given =
      shown _ _ given (family.guarding (is_of t1 i1) p1 (is_of t2 i2) (is_of t3 i3) p2) (simp (append-nil) refl)

  name_first_row : KeepsParts text
      (row_of (Behaviours row.NameFirst) behaviours.BEHAVIOUR (Part names.NAME ∷ Part behaviours.AFTER_NAME ∷ []))
  name_first_row _ _ value (part (as_one (names_family.a_name i)) (part (acts_at_once s flat) nothing)) given =
      shown _ _ given (family.acting i s flat) (simp (append-nil) refl)
  name_first_row _ _ value (part (as_one (names_family.a_name i)) (part (acts_with_offers os rest) nothing)) given =
      shown _ _ given (offering_from i os (offer_parts rest)) (simp (append-nil) refl)
  name_first_row _ _ value (part (as_one (names_family.a_name i)) (part (calls gs vs tail) nothing)) given =
      shown _ _ given (atom_before_tail (family.calling i gs vs) tail) (simp (append-nil, append_assoc) refl)

  stop_row : KeepsParts text (row_of (Behaviours row.Stop) behaviours.BEHAVIOUR (Tok kind.STOP ∷ Part behaviours.BEHAVIOUR_TAIL ∷ []))
  stop_row _ _ value (token t1 i1 (part (as_one p1) nothing)) given =
      shown _ _ given (atom_before_tail (family.stopping (is_of t1 i1)) p1) (simp (append-nil) refl)

  exit_row : KeepsParts text
      (row_of (Behaviours row.Exit) behaviours.BEHAVIOUR
      (Tok kind.EXIT ∷ Part behaviours.EXIT_VALUES ∷ Part behaviours.BEHAVIOUR_TAIL ∷ []))
  exit_row _ _ value (token t1 i1 (part (as_one p1) (part (as_one p2) nothing))) given =
      shown _ _ given (atom_before_tail (family.exiting (is_of t1 i1) p1) p2) (simp (append-nil) refl)

  bracketed_behaviour_row : KeepsParts text
      (row_of (Behaviours row.BracketedBehaviour) behaviours.BEHAVIOUR
      (Tok kind.LEFT_PARENTHESIS ∷ Part behaviours.BEHAVIOUR ∷ Tok kind.RIGHT_PARENTHESIS ∷ Part behaviours.BEHAVIOUR_TAIL ∷ []))
  bracketed_behaviour_row _ _ value (token t1 i1 (part (as_one p1) (token t2 i2 (part (as_one p2) nothing)))) given =
      with_inside _ p1 given
      (λ inside is same. shown _ _ same (atom_before_tail (family.in_brackets (is_of t1 i1) is (is_of t2 i2)) p2)
      (simp (append-nil, append_assoc) refl))

  no_behaviour_tail_row : KeepsParts text (row_of (Behaviours row.NoBehaviourTail) behaviours.BEHAVIOUR_TAIL [])
  no_behaviour_tail_row _ _ value nothing given =
      shown _ _ given nothing_behind refl

  behaviour_tail_row : KeepsParts text
      (row_of (Behaviours row.BehaviourTail) behaviours.BEHAVIOUR_TAIL (Part behaviours.SIGN ∷ Part behaviours.BEHAVIOUR ∷ []))
  behaviour_tail_row _ _ value (part (as_one p1) (part (as_one p2) nothing)) given =
      shown _ _ given (sign_and_operands p1 p2) (simp (append-nil) refl)

  action_without_offers_row : KeepsParts text
      (row_of (Behaviours row.ActionWithoutOffers) behaviours.AFTER_NAME (Tok kind.SEMICOLON ∷ Part behaviours.BEHAVIOUR ∷ []))
  action_without_offers_row _ _ value (token t1 i1 (part (as_one p1) nothing)) given =
      after_name_shown _ _ given (acts_at_once (is_of t1 i1) p1) (simp (append-nil) refl)

  action_with_offers_row : KeepsParts text
      (row_of (Behaviours row.ActionWithOffers) behaviours.AFTER_NAME (Part behaviours.OFFER ∷ Part behaviours.AFTER_OFFER ∷ []))
  action_with_offers_row _ _ value (part (as_one p1) (part (as_one p2) nothing)) given =
      after_name_shown _ _ given (acts_with_offers p1 p2) (simp (append-nil) refl)

  call_row : KeepsParts text
      (row_of (Behaviours row.Call) behaviours.AFTER_NAME
      (Part names.OPTIONAL_GATES ∷ Part terms.ARGUMENTS ∷ Part behaviours.BEHAVIOUR_TAIL ∷ []))
  call_row _ _ value (part (as_one p1) (part (as_one p2) (part (as_one p3) nothing))) given =
      after_name_shown _ _ given (calls p1 p2 p3) (simp (append-nil) refl)

  give_row : KeepsParts text (row_of (Behaviours row.Give) behaviours.OFFER (Tok kind.EXCLAMATION ∷ Part terms.TERM ∷ []))
  give_row _ _ value (token t1 i1 (part (as_one (started it)) nothing)) given =
      shown _ _ given (family.giving (is_of t1 i1) it) (simp (append-nil) refl)

  ask_row : KeepsParts text
      (row_of (Behaviours row.Ask) behaviours.OFFER (Tok kind.QUESTION ∷ Part names.NAMES ∷ Tok kind.COLON ∷ Part names.NAME ∷ []))
  ask_row _ _ value (token t1 i1 (part (as_one p1) (token t2 i2 (part (as_one (names_family.a_name i)) nothing)))) given =
      shown _ _ given (family.asking (is_of t1 i1) p1 (is_of t2 i2) i) refl

  one_more_offer_row : KeepsParts text
      (row_of (Behaviours row.OneMoreOffer) behaviours.AFTER_OFFER (Part behaviours.OFFER ∷ Part behaviours.AFTER_OFFER ∷ []))
  one_more_offer_row _ _ value (part (as_one p1) (part (as_one p2) nothing)) given =
      shown _ _ given (one_more_offer p1 p2) (simp (append-nil) refl)

  selection_after_offers_row : KeepsParts text
      (row_of (Behaviours row.SelectionAfterOffers) behaviours.AFTER_OFFER
      (Tok kind.LEFT_BRACKET ∷ Part equations.PREMISS ∷ Tok kind.RIGHT_BRACKET ∷ Tok kind.SEMICOLON ∷ Part behaviours.BEHAVIOUR ∷ []))
  selection_after_offers_row _ _ value (token t1 i1 (part (as_one p1) (token t2 i2 (token t3 i3 (part (as_one p2) nothing))))) given =
      shown _ _ given (with_selection (is_of t1 i1) p1 (is_of t2 i2) (is_of t3 i3) p2) (simp (append-nil) refl)

  prefix_after_offers_row : KeepsParts text
      (row_of (Behaviours row.PrefixAfterOffers) behaviours.AFTER_OFFER (Tok kind.SEMICOLON ∷ Part behaviours.BEHAVIOUR ∷ []))
  prefix_after_offers_row _ _ value (token t1 i1 (part (as_one p1) nothing)) given =
      shown _ _ given (without_selection (is_of t1 i1) p1) (simp (append-nil) refl)

  no_exit_values_row : KeepsParts text (row_of (Behaviours row.NoExitValues) behaviours.EXIT_VALUES [])
  no_exit_values_row _ _ value nothing given =
      shown _ _ given left_out refl

  exit_values_row : KeepsParts text
      (row_of (Behaviours row.ExitValues) behaviours.EXIT_VALUES
      (Tok kind.LEFT_PARENTHESIS ∷ Part behaviours.EXIT_LIST ∷ Tok kind.RIGHT_PARENTHESIS ∷ []))
  exit_values_row _ _ value (token t1 i1 (part (as_one p1) (token t2 i2 nothing))) given =
      shown _ _ given (there (between (is_of t1 i1) p1 (is_of t2 i2))) refl

  any_exit_value_row : KeepsParts text
      (row_of (Behaviours row.AnyExitValue) behaviours.EXIT_LIST (Tok kind.ANY ∷ Part names.NAME ∷ Part behaviours.MORE_EXIT_VALUES ∷ []))
  any_exit_value_row _ _ value (token t1 i1 (part (as_one (names_family.a_name i)) (part (as_one p2) nothing))) given =
      shown _ _ given (joined_further _ _ (family.any_value (is_of t1 i1) i) p2) (simp (append-nil) refl)

  given_exit_value_row : KeepsParts text
      (row_of (Behaviours row.GivenExitValue) behaviours.EXIT_LIST (Part terms.TERM ∷ Part behaviours.MORE_EXIT_VALUES ∷ []))
  given_exit_value_row _ _ value (part (as_one (started it)) (part (as_one p2) nothing)) given =
      shown _ _ given (joined_further _ _ (family.value_given it) p2) (simp (append-nil) refl)

  no_more_exit_values_row : KeepsParts text (row_of (Behaviours row.NoMoreExitValues) behaviours.MORE_EXIT_VALUES [])
  no_more_exit_values_row _ _ value nothing given =
      shown _ _ given left_out refl

  more_exit_values_row : KeepsParts text
      (row_of (Behaviours row.MoreExitValues) behaviours.MORE_EXIT_VALUES (Tok kind.COMMA ∷ Part behaviours.EXIT_LIST ∷ []))
  more_exit_values_row _ _ value (token t1 i1 (part (as_one p1) nothing)) given =
      shown _ _ given (there (behind (is_of t1 i1) p1)) (simp (append-nil) refl)

  let_list_row : KeepsParts text
      (row_of (Behaviours row.LetList) behaviours.LET_LIST
      (Part names.NAME ∷ Tok kind.COLON ∷ Part names.NAME ∷ Tok kind.EQUALS ∷ Part terms.TERM ∷ Part behaviours.MORE_LETS ∷ []))
  let_list_row _ _ value
      (part (as_one (names_family.a_name i))
      (token t1 i1 (part (as_one (names_family.a_name j)) (token t2 i2 (part (as_one (started it)) (part (as_one p4) nothing)))))) given =
      shown _ _ given (joined_further _ _ (family.let_declaration i (is_of t1 i1) j (is_of t2 i2) it) p4) (simp (append-nil) refl)

  no_more_lets_row : KeepsParts text (row_of (Behaviours row.NoMoreLets) behaviours.MORE_LETS [])
  no_more_lets_row _ _ value nothing given =
      shown _ _ given left_out refl

  more_lets_row : KeepsParts text (row_of (Behaviours row.MoreLets) behaviours.MORE_LETS (Tok kind.COMMA ∷ Part behaviours.LET_LIST ∷ []))
  more_lets_row _ _ value (token t1 i1 (part (as_one p1) nothing)) given =
      shown _ _ given (there (behind (is_of t1 i1) p1)) (simp (append-nil) refl)

  choice_of_values_row : KeepsParts text
      (row_of (Behaviours row.ChoiceOfValues) behaviours.AFTER_CHOICE
      (Tok kind.COLON ∷ Part names.NAME ∷ Part names.MORE_VARIABLES ∷ Part behaviours.CHOSEN ∷ []))
  choice_of_values_row _ _ value (token t1 i1 (part (as_one (names_family.a_name i)) (part (as_one p2) (part (as_one p3) nothing)))) given =
      after_choice_shown _ _ given (of_values (is_of t1 i1) i p2 p3) (simp (append-nil) refl)

  choice_of_gates_row : KeepsParts text
      (row_of (Behaviours row.ChoiceOfGates) behaviours.AFTER_CHOICE
      (Tok kind.IN ∷ Part names.GATES ∷ Part behaviours.MORE_GATE_CHOICES ∷ Part behaviours.CHOSEN ∷ []))
  choice_of_gates_row _ _ value (token t1 i1 (part (as_one p1) (part (as_one p2) (part (as_one p3) nothing)))) given =
      after_choice_shown _ _ given (of_gates (is_of t1 i1) p1 p2 p3) (simp (append-nil) refl)

  chosen_row : KeepsParts text (row_of (Behaviours row.Chosen) behaviours.CHOSEN (Tok kind.CHOICE_SIGN ∷ Part behaviours.BEHAVIOUR ∷ []))
  chosen_row _ _ value (token t1 i1 (part (as_one p1) nothing)) given =
      with_inside _ p1 given (λ inside is same. shown _ _ same (behind (is_of t1 i1) is) (simp (append-nil) refl))

  gate_choices_row : KeepsParts text
      (row_of (Behaviours row.GateChoices) behaviours.GATE_CHOICES
      (Part names.NAMES ∷ Tok kind.IN ∷ Part names.GATES ∷ Part behaviours.MORE_GATE_CHOICES ∷ []))
  gate_choices_row _ _ value (part (as_one p1) (token t1 i1 (part (as_one p2) (part (as_one p3) nothing)))) given =
      shown _ _ given (gate_choices_joined p1 (is_of t1 i1) p2 p3) (simp (append-nil) refl)

  no_more_gate_choices_row : KeepsParts text (row_of (Behaviours row.NoMoreGateChoices) behaviours.MORE_GATE_CHOICES [])
  no_more_gate_choices_row _ _ value nothing given =
      shown _ _ given left_out refl

  more_gate_choices_row : KeepsParts text
      (row_of (Behaviours row.MoreGateChoices) behaviours.MORE_GATE_CHOICES (Tok kind.COMMA ∷ Part behaviours.GATE_CHOICES ∷ []))
  more_gate_choices_row _ _ value (token t1 i1 (part (as_one p1) nothing)) given =
      shown _ _ given (there (behind (is_of t1 i1) p1)) (simp (append-nil) refl)

  choice_sign_row : KeepsParts text (row_of (Behaviours row.ChoiceSign) behaviours.SIGN (Tok kind.CHOICE_SIGN ∷ []))
  choice_sign_row _ _ value (token t1 i1 nothing) given =
      shown _ _ given (family.sign_choice (is_of t1 i1)) refl

  parallel_sign_row : KeepsParts text (row_of (Behaviours row.ParallelSign) behaviours.SIGN (Part behaviours.PARALLEL ∷ []))
  parallel_sign_row _ _ value (part (as_one p1) nothing) given =
      shown _ _ given (family.sign_parallel p1) (simp (append-nil) refl)

  disabling_sign_row : KeepsParts text (row_of (Behaviours row.DisablingSign) behaviours.SIGN (Tok kind.DISABLING ∷ []))
  disabling_sign_row _ _ value (token t1 i1 nothing) given =
      shown _ _ given (family.sign_disabling (is_of t1 i1)) refl

  enabling_sign_row : KeepsParts text
      (row_of (Behaviours row.EnablingSign) behaviours.SIGN (Tok kind.ENABLING ∷ Part behaviours.ACCEPT ∷ []))
  enabling_sign_row _ _ value (token t1 i1 (part (as_one p1) nothing)) given =
      shown _ _ given (family.sign_enabling (is_of t1 i1) p1) (simp (append-nil) refl)

  interleaving_row : KeepsParts text (row_of (Behaviours row.Interleaving) behaviours.PARALLEL (Tok kind.INTERLEAVING ∷ []))
  interleaving_row _ _ value (token t1 i1 nothing) given =
      shown _ _ given (family.sign_interleaving (is_of t1 i1)) refl

  full_synchronisation_row : KeepsParts text
      (row_of (Behaviours row.FullSynchronisation) behaviours.PARALLEL (Tok kind.FULL_SYNCHRONISATION ∷ []))
  full_synchronisation_row _ _ value (token t1 i1 nothing) given =
      shown _ _ given (family.sign_full (is_of t1 i1)) refl

  gate_synchronisation_row : KeepsParts text
      (row_of (Behaviours row.GateSynchronisation) behaviours.PARALLEL
      (Tok kind.GATES_OPEN ∷ Part names.OPTIONAL_NAMES ∷ Tok kind.GATES_CLOSE ∷ []))
  gate_synchronisation_row _ _ value (token t1 i1 (part (as_one p1) (token t2 i2 nothing))) given =
      shown _ _ given (family.sign_gates (is_of t1 i1) p1 (is_of t2 i2)) refl

  no_accept_row : KeepsParts text (row_of (Behaviours row.NoAccept) behaviours.ACCEPT [])
  no_accept_row _ _ value nothing given =
      shown _ _ given left_out refl

  accept_row : KeepsParts text
      (row_of (Behaviours row.Accept) behaviours.ACCEPT (Tok kind.ACCEPT ∷ Part names.VARIABLES ∷ Tok kind.IN ∷ []))
  accept_row _ _ value (token t1 i1 (part (as_one p1) (token t2 i2 nothing))) given =
      shown _ _ given (there (between (is_of t1 i1) p1 (is_of t2 i2))) refl

  pub behaviours_keep : Each (KeepsParts text) behaviours_rows
  behaviours_keep = (
    hide_row,
    (
      let_row,
      (
        choice_row,
        (
          par_row,
          (
            internal_row,
            (
              guarded_row,
              (
                name_first_row,
                (
                  stop_row,
                  (
                    exit_row,
                    (
                      bracketed_behaviour_row,
                      (
                        no_behaviour_tail_row,
                        (
                          behaviour_tail_row,
                          (
                            action_without_offers_row,
                            (
                              action_with_offers_row,
                              (
                                call_row,
                                (
                                  give_row,
                                  (
                                    ask_row,
                                    (
                                      one_more_offer_row,
                                      (
                                        selection_after_offers_row,
                                        (
                                          prefix_after_offers_row,
                                          (
                                            no_exit_values_row,
                                            (
                                              exit_values_row,
                                              (
                                                any_exit_value_row,
                                                (
                                                  given_exit_value_row,
                                                  (
                                                    no_more_exit_values_row,
                                                    (
                                                      more_exit_values_row,
                                                      (
                                                        let_list_row,
                                                        (
                                                          no_more_lets_row,
                                                          (
                                                            more_lets_row,
                                                            (
                                                              choice_of_values_row,
                                                              (
                                                                choice_of_gates_row,
                                                                (
                                                                  chosen_row,
                                                                  (
                                                                    gate_choices_row,
                                                                    (
                                                                      no_more_gate_choices_row,
                                                                      (
                                                                        more_gate_choices_row,
                                                                        (
                                                                          choice_sign_row,
                                                                          (
                                                                            parallel_sign_row,
                                                                            (
                                                                              disabling_sign_row,
                                                                              (
                                                                                enabling_sign_row,
                                                                                (
                                                                                  interleaving_row,
                                                                                  (
                                                                                    full_synchronisation_row,
                                                                                    (
                                                                                      gate_synchronisation_row,
                                                                                      (no_accept_row, (accept_row, tt)),
                                                                                    ),
                                                                                  ),
                                                                                ),
                                                                              ),
                                                                            ),
                                                                          ),
                                                                        ),
                                                                      ),
                                                                    ),
                                                                  ),
                                                                ),
                                                              ),
                                                            ),
                                                          ),
                                                        ),
                                                      ),
                                                    ),
                                                  ),
                                                ),
                                              ),
                                            ),
                                          ),
                                        ),
                                      ),
                                    ),
                                  ),
                                ),
                              ),
                            ),
                          ),
                        ),
                      ),
                    ),
                  ),
                ),
              ),
            ),
          ),
        ),
      ),
    ),
  )
