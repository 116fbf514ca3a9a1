-- What the definition of behaviours says is derived by their rows.
use Rattle.std.proofs.Common.{◌≡◌, ◌∙◌, ℕ, List, [], ◌∷◌, ◌++◌, refl, ap, sym, subst, append_assoc}
use Rattle.std.specs.Prelude.{flat_map, Option, Some, None, option_and_then}
use Rattle.std.proofs.lemmas.List.{append-nil}
use Rattle.lotos_base.specs.WrittenTerm.{PlacedName, WrittenTerm}
use Rattle.lotos_lexer.specs.declared.tokens.Token.{Token}
use Rattle.lotos_lexer.specs.declared.kinds.TheConstants as kind
use Rattle.lotos_rows.specs.declared.names.TheConstants as names
use Rattle.lotos_rows.specs.declared.terms.TheConstants as terms
use Rattle.lotos_rows.specs.declared.behaviours.TheConstants as behaviours
use Rattle.syntax_trees.specs.WrittenVariable.{WrittenVariable}
use Rattle.syntax_trees.specs.WrittenEquation.{WrittenPremiss}
use Rattle.syntax_trees.specs.WrittenBehaviour.{WrittenGateChoice, WrittenExitValue, WrittenOffer, WrittenBehaviour, choose_value, choose_gate}
use Rattle.syntax_trees.specs.Strength.{PlacedSign, strength_of}
use Rattle.syntax_trees.specs.Strength.{joined_by_sign as joined_by}
use Rattle.syntax_trees.specs.Grouping.{grouped}
use Rattle.syntax_trees.proofs.Groupings.{is_grouped}
use Rattle.lotos_rows.specs.Words.{IsOfKind, Optional, left_out, there, Many, no_more, and_then, Separated, last, before_more, Between, between}
use Rattle.lotos_rows.specs.Names.{place_of, named, AreNames, AreWrittenGates, AreOptionalGates, AreVariables, variables_of_sort}
use Rattle.lotos_rows.specs.Names as names_family
use Rattle.lotos_rows.specs.Terms.{AreArguments}
use Rattle.lotos_rows.specs.Terms as terms_family
use Rattle.lotos_rows.specs.Behaviours.{gate_choices_among, IsLetDeclaration, AreGateChoices, AreGateChoicesAmong, IsWrittenOffer, IsSelection, IsWrittenExitValue, IsParallelSign, IsSign, AreOperands, IsAtom, IsBehaviourText}
use Rattle.lotos_rows.specs.Behaviours as family
use Rattle.tree_building.specs.Meaning.{Meaning, PlainFlat, some_names, some_variables, some_terms, some_operands, an_action, some_offers, some_exit_values, some_lets, some_gate_choices, a_sign}
use Rattle.tree_building.specs.BehavioursMeaning.{operand_alone, before_tail}
use Rattle.tree_building.specs.Sentences.{Derived}
use Rattle.tree_building.proofs.NamesDerived.{by_name, by_gates, by_no_optional_gates, by_optional_gates, by_no_more_variables, by_more_variables}
use Rattle.tree_building.proofs.NamesCases.{names_derived, optional_names_derived, variables_derived}
use Rattle.tree_building.proofs.TermsDerived.{by_no_arguments, by_arguments}
use Rattle.tree_building.proofs.TermsCases.{term_derived, terms_derived}
use Rattle.tree_building.proofs.EquationsCases.{premiss_derived}
use Rattle.tree_building.proofs.BehavioursDerived.{by_hide, by_let, by_choice, by_par, by_internal, by_guarded, by_name_first, by_stop, by_exit, by_bracketed_behaviour, by_no_behaviour_tail, by_behaviour_tail, by_action_without_offers, by_action_with_offers, by_call, by_give, by_ask, by_one_more_offer, by_selection_after_offers, by_prefix_after_offers, by_no_exit_values, by_exit_values, by_any_exit_value, by_given_exit_value, by_no_more_exit_values, by_more_exit_values, by_let_list, by_no_more_lets, by_more_lets, by_choice_of_values, by_choice_of_gates, by_chosen, by_gate_choices, by_no_more_gate_choices, by_more_gate_choices, by_choice_sign, by_parallel_sign, by_disabling_sign, by_enabling_sign, by_interleaving, by_full_synchronisation, by_gate_synchronisation, by_no_accept, by_accept}

module _ (text : List ℕ) where
  abbrev D : ℕ → List Token → Meaning → Type 0
  D = Derived text

  gates_derived : {tokens : List Token} {xs : List PlacedName} → AreWrittenGates text tokens xs → D names.GATES tokens (some_names xs)
  gates_derived (between left xs right) = by_gates text left (names_derived text xs) right refl

  pub optional_gates_derived : {tokens : List Token} {xs : List PlacedName} → AreOptionalGates text tokens xs →
      D names.OPTIONAL_GATES tokens (some_names xs)
  optional_gates_derived left_out = by_no_optional_gates text refl
  optional_gates_derived (there it) = by_optional_gates text (gates_derived it) refl

  arguments_derived : {tokens : List Token} {found : List WrittenTerm} → AreArguments text tokens found →
      D terms.ARGUMENTS tokens (some_terms found)
  arguments_derived terms_family.no_arguments = by_no_arguments text refl
  arguments_derived (terms_family.some_arguments left them right) = by_arguments text left (terms_derived text them) right refl

  parallel_derived : {tokens : List Token} {sign : PlacedSign} → IsParallelSign text tokens sign →
      D behaviours.PARALLEL tokens (a_sign sign)
  parallel_derived (family.sign_interleaving is) = by_interleaving text is refl
  parallel_derived (family.sign_full is) = by_full_synchronisation text is refl
  parallel_derived (family.sign_gates left xs right) = by_gate_synchronisation text left (optional_names_derived text xs) right refl

  accept_derived : {tokens : List Token} {xs : List WrittenVariable} →
      Optional [] (Between kind.ACCEPT kind.IN (AreVariables text)) tokens xs → D behaviours.ACCEPT tokens (some_variables xs)
  accept_derived left_out = by_no_accept text refl
  accept_derived (there (between left xs right)) = by_accept text left (variables_derived text xs) right refl

  sign_derived : {tokens : List Token} {sign : PlacedSign} → IsSign text tokens sign → D behaviours.SIGN tokens (a_sign sign)
  sign_derived (family.sign_choice is) = by_choice_sign text is refl
  sign_derived (family.sign_parallel it) = by_parallel_sign text (parallel_derived it) refl
  sign_derived (family.sign_disabling is) = by_disabling_sign text is refl
  sign_derived (family.sign_enabling is accepted) = by_enabling_sign text is (accept_derived accepted) refl

  exit_value_before : {own tokens : List Token} {value : WrittenExitValue} {more : List WrittenExitValue}
      → IsWrittenExitValue text own value →
      D behaviours.MORE_EXIT_VALUES tokens (some_exit_values more) →
      D behaviours.EXIT_LIST (own ++ tokens) (some_exit_values (value ∷ more))
  exit_value_before (family.any_value word sort) more = by_any_exit_value text word (by_name text sort refl) more refl
  exit_value_before (family.value_given it) more = by_given_exit_value text (term_derived text it).derived more refl

  exit_list_derived : {tokens : List Token} {values : List WrittenExitValue}
      → Separated kind.COMMA (IsWrittenExitValue text) tokens values →
      D behaviours.EXIT_LIST tokens (some_exit_values values)
  exit_list_derived (last {tokens = own} {value = value} it) =
      subst (λ (l : List Token). D behaviours.EXIT_LIST l (some_exit_values (value ∷ []))) (append-nil own)
      (exit_value_before it (by_no_more_exit_values text refl))
  exit_list_derived (before_more it comma more) = exit_value_before it (by_more_exit_values text comma (exit_list_derived more) refl)

  exit_values_derived : {tokens : List Token} {values : List WrittenExitValue} →
      Optional [] (Between kind.LEFT_PARENTHESIS kind.RIGHT_PARENTHESIS (Separated kind.COMMA (IsWrittenExitValue text))) tokens values →
      D behaviours.EXIT_VALUES tokens (some_exit_values values)
  exit_values_derived left_out = by_no_exit_values text refl
  exit_values_derived (there (between left values right)) = by_exit_values text left (exit_list_derived values) right refl

  let_before : {own tokens : List Token} {value : WrittenVariable × WrittenTerm} {more : List (WrittenVariable × WrittenTerm)} →
      IsLetDeclaration text own value → D behaviours.MORE_LETS tokens (some_lets more) →
      D behaviours.LET_LIST (own ++ tokens) (some_lets (value ∷ more))
  let_before (family.let_declaration variable colon sort equals it) more =
      by_let_list text (by_name text variable refl) colon (by_name text sort refl) equals (term_derived text it).derived more refl

  lets_derived : {tokens : List Token} {values : List (WrittenVariable × WrittenTerm)} →
      Separated kind.COMMA (IsLetDeclaration text) tokens values → D behaviours.LET_LIST tokens (some_lets values)
  lets_derived (last {tokens = own} {value = value} it) =
      subst (λ (l : List Token). D behaviours.LET_LIST l (some_lets (value ∷ []))) (append-nil own)
      (let_before it (by_no_more_lets text refl))
  lets_derived (before_more it comma more) = let_before it (by_more_lets text comma (lets_derived more) refl)

  gate_groups_derived : {tokens : List Token} {groups : List (List WrittenGateChoice)} →
      Separated kind.COMMA (AreGateChoicesAmong text) tokens groups →
      D behaviours.GATE_CHOICES tokens (some_gate_choices (flat_map (λ group. group) groups))
  gate_groups_derived (last (family.among {tokens = own} {rest = rest} {word = word} {names = xs} {gates = gates} found is_word among)) =
      subst (λ (l : List Token). D behaviours.GATE_CHOICES (own ++ word ∷ l) (some_gate_choices (gate_choices_among xs gates ++ [])))
      (append-nil rest)
      (by_gate_choices text (names_derived text found) is_word (gates_derived among) (by_no_more_gate_choices text refl) refl)
  gate_groups_derived
      (before_more {rest = others} {token = comma} {values = more_groups}
      (family.among {tokens = own} {rest = rest} {word = word} {names = xs} {gates = gates} found is_word among) is_comma more) =
      subst (λ (l : List Token). D behaviours.GATE_CHOICES l
      (some_gate_choices (gate_choices_among xs gates ++ flat_map (λ group. group) more_groups)))
      (sym (append_assoc own (word ∷ rest) (comma ∷ others)))
      (by_gate_choices text (names_derived text found) is_word (gates_derived among)
      (by_more_gate_choices text is_comma (gate_groups_derived more) refl) refl)

  gate_choices_derived : {tokens : List Token} {gates : List WrittenGateChoice} → AreGateChoices text tokens gates →
      D behaviours.GATE_CHOICES tokens (some_gate_choices gates)
  gate_choices_derived (family.gate_choices groups) = gate_groups_derived groups

  offer_derived : {tokens : List Token} {offers : List WrittenOffer} → IsWrittenOffer text tokens offers →
      D behaviours.OFFER tokens (some_offers offers)
  offer_derived (family.giving mark it) = by_give text mark (term_derived text it).derived refl
  offer_derived (family.asking mark xs colon sort) = by_ask text mark (names_derived text xs) colon (by_name text sort refl) refl

  -- what is behind the first offer of an action
  after_offer_derived : {offer_tokens test_tokens tokens : List Token} {semicolon : Token} {offers : List (List WrittenOffer)}
      {test : Option WrittenPremiss} {flat : PlainFlat} →
      Many (IsWrittenOffer text) offer_tokens offers → Optional None (IsSelection text) test_tokens test
      → IsOfKind kind.SEMICOLON semicolon →
      D behaviours.BEHAVIOUR tokens (some_operands flat) →
      D behaviours.AFTER_OFFER (offer_tokens ++ (test_tokens ++ semicolon ∷ tokens))
      (an_action (record { offers = flat_map (λ group. group) offers; test = test; behind = flat }))
  after_offer_derived no_more left_out semicolon flat = by_prefix_after_offers text semicolon flat refl
  after_offer_derived {tokens = tokens} {semicolon = mark} {flat = found} no_more
      (there (family.selection {left = left} {right = right} {tokens = own} {test = test} is_left it is_right)) semicolon flat =
      subst (λ (l : List Token). D behaviours.AFTER_OFFER (left ∷ l)
      (an_action (record { offers = []; test = Some test; behind = found }))) (sym (append_assoc own (right ∷ []) (mark ∷ tokens)))
      (by_selection_after_offers text is_left (premiss_derived text it) is_right semicolon flat refl)
  after_offer_derived {test_tokens = test_tokens} {tokens = tokens} {semicolon = mark} {test = found} {flat = behind_it}
      (and_then {tokens = own} {rest = rest} {value = first} {values = others} it more) test semicolon flat =
      subst (λ (l : List Token). D behaviours.AFTER_OFFER l
      (an_action (record { offers = first ++ flat_map (λ group. group) others; test = found; behind = behind_it })))
      (sym (append_assoc own rest (test_tokens ++ mark ∷ tokens)))
      (by_one_more_offer text (offer_derived it) (after_offer_derived more test semicolon flat) refl)

  -- the variables of a `choice`: its first names, and what is behind them
  record VariableParts (tokens : List Token) (variables : List WrittenVariable) : Type 0 where
    own : List Token
    others : List Token
    colon : Token
    sort : Token
    xs : List PlacedName
    more : List WrittenVariable
    tokens_are : tokens ≡ own ++ colon ∷ sort ∷ others
    variables_are : variables ≡ variables_of_sort xs (named text sort) ++ more
    first_names : AreNames text own xs
    is_colon : IsOfKind kind.COLON colon
    is_sort : IsOfKind kind.NAME sort
    more_derived : D names.MORE_VARIABLES others (some_variables more)

  variable_parts : {tokens : List Token} {variables : List WrittenVariable} → AreVariables text tokens variables →
      VariableParts tokens variables
  variable_parts
      (names_family.variables
      (last (names_family.of_sort {tokens = own} {colon = colon} {sort = sort} {names = xs} found is_colon is_sort))) = record {
        own = own;
        others = [];
        colon = colon;
        sort = sort;
        xs = xs;
        more = [];
        tokens_are = refl;
        variables_are = refl;
        first_names = found;
        is_colon = is_colon;
        is_sort = is_sort;
        more_derived = by_no_more_variables text refl;
      }
  variable_parts
      (names_family.variables
      (before_more {rest = rest} {token = comma} {values = groups}
      (names_family.of_sort {tokens = own} {colon = colon} {sort = sort} {names = xs} found is_colon is_sort) is_comma more)) = record {
        own = own;
        others = comma ∷ rest;
        colon = colon;
        sort = sort;
        xs = xs;
        more = flat_map (λ group. group) groups;
        tokens_are = append_assoc own (colon ∷ sort ∷ []) (comma ∷ rest);
        variables_are = refl;
        first_names = found;
        is_colon = is_colon;
        is_sort = is_sort;
        more_derived = by_more_variables text is_comma (variables_derived text (names_family.variables more)) refl;
      }

  -- the gates of a `choice`, likewise
  record GateParts (tokens : List Token) (gates : List WrittenGateChoice) : Type 0 where
    own : List Token
    gate_tokens : List Token
    others : List Token
    word : Token
    xs : List PlacedName
    among : List PlacedName
    more : List WrittenGateChoice
    tokens_are : tokens ≡ own ++ word ∷ (gate_tokens ++ others)
    gates_are : gates ≡ gate_choices_among xs among ++ more
    first_names : AreNames text own xs
    is_word : IsOfKind kind.IN word
    is_among : AreWrittenGates text gate_tokens among
    more_derived : D behaviours.MORE_GATE_CHOICES others (some_gate_choices more)

  gate_parts : {tokens : List Token} {gates : List WrittenGateChoice} → AreGateChoices text tokens gates → GateParts tokens gates
  gate_parts (family.gate_choices
      (last (family.among {tokens = own} {rest = rest} {word = word} {names = xs} {gates = gates} found is_word is_among))) = record {
        own = own;
        gate_tokens = rest;
        others = [];
        word = word;
        xs = xs;
        among = gates;
        more = [];
        tokens_are = ap (λ l. own ++ word ∷ l) (sym (append-nil rest));
        gates_are = refl;
        first_names = found;
        is_word = is_word;
        is_among = is_among;
        more_derived = by_no_more_gate_choices text refl;
      }
  gate_parts (family.gate_choices
      (before_more {rest = others} {token = comma} {values = groups}
      (family.among {tokens = own} {rest = rest} {word = word} {names = xs} {gates = gates} found is_word is_among) is_comma more)) =
      record {
        own = own;
        gate_tokens = rest;
        others = comma ∷ others;
        word = word;
        xs = xs;
        among = gates;
        more = flat_map (λ group. group) groups;
        tokens_are = append_assoc own (word ∷ rest) (comma ∷ others);
        gates_are = refl;
        first_names = found;
        is_word = is_word;
        is_among = is_among;
        more_derived = by_more_gate_choices text is_comma (gate_groups_derived more) refl;
      }

  -- a behaviour's flat list, which is derived and has its tree
  pub record FlatDerived (tokens : List Token) (inside : WrittenBehaviour) : Type 0 where
    pub flat : PlainFlat
    pub derived : D behaviours.BEHAVIOUR tokens (some_operands flat)
    pub tree_is : grouped strength_of joined_by flat.operands flat.signs ≡ Some inside

  choice_of_values_derived : {word sign : Token} {variable_tokens tokens : List Token} {variables : List WrittenVariable}
      {inside : WrittenBehaviour} → IsOfKind kind.CHOICE word →
      VariableParts variable_tokens variables → IsOfKind kind.CHOICE_SIGN sign → FlatDerived tokens inside →
      D behaviours.BEHAVIOUR (word ∷ (variable_tokens ++ sign ∷ tokens)) (operand_alone (choose_value (place_of word) variables inside))
  choice_of_values_derived {word} {sign} {variable_tokens} {tokens} {variables} {inside} is_word it is_sign behaviour =
      subst (λ (l : List WrittenVariable). D behaviours.BEHAVIOUR (word ∷ (variable_tokens ++ sign ∷ tokens))
      (operand_alone (choose_value (place_of word) l inside))) (sym it.variables_are)
      (subst (λ (l : List Token). D behaviours.BEHAVIOUR (word ∷ l)
      (operand_alone (choose_value (place_of word) (variables_of_sort it.xs (named text it.sort) ++ it.more) inside)))
      (sym (append_assoc it.own (it.colon ∷ it.sort ∷ it.others) (sign ∷ tokens)) ∙ ap (λ (l : List Token). l ++ sign ∷ tokens)
      (sym it.tokens_are))
      (by_choice text is_word (names_derived text it.first_names)
      (by_choice_of_values text it.is_colon (by_name text it.is_sort refl) it.more_derived
      (by_chosen text is_sign behaviour.derived (ap (option_and_then _) behaviour.tree_is)) refl) refl))

  choice_of_gates_derived : {word sign : Token} {gate_tokens tokens : List Token} {gates : List WrittenGateChoice}
      {inside : WrittenBehaviour} → IsOfKind kind.CHOICE word →
      GateParts gate_tokens gates → IsOfKind kind.CHOICE_SIGN sign → FlatDerived tokens inside →
      D behaviours.BEHAVIOUR (word ∷ (gate_tokens ++ sign ∷ tokens)) (operand_alone (choose_gate (place_of word) gates inside))
  choice_of_gates_derived {word} {sign} {gate_tokens} {tokens} {gates} {inside} is_word it is_sign behaviour =
      subst (λ (l : List WrittenGateChoice). D behaviours.BEHAVIOUR (word ∷ (gate_tokens ++ sign ∷ tokens))
      (operand_alone (choose_gate (place_of word) l inside))) (sym it.gates_are)
      (subst (λ (l : List Token). D behaviours.BEHAVIOUR (word ∷ l)
      (operand_alone (choose_gate (place_of word) (gate_choices_among it.xs it.among ++ it.more) inside)))
      (ap (λ (l : List Token). it.own ++ it.word ∷ l) (sym (append_assoc it.gate_tokens it.others (sign ∷ tokens)))
      ∙ sym (append_assoc it.own (it.word ∷ (it.gate_tokens ++ it.others)) (sign ∷ tokens)) ∙ ap (λ (l : List Token). l ++ sign ∷ tokens)
      (sym it.tokens_are))
      (by_choice text is_word (names_derived text it.first_names)
      (by_choice_of_gates text it.is_word (gates_derived it.is_among) it.more_derived
      (by_chosen text is_sign behaviour.derived (ap (option_and_then _) behaviour.tree_is)) refl) refl))

  mutual
    pub operands_derived : {tokens : List Token} {operands : List WrittenBehaviour} {signs : List PlacedSign} →
        AreOperands text tokens operands signs →
        D behaviours.BEHAVIOUR tokens (some_operands (record { operands = operands; signs = signs }))
    operands_derived (family.hiding word xs in_ inside) =
        by_hide text word (names_derived text xs) in_ (behaviour_derived inside).derived
        (ap (option_and_then _) (behaviour_derived inside).tree_is)
    operands_derived (family.letting word values in_ inside) =
        by_let text word (lets_derived values) in_ (behaviour_derived inside).derived
        (ap (option_and_then _) (behaviour_derived inside).tree_is)
    operands_derived (family.choosing_values word xs sign inside) =
        choice_of_values_derived word (variable_parts xs) sign (behaviour_derived inside)
    operands_derived (family.choosing_gates word gates sign inside) =
        choice_of_gates_derived word (gate_parts gates) sign (behaviour_derived inside)
    operands_derived (family.parallel_over_gates word gates sign inside) =
        by_par text word (gate_choices_derived gates) (parallel_derived sign) (behaviour_derived inside).derived
        (ap (option_and_then _) (behaviour_derived inside).tree_is)
    operands_derived (family.inner_prefix word semicolon them) = by_internal text word semicolon (operands_derived them) refl
    operands_derived (family.guarding left test right arrow them) =
        by_guarded text left (premiss_derived text test) right arrow (operands_derived them) refl
    operands_derived (family.acting gate semicolon them) =
        by_name_first text (by_name text gate refl) (by_action_without_offers text semicolon (operands_derived them) refl) refl
    operands_derived (family.offering gate first offers test semicolon them) =
        by_name_first text (by_name text gate refl)
        (by_action_with_offers text (offer_derived first) (after_offer_derived offers test semicolon (operands_derived them)) refl) refl
    operands_derived (family.last_operand {tokens = own} {operand = operand} it) =
        subst (λ (l : List Token). D behaviours.BEHAVIOUR l (some_operands (record { operands = operand ∷ []; signs = [] })))
        (append-nil own) (atom_derived it (by_no_behaviour_tail text refl))
    operands_derived (family.before_sign it sign more) =
        atom_derived it (by_behaviour_tail text (sign_derived sign) (operands_derived more) refl)

    atom_derived : {own tokens : List Token} {operand : WrittenBehaviour} {tail : PlainFlat} → IsAtom text own operand →
        D behaviours.BEHAVIOUR_TAIL tokens (some_operands tail) →
        D behaviours.BEHAVIOUR (own ++ tokens) (before_tail operand tail)
    atom_derived (family.stopping word) tail = by_stop text word tail refl
    atom_derived (family.exiting word values) tail = by_exit text word (exit_values_derived values) tail refl
    atom_derived {tokens = tokens} {operand = operand} {tail = behind_it}
        (family.calling {name = name} {gate_tokens = gate_tokens} {tokens = value_tokens} is_name gates values) tail =
        subst (λ (l : List Token). D behaviours.BEHAVIOUR (name ∷ l) (before_tail operand behind_it))
        (sym (append_assoc gate_tokens value_tokens tokens))
        (by_name_first text (by_name text is_name refl) (by_call text (optional_gates_derived gates) (arguments_derived values) tail refl)
        refl)
    atom_derived {tokens = tokens} {operand = operand} {tail = behind_it}
        (family.in_brackets {left = left} {right = right} {tokens = own} is_left inside is_right) tail =
        subst (λ (l : List Token). D behaviours.BEHAVIOUR (left ∷ l) (before_tail operand behind_it))
        (sym (append_assoc own (right ∷ []) tokens))
        (by_bracketed_behaviour text is_left (behaviour_derived inside).derived is_right tail
        (ap (option_and_then _) (behaviour_derived inside).tree_is))

    pub behaviour_derived : {tokens : List Token} {inside : WrittenBehaviour} → IsBehaviourText text tokens inside
        → FlatDerived tokens inside
    behaviour_derived (family.grouped_operands {operands = operands} {signs = signs} them it) =
        record {
          flat = record { operands = operands; signs = signs };
          derived = operands_derived them;
          tree_is = is_grouped strength_of
              joined_by it;
        }
