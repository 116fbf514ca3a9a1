-- The names in the tree of a text have the form of names.
use Rattle.std.proofs.Common.{inl, inr, ℕ, Bool, true, false, if◌then◌else◌, List, [], ◌∷◌, ◌++◌, flat_map}
use Rattle.lotos_base.specs.WrittenTerm.{PlacedName}
use Rattle.lotos_lexer.specs.declared.kinds.TheConstants.{NAME, COMMA}
use Rattle.lotos_lexer.specs.declared.tokens.Token.{Token}
use Rattle.syntax_trees.specs.WrittenItem.{WrittenOperation, WrittenPair, WrittenPairs, WrittenSections, WrittenTypeBody, extends, renames, actualises, WrittenItem, libraries, type_declared}
use Rattle.syntax_trees.specs.WrittenBehaviour.{WrittenGateChoice, WrittenBehaviour}
use Rattle.syntax_trees.specs.WrittenDefinition.{WrittenHeading, WrittenInner, WrittenInners, inners_of, WrittenSpecification}
use Rattle.syntax_trees.specs.TakenItems.{items_of_inner, items_of_inners, items_of_specification}
use Rattle.syntax_trees.specs.Strength.{PlacedSign, strength_of, joined_by_sign}
use Rattle.syntax_trees.specs.Grouping.{IsGrouped, alone, split}
use Rattle.lotos_rows.specs.Words.{IsOfKind, Optional, left_out, there, Many, no_more, and_then, Separated, last, before_more, Loosely, last_loose, with_separator, without_separator, Behind, behind, Between, between}
use Rattle.lotos_rows.specs.Names.{spelled as token_spelled, IsName, a_name, AreNames, AreWrittenGates, AreOptionalGates, AreLooseNames, IsOperationName, word_name, digit_name, sign_name, NamedOperation, IsWrittenOperation, of_prefix_form, of_infix_form, PlacedProfile}
use Rattle.lotos_rows.specs.Renamings.{IsSortPair, sort_for, IsOperationPair, operation_for, AreRenames, renames as renames_row}
use Rattle.lotos_rows.specs.Types.{operations_of_profile, IsOperationLine, operations_line, AreOperations, operations, AreSections, sections, IsTypeBody, renaming, actualising, extending, extending_nothing, IsItem, a_library, a_type}
use Rattle.lotos_rows.specs.Behaviours.{gate_choices_among, AreGateChoicesAmong, among, AreGateChoices, gate_choices, before_first, AreOperands, hiding, letting, choosing_values, choosing_gates, parallel_over_gates, inner_prefix, guarding, acting, offering, last_operand, before_sign, IsAtom, stopping, exiting, calling, in_brackets, IsBehaviourText, grouped_operands}
use Rattle.lotos_rows.specs.Definitions.{IsHeading, heading, IsProcess, a_process, IsWhere, no_where, a_where, AreInner, no_more_inner, item_then, process_then}
use Rattle.lotos_rows.specs.Starts.{AreItems, IsWrittenSpecification, a_specification}
use Rattle.scope_parts.specs.Scope.{Binding, bind, is_bound}
use Rattle.scope_parts.specs.Numbering.{spelled_names, each_once_from, each_once, choice_names, gates_in, own_gates, inner_gates, inners_gates}
use Rattle.scope_parts.specs.Definitions.{declared_gates}
use Rattle.behaviour_semantics.specs.WellFormed.{Every}
use Rattle.behaviour_semantics.proofs.EveryLemmas.{every_front, every_back}
use Rattle.behaviour_semantics.proofs.ListLemmas.{Every-append}
use Rattle.session_laws.specs.TextNames.{IsWordSpelling, IsOperationSpelling}
use Rattle.session_laws.proofs.TokenSpellings.{IsSpelledIn}

-- ---- Lists

pub flat_every : {X : Type 0} (P : X → Type 0) (lists : List (List X)) → Every (Every P) lists → Every P (flat_map (λ list. list) lists)
flat_every P [] all = tt
flat_every P (list ∷ lists) all = Every-append P list (flat_map (λ l. l) lists) all.0 (flat_every P lists all.1)

-- ---- What is said of the parts of a tree

abbrev pub IsWord : PlacedName → Type 0
IsWord name = IsWordSpelling name.name

abbrev pub IsOperatorDeclared : WrittenOperation → Type 0
IsOperatorDeclared operation = IsOperationSpelling operation.name

abbrev pub GivesWord : WrittenPair → Type 0
GivesWord pair = IsWordSpelling pair.given

abbrev pub GivesOperator : WrittenPair → Type 0
GivesOperator pair = IsOperationSpelling pair.given

pub record ArePairsSpelled (pairs : WrittenPairs) : Type 0 where
  pub sort_pairs : Every GivesWord pairs.sort_pairs
  pub operation_pairs : Every GivesOperator pairs.operation_pairs

pub record AreSectionsSpelled (all : WrittenSections) : Type 0 where
  pub formal_sorts : Every IsWord all.formal_sorts
  pub sorts : Every IsWord all.sorts
  pub formal_operations : Every IsOperatorDeclared all.formal_operations
  pub operations : Every IsOperatorDeclared all.operations

abbrev pub IsBodySpelled : WrittenTypeBody → Type 0
IsBodySpelled (extends imports all) = AreSectionsSpelled all
IsBodySpelled (renames base pairs) = ArePairsSpelled pairs
IsBodySpelled (actualises base actuals pairs) = ArePairsSpelled pairs

abbrev pub IsItemSpelled : WrittenItem → Type 0
IsItemSpelled (libraries place names) = Unit {0}
IsItemSpelled (type_declared place name body) = IsBodySpelled body

abbrev AreGatesSpelled : WrittenBehaviour → Type 0
AreGatesSpelled behaviour = Every IsWordSpelling (gates_in behaviour)

-- the gates and the items that a `where` declares
record AreInnersSpelled (inners : WrittenInners) : Type 0 where
  pub gates : Every IsWordSpelling (inners_gates inners)
  pub items : Every IsItemSpelled (items_of_inners inners)

record IsInnerSpelled (inner : WrittenInner) : Type 0 where
  pub gates : Every IsWordSpelling (inner_gates inner)
  pub items : Every IsItemSpelled (items_of_inner inner)

-- ---- Gates

once_every : (P : List ℕ → Type 0) (before : List Binding) (names : List (List ℕ)) → Every P names → Every P (each_once_from before names)
once_every P before [] all = tt
once_every P before (name ∷ names) all =
    by (is_bound before name) (once_every P before names all.1) (once_every P (bind name 0 before) names all.1)
  where
    by : (bound : Bool) → Every P (each_once_from before names) → Every P (each_once_from (bind name 0 before) names)
        → Every P (if bound then each_once_from before names else name ∷ each_once_from (bind name 0 before) names)
    by true passed new = passed
    by false passed new = (all.0, new)

names_every : (names : List PlacedName) → Every IsWord names → Every IsWordSpelling (spelled_names names)
names_every [] all = tt
names_every (name ∷ names) all = (all.0, names_every names all.1)

abbrev IsChoiceSpelled : WrittenGateChoice → Type 0
IsChoiceSpelled gate = IsWordSpelling gate.name

choices_every : (gates : List WrittenGateChoice) → Every IsChoiceSpelled gates → Every IsWordSpelling (choice_names gates)
choices_every [] all = tt
choices_every (gate ∷ gates) all = (all.0, choices_every gates all.1)

among_every : (names gates : List PlacedName) → Every IsWord names → Every IsChoiceSpelled (gate_choices_among names gates)
among_every [] gates all = tt
among_every (name ∷ names) gates all = (all.0, among_every names gates all.1)

grouped_gates : {operands : List WrittenBehaviour} {signs : List PlacedSign} {behaviour : WrittenBehaviour}
    → IsGrouped strength_of joined_by_sign operands signs behaviour → Every AreGatesSpelled operands → AreGatesSpelled behaviour
grouped_gates alone all = all.0
grouped_gates (split {operands = operands} {others = others} {left = left} {right = right} before after is also) all =
    Every-append IsWordSpelling (gates_in left) (gates_in right)
    (grouped_gates is (every_front AreGatesSpelled operands others all))
    (grouped_gates also (every_back AreGatesSpelled operands others all))

first_gates : (prefix : WrittenBehaviour → WrittenBehaviour) (operands : List WrittenBehaviour)
    → ((b : WrittenBehaviour) → AreGatesSpelled b → AreGatesSpelled (prefix b)) → Every AreGatesSpelled operands
    → Every AreGatesSpelled (before_first prefix operands)
first_gates prefix [] keeps all = tt
first_gates prefix (first ∷ others) keeps all = (keeps first all.0, all.1)

module _ (text : List ℕ) where
  -- these tokens are spelled as their kinds ask
  abbrev pub AreSpelled : List Token → Type 0
  AreSpelled tokens = Every (IsSpelledIn text) tokens

  pub front : (tokens rest : List Token) → AreSpelled (tokens ++ rest) → AreSpelled tokens
  front tokens rest all = every_front (IsSpelledIn text) tokens rest all

  pub back : (tokens rest : List Token) → AreSpelled (tokens ++ rest) → AreSpelled rest
  back tokens rest all = every_back (IsSpelledIn text) tokens rest all

  -- ---- Things of the grammar, where `one` has a property by its tokens

  abbrev pub Gives : {A : Type 0} → (List Token → A → Type 0) → (A → Type 0) → Type 0
  Gives {A} one P = (tokens : List Token) (value : A) → one tokens value → AreSpelled tokens → P value

  pub optional_gives : {A : Type 0} (absent : A) (one : List Token → A → Type 0) (P : A → Type 0) → P absent → Gives one P
      → Gives (Optional absent one) P
  optional_gives absent one P none gives tokens value left_out all = none
  optional_gives absent one P none gives tokens value (there is) all = gives tokens value is all

  pub many_gives : {A : Type 0} (one : List Token → A → Type 0) (P : A → Type 0) → Gives one P → Gives (Many one) (Every P)
  many_gives one P gives tokens values no_more all = tt
  many_gives one P gives _ _ (and_then {tokens = tokens} {rest = rest} {value = value} {values = values} is more) all =
      (gives tokens value is (front tokens rest all), many_gives one P gives rest values more (back tokens rest all))

  pub separated_gives : {A : Type 0} (separator : ℕ) (one : List Token → A → Type 0) (P : A → Type 0) → Gives one P
      → Gives (Separated separator one) (Every P)
  separated_gives separator one P gives tokens _ (last {value = value} is) all = (gives tokens value is all, tt)
  separated_gives separator one P gives _ _
      (before_more {tokens = tokens} {rest = rest} {token = token} {value = value} {values = values} is comma more) all = (
        gives tokens value is (front tokens (token ∷ rest) all),
        separated_gives separator one P gives rest values more (back tokens (token ∷ rest) all).1,
      )

  loosely_gives : {A : Type 0} (separator : ℕ) (one : List Token → A → Type 0) (P : A → Type 0) → Gives one P
      → Gives (Loosely separator one) (Every P)
  loosely_gives separator one P gives tokens _ (last_loose {value = value} is) all = (gives tokens value is all, tt)
  loosely_gives separator one P gives _ _
      (with_separator {tokens = tokens} {rest = rest} {token = token} {value = value} {values = values} is comma more) all = (
        gives tokens value is (front tokens (token ∷ rest) all),
        loosely_gives separator one P gives rest values more (back tokens (token ∷ rest) all).1,
      )
  loosely_gives separator one P gives _ _
      (without_separator {tokens = tokens} {rest = rest} {value = value} {values = values} is more) all =
      (gives tokens value is (front tokens rest all), loosely_gives separator one P gives rest values more (back tokens rest all))

  behind_gives : {A : Type 0} (word : ℕ) (one : List Token → A → Type 0) (P : A → Type 0) → Gives one P → Gives (Behind word one) P
  behind_gives word one P gives _ value (behind {token = token} {tokens = tokens} is inside) all = gives tokens value inside all.1

  pub between_gives : {A : Type 0} (left right : ℕ) (one : List Token → A → Type 0) (P : A → Type 0) → Gives one P
      → Gives (Between left right one) P
  between_gives left right one P gives _ value
      (between {open_token = open_token} {close_token = close_token} {tokens = tokens} opens inside closes) all =
      gives tokens value inside (front tokens (close_token ∷ []) all.1)

  -- ---- Names

  pub token_word : (token : Token) → IsOfKind NAME token → IsSpelledIn text token → IsWordSpelling (token_spelled text token)
  token_word token is spells = spells.as_word is.kind_is

  name_word : Gives (IsName text) IsWord
  name_word _ _ (a_name {name = name} is) all = token_word name is all.0

  pub names_words : Gives (AreNames text) (Every IsWord)
  names_words = separated_gives COMMA (IsName text) IsWord name_word

  gates_words : Gives (AreOptionalGates text) (Every IsWord)
  gates_words = optional_gives [] (AreWrittenGates text) (Every IsWord) tt (between_gives _ _ (AreNames text) (Every IsWord) names_words)

  loose_words : Gives (AreLooseNames text) (Every IsWord)
  loose_words = loosely_gives COMMA (IsName text) IsWord name_word

  abbrev IsOperator : PlacedName → Type 0
  IsOperator name = IsOperationSpelling name.name

  operation_name_spelled : Gives (IsOperationName text) IsOperator
  operation_name_spelled _ _ (word_name {name = name} is) all = inl (all.0.as_word is.kind_is)
  operation_name_spelled _ _ (digit_name {name = name} is) all = inr (inl (all.0.as_digits is.kind_is))
  operation_name_spelled _ _ (sign_name {name = name} is) all = inr (inr (all.0.as_signs is.kind_is))

  abbrev IsOperatorNamed : NamedOperation → Type 0
  IsOperatorNamed operation = IsOperationSpelling operation.name.name

  operation_spelled : Gives (IsWrittenOperation text) IsOperatorNamed
  operation_spelled tokens _ (of_prefix_form {name = name} is) all = operation_name_spelled tokens name is all
  operation_spelled _ _ (of_infix_form {left = left} {right = right} {tokens = tokens} {name = name} opens is closes) all =
      operation_name_spelled tokens name is (front tokens (right ∷ []) all.1)

  -- ---- Types

  profile_spelled : (given : List NamedOperation) (profile : PlacedProfile) → Every IsOperatorNamed given
      → Every IsOperatorDeclared (operations_of_profile given profile)
  profile_spelled [] profile all = tt
  profile_spelled (one ∷ given) profile all = (all.0, profile_spelled given profile all.1)

  line_spelled : Gives (IsOperationLine text) (Every IsOperatorDeclared)
  line_spelled _ _ (operations_line {tokens = tokens} {profile_tokens = rest} {operations = given} {profile = profile} are is) all =
      profile_spelled given profile
      (separated_gives COMMA (IsWrittenOperation text) IsOperatorNamed operation_spelled tokens given are (front tokens rest all))

  operations_spelled : Gives (AreOperations text) (Every IsOperatorDeclared)
  operations_spelled tokens _ (operations {lines = lines} are) all =
      flat_every IsOperatorDeclared lines
      (many_gives (IsOperationLine text) (Every IsOperatorDeclared) line_spelled tokens lines are all)

  sort_pair_spelled : Gives (IsSortPair text) GivesWord
  sort_pair_spelled _ _ (sort_for {given = given} is word replaced) all = token_word given is all.0

  operation_pair_spelled : Gives (IsOperationPair text) GivesOperator
  operation_pair_spelled _ _
      (operation_for {tokens = tokens} {rest = rest} {word = word} {given = given} is for replaced) all =
      operation_spelled tokens given is (front tokens (word ∷ rest) all)

  pairs_spelled : Gives (AreRenames text) ArePairsSpelled
  pairs_spelled _ _
      (renames_row {sort_tokens = sort_tokens} {operation_tokens = operation_tokens} {sort_pairs = sort_pairs}
      {operation_pairs = operation_pairs} sort_list operation_list) all = record {
        sort_pairs =
            optional_gives [] (Behind _ (Loosely COMMA (IsSortPair text))) (Every GivesWord) tt
            (behind_gives _ (Loosely COMMA (IsSortPair text)) (Every GivesWord)
            (loosely_gives COMMA (IsSortPair text) GivesWord sort_pair_spelled)) sort_tokens sort_pairs sort_list
            (front sort_tokens operation_tokens all);
        operation_pairs =
            optional_gives [] (Behind _ (Loosely COMMA (IsOperationPair text))) (Every GivesOperator) tt
            (behind_gives _ (Loosely COMMA (IsOperationPair text)) (Every GivesOperator)
            (loosely_gives COMMA (IsOperationPair text) GivesOperator operation_pair_spelled)) operation_tokens operation_pairs
            operation_list
            (back sort_tokens operation_tokens all);
      }

  sort_section : (word : ℕ) → Gives (Optional [] (Behind word (AreLooseNames text))) (Every IsWord)
  sort_section word =
      optional_gives [] (Behind word (AreLooseNames text)) (Every IsWord) tt
      (behind_gives word (AreLooseNames text) (Every IsWord) loose_words)

  operation_section : (word : ℕ) → Gives (Optional [] (Behind word (AreOperations text))) (Every IsOperatorDeclared)
  operation_section word =
      optional_gives [] (Behind word (AreOperations text)) (Every IsOperatorDeclared) tt
      (behind_gives word (AreOperations text) (Every IsOperatorDeclared) operations_spelled)

  sections_spelled : Gives (AreSections text) AreSectionsSpelled
  sections_spelled _ _
      (sections {formal_sort_tokens = a} {formal_operation_tokens = b} {formal_equation_tokens = c} {sort_tokens = d}
      {operation_tokens = e} {equation_tokens = f} {formal_sorts = formal_sorts} {sorts = sorts}
      {formal_operations = formal_operations} {operations = own} is_a is_b is_c is_d is_e is_f) all =
      let behind_a = back a (b ++ (c ++ (d ++ (e ++ f)))) all in
      let behind_b = back b (c ++ (d ++ (e ++ f))) behind_a in
      let behind_c = back c (d ++ (e ++ f)) behind_b in
      let behind_d = back d (e ++ f) behind_c in
      record {
        formal_sorts = sort_section _ a formal_sorts is_a (front a (b ++ (c ++ (d ++ (e ++ f)))) all);
        sorts = sort_section _ d sorts is_d (front d (e ++ f) behind_c);
        formal_operations = operation_section _ b formal_operations is_b (front b (c ++ (d ++ (e ++ f))) behind_a);
        operations = operation_section _ e own is_e (front e f behind_d);
      }

  body_spelled : Gives (IsTypeBody text) IsBodySpelled
  body_spelled _ _ (renaming {tokens = tokens} {pairs = pairs} base word are) all = pairs_spelled tokens pairs are all.1.1
  body_spelled _ _
      (actualising {using = using} {actual_tokens = actual_tokens} {tokens = tokens} {pairs = pairs} base word actuals is are) all =
      pairs_spelled tokens pairs are (back actual_tokens (using ∷ tokens) all.1.1).1
  body_spelled _ _ (extending {import_tokens = import_tokens} {tokens = tokens} {sections = all_sections} imports are) all =
      sections_spelled tokens all_sections are (back import_tokens tokens all)
  body_spelled tokens _ (extending_nothing {sections = all_sections} are) all = sections_spelled tokens all_sections are all

  item_spelled : Gives (IsItem text) IsItemSpelled
  item_spelled _ _ (a_library word names end) all = tt
  item_spelled _ _ (a_type {end = end} {tokens = tokens} {body = body} word name is there_ ends) all =
      body_spelled tokens body there_ (front tokens (end ∷ []) all.1.1.1)

  pub items_spelled : Gives (AreItems text) (Every IsItemSpelled)
  items_spelled = many_gives (IsItem text) IsItemSpelled item_spelled

  -- ---- Behaviours

  among_spelled : Gives (AreGateChoicesAmong text) (Every IsChoiceSpelled)
  among_spelled _ _ (among {tokens = tokens} {rest = rest} {word = word} {names = names} {gates = gates} are is gates_are) all =
      among_every names gates (names_words tokens names are (front tokens (word ∷ rest) all))

  choices_spelled : Gives (AreGateChoices text) (Every IsChoiceSpelled)
  choices_spelled tokens _ (gate_choices {groups = groups} are) all =
      flat_every IsChoiceSpelled groups
      (separated_gives COMMA (AreGateChoicesAmong text) (Every IsChoiceSpelled) among_spelled tokens groups are all)

  mutual
    operands_gates : (tokens : List Token) (operands : List WrittenBehaviour) (signs : List PlacedSign)
        → AreOperands text tokens operands signs → AreSpelled tokens → Every AreGatesSpelled operands
    operands_gates _ _ _
        (hiding {in_ = in_} {name_tokens = names} {tokens = tokens} {gates = gates} {inside = inside} word are is within) all =
        let rest = back names (in_ ∷ tokens) all.1 in (
          Every-append IsWordSpelling (each_once (spelled_names gates)) (gates_in inside)
              (once_every IsWordSpelling [] (spelled_names gates)
              (names_every gates (names_words names gates are (front names (in_ ∷ tokens) all.1))))
              (behaviour_gates tokens inside within rest.1),
          tt,
        )
    operands_gates _ _ _ (letting {in_ = in_} {value_tokens = values} {tokens = tokens} {inside = inside} word are is within) all =
        (behaviour_gates tokens inside within (back values (in_ ∷ tokens) all.1).1, tt)
    operands_gates _ _ _
        (choosing_values {sign = sign} {variable_tokens = values} {tokens = tokens} {inside = inside} word are is within) all =
        (behaviour_gates tokens inside within (back values (sign ∷ tokens) all.1).1, tt)
    operands_gates _ _ _
        (choosing_gates {sign = sign} {gate_tokens = names} {tokens = tokens} {gates = gates} {inside = inside} word are is within) all = (
          Every-append IsWordSpelling (choice_names gates) (gates_in inside)
              (choices_every gates (choices_spelled names gates are (front names (sign ∷ tokens) all.1)))
              (behaviour_gates tokens inside within (back names (sign ∷ tokens) all.1).1),
          tt,
        )
    operands_gates _ _ _
        (parallel_over_gates {gate_tokens = names} {sign_tokens = signs} {tokens = tokens} {gates = gates} {inside = inside}
        word are is within) all = (
          Every-append IsWordSpelling (choice_names gates) (gates_in inside)
              (choices_every gates (choices_spelled names gates are (front names (signs ++ tokens) all.1)))
              (behaviour_gates tokens inside within (back signs tokens (back names (signs ++ tokens) all.1))),
          tt,
        )
    operands_gates _ _ signs (inner_prefix {tokens = tokens} {operands = operands} word semicolon more) all =
        first_gates _ operands (λ b has. has) (operands_gates tokens operands signs more all.1.1)
    operands_gates _ _ signs
        (guarding {right = right} {arrow = arrow} {test_tokens = tests} {tokens = tokens} {operands = operands} left test is sign more)
        all =
        first_gates _ operands (λ b has. has)
        (operands_gates tokens operands signs more (back tests (right ∷ arrow ∷ tokens) all.1).1.1)
    operands_gates _ _ signs (acting {tokens = tokens} {operands = operands} gate semicolon more) all =
        first_gates _ operands (λ b has. has) (operands_gates tokens operands signs more all.1.1)
    operands_gates _ _ signs
        (offering {semicolon = semicolon} {first_tokens = a} {offer_tokens = b} {test_tokens = c} {tokens = tokens}
        {operands = operands} gate first offers test is more) all =
        first_gates _ operands (λ behaviour has. has)
        (operands_gates tokens operands signs more
        (back c (semicolon ∷ tokens) (back b (c ++ semicolon ∷ tokens) (back a (b ++ (c ++ semicolon ∷ tokens)) all.1))).1)
    operands_gates tokens _ _ (last_operand {operand = operand} atom) all = (atom_gates tokens operand atom all, tt)
    operands_gates _ _ _
        (before_sign {tokens = tokens} {sign_tokens = signs} {rest = rest} {operand = operand} {operands = operands} {signs = others}
        atom sign more) all = (
          atom_gates tokens operand atom (front tokens (signs ++ rest) all),
          operands_gates rest operands others more (back signs rest (back tokens (signs ++ rest) all)),
        )

    atom_gates : (tokens : List Token) (operand : WrittenBehaviour) → IsAtom text tokens operand → AreSpelled tokens
        → AreGatesSpelled operand
    atom_gates _ _ (stopping word) all = tt
    atom_gates _ _ (exiting word values) all = tt
    atom_gates _ _ (calling name gates values) all = tt
    atom_gates _ operand (in_brackets {right = right} {tokens = tokens} left within closes) all =
        behaviour_gates tokens operand within (front tokens (right ∷ []) all.1)

    behaviour_gates : (tokens : List Token) (behaviour : WrittenBehaviour) → IsBehaviourText text tokens behaviour → AreSpelled tokens
        → AreGatesSpelled behaviour
    behaviour_gates tokens _ (grouped_operands {operands = operands} {signs = signs} are grouped) all =
        grouped_gates grouped (operands_gates tokens operands signs are all)

  -- ---- Definitions

  heading_gates : (tokens : List Token) (given : WrittenHeading) → IsHeading text tokens given → AreSpelled tokens
      → Every IsWordSpelling (spelled_names given.gates)
  heading_gates _ _
      (heading {colon = colon} {gate_tokens = names} {parameter_tokens = parameters} {tokens = tokens} {gates = gates} name are given is
      ends) all =
      names_every gates (gates_words names gates are (front names (parameters ++ colon ∷ tokens) all.1))

  mutual
    process_spelled : (tokens : List Token) (inner : WrittenInner) → IsProcess text tokens inner → AreSpelled tokens → IsInnerSpelled inner
    process_spelled _ _
        (a_process {sign = sign} {end = end} {heading_tokens = a} {tokens = b} {where_tokens = c} {heading = given} {body = body}
        {inner = inner} word head is behaviour there_ ends) all =
        let behind_a = back a (sign ∷ (b ++ (c ++ end ∷ []))) all.1 in
        let behind_b = back b (c ++ end ∷ []) behind_a.1 in
        let rest = where_spelled c inner there_ (front c (end ∷ []) behind_b) in
        record {
          gates =
              Every-append IsWordSpelling (own_gates given body) (inners_gates (inners_of inner))
              (Every-append IsWordSpelling (spelled_names given.gates) (gates_in body)
              (heading_gates a given head (front a (sign ∷ (b ++ (c ++ end ∷ []))) all.1))
              (behaviour_gates b body behaviour (front b (c ++ end ∷ []) behind_a.1)))
              rest.gates;
          items = rest.items;
        }

    where_spelled : (tokens : List Token) (inner : List WrittenInner) → IsWhere text tokens inner → AreSpelled tokens
        → AreInnersSpelled (inners_of inner)
    where_spelled _ _ no_where all = record { gates = tt; items = tt }
    where_spelled _ inner (a_where {tokens = tokens} word are) all = inner_spelled tokens inner are all.1

    inner_spelled : (tokens : List Token) (inner : List WrittenInner) → AreInner text tokens inner → AreSpelled tokens
        → AreInnersSpelled (inners_of inner)
    inner_spelled _ _ no_more_inner all = record { gates = tt; items = tt }
    inner_spelled _ _ (item_then {tokens = tokens} {rest = rest} {item = item} {inner = inner} is more) all =
        let others = inner_spelled rest inner more (back tokens rest all) in
        record { gates = others.gates; items = (item_spelled tokens item is (front tokens rest all), others.items) }
    inner_spelled _ _ (process_then {tokens = tokens} {rest = rest} {definition = definition} {inner = inner} is more) all =
        let others = inner_spelled rest inner more (back tokens rest all) in
        let first = process_spelled tokens definition is (front tokens rest all) in
        record {
          gates = Every-append IsWordSpelling (inner_gates definition) (inners_gates (inners_of inner)) first.gates others.gates;
          items = Every-append IsItemSpelled (items_of_inner definition) (items_of_inners (inners_of inner)) first.items others.items;
        }

  -- ---- The text of a specification

  pub specification_spelled : (tokens : List Token) (tree : WrittenSpecification) → IsWrittenSpecification text tokens tree
      → Every (IsSpelledIn text) tokens
      → Every IsItemSpelled (items_of_specification tree) × Every IsWordSpelling (declared_gates tree)
  specification_spelled _ _
      (a_specification {word = word} {end = end} {heading_tokens = a} {item_tokens = b} {tokens = c} {where_tokens = d}
      {heading = given} {items = items} {body = body} {inner = inner} begins head are is behaviour there_ ends) all =
      let behind_a = back a (b ++ word ∷ (c ++ (d ++ end ∷ []))) all.1 in
      let behind_b = back b (word ∷ (c ++ (d ++ end ∷ []))) behind_a in
      let behind_c = back c (d ++ end ∷ []) behind_b.1 in
      let rest = where_spelled d inner there_ (front d (end ∷ []) behind_c) in (
        Every-append IsItemSpelled items (items_of_inners (inners_of inner))
            (items_spelled b items are (front b (word ∷ (c ++ (d ++ end ∷ []))) behind_a)) rest.items,
        Every-append IsWordSpelling (own_gates given body) (inners_gates (inners_of inner))
            (Every-append IsWordSpelling (spelled_names given.gates) (gates_in body)
            (heading_gates a given head (front a (b ++ word ∷ (c ++ (d ++ end ∷ []))) all.1))
            (behaviour_gates c body behaviour (front c (d ++ end ∷ []) behind_b.1)))
            rest.gates,
      )
