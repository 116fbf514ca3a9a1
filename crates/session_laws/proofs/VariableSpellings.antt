-- The variables that a text declares have the form of names, and so have its processes and the text itself.
use Rattle.std.proofs.Common.{ℕ, List, [], ◌∷◌, ◌++◌, map, flat_map}
use Rattle.lotos_base.specs.WrittenTerm.{PlacedName, WrittenTerm}
use Rattle.lotos_lexer.specs.declared.kinds.TheConstants.{COMMA, ACCEPT, IN, LEFT_PARENTHESIS, RIGHT_PARENTHESIS}
use Rattle.lotos_lexer.specs.declared.tokens.Token.{Token}
use Rattle.syntax_trees.specs.WrittenVariable.{WrittenVariable}
use Rattle.syntax_trees.specs.WrittenBehaviour.{WrittenSign, choice_sign, interleaving, full_synchronisation, synchronising, disabling, enabling, WrittenOffer, offer_value, offer_variable, WrittenBehaviour, stop, exit, call, action, inner_action, guard, hide, let_be, choose_value, choose_gate, par_gate, binary}
use Rattle.syntax_trees.specs.WrittenDefinition.{WrittenHeading, WrittenInner, WrittenInners, inner_item, process, no_inner, inner_then, inners_of, WrittenSpecification}
use Rattle.syntax_trees.specs.Strength.{PlacedSign, strength_of, joined_by_sign}
use Rattle.syntax_trees.specs.Grouping.{IsGrouped, alone, split}
use Rattle.lotos_rows.specs.Words.{Between}
use Rattle.lotos_rows.specs.Names.{named, variables_of_sort, AreVariablesOfSort, of_sort, AreVariables, variables, AreParameters}
use Rattle.lotos_rows.specs.Behaviours.{IsLetDeclaration, let_declaration, IsWrittenOffer, giving, asking, IsParallelSign, sign_interleaving, sign_full, sign_gates, IsSign, sign_choice, sign_parallel, sign_disabling, sign_enabling, before_first, AreOperands, hiding, letting, choosing_values, choosing_gates, parallel_over_gates, inner_prefix, guarding, acting, offering, last_operand, before_sign, IsAtom, stopping, exiting, calling, in_brackets, IsBehaviourText, grouped_operands}
use Rattle.lotos_rows.specs.Definitions.{IsHeading, heading, IsProcess, a_process, IsWhere, no_where, a_where, AreInner, no_more_inner, item_then, process_then}
use Rattle.lotos_rows.specs.Starts.{IsWrittenSpecification, a_specification}
use Rattle.behaviour_semantics.specs.WellFormed.{Every}
use Rattle.behaviour_semantics.proofs.EveryLemmas.{every_front, every_back}
use Rattle.behaviour_semantics.proofs.ListLemmas.{Every-append}
use Rattle.session_laws.specs.TextNames.{IsWordSpelling}
use Rattle.session_laws.proofs.TokenSpellings.{IsSpelledIn}
use Rattle.session_laws.proofs.WrittenNames.{flat_every, IsWord, AreSpelled, Gives, front, back, optional_gives, many_gives, separated_gives, between_gives, token_word, names_words}

-- ---- What is said of the parts of a tree

abbrev pub IsVariableSpelled : WrittenVariable → Type 0
IsVariableSpelled x = IsWordSpelling x.name

abbrev pub IsOfferSpelled : WrittenOffer → Type 0
IsOfferSpelled (offer_value term) = Unit {0}
IsOfferSpelled (offer_variable x) = IsVariableSpelled x

abbrev pub IsLetSpelled : WrittenVariable × WrittenTerm → Type 0
IsLetSpelled binding = IsVariableSpelled binding.0

-- a sign declares the variables behind `accept`
abbrev pub DeclaresWords : WrittenSign → Type 0
DeclaresWords choice_sign = Unit {0}
DeclaresWords interleaving = Unit {0}
DeclaresWords full_synchronisation = Unit {0}
DeclaresWords (synchronising gates) = Unit {0}
DeclaresWords disabling = Unit {0}
DeclaresWords (enabling accepted) = Every IsVariableSpelled accepted

abbrev pub AreVariablesSpelled : WrittenBehaviour → Type 0
AreVariablesSpelled (stop place) = Unit {0}
AreVariablesSpelled (exit place values) = Unit {0}
AreVariablesSpelled (call place name gates values) = Unit {0}
AreVariablesSpelled (action place gate offers test next) = Every IsOfferSpelled offers × AreVariablesSpelled next
AreVariablesSpelled (inner_action place next) = AreVariablesSpelled next
AreVariablesSpelled (guard place test next) = AreVariablesSpelled next
AreVariablesSpelled (hide place gates inside) = AreVariablesSpelled inside
AreVariablesSpelled (let_be place values inside) = Every IsLetSpelled values × AreVariablesSpelled inside
AreVariablesSpelled (choose_value place given inside) = Every IsVariableSpelled given × AreVariablesSpelled inside
AreVariablesSpelled (choose_gate place gates inside) = AreVariablesSpelled inside
AreVariablesSpelled (par_gate place gates sign inside) = AreVariablesSpelled inside
AreVariablesSpelled (binary place sign left right) = AreVariablesSpelled left × DeclaresWords sign × AreVariablesSpelled right

abbrev mutual
  -- the processes that a `where` declares, with their names, the variables in their bodies, and their parameters
  pub IsInnerNamed : WrittenInner → Type 0
  IsInnerNamed (inner_item item) = Unit {0}
  IsInnerNamed (process given body inner) =
      IsWordSpelling given.name × AreVariablesSpelled body × AreInnersNamed inner × Every IsVariableSpelled given.parameters

  pub AreInnersNamed : WrittenInners → Type 0
  AreInnersNamed no_inner = Unit {0}
  AreInnersNamed (inner_then first others) = IsInnerNamed first × AreInnersNamed others

pub record IsTreeNamed (tree : WrittenSpecification) : Type 0 where
  pub name : IsWordSpelling tree.heading.name
  pub parameters : Every IsVariableSpelled tree.heading.parameters
  pub body : AreVariablesSpelled tree.body
  pub inner : AreInnersNamed (inners_of tree.inner)

-- ---- Variables of names

sorted_every : (names : List PlacedName) (sort : PlacedName) → Every IsWord names → Every IsVariableSpelled (variables_of_sort names sort)
sorted_every [] sort all = tt
sorted_every (name ∷ names) sort all = (all.0, sorted_every names sort all.1)

asked_every : (names : List PlacedName) (sort : PlacedName) → Every IsWord names
    → Every IsOfferSpelled (map offer_variable (variables_of_sort names sort))
asked_every [] sort all = tt
asked_every (name ∷ names) sort all = (all.0, asked_every names sort all.1)

-- ---- Operands and signs

abbrev DeclaresWordsThere : PlacedSign → Type 0
DeclaresWordsThere placed = DeclaresWords placed.sign

record AreOperandsSpelled (operands : List WrittenBehaviour) (signs : List PlacedSign) : Type 0 where
  pub operands_are : Every AreVariablesSpelled operands
  pub signs_are : Every DeclaresWordsThere signs

grouped_spelled : {operands : List WrittenBehaviour} {signs : List PlacedSign} {behaviour : WrittenBehaviour}
    → IsGrouped strength_of joined_by_sign operands signs behaviour → Every AreVariablesSpelled operands → Every DeclaresWordsThere signs
    → AreVariablesSpelled behaviour
grouped_spelled alone all signs = all.0
grouped_spelled (split {operands = operands} {others = others} {before = before} {behind = behind} {sign = sign} weaker as_weak is also)
    all signs =
    let later = every_back DeclaresWordsThere before (sign ∷ behind) signs in (
      grouped_spelled is (every_front AreVariablesSpelled operands others all)
          (every_front DeclaresWordsThere before (sign ∷ behind) signs),
      later.0,
      grouped_spelled also (every_back AreVariablesSpelled operands others all) later.1,
    )

first_spelled : (prefix : WrittenBehaviour → WrittenBehaviour) (operands : List WrittenBehaviour) (signs : List PlacedSign)
    → ((b : WrittenBehaviour) → AreVariablesSpelled b → AreVariablesSpelled (prefix b)) → AreOperandsSpelled operands signs
    → AreOperandsSpelled (before_first prefix operands) signs
first_spelled prefix [] signs keeps are = are
first_spelled prefix (first ∷ others) signs keeps are =
    record { operands_are = (keeps first are.operands_are.0, are.operands_are.1); signs_are = are.signs_are }

-- one operand and no sign
alone_spelled : (b : WrittenBehaviour) → AreVariablesSpelled b → AreOperandsSpelled (b ∷ []) []
alone_spelled b is = record { operands_are = (is, tt); signs_are = tt }

module _ (text : List ℕ) where
  group_spelled : Gives text (AreVariablesOfSort text) (Every IsVariableSpelled)
  group_spelled _ _ (of_sort {tokens = tokens} {colon = colon} {sort = sort} {names = names} are is_colon is_sort) all =
      sorted_every names (named text sort) (names_words text tokens names are (front text tokens (colon ∷ sort ∷ []) all))

  variables_spelled : Gives text (AreVariables text) (Every IsVariableSpelled)
  variables_spelled tokens _ (variables {groups = groups} are) all =
      flat_every IsVariableSpelled groups
      (separated_gives text COMMA (AreVariablesOfSort text) (Every IsVariableSpelled) group_spelled tokens groups are all)

  let_spelled : Gives text (IsLetDeclaration text) IsLetSpelled
  let_spelled _ _ (let_declaration {variable = variable} is_name is_colon is_sort equals term) all = token_word text variable is_name all.0

  offer_spelled : Gives text (IsWrittenOffer text) (Every IsOfferSpelled)
  offer_spelled _ _ (giving mark term) all = (tt, tt)
  offer_spelled _ _ (asking {colon = colon} {sort = sort} {tokens = tokens} {names = names} mark are is_colon is_sort) all =
      asked_every names (named text sort) (names_words text tokens names are (front text tokens (colon ∷ sort ∷ []) all.1))

  parallel_spelled : Gives text (IsParallelSign text) DeclaresWordsThere
  parallel_spelled _ _ (sign_interleaving is) all = tt
  parallel_spelled _ _ (sign_full is) all = tt
  parallel_spelled _ _ (sign_gates opens are closes) all = tt

  sign_spelled : Gives text (IsSign text) DeclaresWordsThere
  sign_spelled _ _ (sign_choice is) all = tt
  sign_spelled tokens sign (sign_parallel is) all = parallel_spelled tokens sign is all
  sign_spelled _ _ (sign_disabling is) all = tt
  sign_spelled _ _ (sign_enabling {tokens = tokens} {accepted = accepted} is are) all =
      optional_gives text [] (Between ACCEPT IN (AreVariables text)) (Every IsVariableSpelled) tt
      (between_gives text ACCEPT IN (AreVariables text) (Every IsVariableSpelled) variables_spelled) tokens accepted are all.1

  -- ---- Behaviours

  mutual
    operands_spelled : (tokens : List Token) (operands : List WrittenBehaviour) (signs : List PlacedSign)
        → AreOperands text tokens operands signs → AreSpelled text tokens → AreOperandsSpelled operands signs
    operands_spelled _ _ _ (hiding {in_ = in_} {name_tokens = names} {tokens = tokens} {inside = inside} word are is within) all =
        alone_spelled _ (behaviour_spelled tokens inside within (back text names (in_ ∷ tokens) all.1).1)
    operands_spelled _ _ _
        (letting {in_ = in_} {value_tokens = given} {tokens = tokens} {values = values} {inside = inside} word are is within) all =
        alone_spelled _ (
          separated_gives text COMMA (IsLetDeclaration text) IsLetSpelled let_spelled given values are
              (front text given (in_ ∷ tokens) all.1),
          behaviour_spelled tokens inside within (back text given (in_ ∷ tokens) all.1).1,
        )
    operands_spelled _ _ _
        (choosing_values {sign = sign} {variable_tokens = given} {tokens = tokens} {variables = xs} {inside = inside} word are is within)
        all =
        alone_spelled _ (
          variables_spelled given xs are (front text given (sign ∷ tokens) all.1),
          behaviour_spelled tokens inside within (back text given (sign ∷ tokens) all.1).1,
        )
    operands_spelled _ _ _
        (choosing_gates {sign = sign} {gate_tokens = names} {tokens = tokens} {inside = inside} word are is within) all =
        alone_spelled _ (behaviour_spelled tokens inside within (back text names (sign ∷ tokens) all.1).1)
    operands_spelled _ _ _
        (parallel_over_gates {gate_tokens = names} {sign_tokens = signs} {tokens = tokens} {inside = inside} word are is within) all =
        alone_spelled _
        (behaviour_spelled tokens inside within (back text signs tokens (back text names (signs ++ tokens) all.1)))
    operands_spelled _ _ signs (inner_prefix {tokens = tokens} {operands = operands} word semicolon more) all =
        first_spelled _ operands signs (λ b has. has) (operands_spelled tokens operands signs more all.1.1)
    operands_spelled _ _ signs
        (guarding {right = right} {arrow = arrow} {test_tokens = tests} {tokens = tokens} {operands = operands} left test is sign more)
        all =
        first_spelled _ operands signs (λ b has. has)
        (operands_spelled tokens operands signs more (back text tests (right ∷ arrow ∷ tokens) all.1).1.1)
    operands_spelled _ _ signs (acting {tokens = tokens} {operands = operands} gate semicolon more) all =
        first_spelled _ operands signs (λ b has. (tt, has)) (operands_spelled tokens operands signs more all.1.1)
    operands_spelled _ _ signs
        (offering {semicolon = semicolon} {first_tokens = a} {offer_tokens = b} {test_tokens = c} {tokens = tokens} {first = first}
        {offers = offers} {operands = operands} gate is_first are test is more) all =
        let behind_a = back text a (b ++ (c ++ semicolon ∷ tokens)) all.1 in
        first_spelled _ operands signs
        (λ behaviour has. (
          Every-append IsOfferSpelled first (flat_map (λ group. group) offers)
              (offer_spelled a first is_first (front text a (b ++ (c ++ semicolon ∷ tokens)) all.1))
              (flat_every IsOfferSpelled offers
              (many_gives text (IsWrittenOffer text) (Every IsOfferSpelled) offer_spelled b offers are
              (front text b (c ++ semicolon ∷ tokens) behind_a))),
          has,
        ))
        (operands_spelled tokens operands signs more (back text c (semicolon ∷ tokens) (back text b (c ++ semicolon ∷ tokens) behind_a)).1)
    operands_spelled tokens _ _ (last_operand {operand = operand} atom) all = alone_spelled operand (atom_spelled tokens operand atom all)
    operands_spelled _ _ _
        (before_sign {tokens = tokens} {sign_tokens = given} {rest = rest} {operand = operand} {sign = sign} {operands = operands}
        {signs = others} atom is more) all =
        let behind = back text tokens (given ++ rest) all in
        let later = operands_spelled rest operands others more (back text given rest behind) in
        record {
          operands_are = (atom_spelled tokens operand atom (front text tokens (given ++ rest) all), later.operands_are);
          signs_are = (sign_spelled given sign is (front text given rest behind), later.signs_are);
        }

    atom_spelled : (tokens : List Token) (operand : WrittenBehaviour) → IsAtom text tokens operand → AreSpelled text tokens
        → AreVariablesSpelled operand
    atom_spelled _ _ (stopping word) all = tt
    atom_spelled _ _ (exiting word values) all = tt
    atom_spelled _ _ (calling name gates values) all = tt
    atom_spelled _ operand (in_brackets {right = right} {tokens = tokens} left within closes) all =
        behaviour_spelled tokens operand within (front text tokens (right ∷ []) all.1)

    behaviour_spelled : (tokens : List Token) (behaviour : WrittenBehaviour) → IsBehaviourText text tokens behaviour
        → AreSpelled text tokens
        → AreVariablesSpelled behaviour
    behaviour_spelled tokens _ (grouped_operands {operands = operands} {signs = signs} are grouped) all =
        let are_spelled = operands_spelled tokens operands signs are all in
        grouped_spelled grouped are_spelled.operands_are are_spelled.signs_are

  -- ---- Definitions

  heading_named : (tokens : List Token) (given : WrittenHeading) → IsHeading text tokens given → AreSpelled text tokens
      → IsWordSpelling given.name
  heading_named _ _ (heading {name = name} is_name are given is ends) all = token_word text name is_name all.0

  parameters_named : (tokens : List Token) (given : WrittenHeading) → IsHeading text tokens given → AreSpelled text tokens
      → Every IsVariableSpelled given.parameters
  parameters_named _ _
      (heading {colon = colon} {gate_tokens = a} {parameter_tokens = b} {tokens = c} {parameters = parameters} is_name are given is ends)
      all =
      optional_gives text [] (AreParameters text) (Every IsVariableSpelled) tt
      (between_gives text LEFT_PARENTHESIS RIGHT_PARENTHESIS (AreVariables text) (Every IsVariableSpelled) variables_spelled) b parameters
      given (front text b (colon ∷ c) (back text a (b ++ colon ∷ c) all.1))

  mutual
    process_named : (tokens : List Token) (inner : WrittenInner) → IsProcess text tokens inner → AreSpelled text tokens
        → IsInnerNamed inner
    process_named _ _
        (a_process {sign = sign} {end = end} {heading_tokens = a} {tokens = b} {where_tokens = c} {heading = given} {body = body}
        {inner = inner} word head is behaviour there_ ends) all =
        let behind_a = back text a (sign ∷ (b ++ (c ++ end ∷ []))) all.1 in
        let behind_b = back text b (c ++ end ∷ []) behind_a.1 in (
          heading_named a given head (front text a (sign ∷ (b ++ (c ++ end ∷ []))) all.1),
          behaviour_spelled b body behaviour (front text b (c ++ end ∷ []) behind_a.1),
          where_named c inner there_ (front text c (end ∷ []) behind_b),
          parameters_named a given head (front text a (sign ∷ (b ++ (c ++ end ∷ []))) all.1),
        )

    where_named : (tokens : List Token) (inner : List WrittenInner) → IsWhere text tokens inner → AreSpelled text tokens
        → AreInnersNamed (inners_of inner)
    where_named _ _ no_where all = tt
    where_named _ inner (a_where {tokens = tokens} word are) all = inner_named tokens inner are all.1

    inner_named : (tokens : List Token) (inner : List WrittenInner) → AreInner text tokens inner → AreSpelled text tokens
        → AreInnersNamed (inners_of inner)
    inner_named _ _ no_more_inner all = tt
    inner_named _ _ (item_then {tokens = tokens} {rest = rest} {inner = inner} is more) all =
        (tt, inner_named rest inner more (back text tokens rest all))
    inner_named _ _ (process_then {tokens = tokens} {rest = rest} {definition = definition} {inner = inner} is more) all =
        (process_named tokens definition is (front text tokens rest all), inner_named rest inner more (back text tokens rest all))

  -- ---- The text of a specification

  pub specification_named : (tokens : List Token) (tree : WrittenSpecification) → IsWrittenSpecification text tokens tree
      → Every (IsSpelledIn text) tokens → IsTreeNamed tree
  specification_named _ _
      (a_specification {word = word} {end = end} {heading_tokens = a} {item_tokens = b} {tokens = c} {where_tokens = d}
      {heading = given} {body = body} {inner = inner} begins head are is behaviour there_ ends) all =
      let behind_a = back text a (b ++ word ∷ (c ++ (d ++ end ∷ []))) all.1 in
      let behind_b = back text b (word ∷ (c ++ (d ++ end ∷ []))) behind_a in
      record {
        name = heading_named a given head (front text a (b ++ word ∷ (c ++ (d ++ end ∷ []))) all.1);
        parameters = parameters_named a given head (front text a (b ++ word ∷ (c ++ (d ++ end ∷ []))) all.1);
        body = behaviour_spelled c body behaviour (front text c (d ++ end ∷ []) behind_b.1);
        inner = where_named d inner there_ (front text d (end ∷ []) (back text c (d ++ end ∷ []) behind_b.1));
      }
