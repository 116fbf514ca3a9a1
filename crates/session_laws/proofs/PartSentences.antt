-- Tokens that are the words of parts of a behaviour are these parts by the grammar.
use Rattle.std.proofs.Common.{◌≡◌, ℕ, Bool, true, false, List, [], ◌∷◌, ◌++◌, map, refl, ap, sym, ◌∙◌, subst, codes}
use Rattle.std.specs.Prelude.{None, Some, flat_map, Option}
use Rattle.lotos_base.specs.Signature.{IsWellFormedSignature}
use Rattle.lotos_base.specs.Equation.{Variable}
use Rattle.lotos_base.specs.Term.{Term, argument_list_of}
use Rattle.lotos_base.specs.WrittenTerm.{PlacedName, WrittenTerm, written_terms}
use Rattle.lotos_lexer.specs.declared.tokens.Token.{Token}
use Rattle.lotos_lexer.specs.declared.kinds.TheConstants.{IN, ANY, ACCEPT, COMMA, COLON, EQUALS, EXCLAMATION, QUESTION, LEFT_BRACKET, RIGHT_BRACKET, INTERLEAVING, FULL_SYNCHRONISATION, GATES_OPEN, GATES_CLOSE, ENABLING, LEFT_PARENTHESIS, RIGHT_PARENTHESIS}
use Rattle.syntax_trees.specs.WrittenEquation.{WrittenPremiss}
use Rattle.syntax_trees.specs.WrittenVariable.{WrittenVariable}
use Rattle.syntax_trees.specs.WrittenBehaviour.{interleaving, full_synchronisation, synchronising, enabling, exit_term, exit_any, WrittenOffer, offer_value, offer_variable}
use Rattle.syntax_trees.specs.Strength.{PlacedSign}
use Rattle.lotos_rows.specs.Words.{left_out, there, Many, no_more, and_then, Separated, last, before_more, Between, between, Optional}
use Rattle.lotos_rows.specs.Names.{place_of, named, a_name, AreNames, AreOptionalNames, AreVariablesOfSort, of_sort, AreVariables, variables, IsOperationName, word_name, digit_name, sign_name, AreOptionalGates}
use Rattle.lotos_rows.specs.Terms.{IsTerm, grouped_factors, AreFactors, one_factor, more_factors, IsFactor, without_sort, with_sort, IsBase, without_arguments, with_arguments, bracketed, AreTerms, AreArguments, no_arguments, some_arguments}
use Rattle.lotos_rows.specs.Equations.{IsPremiss, true_term, equal_terms}
use Rattle.lotos_rows.specs.Behaviours.{IsLetDeclaration, let_declaration, among, AreGateChoices, gate_choices, IsWrittenOffer, giving, asking, IsWrittenExitValue, any_value, value_given, IsParallelSign, sign_interleaving, sign_full, sign_gates, IsSign, sign_enabling, selection, IsSelection}
use Rattle.scope_parts.specs.Numbering.{spelled_names}
use Rattle.behaviour_semantics.specs.Behaviour.{Test, Offer, give, ask, ExitValue, exit_value, any_of, SynchronisationSet, no_gates, all_gates, at_gates}
use Rattle.behaviour_semantics.specs.WellFormed.{Every}
use Rattle.printed_texts.specs.TermText.{sort_text}
use Rattle.printed_texts.specs.BehaviourText.{Naming, gate_text, is_constant}
use Rattle.session_laws.specs.WrittenAs.{IsWrittenAs, AreWrittenAs}
use Rattle.session_laws.specs.TermMeanings.{TermsMean}
use Rattle.session_laws.specs.Meanings.{PrintedScope, ValueMeans, ExitValueMeans, OfferMeans, TestMeans, PredicateMeans}
use Rattle.session_laws.specs.WrittenBehaviours.{Correspond, IsVariableWritten, AreGatesWritten, IsExitValueWritten, IsOfferWritten, IsRightWritten, IsTestWritten, IsBindingWritten, IsMeetWritten, interleaving_written, full_written, synchronising_written, IsGateChoiceWritten, IsPredicateWritten}
use Rattle.session_laws.specs.PrintedWords.{Word, AreWords, a_word, name_word, square_words, commas_words, term_words, gate_word, gates_words, declared_words, declarations_words, sides_words, test_words, offer_words, offers_words, exit_value_words, meet_words, enable_words, binding_words, gate_choice_words, round_words, phrase_words, words_of_terms, predicate_words, round_list_words, square_list_words}
use Rattle.session_laws.specs.WordLaws.{HasBinaryInfixes, IsFittingSentence}
use Rattle.session_laws.proofs.WordParts.{first_of, parts_of, one_of, no_words, of_kind, Says, between_says, square_says, round_says}
use Rattle.session_laws.proofs.TermSentences.{whole_term_says, list_says, terms_say}

-- one thing, where the grammar has a list
pub record IsSingle {A : Type 0} (many : List Token → List A → Type 0) (fits : A → Type 0) (tokens : List Token) : Type 0 where
  pub thing : A
  pub is_one : many tokens (thing ∷ [])
  pub fitting : fits thing

-- ---- The first token of a term

pub record Begins (tokens : List Token) : Type 0 where
  pub first : Token
  pub rest : List Token
  pub joined : tokens ≡ first ∷ rest

begins_joined : (tokens more : List Token) → Begins tokens → Begins (tokens ++ more)
begins_joined tokens more b = record {
  first = b.first;
  rest = b.rest ++ more;
  joined = ap (λ (ts : List Token). ts ++ more) b.joined;
}

operation_begins : (text : List ℕ) (tokens : List Token) (name : PlacedName) → IsOperationName text tokens name → Begins tokens
operation_begins text tokens name (word_name {name = token} is) = record { first = token; rest = []; joined = refl }
operation_begins text tokens name (digit_name {name = token} is) = record { first = token; rest = []; joined = refl }
operation_begins text tokens name (sign_name {name = token} is) = record { first = token; rest = []; joined = refl }

base_begins : (text : List ℕ) (tokens : List Token) (w : WrittenTerm) → IsBase text tokens w → Begins tokens
base_begins text tokens w (without_arguments {name = name} is) = operation_begins text tokens name is
base_begins text tokens w (with_arguments {tokens = ts} {argument_tokens = us} {left = left} {right = right} {name = name} is begin terms
    close) =
    begins_joined ts (left ∷ (us ++ right ∷ [])) (operation_begins text ts name is)
base_begins text tokens w (bracketed {tokens = ts} {left = left} {right = right} begin term close) =
    record { first = left; rest = ts ++ right ∷ []; joined = refl }

factor_begins : (text : List ℕ) (tokens : List Token) (w : WrittenTerm) → IsFactor text tokens w → Begins tokens
factor_begins text tokens w (without_sort is) = base_begins text tokens w is
factor_begins text tokens w (with_sort {tokens = ts} {of = of_} {sort = sort} {term = term} is o s) =
    begins_joined ts (of_ ∷ sort ∷ []) (base_begins text ts term is)

factors_begin : (text : List ℕ) (tokens : List Token) (ws : List WrittenTerm) (names : List PlacedName)
    → AreFactors text tokens ws names → Begins tokens
factors_begin text tokens ws names (one_factor {factor = w} is) = factor_begins text tokens w is
factors_begin text tokens ws names (more_factors {tokens = ts} {name_tokens = us} {rest = rest} {factor = w} is name others) =
    begins_joined (ts ++ us) rest (begins_joined ts us (factor_begins text ts w is))

pub term_begins : (text : List ℕ) (tokens : List Token) (w : WrittenTerm) → IsTerm text tokens w → Begins tokens
term_begins text tokens w (grouped_factors {factors = ws} {operations = names} are grouped) = factors_begin text tokens ws names are

module _ (text : List ℕ) (naming : Naming) (well : IsWellFormedSignature naming.signature)
    (binary : HasBinaryInfixes naming.signature) where
  -- ---- Gates

  pub gates_say : (gate : ℕ) (gates : List ℕ)
      → Says text (gates_words naming (gate ∷ gates)) (AreNames text) (AreGatesWritten naming (gate ∷ gates))
  gates_say gate [] tokens are =
      let one = one_of text tokens (gate_word naming gate) are in
      subst (IsFittingSentence (AreNames text) (AreGatesWritten naming (gate ∷ []))) (sym one.alone) (record {
        thing = named text one.token ∷ [];
        is_one = last (a_name (of_kind text (gate_word naming gate) one.token one.is_word));
        fitting = ap (λ (n : List ℕ). n ∷ []) one.is_word.spelling_is;
      })
  gates_say gate (g ∷ gates) tokens are =
      let comma : Word = a_word COMMA (codes ",") in
      let name = first_of text tokens (gate_word naming gate) (comma ∷ gates_words naming (g ∷ gates)) are in
      let sign = first_of text name.rest comma (gates_words naming (g ∷ gates)) name.are_words in
      let rest = gates_say g gates sign.rest sign.are_words in
      subst (IsFittingSentence (AreNames text) (AreGatesWritten naming (gate ∷ (g ∷ gates))))
      (sym (name.joined ∙ ap (λ (ts : List Token). name.first ∷ ts) sign.joined)) (record {
        thing = named text name.first ∷ rest.thing;
        is_one =
            before_more (a_name (of_kind text (gate_word naming gate) name.first name.is_word))
            (of_kind text comma sign.first sign.is_word) rest.is_one;
        fitting =
            ap (λ (n : List ℕ). n ∷ spelled_names rest.thing) name.is_word.spelling_is
            ∙ ap (λ (ns : List (List ℕ)). gate_text naming gate ∷ ns) rest.fitting;
      })

  pub optional_gates_say : (gates : List ℕ)
      → Says text (gates_words naming gates) (AreOptionalNames text) (AreGatesWritten naming gates)
  optional_gates_say [] tokens are =
      subst (IsFittingSentence (AreOptionalNames text) (AreGatesWritten naming [])) (sym (no_words text tokens are))
      (record { thing = []; is_one = left_out; fitting = refl })
  optional_gates_say (gate ∷ gates) tokens are =
      let names = gates_say gate gates tokens are in
      record { thing = names.thing; is_one = there names.is_one; fitting = names.fitting }

  -- ---- Declared variables

  pub declared_says : (x : Variable) (tokens : List Token) → AreWords text tokens (declared_words naming x)
      → IsSingle (AreVariablesOfSort text) (IsVariableWritten naming.signature x) tokens
  declared_says x tokens are =
      let colon : Word = a_word COLON (codes ":") in
      let sort_word : Word = name_word (sort_text naming.signature x.sort) in
      let name = first_of text tokens (name_word x.name) (colon ∷ sort_word ∷ []) are in
      let sign = first_of text name.rest colon (sort_word ∷ []) name.are_words in
      let sort_ = one_of text sign.rest sort_word sign.are_words in
      subst (IsSingle (AreVariablesOfSort text) (IsVariableWritten naming.signature x))
      (sym (name.joined ∙ ap (λ (ts : List Token). name.first ∷ ts)
      (sign.joined ∙ ap (λ (ts : List Token). sign.first ∷ ts) sort_.alone))) (record {
        thing = record {
          place = (named text name.first).place;
          name = (named text name.first).name;
          sort = (named text sort_.token).name;
          sort_place = (named text sort_.token).place;
        };
        is_one =
            of_sort (last (a_name (of_kind text (name_word x.name) name.first name.is_word)))
            (of_kind text colon sign.first sign.is_word) (of_kind text sort_word sort_.token sort_.is_word);
        fitting = (name.is_word.spelling_is, sort_.is_word.spelling_is);
      })

  groups_say : (x : Variable) (xs : List Variable)
      → Says text (declarations_words naming (x ∷ xs)) (Separated COMMA (AreVariablesOfSort text))
      (λ groups. Correspond (IsVariableWritten naming.signature) (x ∷ xs) (flat_map (λ group. group) groups))
  groups_say x [] tokens are =
      let one = declared_says x tokens are in
      record { thing = (one.thing ∷ []) ∷ []; is_one = last one.is_one; fitting = (one.fitting, tt) }
  groups_say x (y ∷ xs) tokens are =
      let comma : Word = a_word COMMA (codes ",") in
      let parts = parts_of text tokens (declared_words naming x) (comma ∷ declarations_words naming (y ∷ xs)) are in
      let sign = first_of text parts.right comma (declarations_words naming (y ∷ xs)) parts.right_are in
      let one = declared_says x parts.left parts.left_are in
      let rest = groups_say y xs sign.rest sign.are_words in
      subst
      (IsFittingSentence (Separated COMMA (AreVariablesOfSort text))
      (λ groups. Correspond (IsVariableWritten naming.signature) (x ∷ (y ∷ xs)) (flat_map (λ group. group) groups)))
      (sym (parts.joined ∙ ap (λ (ts : List Token). parts.left ++ ts) sign.joined)) (record {
        thing = (one.thing ∷ []) ∷ rest.thing;
        is_one = before_more one.is_one (of_kind text comma sign.first sign.is_word) rest.is_one;
        fitting = (one.fitting, rest.fitting);
      })

  pub variables_say : (x : Variable) (xs : List Variable)
      → Says text (declarations_words naming (x ∷ xs)) (AreVariables text) (Correspond (IsVariableWritten naming.signature) (x ∷ xs))
  variables_say x xs tokens are =
      let groups = groups_say x xs tokens are in
      record {
        thing = flat_map (λ group. group) groups.thing;
        is_one = variables groups.is_one;
        fitting = groups.fitting;
      }

  -- ---- Signs

  pub meet_says : (meet : SynchronisationSet)
      → Says text (meet_words naming meet) (IsParallelSign text) (λ (sign : PlacedSign). IsMeetWritten naming meet sign.sign)
  meet_says no_gates tokens are =
      let word : Word = a_word INTERLEAVING (codes "|||") in
      let one = one_of text tokens word are in
      subst (IsFittingSentence (IsParallelSign text) (λ (sign : PlacedSign). IsMeetWritten naming no_gates sign.sign))
      (sym one.alone) (record {
        thing = record { place = place_of one.token; sign = interleaving };
        is_one = sign_interleaving (of_kind text word one.token one.is_word);
        fitting = interleaving_written;
      })
  meet_says all_gates tokens are =
      let word : Word = a_word FULL_SYNCHRONISATION (codes "||") in
      let one = one_of text tokens word are in
      subst (IsFittingSentence (IsParallelSign text) (λ (sign : PlacedSign). IsMeetWritten naming all_gates sign.sign))
      (sym one.alone) (record {
        thing = record { place = place_of one.token; sign = full_synchronisation };
        is_one = sign_full (of_kind text word one.token one.is_word);
        fitting = full_written;
      })
  meet_says (at_gates gates) tokens are =
      let inside =
      between_says text (a_word GATES_OPEN (codes "|[")) (a_word GATES_CLOSE (codes "]|")) (gates_words naming gates)
      (AreOptionalNames text) (AreGatesWritten naming gates) (optional_gates_say gates) tokens are in
      go tokens inside.thing inside.is_one inside.fitting
    where
      go : (ts : List Token) (given : List PlacedName) → Between GATES_OPEN GATES_CLOSE (AreOptionalNames text) ts given
          → AreGatesWritten naming gates given
          → IsFittingSentence (IsParallelSign text) (λ (sign : PlacedSign). IsMeetWritten naming (at_gates gates) sign.sign) ts
      go ts given (between {open_token = left} begin names close) writes = record {
        thing = record { place = place_of left; sign = synchronising given };
        is_one = sign_gates begin names close;
        fitting = synchronising_written writes;
      }

  pub enable_says : (xs : List Variable)
      → Says text (enable_words naming xs) (IsSign text)
      (λ (sign : PlacedSign). (given : List WrittenVariable) × (sign.sign ≡ enabling given)
      × Correspond (IsVariableWritten naming.signature) xs given)
  enable_says [] tokens are =
      let word : Word = a_word ENABLING (codes ">>") in
      let one = one_of text tokens word are in
      subst
      (IsFittingSentence (IsSign text)
      (λ (sign : PlacedSign). (given : List WrittenVariable) × (sign.sign ≡ enabling given)
      × Correspond (IsVariableWritten naming.signature) [] given))
      (sym one.alone) (record {
        thing = record { place = place_of one.token; sign = enabling [] };
        is_one = sign_enabling (of_kind text word one.token one.is_word) left_out;
        fitting = ([], refl, tt);
      })
  enable_says (x ∷ xs) tokens are =
      let word : Word = a_word ENABLING (codes ">>") in
      let accept : Word = a_word ACCEPT (codes "accept") in
      let in_ : Word = a_word IN (codes "in") in
      let one = first_of text tokens word (accept ∷ (declarations_words naming (x ∷ xs) ++ in_ ∷ [])) are in
      let given =
      between_says text accept in_ (declarations_words naming (x ∷ xs)) (AreVariables text)
      (Correspond (IsVariableWritten naming.signature) (x ∷ xs)) (variables_say x xs) one.rest one.are_words in
      subst
      (IsFittingSentence (IsSign text)
      (λ (sign : PlacedSign). (given : List WrittenVariable) × (sign.sign ≡ enabling given)
      × Correspond (IsVariableWritten naming.signature) (x ∷ xs) given))
      (sym one.joined) (record {
        thing = record { place = place_of one.first; sign = enabling given.thing };
        is_one = sign_enabling (of_kind text word one.first one.is_word) (there given.is_one);
        fitting = (given.thing, refl, given.fitting);
      })

  -- ---- Gates of `choice` and `par`

  pub gate_choice_says : (gate : ℕ) (g : ℕ) (gates : List ℕ) (tokens : List Token)
      → AreWords text tokens (gate_choice_words naming gate (g ∷ gates))
      → IsSingle (AreGateChoices text) (IsGateChoiceWritten naming gate (g ∷ gates)) tokens
  gate_choice_says gate g gates tokens are =
      let in_ : Word = a_word IN (codes "in") in
      let listed : List Word = gates_words naming (g ∷ gates) in
      let name = first_of text tokens (gate_word naming gate) (in_ ∷ square_words listed) are in
      let sign = first_of text name.rest in_ (square_words listed) name.are_words in
      let inside = square_says text listed (AreNames text) (AreGatesWritten naming (g ∷ gates)) (gates_say g gates) sign.rest
      sign.are_words in
      subst (IsSingle (AreGateChoices text) (IsGateChoiceWritten naming gate (g ∷ gates)))
      (sym (name.joined ∙ ap (λ (ts : List Token). name.first ∷ ts) sign.joined)) (record {
        thing = record {
          place = (named text name.first).place;
          name = (named text name.first).name;
          among = inside.thing;
        };
        is_one =
            gate_choices (last (among (last (a_name (of_kind text (gate_word naming gate) name.first name.is_word)))
            (of_kind text in_ sign.first sign.is_word) inside.is_one));
        fitting = record { named = name.is_word.spelling_is; listed = inside.fitting };
      })

  module _ (scope : PrintedScope) where
    pub value_says : (t : Term) (sort : ℕ) → ValueMeans naming scope t sort
        → Says text (term_words naming.signature scope.names t) (IsTerm text) (IsWrittenAs naming.signature scope.names t)
    value_says t sort means = whole_term_says text naming.signature scope.names well binary scope.variables t sort means

    -- ---- Tests

    premiss_says : (test : Test) (flag : Bool) → is_constant naming.truth test.right ≡ flag → TestMeans naming scope test
        → Says text (sides_words naming scope.names test flag) (IsPremiss text) (IsTestWritten naming scope.names test)
    premiss_says test true is means tokens are =
        let left = value_says test.left means.sort means.left tokens are in
        let begin = term_begins text tokens left.thing left.is_one in
        subst (IsFittingSentence (IsPremiss text) (IsTestWritten naming scope.names test)) (sym begin.joined) (record {
          thing = record { place = place_of begin.first; left = left.thing; right = None };
          is_one = true_term (subst (λ (ts : List Token). IsTerm text ts left.thing) begin.joined left.is_one);
          fitting = record {
            left = left.fitting;
            right = subst (λ (b : Bool). IsRightWritten naming scope.names b test.right None) (sym is) tt;
          };
        })
    premiss_says test false is means tokens are =
        let equals : Word = a_word EQUALS (codes "=") in
        let parts =
        parts_of text tokens (term_words naming.signature scope.names test.left)
        (equals ∷ term_words naming.signature scope.names test.right) are in
        let sign = first_of text parts.right equals (term_words naming.signature scope.names test.right) parts.right_are in
        let left = value_says test.left means.sort means.left parts.left parts.left_are in
        let right = value_says test.right means.sort (means.written is) sign.rest sign.are_words in
        let begin = term_begins text parts.left left.thing left.is_one in
        subst (IsFittingSentence (IsPremiss text) (IsTestWritten naming scope.names test))
        (sym (parts.joined ∙ ap (λ (ts : List Token). parts.left ++ ts) sign.joined
        ∙ ap (λ (ts : List Token). ts ++ sign.first ∷ sign.rest) begin.joined)) (record {
          thing = record { place = place_of begin.first; left = left.thing; right = Some right.thing };
          is_one =
              equal_terms (subst (λ (ts : List Token). IsTerm text ts left.thing) begin.joined left.is_one)
              (of_kind text equals sign.first sign.is_word) right.is_one;
          fitting = record {
            left = left.fitting;
            right = subst (λ (b : Bool). IsRightWritten naming scope.names b test.right (Some right.thing)) (sym is) right.fitting;
          };
        })

    pub test_says : (test : Test) → TestMeans naming scope test
        → Says text (test_words naming scope.names test) (Between LEFT_BRACKET RIGHT_BRACKET (IsPremiss text))
        (IsTestWritten naming scope.names test)
    test_says test means =
        square_says text (sides_words naming scope.names test (is_constant naming.truth test.right)) (IsPremiss text)
        (IsTestWritten naming scope.names test) (premiss_says test (is_constant naming.truth test.right) refl means)

    -- ---- Offers

    offer_says : (offer : Offer) (tokens : List Token) → OfferMeans naming scope offer
        → AreWords text tokens (offer_words naming scope.names offer)
        → IsSingle (IsWrittenOffer text) (IsOfferWritten naming scope.names offer) tokens
    offer_says (give t) tokens means are =
        let mark : Word = a_word EXCLAMATION (codes "!") in
        let begin = first_of text tokens mark (term_words naming.signature scope.names t) are in
        let term = value_says t means.0 means.1 begin.rest begin.are_words in
        subst (IsSingle (IsWrittenOffer text) (IsOfferWritten naming scope.names (give t))) (sym begin.joined) (record {
          thing = offer_value term.thing;
          is_one = giving (of_kind text mark begin.first begin.is_word) term.is_one;
          fitting = term.fitting;
        })
    offer_says (ask x) tokens means are =
        let mark : Word = a_word QUESTION (codes "?") in
        let colon : Word = a_word COLON (codes ":") in
        let sort_word : Word = name_word (sort_text naming.signature x.sort) in
        let begin = first_of text tokens mark (declared_words naming x) are in
        let name = first_of text begin.rest (name_word x.name) (colon ∷ sort_word ∷ []) begin.are_words in
        let sign = first_of text name.rest colon (sort_word ∷ []) name.are_words in
        let sort_ = one_of text sign.rest sort_word sign.are_words in
        subst (IsSingle (IsWrittenOffer text) (IsOfferWritten naming scope.names (ask x)))
        (sym (begin.joined ∙ ap (λ (ts : List Token). begin.first ∷ ts)
        (name.joined ∙ ap (λ (ts : List Token). name.first ∷ ts)
        (sign.joined ∙ ap (λ (ts : List Token). sign.first ∷ ts) sort_.alone)))) (record {
          thing = offer_variable (record {
            place = (named text name.first).place;
            name = (named text name.first).name;
            sort = (named text sort_.token).name;
            sort_place = (named text sort_.token).place;
          });
          is_one =
              asking (of_kind text mark begin.first begin.is_word)
              (last (a_name (of_kind text (name_word x.name) name.first name.is_word))) (of_kind text colon sign.first sign.is_word)
              (of_kind text sort_word sort_.token sort_.is_word);
          fitting = (name.is_word.spelling_is, sort_.is_word.spelling_is);
        })

    pub offers_say : (offers : List Offer) (tokens : List Token) → Every (OfferMeans naming scope) offers
        → AreWords text tokens (offers_words naming scope.names offers)
        → IsFittingSentence (Many (IsWrittenOffer text))
        (λ groups. Correspond (IsOfferWritten naming scope.names) offers (flat_map (λ group. group) groups)) tokens
    offers_say [] tokens means are =
        subst
        (IsFittingSentence (Many (IsWrittenOffer text))
        (λ groups. Correspond (IsOfferWritten naming scope.names) [] (flat_map (λ group. group) groups)))
        (sym (no_words text tokens are)) (record { thing = []; is_one = no_more; fitting = tt })
    offers_say (offer ∷ offers) tokens means are =
        let parts = parts_of text tokens (offer_words naming scope.names offer) (offers_words naming scope.names offers) are in
        let one = offer_says offer parts.left means.0 parts.left_are in
        let rest = offers_say offers parts.right means.1 parts.right_are in
        subst
        (IsFittingSentence (Many (IsWrittenOffer text))
        (λ groups. Correspond (IsOfferWritten naming scope.names) (offer ∷ offers) (flat_map (λ group. group) groups)))
        (sym parts.joined) (record {
          thing = (one.thing ∷ []) ∷ rest.thing;
          is_one = and_then one.is_one rest.is_one;
          fitting = (one.fitting, rest.fitting);
        })

    -- the first offer, and those behind it
    pub record AreOffersOf (offers : List Offer) (tokens : List Token) : Type 0 where
      pub first_tokens : List Token
      pub other_tokens : List Token
      pub first : WrittenOffer
      pub others : List (List WrittenOffer)
      pub joined : tokens ≡ first_tokens ++ other_tokens
      pub is_first : IsWrittenOffer text first_tokens (first ∷ [])
      pub are_others : Many (IsWrittenOffer text) other_tokens others
      pub fitting : Correspond (IsOfferWritten naming scope.names) offers (first ∷ flat_map (λ group. group) others)

    pub offers_of : (offer : Offer) (offers : List Offer) (tokens : List Token) → Every (OfferMeans naming scope) (offer ∷ offers)
        → AreWords text tokens (offers_words naming scope.names (offer ∷ offers)) → AreOffersOf (offer ∷ offers) tokens
    offers_of offer offers tokens means are =
        let parts = parts_of text tokens (offer_words naming scope.names offer) (offers_words naming scope.names offers) are in
        let one = offer_says offer parts.left means.0 parts.left_are in
        let rest = offers_say offers parts.right means.1 parts.right_are in
        record {
          first_tokens = parts.left;
          other_tokens = parts.right;
          first = one.thing;
          others = rest.thing;
          joined = parts.joined;
          is_first = one.is_one;
          are_others = rest.is_one;
          fitting = (one.fitting, rest.fitting);
        }

    -- ---- Values of `exit`

    exit_value_says : (value : ExitValue) → ExitValueMeans naming scope value
        → Says text (exit_value_words naming scope.names value) (IsWrittenExitValue text) (IsExitValueWritten naming scope.names value)
    exit_value_says (exit_value t) means tokens are =
        let term = value_says t means.0 means.1 tokens are in
        record { thing = exit_term term.thing; is_one = value_given term.is_one; fitting = term.fitting }
    exit_value_says (any_of sort) means tokens are =
        let word : Word = a_word ANY (codes "any") in
        let sort_word : Word = name_word (sort_text naming.signature sort) in
        let begin = first_of text tokens word (sort_word ∷ []) are in
        let one = one_of text begin.rest sort_word begin.are_words in
        subst (IsFittingSentence (IsWrittenExitValue text) (IsExitValueWritten naming scope.names (any_of sort)))
        (sym (begin.joined ∙ ap (λ (ts : List Token). begin.first ∷ ts) one.alone)) (record {
          thing = exit_any (named text one.token);
          is_one = any_value (of_kind text word begin.first begin.is_word) (of_kind text sort_word one.token one.is_word);
          fitting = one.is_word.spelling_is;
        })

    -- ---- Bindings of `let`

    binding_says : (bound : Variable × Term) → ValueMeans naming scope bound.1 bound.0.sort
        → Says text (binding_words naming scope.names bound) (IsLetDeclaration text) (IsBindingWritten naming scope.names bound)
    binding_says bound means tokens are =
        let colon : Word = a_word COLON (codes ":") in
        let equals : Word = a_word EQUALS (codes "=") in
        let sort_word : Word = name_word (sort_text naming.signature bound.0.sort) in
        let term_word : List Word = term_words naming.signature scope.names bound.1 in
        let name = first_of text tokens (name_word bound.0.name) (colon ∷ sort_word ∷ equals ∷ term_word) are in
        let sign = first_of text name.rest colon (sort_word ∷ equals ∷ term_word) name.are_words in
        let sort_ = first_of text sign.rest sort_word (equals ∷ term_word) sign.are_words in
        let equal = first_of text sort_.rest equals term_word sort_.are_words in
        let term = value_says bound.1 bound.0.sort means equal.rest equal.are_words in
        subst (IsFittingSentence (IsLetDeclaration text) (IsBindingWritten naming scope.names bound))
        (sym (name.joined ∙ ap (λ (ts : List Token). name.first ∷ ts)
        (sign.joined ∙ ap (λ (ts : List Token). sign.first ∷ ts)
        (sort_.joined ∙ ap (λ (ts : List Token). sort_.first ∷ ts) equal.joined)))) (record {
          thing = (
            record {
              place = (named text name.first).place;
              name = (named text name.first).name;
              sort = (named text sort_.first).name;
              sort_place = (named text sort_.first).place;
            },
            term.thing,
          );
          is_one =
              let_declaration (of_kind text (name_word bound.0.name) name.first name.is_word) (of_kind text colon sign.first sign.is_word)
              (of_kind text sort_word sort_.first sort_.is_word) (of_kind text equals equal.first equal.is_word) term.is_one;
          fitting = ((name.is_word.spelling_is, sort_.is_word.spelling_is), term.fitting);
        })

  -- ---- Lists between commas

  -- things that are said one by one are said between commas
  pub separated_say : {X A : Type 0} (words : X → List Word) (one : List Token → A → Type 0) (fits : X → A → Type 0) (x : X) (xs : List X)
      → Every (λ (y : X). Says text (words y) one (fits y)) (x ∷ xs)
      → Says text (commas_words (map words (x ∷ xs))) (Separated COMMA one) (Correspond fits (x ∷ xs))
  separated_say words one fits x [] says tokens are =
      let first = says.0 tokens are in
      record { thing = first.thing ∷ []; is_one = last first.is_one; fitting = (first.fitting, tt) }
  separated_say words one fits x (y ∷ xs) says tokens are =
      let comma : Word = a_word COMMA (codes ",") in
      let parts = parts_of text tokens (words x) (comma ∷ commas_words (map words (y ∷ xs))) are in
      let sign = first_of text parts.right comma (commas_words (map words (y ∷ xs))) parts.right_are in
      let first = says.0 parts.left parts.left_are in
      let rest = separated_say words one fits y xs says.1 sign.rest sign.are_words in
      subst (IsFittingSentence (Separated COMMA one) (Correspond fits (x ∷ (y ∷ xs))))
      (sym (parts.joined ∙ ap (λ (ts : List Token). parts.left ++ ts) sign.joined)) (record {
        thing = first.thing ∷ rest.thing;
        is_one = before_more first.is_one (of_kind text comma sign.first sign.is_word) rest.is_one;
        fitting = (first.fitting, rest.fitting);
      })

  pub exit_values_say : (scope : PrintedScope) (value : ExitValue) (values : List ExitValue)
      → Every (ExitValueMeans naming scope) (value ∷ values)
      → Says text (commas_words (map (exit_value_words naming scope.names) (value ∷ values))) (Separated COMMA (IsWrittenExitValue text))
      (Correspond (IsExitValueWritten naming scope.names) (value ∷ values))
  exit_values_say scope value values means =
      separated_say (exit_value_words naming scope.names) (IsWrittenExitValue text) (IsExitValueWritten naming scope.names) value values
      (each (value ∷ values) means)
    where
      each : (vs : List ExitValue) → Every (ExitValueMeans naming scope) vs
          → Every (λ (v : ExitValue). Says text (exit_value_words naming scope.names v) (IsWrittenExitValue text)
          (IsExitValueWritten naming scope.names v)) vs
      each [] means = tt
      each (v ∷ vs) means = (exit_value_says scope v means.0, each vs means.1)

  pub bindings_say : (scope : PrintedScope) (bound : Variable × Term) (bindings : List (Variable × Term))
      → Every (λ (b : Variable × Term). ValueMeans naming scope b.1 b.0.sort) (bound ∷ bindings)
      → Says text (commas_words (map (binding_words naming scope.names) (bound ∷ bindings))) (Separated COMMA (IsLetDeclaration text))
      (Correspond (IsBindingWritten naming scope.names) (bound ∷ bindings))
  bindings_say scope bound bindings means =
      separated_say (binding_words naming scope.names) (IsLetDeclaration text) (IsBindingWritten naming scope.names) bound bindings
      (each (bound ∷ bindings) means)
    where
      each : (bs : List (Variable × Term)) → Every (λ (b : Variable × Term). ValueMeans naming scope b.1 b.0.sort) bs
          → Every (λ (b : Variable × Term). Says text (binding_words naming scope.names b) (IsLetDeclaration text)
          (IsBindingWritten naming scope.names b)) bs
      each [] means = tt
      each (b ∷ bs) means = (binding_says scope b means.0, each bs means.1)

  -- ---- Predicates and arguments

  pub predicate_says : (scope : PrintedScope) (test : Option Test) → PredicateMeans naming scope test
      → Says text (predicate_words naming scope.names test) (Optional None (IsSelection text))
      (IsPredicateWritten naming scope.names test)
  predicate_says scope None means tokens are =
      subst (IsFittingSentence (Optional None (IsSelection text)) (IsPredicateWritten naming scope.names None))
      (sym (no_words text tokens are))
      (record { thing = None; is_one = left_out; fitting = tt })
  predicate_says scope (Some test) means tokens are =
      let inside = test_says scope test means tokens are in
      go tokens inside.thing inside.is_one inside.fitting
    where
      go : (ts : List Token) (premiss : WrittenPremiss) → Between LEFT_BRACKET RIGHT_BRACKET (IsPremiss text) ts premiss
          → IsTestWritten naming scope.names test premiss
          → IsFittingSentence (Optional None (IsSelection text)) (IsPredicateWritten naming scope.names (Some test)) ts
      go ts premiss (between left is right) fit =
          record { thing = Some premiss; is_one = there (selection left is right); fitting = fit }

  pub bracketed_gates_say : (gates : List ℕ)
      → Says text (square_list_words (map (λ (gate : ℕ). gate_word naming gate ∷ []) gates)) (AreOptionalGates text)
      (AreGatesWritten naming gates)
  bracketed_gates_say [] tokens are =
      subst (IsFittingSentence (AreOptionalGates text) (AreGatesWritten naming [])) (sym (no_words text tokens are))
      (record { thing = []; is_one = left_out; fitting = refl })
  bracketed_gates_say (gate ∷ gates) tokens are =
      let names =
      square_says text (gates_words naming (gate ∷ gates)) _ (AreGatesWritten naming (gate ∷ gates))
      (gates_say gate gates) tokens are in
      record { thing = names.thing; is_one = there names.is_one; fitting = names.fitting }

  words_same : (names : List Variable) (ts : List Term)
      → map phrase_words (words_of_terms naming.signature names (argument_list_of ts)) ≡ map (term_words naming.signature names) ts
  words_same names [] = refl
  words_same names (t ∷ ts) =
      ap (λ (lists : List (List Word)). term_words naming.signature names t ∷ lists) (words_same names ts)

  pub arguments_say : (scope : PrintedScope) (ts : List Term) (sorts : List ℕ)
      → TermsMean naming.signature scope.variables scope.names (argument_list_of ts) sorts
      → Says text (round_list_words (map (term_words naming.signature scope.names) ts)) (AreArguments text)
      (λ (ws : List WrittenTerm). AreWrittenAs naming.signature scope.names (argument_list_of ts) (written_terms ws))
  arguments_say scope [] sorts means tokens are =
      subst
      (IsFittingSentence (AreArguments text)
      (λ (ws : List WrittenTerm). AreWrittenAs naming.signature scope.names (argument_list_of []) (written_terms ws)))
      (sym (no_words text tokens are)) (record { thing = []; is_one = no_arguments; fitting = tt })
  arguments_say scope (t ∷ ts) sorts means tokens are =
      let inside =
      round_says text (commas_words (map phrase_words (words_of_terms naming.signature scope.names (argument_list_of (t ∷ ts)))))
      (AreTerms text)
      (λ (ws : List WrittenTerm). AreWrittenAs naming.signature scope.names (argument_list_of (t ∷ ts)) (written_terms ws))
      (list_says text naming.signature scope.names t (argument_list_of ts)
      (terms_say text naming.signature scope.names well binary scope.variables (argument_list_of (t ∷ ts)) sorts means)) tokens
      (subst (λ (lists : List (List Word)). AreWords text tokens (round_words (commas_words lists)))
      (sym (words_same scope.names (t ∷ ts))) are) in
      go tokens inside.thing inside.is_one inside.fitting
    where
      go : (us : List Token) (ws : List WrittenTerm) → Between LEFT_PARENTHESIS RIGHT_PARENTHESIS (AreTerms text) us ws
          → AreWrittenAs naming.signature scope.names (argument_list_of (t ∷ ts)) (written_terms ws)
          → IsFittingSentence (AreArguments text)
          (λ (vs : List WrittenTerm). AreWrittenAs naming.signature scope.names (argument_list_of (t ∷ ts)) (written_terms vs)) us
      go us ws (between left terms right) fit = record { thing = ws; is_one = some_arguments left terms right; fitting = fit }
