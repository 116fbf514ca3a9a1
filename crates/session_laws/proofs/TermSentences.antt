-- Tokens that are the words of a term are a term by the grammar.
use Rattle.std.proofs.Common.{◌≡◌, ℕ, Bool, true, false, not, List, [], ◌∷◌, ◌++◌, map, length, refl, ap, sym, ◌∙◌, subst, arith, append_assoc, append-nil, codes, Option, Some}
use Rattle.std.specs.Prelude.{slice_get, if◌then◌else◌}
use Rattle.std.specs.Char.{is_ascii_alphabetic, is_ascii_digit}
use Rattle.std.proofs.lemmas.Bool.Decides.{not_from_Decides}
use Rattle.lotos_base.proofs.Members.{member_at}
use Rattle.lotos_base.proofs.SignatureLemmas.{Decides-has_twin}
use Rattle.lotos_base.specs.Signature.{Signature, Sort, Operation, Form, prefix_form, infix_form, IsOperation, IsWellFormedSignature}
use Rattle.lotos_base.specs.Equation.{Variable}
use Rattle.lotos_base.specs.Term.{Term, Terms, variable, node, no_terms, term_then}
use Rattle.lotos_base.specs.Twins.{has_twin}
use Rattle.lotos_base.specs.WrittenTerm.{WrittenTerm, no_written, written_then, written_terms}
use Rattle.lotos_lexer.specs.Bytes.{first_is}
use Rattle.lotos_lexer.specs.declared.tokens.Token.{Token}
use Rattle.lotos_lexer.specs.declared.kinds.TheConstants.{NAME, DIGIT_NAME, SIGN_NAME, OF, COMMA, LEFT_PARENTHESIS, RIGHT_PARENTHESIS}
use Rattle.syntax_trees.specs.LeftGrouping.{only, at_last}
use Rattle.lotos_rows.specs.Words.{Between, between}
use Rattle.lotos_rows.specs.Names.{named, IsOperationName, word_name, digit_name, sign_name}
use Rattle.lotos_rows.specs.Terms.{applied, infix_term, of_sort, IsTerm, grouped_factors, one_factor, more_factors, IsFactor, without_sort, with_sort, IsBase, without_arguments, with_arguments, bracketed, AreTerms, one_term, more_terms}
use Rattle.printed_texts.specs.TermText.{sort_name, sort_text, variable_text}
use Rattle.session_laws.specs.WrittenAs.{IsWrittenAs, AreWrittenAs}
use Rattle.session_laws.specs.TermMeanings.{TermMeans, TermsMean}
use Rattle.session_laws.proofs.PrintedTerms.{IsUnmarked, unmarked_is, marked_is, OneOf}
use Rattle.session_laws.specs.PrintedWords.{Word, IsWord, WordPhrase, a_word, name_word, operation_word, round_words, commas_words, phrase_words, bracketed_words, operand_words, sort_words, arguments_words, prefix_words, between_words, infix_words, application_words, node_words, words_of_term, words_of_terms}
use Rattle.session_laws.specs.WordLaws.{HasBinaryInfixes, IsFittingSentence, TermWordsAreSentences}
use Rattle.session_laws.proofs.WordParts.{first_of, parts_of, one_of, no_words, of_kind, Says, round_says}

-- two arguments
two_of : (signature : Signature) (visible names : List Variable) (ts : Terms) (sorts : List ℕ)
    → TermsMean signature visible names ts sorts → length sorts ≡ 2
    → (t : Term) × (u : Term) × (ts ≡ term_then t (term_then u no_terms))
two_of signature visible names no_terms [] means two = absurd (omega arith)
two_of signature visible names no_terms (s ∷ ss) means two = absurd means
two_of signature visible names (term_then t ts) [] means two = absurd means
two_of signature visible names (term_then t no_terms) (s ∷ []) means two = absurd (omega arith)
two_of signature visible names (term_then t no_terms) (s ∷ (r ∷ ss)) means two = absurd means.1
two_of signature visible names (term_then t (term_then u us)) (s ∷ []) means two = absurd means.1
two_of signature visible names (term_then t (term_then u no_terms)) (s ∷ (r ∷ ss)) means two = (t, u, refl)
two_of signature visible names (term_then t (term_then u (term_then v vs))) (s ∷ (r ∷ [])) means two = absurd means.1.1
two_of signature visible names (term_then t (term_then u (term_then v vs))) (s ∷ (r ∷ (q ∷ ss))) means two = absurd (omega arith)

module _ (text : List ℕ) where
  -- ---- Names of operations

  pub operation_named : (name : List ℕ) (token : Token) → IsWord text token (operation_word name)
      → IsOperationName text (token ∷ []) (named text token)
  operation_named name token is = go (first_is is_ascii_alphabetic name) (first_is is_ascii_digit name) is.kind_is
    where
      go : (letter digit : Bool) → token.kind ≡ (if letter then NAME else if digit then DIGIT_NAME else SIGN_NAME)
          → IsOperationName text (token ∷ []) (named text token)
      go true digit kind = word_name (record { kind_is = kind })
      go false true kind = digit_name (record { kind_is = kind })
      go false false kind = sign_name (record { kind_is = kind })

  module _ (signature : Signature) (names : List Variable) where
    abbrev pub PhraseSays : Term → WordPhrase → Type 0
    PhraseSays t phrase = Says text phrase.words (OneOf text phrase.is_infix) (IsWrittenAs signature names t)

    abbrev pub AllSay : Terms → Type 0
    AllSay no_terms = Unit {0}
    AllSay (term_then t ts) = PhraseSays t (words_of_term signature names t) × AllSay ts

    pub as_term : (t : Term) (words : List Word) (is_infix : Bool)
        → Says text words (OneOf text is_infix) (IsWrittenAs signature names t)
        → Says text words (IsTerm text) (IsWrittenAs signature names t)
    as_term t words true says tokens are = says tokens are
    as_term t words false says tokens are =
        let factor = says tokens are in
        record { thing = factor.thing; is_one = grouped_factors (one_factor factor.is_one) only; fitting = factor.fitting }

    pub phrase_says_term : (t : Term) (phrase : WordPhrase) → PhraseSays t phrase
        → Says text phrase.words (IsTerm text) (IsWrittenAs signature names t)
    phrase_says_term t phrase says = as_term t phrase.words phrase.is_infix says

    -- in brackets
    round_base : (fits : WrittenTerm → Type 0) (words : List Word) → Says text words (IsTerm text) fits
        → Says text (round_words words) (IsBase text) fits
    round_base fits words says tokens are =
        let inside = round_says text words (IsTerm text) fits says tokens are in
        go tokens inside.thing inside.is_one inside.fitting
      where
        go : (ts : List Token) (w : WrittenTerm) → Between LEFT_PARENTHESIS RIGHT_PARENTHESIS (IsTerm text) ts w → fits w
            → IsFittingSentence (IsBase text) fits ts
        go ts w (between left term right) fit = record { thing = w; is_one = bracketed left term right; fitting = fit }

    operand_says : (t : Term) (words : List Word) (is_infix : Bool)
        → Says text words (OneOf text is_infix) (IsWrittenAs signature names t)
        → Says text (bracketed_words is_infix words) (IsFactor text) (IsWrittenAs signature names t)
    operand_says t words true says tokens are =
        let base = round_base (IsWrittenAs signature names t) words says tokens are in
        record { thing = base.thing; is_one = without_sort base.is_one; fitting = base.fitting }
    operand_says t words false says tokens are = says tokens are

    -- a base is a factor
    as_factor : {words : List Word} {fits : WrittenTerm → Type 0} → Says text words (IsBase text) fits
        → Says text words (IsFactor text) fits
    as_factor says tokens are =
        let base = says tokens are in record { thing = base.thing; is_one = without_sort base.is_one; fitting = base.fitting }

    -- ---- Lists between commas

    pub list_says : (t : Term) (ts : Terms) → AllSay (term_then t ts)
        → Says text (commas_words (map phrase_words (words_of_terms signature names (term_then t ts)))) (AreTerms text)
        (λ (ws : List WrittenTerm). AreWrittenAs signature names (term_then t ts) (written_terms ws))
    list_says t no_terms all tokens are =
        let term = phrase_says_term t (words_of_term signature names t) all.0 tokens are in
        record { thing = term.thing ∷ []; is_one = one_term term.is_one; fitting = (term.fitting, tt) }
    list_says t (term_then u us) all tokens are =
        let first : List Word = phrase_words (words_of_term signature names t) in
        let others : List Word = commas_words (map phrase_words (words_of_terms signature names (term_then u us))) in
        let parts = parts_of text tokens first (a_word COMMA (codes ",") ∷ others) are in
        let comma = first_of text parts.right (a_word COMMA (codes ",")) others parts.right_are in
        let term = phrase_says_term t (words_of_term signature names t) all.0 parts.left parts.left_are in
        let rest = list_says u us all.1 comma.rest comma.are_words in
        subst
        (IsFittingSentence (AreTerms text) (λ (ws : List WrittenTerm). AreWrittenAs signature names (term_then t (term_then u us))
        (written_terms ws)))
        (sym (parts.joined ∙ ap (λ (ts : List Token). parts.left ++ ts) comma.joined)) (record {
          thing = term.thing ∷ rest.thing;
          is_one = more_terms term.is_one (of_kind text (a_word COMMA (codes ",")) comma.first comma.is_word) rest.is_one;
          fitting = (term.fitting, rest.fitting);
        })

    -- ---- Operations before their arguments

    applied_says : (operation : Operation) (ts : Terms) → operation.form ≡ prefix_form → AllSay ts
        → Says text (operation_word operation.name ∷ arguments_words (words_of_terms signature names ts)) (IsBase text)
        (IsUnmarked signature names operation ts)
    applied_says operation no_terms form all tokens are =
        let one = one_of text tokens (operation_word operation.name) are in
        subst (IsFittingSentence (IsBase text) (IsUnmarked signature names operation no_terms)) (sym one.alone) (record {
          thing = applied (named text one.token) [];
          is_one = without_arguments (operation_named operation.name one.token one.is_word);
          fitting = record {
            head = record {
              place = (named text one.token).place;
              name = (named text one.token).name;
              form = prefix_form;
              sorts = [];
            };
            arguments = no_written;
            parts = refl;
            named = one.is_word.spelling_is;
            formed = sym form;
            bare = refl;
            each = tt;
          };
        })
    applied_says operation (term_then t ts) form all tokens are =
        let listed : List Word = commas_words (map phrase_words (words_of_terms signature names (term_then t ts))) in
        let begin = first_of text tokens (operation_word operation.name) (round_words listed) are in
        let inside =
        round_says text listed (AreTerms text)
        (λ (ws : List WrittenTerm). AreWrittenAs signature names (term_then t ts) (written_terms ws)) (list_says t ts all) begin.rest
        begin.are_words in
        subst (IsFittingSentence (IsBase text) (IsUnmarked signature names operation (term_then t ts))) (sym begin.joined)
        (go begin.first begin.rest inside.thing (operation_named operation.name begin.first begin.is_word) begin.is_word.spelling_is
        inside.is_one inside.fitting)
      where
        go : (token : Token) (us : List Token) (ws : List WrittenTerm) → IsOperationName text (token ∷ []) (named text token)
            → (named text token).name ≡ operation.name
            → Between LEFT_PARENTHESIS RIGHT_PARENTHESIS (AreTerms text) us ws
            → AreWrittenAs signature names (term_then t ts) (written_terms ws)
            → IsFittingSentence (IsBase text) (IsUnmarked signature names operation (term_then t ts)) (token ∷ us)
        go token us ws name spelled (between left terms right) each = record {
          thing = applied (named text token) ws;
          is_one = with_arguments name left terms right;
          fitting = record {
            head = record { place = (named text token).place; name = (named text token).name; form = prefix_form; sorts = [] };
            arguments = written_terms ws;
            parts = refl;
            named = spelled;
            formed = sym form;
            bare = refl;
            each = each;
          };
        }

    -- ---- Operations between their arguments

    between_terms : (operation : Operation) (t u : Term) (left right : List Word) → operation.form ≡ infix_form
        → Says text left (IsFactor text) (IsWrittenAs signature names t) → Says text right (IsFactor text) (IsWrittenAs signature names u)
        → Says text (left ++ operation_word operation.name ∷ right) (IsTerm text)
        (IsUnmarked signature names operation (term_then t (term_then u no_terms)))
    between_terms operation t u left right form first second tokens are =
        let parts = parts_of text tokens left (operation_word operation.name ∷ right) are in
        let sign = first_of text parts.right (operation_word operation.name) right parts.right_are in
        let l = first parts.left parts.left_are in
        let r = second sign.rest sign.are_words in
        let name = named text sign.first in
        let whole : tokens ≡ parts.left ++ (sign.first ∷ []) ++ sign.rest =
        parts.joined ∙ ap (λ (ts : List Token). parts.left ++ ts) sign.joined
        ∙ sym (append_assoc parts.left (sign.first ∷ []) sign.rest) in
        subst (IsFittingSentence (IsTerm text) (IsUnmarked signature names operation (term_then t (term_then u no_terms))))
        (sym whole) (record {
          thing = infix_term name l.thing r.thing;
          is_one =
              grouped_factors
              (more_factors l.is_one (operation_named operation.name sign.first sign.is_word) (one_factor r.is_one))
              (at_last {operands = l.thing ∷ []} {signs = []} {left = l.thing} {last = r.thing} {sign = name} only);
          fitting = record {
            head = record { place = name.place; name = name.name; form = infix_form; sorts = [] };
            arguments = written_then l.thing (written_then r.thing no_written);
            parts = refl;
            named = sign.is_word.spelling_is;
            formed = sym form;
            bare = refl;
            each = (l.fitting, (r.fitting, tt));
          };
        })

    -- ---- The sort behind an operation

    module _ (well : IsWellFormedSignature signature) (f : ℕ) (operation : Operation) (is_there : IsOperation signature f operation) where
      sorted_says : (ts : Terms) (words : List Word) → has_twin signature operation ≡ true
          → Says text words (IsBase text) (IsUnmarked signature names operation ts)
          → Says text (words ++ sort_words signature operation true) (IsFactor text) (IsWrittenAs signature names (node f ts))
      sorted_says ts words twin says tokens are =
          let of_word : Word = a_word OF (codes "of") in
          let sort_word : Word = name_word (sort_text signature operation.result) in
          let parts = parts_of text tokens words (of_word ∷ sort_word ∷ []) are in
          let of_ = first_of text parts.right of_word (sort_word ∷ []) parts.right_are in
          let sort_ = one_of text of_.rest sort_word of_.are_words in
          let base = says parts.left parts.left_are in
          let whole : tokens ≡ parts.left ++ of_.first ∷ sort_.token ∷ [] =
          parts.joined ∙ ap (λ (ts : List Token). parts.left ++ ts)
          (of_.joined ∙ ap (λ (ts : List Token). of_.first ∷ ts) sort_.alone) in
          subst (IsFittingSentence (IsFactor text) (IsWrittenAs signature names (node f ts))) (sym whole) (record {
            thing = of_sort (named text sort_.token) base.thing;
            is_one = with_sort base.is_one (of_kind text of_word of_.first of_.is_word) (of_kind text sort_word sort_.token sort_.is_word);
            fitting =
                marked_is signature names f operation sort.0 ts base.thing (named text sort_.token) is_there
                ((Decides-has_twin signature operation).0 twin) sort.1
                (sort_.is_word.spelling_is ∙ ap sort_name sort.1) base.fitting;
          })
        where
          sort : (s : Sort) × (slice_get signature.sorts operation.result ≡ Some s)
          sort = member_at signature.sorts operation.result (well.results f operation is_there)

      -- the words without a sort behind them
      unsorted : (ts : Terms) (words : List Word) (one : List Token → WrittenTerm → Type 0) → has_twin signature operation ≡ false
          → Says text words one (IsUnmarked signature names operation ts)
          → Says text (words ++ []) one (IsWrittenAs signature names (node f ts))
      unsorted ts words one twin says tokens are =
          let parts = parts_of text tokens words [] are in
          let inside = says parts.left parts.left_are in
          subst (IsFittingSentence one (IsWrittenAs signature names (node f ts)))
          (sym (parts.joined ∙ ap (λ (ts : List Token). parts.left ++ ts) (no_words text parts.right parts.right_are)
          ∙ append-nil parts.left)) (record {
            thing = inside.thing;
            is_one = inside.is_one;
            fitting =
                unmarked_is signature names f operation ts inside.thing is_there
                (not_from_Decides (has_twin signature operation) (Decides-has_twin signature operation) twin) inside.fitting;
          })

      prefix_says : (ts : Terms) → operation.form ≡ prefix_form → AllSay ts
          → PhraseSays (node f ts) (prefix_words signature operation (words_of_terms signature names ts))
      prefix_says ts form all = by (has_twin signature operation) refl
        where
          words : List Word
          words = operation_word operation.name ∷ arguments_words (words_of_terms signature names ts)

          unsorted_base : has_twin signature operation ≡ false
              → Says text ((operation_word operation.name ∷ arguments_words (words_of_terms signature names ts)) ++ []) (IsBase text)
              (IsWrittenAs signature names (node f ts))
          unsorted_base is = unsorted ts words (IsBase text) is (applied_says operation ts form all)

          by : (twin : Bool) → has_twin signature operation ≡ twin
              → Says text ((operation_word operation.name ∷ arguments_words (words_of_terms signature names ts))
              ++ sort_words signature operation twin) (IsFactor text) (IsWrittenAs signature names (node f ts))
          by true is = sorted_says ts words is (applied_says operation ts form all)
          by false is = as_factor (unsorted_base is)

      infix_says : (t u : Term) → operation.form ≡ infix_form → AllSay (term_then t (term_then u no_terms))
          → PhraseSays (node f (term_then t (term_then u no_terms)))
          (infix_words signature operation (words_of_term signature names t) (words_of_term signature names u))
      infix_says t u form all = by (has_twin signature operation) refl
        where
          ts : Terms
          ts = term_then t (term_then u no_terms)

          words : List Word
          words = between_words operation (words_of_term signature names t) (words_of_term signature names u)

          inside : Says text (between_words operation (words_of_term signature names t) (words_of_term signature names u)) (IsTerm text)
              (IsUnmarked signature names operation (term_then t (term_then u no_terms)))
          inside =
              between_terms operation t u (operand_words (words_of_term signature names t))
              (operand_words (words_of_term signature names u))
              form
              (operand_says t (words_of_term signature names t).words (words_of_term signature names t).is_infix all.0)
              (operand_says u (words_of_term signature names u).words (words_of_term signature names u).is_infix all.1.0)

          by : (twin : Bool) → has_twin signature operation ≡ twin
              → Says text (bracketed_words twin
              (between_words operation (words_of_term signature names t) (words_of_term signature names u))
              ++ sort_words signature operation twin) (OneOf text (not twin))
              (IsWrittenAs signature names (node f (term_then t (term_then u no_terms))))
          by true is =
              sorted_says ts (round_words words) is
              (round_base (IsUnmarked signature names operation ts) words inside)
          by false is = unsorted ts words (IsTerm text) is inside

      application_says : (visible : List Variable) (ts : Terms) → TermsMean signature visible names ts operation.arguments
          → HasBinaryInfixes signature → AllSay ts
          → PhraseSays (node f ts) (application_words signature operation operation.form (words_of_terms signature names ts))
      application_says visible ts sorted binary all = by operation.form refl
        where
          by : (form : Form) → operation.form ≡ form
              → PhraseSays (node f ts) (application_words signature operation form (words_of_terms signature names ts))
          by prefix_form form = prefix_says ts form all
          by infix_form form =
              let two = two_of signature visible names ts operation.arguments sorted (binary f operation is_there form) in
              subst (λ (xs : Terms). AllSay xs
              → PhraseSays (node f xs) (application_words signature operation infix_form (words_of_terms signature names xs)))
              (sym two.2) (infix_says two.0 two.1 form) all

    -- ---- All terms

    module _ (well : IsWellFormedSignature signature) (binary : HasBinaryInfixes signature) (visible : List Variable) where
      mutual
        pub term_says : (t : Term) (sort : ℕ) → TermMeans signature visible names t sort
            → PhraseSays t (words_of_term signature names t)
        term_says (variable n s) sort means = λ tokens are.
            let one = one_of text tokens (name_word (variable_text names n)) are in
            subst (IsFittingSentence (IsFactor text) (IsWrittenAs signature names (variable n s))) (sym one.alone) (record {
              thing = applied (named text one.token) [];
              is_one = without_sort (without_arguments (word_name
                  (of_kind text (name_word (variable_text names n)) one.token one.is_word)));
              fitting = record { named = one.is_word.spelling_is; formed = refl; unmarked = refl };
            })
        term_says (node f ts) sort means =
            subst (λ (o : Option Operation). PhraseSays (node f ts) (node_words signature o (words_of_terms signature names ts)))
            (sym means.1)
            (application_says well f means.0 means.1 visible ts means.4 binary
            (terms_say ts means.0.arguments means.4))

        pub terms_say : (ts : Terms) (sorts : List ℕ) → TermsMean signature visible names ts sorts → AllSay ts
        terms_say no_terms sorts means = tt
        terms_say (term_then t ts) [] means = absurd means
        terms_say (term_then t ts) (s ∷ ss) means = (term_says t s means.0, terms_say ts ss means.1)

      pub whole_term_says : (t : Term) (sort : ℕ) → TermMeans signature visible names t sort
          → Says text (words_of_term signature names t).words (IsTerm text) (IsWrittenAs signature names t)
      whole_term_says t sort means = phrase_says_term t (words_of_term signature names t) (term_says t sort means)

pub term_words_are_sentences : TermWordsAreSentences
term_words_are_sentences text signature visible names t sort tokens well binary means are =
    whole_term_says text signature names well binary visible t sort means tokens are
