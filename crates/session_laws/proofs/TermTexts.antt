-- The texts of terms are cut into the words of these terms.
use Rattle.std.proofs.Common.{◌≡◌, ℕ, Bool, true, false, List, [], ◌∷◌, ◌++◌, map, refl, ap, sym, ◌∙◌, subst, arith, append_assoc, append-nil, codes, Option, Some, None}
use Rattle.std.specs.Prelude.{slice_get, if◌then◌else◌}
use Rattle.lotos_base.proofs.Members.{member_at}
use Rattle.lotos_base.specs.Signature.{Signature, Sort, Operation, Form, prefix_form, infix_form, IsOperation, IsWellFormedSignature}
use Rattle.lotos_base.specs.Equation.{Variable}
use Rattle.lotos_base.specs.Term.{Term, Terms, variable, node, no_terms, term_then}
use Rattle.lotos_base.specs.Twins.{has_twin}
use Rattle.lotos_lexer.specs.declared.kinds.TheConstants.{OF, COMMA}
use Rattle.printed_texts.specs.Brackets.{bracketed, commas}
use Rattle.printed_texts.specs.TermText.{Phrase, sort_name, sort_text, variable_text, phrase_text, operand_text, of_text, arguments_text, prefix_phrase, operator_text, between_text, infix_phrase, application_phrase, node_phrase, phrase_of, phrases_of, term_text}
use Rattle.session_laws.specs.TextNames.{IsWordSpelling, HasTextNames}
use Rattle.session_laws.proofs.PartsOfText.{apart, nothing_apart}
use Rattle.session_laws.specs.PrintedWords.{Word, WordPhrase, a_word, name_word, operation_word, commas_words, phrase_words, bracketed_words, operand_words, sort_words, arguments_words, prefix_words, between_words, infix_words, application_words, node_words, words_of_term, words_of_terms, term_words}
use Rattle.session_laws.specs.TextPieces.{bytes_of_pieces}
use Rattle.session_laws.specs.PieceLaws.{IsCutInto}
use Rattle.session_laws.specs.TermTextLaws.{HasNamedVariables, HaveNamedVariables, TermTextsAreWords}
use Rattle.session_laws.specs.CutTexts.{AreCut}
use Rattle.session_laws.proofs.Extending.{nothing_cut, word_cut, blank_cut, Extends, StaysApart, extends_joined, nothing_extends, nothing_stays, name_extends, operation_extends, round_extends, round_stays}
use Rattle.session_laws.proofs.PiecesCut.{texts_in_pieces_are_cut}

-- behind a blank
pub blank_extends : (bytes : List ℕ) (words : List Word) → Extends bytes words → Extends (32 ∷ bytes) words
blank_extends bytes words inside rest more apart_rest cut =
    blank_cut false (bytes ++ rest) (words ++ more) (inside rest more apart_rest cut)

pub blank_stays : (bytes : List ℕ) → StaysApart (32 ∷ bytes)
blank_stays bytes rest is = apart 32 (bytes ++ rest) refl refl

-- a phrase and its words
pub record Matches (phrase : Phrase) (words : WordPhrase) : Type 0 where
  pub infix_same : phrase.is_infix ≡ words.is_infix
  pub extends : Extends phrase.text words.words

abbrev AllMatch : List Phrase → List WordPhrase → Type 0
AllMatch [] [] = Unit {0}
AllMatch [] (q ∷ qs) = ⊥
AllMatch (p ∷ ps) [] = ⊥
AllMatch (p ∷ ps) (q ∷ qs) = Matches p q × AllMatch ps qs

pub bracketed_extends : (flag : Bool) (bytes : List ℕ) (words : List Word) → Extends bytes words
    → Extends (bracketed flag bytes) (bracketed_words flag words)
bracketed_extends true bytes words inside = round_extends bytes words inside
bracketed_extends false bytes words inside = inside

operand_extends : (p : Phrase) (q : WordPhrase) → Matches p q → Extends (operand_text p) (operand_words q)
operand_extends p q is =
    subst (λ (flag : Bool). Extends (bracketed flag p.text) (operand_words q)) (sym is.infix_same)
    (bracketed_extends q.is_infix p.text q.words is.extends)

-- ---- Lists between commas

comma_stays : (bytes : List ℕ) → StaysApart (44 ∷ 32 ∷ bytes)
comma_stays bytes rest is = apart 44 (32 ∷ (bytes ++ rest)) refl refl

comma_extends : (bytes : List ℕ) (words : List Word) → Extends bytes words
    → Extends (44 ∷ 32 ∷ bytes) (a_word COMMA (codes ",") ∷ words)
comma_extends bytes words inside rest more apart_rest cut =
    word_cut false (a_word COMMA (codes ",")) (32 ∷ (bytes ++ rest)) (words ++ more) (omega arith) refl
    (blank_cut false (bytes ++ rest) (words ++ more) (inside rest more apart_rest cut))

list_extends : (p : Phrase) (q : WordPhrase) (ps : List Phrase) (qs : List WordPhrase) → Matches p q → AllMatch ps qs
    → Extends (commas (map phrase_text (p ∷ ps))) (commas_words (map phrase_words (q ∷ qs)))
list_extends p q [] [] is all =
    subst (λ (bytes : List ℕ). Extends bytes q.words) (sym (append-nil p.text)) is.extends
list_extends p q [] (r ∷ qs) is all = absurd all
list_extends p q (s ∷ ps) [] is all = absurd all
list_extends p q (s ∷ ps) (r ∷ qs) is all =
    let listed : List ℕ = commas (map phrase_text (s ∷ ps)) in
    let others : List Word = commas_words (map phrase_words (r ∷ qs)) in
    extends_joined p.text (44 ∷ 32 ∷ listed) q.words (a_word COMMA (codes ",") ∷ others) is.extends (comma_stays listed)
    (comma_extends listed others (list_extends s r ps qs all.0 all.1))

arguments_extend : (ps : List Phrase) (qs : List WordPhrase) → AllMatch ps qs → Extends (arguments_text ps) (arguments_words qs)
arguments_extend [] [] all = nothing_extends
arguments_extend [] (q ∷ qs) all = absurd all
arguments_extend (p ∷ ps) [] all = absurd all
arguments_extend (p ∷ ps) (q ∷ qs) all =
    round_extends (commas (map phrase_text (p ∷ ps))) (commas_words (map phrase_words (q ∷ qs))) (list_extends p q ps qs all.0 all.1)

arguments_stay : (ps : List Phrase) → StaysApart (arguments_text ps)
arguments_stay [] = nothing_stays
arguments_stay (p ∷ ps) = round_stays (commas (map phrase_text (p ∷ ps)))

module _ (signature : Signature) (well : IsWellFormedSignature signature) (spelled : HasTextNames signature) where
  module _ (f : ℕ) (operation : Operation) (is_there : IsOperation signature f operation) where
    -- ---- The sort behind an operation

    sort_extends : Extends (sort_text signature operation.result) (name_word (sort_text signature operation.result) ∷ [])
    sort_extends = name_extends (sort_text signature operation.result)
        (subst IsWordSpelling (sym text) (spelled.sorts operation.result sort.0 sort.1))
      where
        sort : (s : Sort) × (slice_get signature.sorts operation.result ≡ Some s)
        sort = member_at signature.sorts operation.result (well.results f operation is_there)

        text : sort_text signature operation.result ≡ sort.0.name
        text = ap sort_name sort.1

    of_extends : (twin : Bool)
        → Extends (if twin then codes " of " ++ sort_text signature operation.result else []) (sort_words signature operation twin)
    of_extends true rest more apart_rest cut =
        blank_cut false _ _
        (word_cut false (a_word OF (codes "of")) (32 ∷ (sort_text signature operation.result ++ rest)) _ (omega arith) refl
        (blank_cut false (sort_text signature operation.result ++ rest) _ (sort_extends rest more apart_rest cut)))
    of_extends false rest more apart_rest cut = cut

    of_stays : (twin : Bool) → StaysApart (if twin then codes " of " ++ sort_text signature operation.result else [])
    of_stays true = blank_stays (codes "of " ++ sort_text signature operation.result)
    of_stays false = nothing_stays

    -- ---- Operations

    prefix_matches : (ps : List Phrase) (qs : List WordPhrase) → AllMatch ps qs
        → Matches (prefix_phrase signature operation ps) (prefix_words signature operation qs)
    prefix_matches ps qs all = record {
      infix_same = refl;
      extends =
          extends_joined (operation.name ++ arguments_text ps) (of_text signature operation)
          (operation_word operation.name ∷ arguments_words qs) (sort_words signature operation (has_twin signature operation))
          (extends_joined operation.name (arguments_text ps) (operation_word operation.name ∷ []) (arguments_words qs)
          (operation_extends operation.name (spelled.operations f operation is_there)) (arguments_stay ps)
          (arguments_extend ps qs all))
          (of_stays (has_twin signature operation)) (of_extends (has_twin signature operation));
    }

    between_extends : (l r : Phrase) (v w : WordPhrase) → Matches l v → Matches r w
        → Extends (between_text operation l r) (between_words operation v w)
    between_extends l r v w left right =
        subst (λ (bytes : List ℕ). Extends bytes (between_words operation v w))
        (sym (append_assoc (operand_text l) (operator_text operation.name) (operand_text r)
        ∙ ap (λ (bytes : List ℕ). operand_text l ++ (32 ∷ bytes)) (append_assoc operation.name (32 ∷ []) (operand_text r))))
        (extends_joined (operand_text l) (32 ∷ (operation.name ++ (32 ∷ operand_text r))) (operand_words v)
        (operation_word operation.name ∷ operand_words w) (operand_extends l v left)
        (blank_stays (operation.name ++ (32 ∷ operand_text r)))
        (blank_extends (operation.name ++ (32 ∷ operand_text r)) (operation_word operation.name ∷ operand_words w)
        (extends_joined operation.name (32 ∷ operand_text r) (operation_word operation.name ∷ []) (operand_words w)
        (operation_extends operation.name (spelled.operations f operation is_there)) (blank_stays (operand_text r))
        (blank_extends (operand_text r) (operand_words w) (operand_extends r w right)))))

    infix_matches : (l r : Phrase) (v w : WordPhrase) → Matches l v → Matches r w
        → Matches (infix_phrase signature operation l r) (infix_words signature operation v w)
    infix_matches l r v w left right = record {
      infix_same = refl;
      extends =
          extends_joined (bracketed (has_twin signature operation) (between_text operation l r)) (of_text signature operation)
          (bracketed_words (has_twin signature operation) (between_words operation v w))
          (sort_words signature operation (has_twin signature operation))
          (bracketed_extends (has_twin signature operation) (between_text operation l r) (between_words operation v w)
          (between_extends l r v w left right))
          (of_stays (has_twin signature operation)) (of_extends (has_twin signature operation));
    }

    application_matches : (form : Form) (ps : List Phrase) (qs : List WordPhrase) → AllMatch ps qs
        → Matches (application_phrase signature operation form ps) (application_words signature operation form qs)
    application_matches prefix_form ps qs all = prefix_matches ps qs all
    application_matches infix_form [] [] all = prefix_matches [] [] all
    application_matches infix_form [] (q ∷ qs) all = absurd all
    application_matches infix_form (p ∷ ps) [] all = absurd all
    application_matches infix_form (p ∷ []) (q ∷ []) all = prefix_matches (p ∷ []) (q ∷ []) all
    application_matches infix_form (p ∷ []) (q ∷ (r ∷ qs)) all = absurd all.1
    application_matches infix_form (p ∷ (s ∷ ps)) (q ∷ []) all = absurd all.1
    application_matches infix_form (p ∷ (s ∷ [])) (q ∷ (r ∷ [])) all = infix_matches p s q r all.0 all.1.0
    application_matches infix_form (p ∷ (s ∷ [])) (q ∷ (r ∷ (u ∷ qs))) all = absurd all.1.1
    application_matches infix_form (p ∷ (s ∷ (t ∷ ps))) (q ∷ (r ∷ [])) all = absurd all.1.1
    application_matches infix_form (p ∷ (s ∷ (t ∷ ps))) (q ∷ (r ∷ (u ∷ qs))) all =
        prefix_matches (p ∷ (s ∷ (t ∷ ps))) (q ∷ (r ∷ (u ∷ qs))) all

  node_matches : (f : ℕ) (found : Option Operation) → slice_get signature.operations f ≡ found → (ps : List Phrase) (qs : List WordPhrase)
      → AllMatch ps qs → Matches (node_phrase signature found ps) (node_words signature found qs)
  node_matches f None is ps qs all = record { infix_same = refl; extends = nothing_extends }
  node_matches f (Some operation) is ps qs all = application_matches f operation is operation.form ps qs all

  -- ---- Terms

  mutual
    pub term_matches : (names : List Variable) (t : Term) → HasNamedVariables names t
        → Matches (phrase_of signature names t) (words_of_term signature names t)
    term_matches names (variable n s) named = record { infix_same = refl; extends = name_extends (variable_text names n) named }
    term_matches names (node f ts) named =
        node_matches f (slice_get signature.operations f) refl (phrases_of signature names ts) (words_of_terms signature names ts)
        (terms_match names ts named)

    terms_match : (names : List Variable) (ts : Terms) → HaveNamedVariables names ts
        → AllMatch (phrases_of signature names ts) (words_of_terms signature names ts)
    terms_match names no_terms named = tt
    terms_match names (term_then t ts) named = (term_matches names t named.0, terms_match names ts named.1)

-- a whole text
pub whole_cut : (number : ℕ) (bytes : List ℕ) (words : List Word) → Extends bytes words → IsCutInto number bytes words
whole_cut number bytes words extends =
    subst (λ (bs : List ℕ). IsCutInto number bs words) (cut.bytes_are ∙ append-nil bytes)
    (subst (λ (ws : List Word). IsCutInto number (bytes_of_pieces cut.pieces) ws) (cut.words_are ∙ append-nil words)
    (texts_in_pieces_are_cut number cut.pieces cut.tokens))
  where
    cut : AreCut false (bytes ++ []) (words ++ [])
    cut = extends [] [] nothing_apart (nothing_cut false)

pub term_texts_are_words : TermTextsAreWords
term_texts_are_words number signature names t well spelled named =
    whole_cut number (term_text signature names t) (term_words signature names t)
    (term_matches signature well spelled names t named).extends
