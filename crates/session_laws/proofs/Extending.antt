-- A text that is cut into words, with more words in front of it.
use Rattle.std.proofs.Common.{◌≡◌, ℕ, ◌<◌, Bool, true, false, List, [], ◌∷◌, ◌++◌, length, inl, inr, refl, ap, sym, ◌∙◌, subst, arith, append_assoc, codes}
use Rattle.std.specs.Prelude.{if◌then◌else◌}
use Rattle.std.specs.Char.{is_ascii_alphabetic, is_ascii_digit}
use Rattle.lotos_lexer.specs.declared.kinds.TheConstants.{NAME, DIGIT_NAME, SIGN_NAME, LEFT_PARENTHESIS, RIGHT_PARENTHESIS}
use Rattle.lotos_lexer.specs.declared.pieces.Piece.TheVariants as piece
use Rattle.lotos_lexer.specs.Bytes.{first_is}
use Rattle.lotos_lexer.specs.Lexemes.{lexeme_of}
use Rattle.lotos_lexer.specs.Pieces.{piece_at}
use Rattle.lotos_lexer.specs.Tokens.{list_open_behind}
use Rattle.printed_texts.specs.Brackets.{begins_with_sign, spaced, round}
use Rattle.session_laws.specs.TextNames.{IsWordSpelling, IsDigitSpelling, IsSignSpelling, IsOperationSpelling}
use Rattle.session_laws.proofs.NameTokens.{IsApart, word_piece, digit_piece, sign_piece, digit_no_letter, sign_no_letter, sign_no_digit}
use Rattle.session_laws.proofs.PartsOfText.{apart, opened_piece, opened_other}
use Rattle.session_laws.specs.PrintedWords.{Word, a_word, name_word, operation_name_kind, operation_word, round_words}
use Rattle.session_laws.specs.TextPieces as pieced
use Rattle.session_laws.specs.CutTexts.{AreCut}

pub nothing_cut : (open_list : Bool) → AreCut open_list [] []
nothing_cut open_list = record { pieces = []; bytes_are = refl; words_are = refl; tokens = tt }

-- a word in front
pub word_cut : (open_list : Bool) (word : Word) (bytes : List ℕ) (words : List Word) → 0 < length word.spelling
    → piece_at open_list (word.spelling ++ bytes) ≡ piece.Token (lexeme_of word.kind (length word.spelling))
    → AreCut (list_open_behind word.kind open_list) bytes words → AreCut open_list (word.spelling ++ bytes) (word ∷ words)
word_cut open_list word bytes words some there rest = record {
  pieces = pieced.word_piece word ∷ rest.pieces;
  bytes_are = ap (λ (bs : List ℕ). word.spelling ++ bs) rest.bytes_are;
  words_are = ap (λ (ws : List Word). word ∷ ws) rest.words_are;
  tokens = (
    some,
    subst
        (λ (bs : List ℕ). piece_at open_list (word.spelling ++ bs) ≡ piece.Token (lexeme_of word.kind (length word.spelling)))
        (sym rest.bytes_are) there,
    rest.tokens,
  );
}

-- a blank in front
pub blank_cut : (open_list : Bool) (bytes : List ℕ) (words : List Word) → AreCut open_list bytes words → AreCut open_list (32 ∷ bytes) words
blank_cut open_list bytes words rest = record {
  pieces = pieced.blank_piece 32 ∷ rest.pieces;
  bytes_are = ap (λ (bs : List ℕ). 32 ∷ bs) rest.bytes_are;
  words_are = rest.words_are;
  tokens = (refl, rest.tokens);
}

-- The bytes are these words before anything that goes on with no word and no run of signs. The flag says whether a list of gates is
-- open, before and behind them.
abbrev pub ExtendsIn : Bool → List ℕ → List Word → Type 0
ExtendsIn open_list bytes words = (rest : List ℕ) (more : List Word) → IsApart rest → AreCut open_list rest more
    → AreCut open_list (bytes ++ rest) (words ++ more)

abbrev pub Extends : List ℕ → List Word → Type 0
Extends bytes words = ExtendsIn false bytes words

-- no word and no run goes on with the bytes, whatever stands behind them
abbrev pub StaysApart : List ℕ → Type 0
StaysApart bytes = (rest : List ℕ) → IsApart rest → IsApart (bytes ++ rest)

-- two parts are cut where the first one is before the second one
pub cut_of_parts : (open_list : Bool) (xs ys rest : List ℕ) (us vs more : List Word)
    → AreCut open_list (xs ++ (ys ++ rest)) (us ++ (vs ++ more)) → AreCut open_list ((xs ++ ys) ++ rest) ((us ++ vs) ++ more)
cut_of_parts open_list xs ys rest us vs more cut =
    subst (λ (ws : List Word). AreCut open_list ((xs ++ ys) ++ rest) ws) (sym (append_assoc us vs more))
    (subst (λ (bs : List ℕ). AreCut open_list bs (us ++ (vs ++ more))) (sym (append_assoc xs ys rest)) cut)

pub joined_in : (open_list : Bool) (xs ys : List ℕ) (us vs : List Word) → ExtendsIn open_list xs us → StaysApart ys
    → ExtendsIn open_list ys vs → ExtendsIn open_list (xs ++ ys) (us ++ vs)
joined_in open_list xs ys us vs first stays second rest more apart_rest cut =
    cut_of_parts open_list xs ys rest us vs more
    (first (ys ++ rest) (vs ++ more) (stays rest apart_rest) (second rest more apart_rest cut))

pub extends_joined : (xs ys : List ℕ) (us vs : List Word) → Extends xs us → StaysApart ys → Extends ys vs → Extends (xs ++ ys) (us ++ vs)
extends_joined xs ys us vs first stays second = joined_in false xs ys us vs first stays second

pub nothing_extends : Extends [] []
nothing_extends rest more apart_rest cut = cut

pub nothing_stays : StaysApart []
nothing_stays rest is = is

-- ---- Names

pub some_bytes : (test : ℕ → Bool) (name : List ℕ) → first_is test name ≡ true → 0 < length name
some_bytes test [] is = let never : false ≡ true = is in cc
some_bytes test (b ∷ bs) is = omega arith

pub name_extends : (name : List ℕ) → IsWordSpelling name → Extends name (name_word name ∷ [])
name_extends name is rest more apart_rest cut =
    word_cut false (name_word name) rest more (some_bytes is_ascii_alphabetic name is.begins) (word_piece name rest is apart_rest) cut

-- what kind the name of an operation has
kind_of_word : (name : List ℕ) → IsWordSpelling name → operation_name_kind name ≡ NAME
kind_of_word name is =
    ap (λ (b : Bool). if b then NAME else if first_is is_ascii_digit name then DIGIT_NAME else SIGN_NAME) is.begins

kind_of_digits : (name : List ℕ) → IsDigitSpelling name → operation_name_kind name ≡ DIGIT_NAME
kind_of_digits [] is = let never : false ≡ true = is.begins in cc
kind_of_digits (b ∷ bs) is =
    ap (λ (t : Bool). if t then NAME else if is_ascii_digit b then DIGIT_NAME else SIGN_NAME) (digit_no_letter b is.begins)
    ∙ ap (λ (t : Bool). if t then DIGIT_NAME else SIGN_NAME) is.begins

kind_of_signs : (name : List ℕ) → IsSignSpelling name → operation_name_kind name ≡ SIGN_NAME
kind_of_signs [] is = let never : false ≡ true = is.begins in cc
kind_of_signs (b ∷ bs) is =
    ap (λ (t : Bool). if t then NAME else if is_ascii_digit b then DIGIT_NAME else SIGN_NAME) (sign_no_letter b is.begins)
    ∙ ap (λ (t : Bool). if t then DIGIT_NAME else SIGN_NAME) (sign_no_digit b is.begins)

pub operation_extends : (name : List ℕ) → IsOperationSpelling name → Extends name (operation_word name ∷ [])
operation_extends name (inl is) rest more apart_rest cut =
    subst (λ (kind : ℕ). AreCut false (name ++ rest) (a_word kind name ∷ more)) (sym (kind_of_word name is))
    (name_extends name is rest more apart_rest cut)
operation_extends name (inr (inl is)) rest more apart_rest cut =
    subst (λ (kind : ℕ). AreCut false (name ++ rest) (a_word kind name ∷ more)) (sym (kind_of_digits name is))
    (word_cut false (a_word DIGIT_NAME name) rest more (some_bytes is_ascii_digit name is.begins) (digit_piece name rest is apart_rest)
    cut)
operation_extends name (inr (inr is)) rest more apart_rest cut =
    subst (λ (kind : ℕ). AreCut false (name ++ rest) (a_word kind name ∷ more)) (sym (kind_of_signs name is))
    (word_cut false (a_word SIGN_NAME name) rest more (some_bytes _ name is.begins) (sign_piece name rest is apart_rest) cut)

-- ---- Brackets

pub round_extends : (bytes : List ℕ) (words : List Word) → Extends bytes words → Extends (round bytes) (round_words words)
round_extends bytes words inside rest more apart_rest cut =
    subst (λ (ws : List Word). AreCut false (round bytes ++ rest) (a_word LEFT_PARENTHESIS (codes "(") ∷ ws))
    (sym (append_assoc words (a_word RIGHT_PARENTHESIS (codes ")") ∷ []) more))
    (subst
    (λ (bs : List ℕ). AreCut false bs
    (a_word LEFT_PARENTHESIS (codes "(") ∷ (words ++ (a_word RIGHT_PARENTHESIS (codes ")") ∷ more))))
    (sym (ap (λ (bs : List ℕ). bs) (append_assoc (codes "(" ++ spaced 42 bytes) (codes ")") rest)))
    (word_cut false (a_word LEFT_PARENTHESIS (codes "(")) (spaced 42 bytes ++ (41 ∷ rest)) _ (omega arith)
    (opened_piece (spaced 42 bytes ++ (41 ∷ rest)) (opened_other bytes rest (begins_with_sign 42 bytes) refl))
    (by (begins_with_sign 42 bytes))))
  where
    closed : AreCut false (41 ∷ rest) (a_word RIGHT_PARENTHESIS (codes ")") ∷ more)
    closed = word_cut false (a_word RIGHT_PARENTHESIS (codes ")")) rest more (omega arith) refl cut

    within : AreCut false (bytes ++ (41 ∷ rest)) (words ++ (a_word RIGHT_PARENTHESIS (codes ")") ∷ more))
    within = inside (41 ∷ rest) _ (apart 41 rest refl refl) closed

    by : (star : Bool) → AreCut false ((if star then codes " " ++ bytes else bytes) ++ (41 ∷ rest))
        (words ++ (a_word RIGHT_PARENTHESIS (codes ")") ∷ more))
    by true = blank_cut false (bytes ++ (41 ∷ rest)) _ within
    by false = within

pub round_stays : (bytes : List ℕ) → StaysApart (round bytes)
round_stays bytes rest is = apart 40 ((spaced 42 bytes ++ codes ")") ++ rest) refl refl
