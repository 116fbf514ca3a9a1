-- Bytes that are cut into words: words before blanks, lists between commas, and lines.
use Rattle.std.proofs.Common.{◌≡◌, ℕ, ◌<◌, Bool, true, false, List, [], ◌∷◌, ◌++◌, map, length, refl, ap, sym, subst, arith, append_assoc, append-nil, codes}
use Rattle.std.specs.Prelude.{flat_map}
use Rattle.std.specs.List.{concat}
use Rattle.lotos_lexer.specs.declared.kinds.TheConstants.{COMMA}
use Rattle.lotos_lexer.specs.declared.pieces.Piece.TheVariants as piece
use Rattle.lotos_lexer.specs.Bytes.{is_blank}
use Rattle.lotos_lexer.specs.Lexemes.{lexeme_of}
use Rattle.lotos_lexer.specs.Pieces.{piece_at}
use Rattle.lotos_lexer.specs.Tokens.{list_open_behind}
use Rattle.behaviour_semantics.specs.WellFormed.{Every}
use Rattle.printed_texts.specs.Brackets.{commas}
use Rattle.session_laws.proofs.NameTokens.{IsApart}
use Rattle.session_laws.proofs.PartsOfText.{apart}
use Rattle.flat_text.specs.DataText.{line}
use Rattle.session_laws.specs.PrintedWords.{Word, a_word, commas_words}
use Rattle.session_laws.specs.TextPieces as pieced
use Rattle.session_laws.specs.CutTexts.{AreCut, AreWhole}
use Rattle.session_laws.proofs.Extending.{word_cut, blank_cut, ExtendsIn, Extends, StaysApart, joined_in}

-- a blank in front
pub space_cut : (byte : ℕ) (bytes : List ℕ) (words : List Word) → is_blank byte ≡ true → AreCut false bytes words
    → AreCut false (byte ∷ bytes) words
space_cut byte bytes words blank rest = record {
  pieces = pieced.blank_piece byte ∷ rest.pieces;
  bytes_are = ap (λ (bs : List ℕ). byte ∷ bs) rest.bytes_are;
  words_are = rest.words_are;
  tokens = (blank, rest.tokens);
}

-- ---- Bytes that nothing goes on with

pub ends_extend : (bytes : List ℕ) (words : List Word) → AreWhole bytes words → Extends bytes words
ends_extend bytes words ends rest more apart_rest cut = ends rest more cut

pub nothing_ends : AreWhole [] []
nothing_ends rest more cut = cut

pub ends_joined : (xs ys : List ℕ) (us vs : List Word) → AreWhole xs us → AreWhole ys vs → AreWhole (xs ++ ys) (us ++ vs)
ends_joined xs ys us vs first second rest more cut =
    subst (λ (ws : List Word). AreCut false ((xs ++ ys) ++ rest) ws) (sym (append_assoc us vs more))
    (subst (λ (bs : List ℕ). AreCut false bs (us ++ (vs ++ more))) (sym (append_assoc xs ys rest))
    (first (ys ++ rest) (vs ++ more) (second rest more cut)))

-- before bytes with which something may go on
pub ends_before : (xs ys : List ℕ) (us vs : List Word) → AreWhole xs us → Extends ys vs → Extends (xs ++ ys) (us ++ vs)
ends_before xs ys us vs first second rest more apart_rest cut =
    subst (λ (ws : List Word). AreCut false ((xs ++ ys) ++ rest) ws) (sym (append_assoc us vs more))
    (subst (λ (bs : List ℕ). AreCut false bs (us ++ (vs ++ more))) (sym (append_assoc xs ys rest))
    (first (ys ++ rest) (vs ++ more) (second rest more apart_rest cut)))

-- behind bytes with which something may go on
pub ends_behind : (xs ys : List ℕ) (us vs : List Word) → Extends xs us → ((rest : List ℕ) → IsApart (ys ++ rest)) → AreWhole ys vs
    → AreWhole (xs ++ ys) (us ++ vs)
ends_behind xs ys us vs first stays second rest more cut =
    subst (λ (ws : List Word). AreCut false ((xs ++ ys) ++ rest) ws) (sym (append_assoc us vs more))
    (subst (λ (bs : List ℕ). AreCut false bs (us ++ (vs ++ more))) (sym (append_assoc xs ys rest))
    (first (ys ++ rest) (vs ++ more) (stays rest) (second rest more cut)))

-- a blank in front
pub space_ends : (bytes : List ℕ) (words : List Word) → AreWhole bytes words → AreWhole (32 ∷ bytes) words
space_ends bytes words inside rest more cut = space_cut 32 (bytes ++ rest) (words ++ more) refl (inside rest more cut)

-- a blank behind
pub blank_ends : (bytes : List ℕ) (words : List Word) → Extends bytes words → AreWhole (bytes ++ 32 ∷ []) words
blank_ends bytes words inside rest more cut =
    subst (λ (bs : List ℕ). AreCut false bs (words ++ more)) (sym (append_assoc bytes (32 ∷ []) rest))
    (inside (32 ∷ rest) more (apart 32 rest refl refl) (space_cut 32 rest more refl cut))

-- a line
pub line_ends : (text : List ℕ) (words : List Word) → Extends text words → AreWhole (line text) words
line_ends text words inside rest more cut =
    subst (λ (bs : List ℕ). AreCut false bs (words ++ more)) (sym (append_assoc text (10 ∷ []) rest))
    (inside (10 ∷ rest) more (apart 10 rest refl refl) (space_cut 10 rest more refl cut))

-- a word with a blank behind
pub word_ends : (kind : ℕ) (spelling : List ℕ) (byte : ℕ) → 0 < length spelling → is_blank byte ≡ true
    → ((rest : List ℕ) → piece_at false (spelling ++ (byte ∷ rest)) ≡ piece.Token (lexeme_of kind (length spelling)))
    → list_open_behind kind false ≡ false → AreWhole (spelling ++ byte ∷ []) (a_word kind spelling ∷ [])
word_ends kind spelling byte some blank there closed rest more cut =
    subst (λ (bs : List ℕ). AreCut false bs (a_word kind spelling ∷ more)) (sym (append_assoc spelling (byte ∷ []) rest))
    (word_cut false (a_word kind spelling) (byte ∷ rest) more some (there rest)
    (subst (λ (flag : Bool). AreCut flag (byte ∷ rest) more) (sym closed) (space_cut byte rest more blank cut)))

-- ---- Lists

comma_stays_apart : (bytes : List ℕ) → StaysApart (44 ∷ 32 ∷ bytes)
comma_stays_apart bytes rest is = apart 44 (32 ∷ (bytes ++ rest)) refl refl

comma_in : (open_list : Bool) (bytes : List ℕ) (words : List Word) → ExtendsIn open_list bytes words
    → ExtendsIn open_list (44 ∷ 32 ∷ bytes) (a_word COMMA (codes ",") ∷ words)
comma_in true bytes words inside rest more apart_rest cut =
    word_cut true (a_word COMMA (codes ",")) (32 ∷ (bytes ++ rest)) (words ++ more) (omega arith) refl
    (blank_cut true (bytes ++ rest) (words ++ more) (inside rest more apart_rest cut))
comma_in false bytes words inside rest more apart_rest cut =
    word_cut false (a_word COMMA (codes ",")) (32 ∷ (bytes ++ rest)) (words ++ more) (omega arith) refl
    (blank_cut false (bytes ++ rest) (words ++ more) (inside rest more apart_rest cut))

nothing_in : (open_list : Bool) → ExtendsIn open_list [] []
nothing_in open_list rest more apart_rest cut = cut

pub commas_in : {A : Type 0} (open_list : Bool) (text : A → List ℕ) (words : A → List Word) (xs : List A)
    → Every (λ (x : A). ExtendsIn open_list (text x) (words x)) xs
    → ExtendsIn open_list (commas (map text xs)) (commas_words (map words xs))
commas_in open_list text words [] each = nothing_in open_list
commas_in open_list text words (x ∷ []) each =
    subst (λ (bytes : List ℕ). ExtendsIn open_list bytes (words x)) (sym (append-nil (text x))) each.0
commas_in open_list text words (x ∷ (y ∷ xs)) each =
    let listed : List ℕ = commas (map text (y ∷ xs)) in
    let others : List Word = commas_words (map words (y ∷ xs)) in
    joined_in open_list (text x) (44 ∷ 32 ∷ listed) (words x) (a_word COMMA (codes ",") ∷ others) each.0 (comma_stays_apart listed)
    (comma_in open_list listed others (commas_in open_list text words (y ∷ xs) each.1))

pub commas_extend : {X : Type 0} (text : X → List ℕ) (words : X → List Word) (x : X) (xs : List X)
    → Every (λ (y : X). Extends (text y) (words y)) (x ∷ xs)
    → Extends (commas (map text (x ∷ xs))) (commas_words (map words (x ∷ xs)))
commas_extend text words x xs all = commas_in false text words (x ∷ xs) all

-- lines, one behind the other
pub lines_end : {X : Type 0} (text : X → List ℕ) (words : X → List Word) (xs : List X)
    → Every (λ (y : X). AreWhole (text y) (words y)) xs → AreWhole (concat (map text xs)) (flat_map words xs)
lines_end text words [] all = nothing_ends
lines_end text words (x ∷ xs) all =
    ends_joined (text x) (concat (map text xs)) (words x) (flat_map words xs) all.0 (lines_end text words xs all.1)
