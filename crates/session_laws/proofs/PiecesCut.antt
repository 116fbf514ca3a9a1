-- A text in pieces is cut into its words.
use Rattle.std.proofs.Common.{◌≡◌, ℕ, ◌<◌, ◌≤◌, Bool, true, false, List, [], ◌∷◌, ◌++◌, drop, length, refl, ap, sym, ◌∙◌, arith, append_assoc, length-append, codes}
use Rattle.std.specs.Prelude.{if◌then◌else◌}
use Rattle.std.proofs.Math.Seq.{take-append_seam, drop-append_seam}
use Rattle.lotos_lexer.specs.declared.positions.Position.{Position}
use Rattle.lotos_lexer.specs.declared.tokens.Token.{Token}
use Rattle.lotos_lexer.specs.declared.pieces.Piece.{Piece}
use Rattle.lotos_lexer.specs.declared.pieces.Piece.TheVariants as piece
use Rattle.lotos_lexer.specs.Bytes.{begins_with, is_blank}
use Rattle.lotos_lexer.specs.Lexemes.{lexeme_of, lexeme_at}
use Rattle.lotos_lexer.specs.Pieces.{close_at, comment, token, piece_at}
use Rattle.lotos_lexer.specs.Tokens as lexed
use Rattle.lotos_lexer.specs.Tokens.{Lexed, start, behind, behind_all, with_token, token_at, list_open_behind, cut}
use Rattle.lotos_lexer.proofs.CuttingLemmas.{cut-token, cut-blank}
use Rattle.session_laws.proofs.CutPieces.{behind_bytes, behind_joined, spelled_there}
use Rattle.session_laws.specs.PrintedWords.{Word, AreWords}
use Rattle.session_laws.specs.TextPieces.{TextPiece, word_piece, blank_piece, bytes_of_pieces, words_of_pieces, AreTokens}
use Rattle.session_laws.specs.PieceLaws.{TextsInPiecesAreCut, PieceExamples}

-- the rest of a text is cut into tokens, which are the words
record IsCutFrom (number : ℕ) (text before : List ℕ) (open_list : Bool) (bytes : List ℕ) (words : List Word) : Type 0 where
  tokens : List Token
  cut_is : cut number 0 open_list (behind_bytes before) bytes ≡ lexed.Tokens tokens
  are : AreWords text tokens words

blank_there : (open_list : Bool) (byte : ℕ) (rest : List ℕ) → is_blank byte ≡ true → piece_at open_list (byte ∷ rest) ≡ piece.Blank
blank_there open_list byte rest is =
    ap
    (λ (b : Bool). if b then piece.Blank
    else (if begins_with (codes "(*") (byte ∷ rest) then comment (close_at (drop 2 (byte ∷ rest)))
    else token (lexeme_at open_list (byte ∷ rest))))
    is

cut_at_blank : (number : ℕ) (before : List ℕ) (open_list : Bool) (byte : ℕ) (rest : List ℕ) → is_blank byte ≡ true
    → cut number 0 open_list (behind_bytes before) (byte ∷ rest) ≡ cut number 0 open_list (behind_bytes (before ++ byte ∷ [])) rest
cut_at_blank number before open_list byte rest is =
    cut-blank number open_list (behind_bytes before) (byte ∷ rest) span (blank_there open_list byte rest is)
    ∙ ap (λ (position : Position). cut number 0 open_list position rest) (sym (behind_joined before (byte ∷ []) start))
  where
    span : (0 < 1) × (1 ≤ length (byte ∷ rest))
    span = (omega arith, omega arith)

cut_at_word : (number : ℕ) (before : List ℕ) (open_list : Bool) (word : Word) (rest : List ℕ) → 0 < length word.spelling
    → piece_at open_list (word.spelling ++ rest) ≡ piece.Token (lexeme_of word.kind (length word.spelling))
    → cut number 0 open_list (behind_bytes before) (word.spelling ++ rest)
    ≡ with_token (token_at number (behind_bytes before) (lexeme_of word.kind (length word.spelling)))
    (cut number 0 (list_open_behind word.kind open_list) (behind_bytes (before ++ word.spelling)) rest)
cut_at_word number before open_list word rest some there =
    cut-token number (lexeme_of word.kind (length bytes)) open_list (behind_bytes before) (bytes ++ rest) span there
    ∙ ap (λ (taken : List ℕ). with_token here (cut number 0 flag (behind_all taken (behind_bytes before))
    (drop (length bytes) (bytes ++ rest)))) (take-append_seam bytes rest)
    ∙ ap (λ (left : List ℕ). with_token here (cut number 0 flag (behind_all bytes (behind_bytes before)) left))
    (drop-append_seam bytes rest)
    ∙ ap (λ (position : Position). with_token here (cut number 0 flag position rest)) (sym (behind_joined before bytes start))
  where
    bytes : List ℕ
    bytes = word.spelling

    here : Token
    here = token_at number (behind_bytes before) (lexeme_of word.kind (length bytes))

    flag : Bool
    flag = list_open_behind word.kind open_list

    span : (0 < length bytes) × (length bytes ≤ length (bytes ++ rest))
    span = (some, omega (arith, length-append bytes rest))

pieces_cut : (number : ℕ) (text before : List ℕ) (open_list : Bool) (pieces : List TextPiece) → text ≡ before ++ bytes_of_pieces pieces
    → AreTokens open_list pieces → IsCutFrom number text before open_list (bytes_of_pieces pieces) (words_of_pieces pieces)
pieces_cut number text before open_list [] is are = record { tokens = []; cut_is = refl; are = tt }
pieces_cut number text before open_list (blank_piece byte ∷ pieces) is are =
    let rest =
    pieces_cut number text (before ++ byte ∷ []) open_list pieces
    (is ∙ sym (append_assoc before (byte ∷ []) (bytes_of_pieces pieces))) are.1 in
    record {
      tokens = rest.tokens;
      cut_is = cut_at_blank number before open_list byte (bytes_of_pieces pieces) are.0 ∙ rest.cut_is;
      are = rest.are;
    }
pieces_cut number text before open_list (word_piece word ∷ pieces) is are =
    let here : Token = token_at number (behind_bytes before) (lexeme_of word.kind (length word.spelling)) in
    let rest =
    pieces_cut number text (before ++ word.spelling) (list_open_behind word.kind open_list) pieces
    (is ∙ sym (append_assoc before word.spelling (bytes_of_pieces pieces))) are.2 in
    record {
      tokens = here ∷ rest.tokens;
      cut_is =
          cut_at_word number before open_list word (bytes_of_pieces pieces) are.0 are.1 ∙ ap (with_token here) rest.cut_is;
      are = (
        record {
          kind_is = refl;
          spelling_is = spelled_there number text before word.spelling (bytes_of_pieces pieces) word.kind is;
        },
        rest.are,
      );
    }

pub texts_in_pieces_are_cut : TextsInPiecesAreCut
texts_in_pieces_are_cut number pieces are =
    let all = pieces_cut number (bytes_of_pieces pieces) [] false pieces refl are in
    record { tokens = all.tokens; cut_into = all.cut_is; are_words = all.are }

-- how long a token is
abbrev piece_length : Piece → ℕ
piece_length piece.Blank = 0
piece_length (piece.Comment count) = 0
piece_length (piece.Token lexeme) = lexeme.length
piece_length piece.Unclosed = 0
piece_length piece.Nothing = 0

five_four : ◌≡◌ {A = ℕ} 5 4 → ⊥
five_four same = omega (arith, same)

pub piece_examples : PieceExamples
piece_examples = record {
  text = refl;
  words = refl;
  tokens = (
    omega arith,
    refl,
    (refl, (omega arith, refl, (refl, (omega arith, refl, (refl, (omega arith, refl, tt)))))),
  );
  joined = λ are. five_four (ap piece_length are.1);
}
