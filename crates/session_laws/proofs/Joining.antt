-- Texts that are cut into words, put together of parts.
use Rattle.std.proofs.Common.{◌≡◌, ℕ, suc, Bool, true, false, ◌&&◌, not, List, [], ◌∷◌, ◌++◌, take, drop, Option, Some, None, unwrap_or, refl, ap, sym, ◌∙◌, subst, arith, append_assoc, codes}
use Rattle.std.specs.Prelude.{nat_eq, if◌then◌else◌}
use Rattle.std.specs.Option.{option_or}
use Rattle.std.specs.Char.{is_ascii_alphabetic}
use Rattle.std.proofs.lemmas.Bool.Decides.{Decides-eqb}
use Rattle.lotos_lexer.specs.declared.lexemes.Lexeme.{Lexeme}
use Rattle.lotos_lexer.specs.declared.kinds.TheConstants.{NAME, EQUALS, COLON, STOP, EXIT, NOEXIT, LEFT_BRACKET, RIGHT_BRACKET, CHOICE_SIGN, DISABLING, DEFINITION}
use Rattle.lotos_lexer.specs.declared.pieces.Piece.TheVariants as piece
use Rattle.lotos_lexer.specs.Bytes.{first_is, is_blank}
use Rattle.lotos_lexer.specs.Bytes as lexer
use Rattle.lotos_lexer.specs.Spellings.{reserved_words}
use Rattle.lotos_lexer.specs.Lexemes.{lexeme_of, lexeme_at, word_length, word_kind_in, digit_name, operator, closing, run_of_signs, single_sign}
use Rattle.lotos_lexer.specs.Pieces.{close_at, comment, token, piece_at}
use Rattle.printed_texts.specs.Brackets.{begins_with_sign, spaced, square}
use Rattle.session_laws.specs.TextNames.{IsWordSpelling}
use Rattle.session_laws.proofs.NameTokens.{IsApart, word_piece}
use Rattle.session_laws.proofs.PartsOfText.{apart}
use Rattle.session_laws.specs.PrintedWords.{Word, a_word, name_word, square_words}
use Rattle.session_laws.specs.CutTexts.{AreCut, AreWhole}
use Rattle.session_laws.proofs.Extending.{word_cut, blank_cut, ExtendsIn, Extends, StaysApart, some_bytes}
use Rattle.session_laws.proofs.ExtendingParts.{space_ends, word_ends}

-- ---- Parts one behind the other

pub stays_joined : (xs ys : List ℕ) → StaysApart xs → StaysApart ys → StaysApart (xs ++ ys)
stays_joined xs ys first second rest is =
    subst (λ (bytes : List ℕ). IsApart bytes) (sym (append_assoc xs ys rest)) (first (ys ++ rest) (second rest is))

pub four_assoc : {A : Type 0} (a b c d : List A) → ((a ++ b) ++ c) ++ d ≡ a ++ (b ++ (c ++ d))
four_assoc a b c d = append_assoc (a ++ b) c d ∙ append_assoc a b (c ++ d)

pub five_assoc : {A : Type 0} (a b c d e : List A) → (((a ++ b) ++ c) ++ d) ++ e ≡ a ++ (b ++ (c ++ (d ++ e)))
five_assoc a b c d e = append_assoc ((a ++ b) ++ c) d e ∙ four_assoc a b c (d ++ e)

-- ---- A name, whether or not a list of gates is open

word_first : (open_list : Bool) (bytes : List ℕ) → first_is is_ascii_alphabetic bytes ≡ true
    → lexeme_at open_list bytes ≡ Some (lexeme_of (unwrap_or (word_kind_in reserved_words (take (word_length bytes) bytes)) NAME)
    (word_length bytes))
word_first open_list bytes begins =
    ap (λ (t : Bool). option_or
    (if t then Some (lexeme_of (unwrap_or (word_kind_in reserved_words (take (word_length bytes) bytes)) NAME) (word_length bytes))
    else None)
    (option_or (digit_name bytes) (option_or (operator bytes) (option_or (closing open_list bytes)
    (option_or (run_of_signs bytes) (single_sign bytes))))))
    begins

same_piece : (open_list : Bool) (bytes : List ℕ) → first_is is_ascii_alphabetic bytes ≡ true
    → piece_at open_list bytes ≡ piece_at false bytes
same_piece open_list bytes begins =
    ap (λ (l : Option Lexeme). if first_is is_blank bytes then piece.Blank
    else (if lexer.begins_with (codes "(*") bytes then comment (close_at (drop 2 bytes)) else token l))
    (word_first open_list bytes begins ∙ sym (word_first false bytes begins))

pub first_joined : (test : ℕ → Bool) (xs ys : List ℕ) → first_is test xs ≡ true → first_is test (xs ++ ys) ≡ true
first_joined test [] ys is = let never : false ≡ true = is in cc
first_joined test (x ∷ xs) ys is = is

pub name_in : (open_list : Bool) (name : List ℕ) → IsWordSpelling name → ExtendsIn open_list name (name_word name ∷ [])
name_in open_list name is rest more apart_rest cut =
    word_cut open_list (name_word name) rest more (some_bytes is_ascii_alphabetic name is.begins)
    (same_piece open_list (name ++ rest) (first_joined is_ascii_alphabetic name rest is.begins) ∙ word_piece name rest is apart_rest) cut

-- ---- Square brackets

-- `[` before another byte than `]` and `>` is a token of its own
bracket_piece : (b : ℕ) (bytes : List ℕ) → nat_eq 93 b ≡ false → nat_eq 62 b ≡ false
    → piece_at false (91 ∷ b ∷ bytes) ≡ piece.Token (lexeme_of LEFT_BRACKET 1)
bracket_piece b bytes no_close no_arrow = by (nat_eq 93 b) no_close (nat_eq 62 b) no_arrow
  where
    by : (x : Bool) → x ≡ false → (y : Bool) → y ≡ false
        → token (option_or (if (x && true) then Some (lexeme_of CHOICE_SIGN 2)
        else (if (y && true) then Some (lexeme_of DISABLING 2) else None)) (Some (lexeme_of LEFT_BRACKET 1)))
        ≡ piece.Token (lexeme_of LEFT_BRACKET 1)
    by true h y k = cc
    by false h true k = cc
    by false h false k = refl

-- the first byte is there and does not close a bracket
abbrev pub OpensList : List ℕ → Type 0
OpensList bytes = first_is (λ (b : ℕ). not (nat_eq 93 b)) bytes ≡ true

not_closing : (b : ℕ) → not (nat_eq 93 b) ≡ true → nat_eq 93 b ≡ false
not_closing b is = by (nat_eq 93 b) is
  where
    by : (x : Bool) → not x ≡ true → x ≡ false
    by true h = cc
    by false h = refl

turned : (b : ℕ) → nat_eq b 62 ≡ false → nat_eq 62 b ≡ false
turned b other = by (nat_eq 62 b) refl
  where
    by : (same : Bool) → nat_eq 62 b ≡ same → same ≡ false
    by true same = ap (λ (n : ℕ). nat_eq n 62) ((Decides-eqb 62 b).0 same) ∙ other
    by false same = refl

bracket_there : (bytes more : List ℕ) (arrow : Bool) → begins_with_sign 62 bytes ≡ arrow → OpensList bytes
    → piece_at false (91 ∷ ((if arrow then codes " " ++ bytes else bytes) ++ more)) ≡ piece.Token (lexeme_of LEFT_BRACKET 1)
bracket_there bytes more true is opens = bracket_piece 32 (bytes ++ more) refl refl
bracket_there [] more false is opens = let never : false ≡ true = opens in cc
bracket_there (b ∷ bytes) more false is opens = bracket_piece b (bytes ++ more) (not_closing b opens) (turned b is)

pub square_extends : (bytes : List ℕ) (words : List Word) → OpensList bytes → Extends bytes words
    → Extends (square bytes) (square_words words)
square_extends bytes words opens inside rest more apart_rest cut =
    subst (λ (ws : List Word). AreCut false (square bytes ++ rest) (a_word LEFT_BRACKET (codes "[") ∷ ws))
    (sym (append_assoc words (a_word RIGHT_BRACKET (codes "]") ∷ []) more))
    (subst
    (λ (bs : List ℕ). AreCut false bs
    (a_word LEFT_BRACKET (codes "[") ∷ (words ++ (a_word RIGHT_BRACKET (codes "]") ∷ more))))
    (sym (ap (λ (bs : List ℕ). bs) (append_assoc (codes "[" ++ spaced 62 bytes) (codes "]") rest)))
    (word_cut false (a_word LEFT_BRACKET (codes "[")) (spaced 62 bytes ++ (93 ∷ rest)) _ (omega arith)
    (bracket_there bytes (93 ∷ rest) (begins_with_sign 62 bytes) refl opens)
    (by (begins_with_sign 62 bytes))))
  where
    closed : AreCut false (93 ∷ rest) (a_word RIGHT_BRACKET (codes "]") ∷ more)
    closed = word_cut false (a_word RIGHT_BRACKET (codes "]")) rest more (omega arith) refl cut

    within : AreCut false (bytes ++ (93 ∷ rest)) (words ++ (a_word RIGHT_BRACKET (codes "]") ∷ more))
    within = inside (93 ∷ rest) _ (apart 93 rest refl refl) closed

    by : (arrow : Bool) → AreCut false ((if arrow then codes " " ++ bytes else bytes) ++ (93 ∷ rest))
        (words ++ (a_word RIGHT_BRACKET (codes "]") ∷ more))
    by true = blank_cut false (bytes ++ (93 ∷ rest)) _ within
    by false = within

pub square_stays : (bytes : List ℕ) → StaysApart (square bytes)
square_stays bytes rest is = apart 91 ((spaced 62 bytes ++ codes "]") ++ rest) refl refl

-- a text that begins with a byte of a class without `]`
pub opens_by : (test : ℕ → Bool) (bytes : List ℕ) → test 93 ≡ false → first_is test bytes ≡ true → OpensList bytes
opens_by test [] other is = let never : false ≡ true = is in cc
opens_by test (b ∷ bytes) other is = by (nat_eq 93 b) refl
  where
    by : (same : Bool) → nat_eq 93 b ≡ same → not same ≡ true
    by true same =
        let never : true ≡ false = sym is ∙ (ap test (sym ((Decides-eqb 93 b).0 same)) ∙ other) in cc
    by false same = refl

pub opens_joined : (xs ys : List ℕ) → OpensList xs → OpensList (xs ++ ys)
opens_joined xs ys is = first_joined (λ (b : ℕ). not (nat_eq 93 b)) xs ys is

pub word_opens : (name : List ℕ) → IsWordSpelling name → OpensList name
word_opens name is = opens_by is_ascii_alphabetic name refl is.begins

-- ---- A colon before a name

colon_piece : (b : ℕ) (bytes : List ℕ) → nat_eq 61 b ≡ false → piece_at false (58 ∷ b ∷ bytes) ≡ piece.Token (lexeme_of COLON 1)
colon_piece b bytes other = by (nat_eq 61 b) other
  where
    by : (x : Bool) → x ≡ false
        → token (option_or (if (x && true) then Some (lexeme_of DEFINITION 2) else None) (Some (lexeme_of COLON 1)))
        ≡ piece.Token (lexeme_of COLON 1)
    by true h = cc
    by false h = refl

no_equals : (b : ℕ) → is_ascii_alphabetic b ≡ true → nat_eq 61 b ≡ false
no_equals b is = by (nat_eq 61 b) refl
  where
    by : (same : Bool) → nat_eq 61 b ≡ same → same ≡ false
    by true same =
        let never : true ≡ false = sym is ∙ ap is_ascii_alphabetic (sym ((Decides-eqb 61 b).0 same)) in cc
    by false same = refl

colon_there : (name rest : List ℕ) → IsWordSpelling name → piece_at false (58 ∷ (name ++ rest)) ≡ piece.Token (lexeme_of COLON 1)
colon_there [] rest is = let never : false ≡ true = is.begins in cc
colon_there (b ∷ bytes) rest is = colon_piece b (bytes ++ rest) (no_equals b is.begins)

pub colon_extends : (name : List ℕ) → IsWordSpelling name
    → Extends (58 ∷ name) (a_word COLON (codes ":") ∷ name_word name ∷ [])
colon_extends name is rest more apart_rest cut =
    word_cut false (a_word COLON (codes ":")) (name ++ rest) (name_word name ∷ more) (omega arith) (colon_there name rest is)
    (name_in false name is rest more apart_rest cut)

pub colon_stays : (name : List ℕ) → StaysApart (58 ∷ name)
colon_stays name rest is = apart 58 (name ++ rest) refl refl

-- ---- Reserved words before what goes on with no word

stop_piece : (rest : List ℕ) → IsApart rest → piece_at false (codes "stop" ++ rest) ≡ piece.Token (lexeme_of STOP 4)
stop_piece rest is =
    ap (λ (n : ℕ). piece.Token (lexeme_of
    (unwrap_or (word_kind_in reserved_words (take (suc (suc (suc (suc n)))) (codes "stop" ++ rest))) NAME) (suc (suc (suc (suc n))))))
    is.no_word

pub stop_extends : Extends (codes "stop") (a_word STOP (codes "stop") ∷ [])
stop_extends rest more apart_rest cut =
    word_cut false (a_word STOP (codes "stop")) rest more (omega arith) (stop_piece rest apart_rest) cut

exit_piece : (rest : List ℕ) → IsApart rest → piece_at false (codes "exit" ++ rest) ≡ piece.Token (lexeme_of EXIT 4)
exit_piece rest is =
    ap (λ (n : ℕ). piece.Token (lexeme_of
    (unwrap_or (word_kind_in reserved_words (take (suc (suc (suc (suc n)))) (codes "exit" ++ rest))) NAME) (suc (suc (suc (suc n))))))
    is.no_word

pub exit_extends : Extends (codes "exit") (a_word EXIT (codes "exit") ∷ [])
exit_extends rest more apart_rest cut =
    word_cut false (a_word EXIT (codes "exit")) rest more (omega arith) (exit_piece rest apart_rest) cut

noexit_piece : (rest : List ℕ) → IsApart rest → piece_at false (codes "noexit" ++ rest) ≡ piece.Token (lexeme_of NOEXIT 6)
noexit_piece rest is =
    ap (λ (n : ℕ). piece.Token (lexeme_of
    (unwrap_or (word_kind_in reserved_words (take (suc (suc (suc (suc (suc (suc n)))))) (codes "noexit" ++ rest))) NAME)
    (suc (suc (suc (suc (suc (suc n))))))))
    is.no_word

pub noexit_extends : Extends (codes "noexit") (a_word NOEXIT (codes "noexit") ∷ [])
noexit_extends rest more apart_rest cut =
    word_cut false (a_word NOEXIT (codes "noexit")) rest more (omega arith) (noexit_piece rest apart_rest) cut

-- ---- Blanks

-- `=` between blanks
pub equals_whole : AreWhole (codes " = ") (a_word EQUALS (codes "=") ∷ [])
equals_whole =
    space_ends (codes "= ") (a_word EQUALS (codes "=") ∷ [])
    (word_ends EQUALS (codes "=") 32 (omega arith) refl (λ (rest : List ℕ). refl) refl)

pub blank_apart : (bytes rest : List ℕ) → IsApart ((32 ∷ bytes) ++ rest)
blank_apart bytes rest = apart 32 (bytes ++ rest) refl refl
