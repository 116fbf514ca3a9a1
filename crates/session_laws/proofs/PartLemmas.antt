-- What begins at a place is a part, by the definitions of the lexer.
use Rattle.std.proofs.Common.{◌≡◌, ℕ, suc, ◌+◌, ◌≤◌, Bool, true, false, if◌then◌else◌, List, [], ◌∷◌, ◌++◌, take, drop, length, codes, Option, None, Some, refl, ap, sym, ◌∙◌, subst, arith}
use Rattle.std.proofs.lemmas.List.{append_assoc, length-append, take-append-drop}
use Rattle.lotos_lexer.specs.declared.lexemes.Lexeme.{Lexeme}
use Rattle.lotos_lexer.specs.declared.pieces.Piece.{Piece}
use Rattle.lotos_lexer.specs.declared.pieces.Piece.TheVariants as piece
use Rattle.lotos_lexer.specs.Bytes.{first_is, begins_with, is_blank, IsSpan}
use Rattle.lotos_lexer.specs.Lexemes.{lexeme_of, lexeme_at}
use Rattle.lotos_lexer.specs.Pieces.{close_at, comment, token, piece_at}
use Rattle.lotos_lexer.proofs.Spans.{LexemeSpans, lexeme_at_spans}
use Rattle.session_laws.specs.LongestTokens.{IsToken, IsLongest, HasNoToken, IsTokenTaken}
use Rattle.session_laws.specs.Cuttings.{TextPart, a_blank, a_comment, a_token, part_bytes, TellsOpen, IsComment, BeginsPlainly, Stands, IsBadByte, IsOpenComment, Ending, at_the_end, at_a_bad_byte, at_an_open_comment, TextEnds}
use Rattle.session_laws.proofs.WordLemmas.{taken_long}
use Rattle.session_laws.proofs.LongestLemmas.{begins_so, tokens_are_longest}
use Rattle.session_laws.proofs.CommentLemmas.{rest_of, close_of, close_found, close_none}

-- ---- The token that is taken

-- the longest token is the one that is taken
pub taken_of : (open_list : Bool) (bytes : List ℕ) (kind count : ℕ) → IsLongest open_list bytes kind count
    → lexeme_at open_list bytes ≡ Some (lexeme_of kind count)
taken_of open_list bytes kind count longest = by (lexeme_at open_list bytes) (tokens_are_longest open_list bytes)
  where
    by : (found : Option Lexeme) → IsTokenTaken open_list bytes found → found ≡ Some (lexeme_of kind count)
    by None none = absurd (none count kind longest.within longest.token)
    by (Some lexeme) taken =
        let least = taken.longest count kind longest.within longest.token in
        let most = longest.longest lexeme.length lexeme.kind taken.within taken.token in
        let same : lexeme.length ≡ count = omega (arith, least, most) in
        let alike : lexeme.kind ≡ kind =
        longest.alone lexeme.kind (subst (λ (n : ℕ). IsToken open_list lexeme.kind (take n bytes)) same taken.token) in
        ap (λ (k : ℕ). Some (lexeme_of k lexeme.length)) alike ∙ ap (λ (n : ℕ). Some (lexeme_of kind n)) same

none_taken : (open_list : Bool) (bytes : List ℕ) → HasNoToken open_list bytes → lexeme_at open_list bytes ≡ None
none_taken open_list bytes none = by (lexeme_at open_list bytes) (tokens_are_longest open_list bytes)
  where
    by : (found : Option Lexeme) → IsTokenTaken open_list bytes found → found ≡ None
    by None taken = refl
    by (Some lexeme) taken = absurd (none lexeme.length lexeme.kind taken.within taken.token)

-- what is told of parts is one
one_told : (one other : Bool) (parts : List TextPart) → TellsOpen one parts → TellsOpen other parts → one ≡ other
one_told true true parts told also = refl
one_told true false parts told also = absurd (also told)
one_told false true parts told also = absurd (told also)
one_told false false parts told also = refl

-- ---- What begins where a part stands

-- what the part is for the lexer
abbrev pub piece_of : TextPart → Piece
piece_of (a_blank byte) = piece.Blank
piece_of (a_comment bytes) = piece.Comment (length bytes)
piece_of (a_token kind bytes) = piece.Token (lexeme_of kind (length bytes))

-- what begins plainly is a token or nothing
plain_piece : (open_list : Bool) (bytes : List ℕ) → BeginsPlainly bytes → piece_at open_list bytes ≡ token (lexeme_at open_list bytes)
plain_piece open_list bytes plain =
    ap (λ (b : Bool). if b then piece.Blank
    else if begins_with (codes "(*") bytes then comment (close_at (drop 2 bytes)) else token (lexeme_at open_list bytes)) plain.no_blank
    ∙ ap (λ (b : Bool). if b then comment (close_at (drop 2 bytes)) else token (lexeme_at open_list bytes)) plain.no_comment

comment_piece : (open_list : Bool) (bytes rest : List ℕ) → IsComment bytes
    → piece_at open_list (bytes ++ rest) ≡ piece.Comment (length bytes)
comment_piece open_list bytes rest is =
    subst (λ (bs : List ℕ). piece_at open_list (bs ++ rest) ≡ piece.Comment (length bs)) (sym is.made_up)
    (ap (λ (bs : List ℕ). comment (close_at bs)) (append_assoc is.inner (codes "*)") rest)
    ∙ (ap comment (close_of is.inner rest is.first)
    ∙ ap (λ (n : ℕ). piece.Comment n) counted))
  where
    counted : 2 + suc (suc (length is.inner)) ≡ length (codes "(*" ++ (is.inner ++ codes "*)"))
    counted =
        let all = length-append (codes "(*") (is.inner ++ codes "*)") in
        let inside = length-append is.inner (codes "*)") in
        omega (arith, all, inside)

pub stands_piece : (open_list : Bool) (before : List TextPart) (part : TextPart) (rest : List ℕ) → TellsOpen open_list before
    → Stands before part rest
    → piece_at open_list (part_bytes part ++ rest) ≡ piece_of part
stands_piece open_list before (a_blank byte) rest told stands =
    ap (λ (b : Bool). if b then piece.Blank
    else if begins_with (codes "(*") (byte ∷ rest) then comment (close_at (drop 2 (byte ∷ rest)))
    else token (lexeme_at open_list (byte ∷ rest))) stands
stands_piece open_list before (a_comment bytes) rest told stands = comment_piece open_list bytes rest stands
stands_piece open_list before (a_token kind bytes) rest told stands =
    plain_piece open_list (bytes ++ rest) stands.plain
    ∙ ap token (taken_of open_list (bytes ++ rest) kind (length bytes)
    (subst (λ (o : Bool). IsLongest o (bytes ++ rest) kind (length bytes)) (one_told stands.open_list open_list before stands.told told)
    stands.longest))

pub bad_piece : (open_list : Bool) (before : List TextPart) (rest : List ℕ) → TellsOpen open_list before → IsBadByte before rest
    → piece_at open_list rest ≡ piece.Nothing
bad_piece open_list before rest told bad =
    plain_piece open_list rest bad.plain
    ∙ ap token (none_taken open_list rest
    (subst (λ (o : Bool). HasNoToken o rest) (one_told bad.open_list open_list before bad.told told) bad.none))

pub open_piece : (open_list : Bool) (rest : List ℕ) → IsOpenComment rest → piece_at open_list rest ≡ piece.Unclosed
open_piece open_list rest is =
    subst (λ (bs : List ℕ). piece_at open_list bs ≡ piece.Unclosed) (sym is.made_up) (by (close_at is.inner) refl)
  where
    by : (closed : Option ℕ) → close_at is.inner ≡ closed → comment closed ≡ piece.Unclosed
    by None at = refl
    by (Some n) at = let closed = close_found is.inner n at in absurd (is.never closed.inner closed.back closed.made_up)

-- ---- A part stands where something begins

-- the rest of a text begins with a part, is empty, or begins with a fault
pub data Begins (open_list : Bool) (before : List TextPart) (text : List ℕ) : Type 0 where
  with_part : (part : TextPart) (rest : List ℕ) → text ≡ part_bytes part ++ rest → Stands before part rest → Begins open_list before text
  with_fault : (ending : Ending) → TextEnds before text ending → Begins open_list before text

pub begins : (open_list : Bool) (before : List TextPart) (text : List ℕ) → TellsOpen open_list before → Begins open_list before text
begins open_list before [] told = with_fault at_the_end refl
begins open_list before (byte ∷ bytes) told =
    by_blank (is_blank byte) refl
  where
    text : List ℕ
    text = byte ∷ bytes

    token_there : BeginsPlainly text → (found : Option Lexeme) → lexeme_at open_list text ≡ found → IsTokenTaken open_list text found
        → Begins open_list before text
    token_there plain None is none =
        with_fault at_a_bad_byte (record { some = λ e. cc e; plain = plain; open_list = open_list; told = told; none = none })
    token_there plain (Some lexeme) is taken =
        let long : length (take lexeme.length text) ≡ lexeme.length = taken_long lexeme.length text taken.within in
        let whole : take lexeme.length text ++ drop lexeme.length text ≡ text = take-append-drop lexeme.length text in
        with_part (a_token lexeme.kind (take lexeme.length text)) (drop lexeme.length text) (sym whole) (record {
          plain = subst BeginsPlainly (sym whole) plain;
          open_list = open_list;
          told = told;
          longest = subst (λ (bs : List ℕ). IsLongest open_list bs lexeme.kind (length (take lexeme.length text))) (sym whole)
              (subst (IsLongest open_list text lexeme.kind) (sym long) taken);
        })

    comment_there : text ≡ codes "(*" ++ drop 2 text → (found : Option ℕ) → close_at (drop 2 text) ≡ found → Begins open_list before text
    comment_there is None at =
        with_fault at_an_open_comment (record {
          inner = drop 2 text;
          made_up = is;
          never = λ front back made. close_none front back (ap close_at (sym made) ∙ at);
        })
    comment_there is (Some n) at =
        let closed = close_found (drop 2 text) n at in
        with_part (a_comment (codes "(*" ++ (closed.inner ++ codes "*)"))) closed.back
        (is ∙ ap (λ (bs : List ℕ). codes "(*" ++ bs) (closed.made_up ∙ sym (append_assoc closed.inner (codes "*)") closed.back)))
        (record { inner = closed.inner; made_up = refl; first = closed.first })

    by_comment : first_is is_blank text ≡ false → (opened : Bool) → begins_with (codes "(*") text ≡ opened → Begins open_list before text
    by_comment no_blank true is = comment_there (rest_of (codes "(*") text (begins_so (codes "(*") text is)) (close_at (drop 2 text)) refl
    by_comment no_blank false is =
        token_there (record { no_blank = no_blank; no_comment = is }) (lexeme_at open_list text) refl (tokens_are_longest open_list text)

    by_blank : (blank : Bool) → is_blank byte ≡ blank → Begins open_list before text
    by_blank true is = with_part (a_blank byte) bytes refl is
    by_blank false is = by_comment is (begins_with (codes "(*") text) refl

-- ---- Parts have bytes, and what begins tells the part

pub stands_long : (before : List TextPart) (part : TextPart) (rest : List ℕ) → Stands before part rest
    → IsSpan (length (part_bytes part)) (part_bytes part ++ rest)
stands_long before part rest stands =
    let some = at_least before part rest stands in
    let all = length-append (part_bytes part) rest in
    (some, omega (arith, all))
  where
    at_least : (before : List TextPart) (part : TextPart) (rest : List ℕ) → Stands before part rest → 1 ≤ length (part_bytes part)
    at_least before (a_blank byte) rest stands = omega arith
    at_least before (a_comment bytes) rest stands =
        let long = ap (λ (bs : List ℕ). length bs) stands.made_up in
        let all = length-append (codes "(*") (stands.inner ++ codes "*)") in
        omega (arith, long, all)
    at_least before (a_token kind bytes) rest stands =
        let spans = lexeme_at_spans stands.open_list (bytes ++ rest) in
        (subst (λ (found : Option Lexeme). LexemeSpans found (bytes ++ rest))
        (taken_of stands.open_list (bytes ++ rest) kind (length bytes) stands.longest) spans).0

same_pieces : (one other : TextPart) (left right : List ℕ) → piece_of one ≡ piece_of other
    → part_bytes one ++ left ≡ part_bytes other ++ right
    → length (part_bytes one) ≡ length (part_bytes other)
same_pieces (a_blank byte) (a_blank other) left right alike same = refl
same_pieces (a_blank byte) (a_comment bytes) left right alike same = absurd (cc alike)
same_pieces (a_blank byte) (a_token kind bytes) left right alike same = absurd (cc alike)
same_pieces (a_comment bytes) (a_blank other) left right alike same = absurd (cc alike)
same_pieces (a_comment bytes) (a_comment others) left right alike same = cc alike
same_pieces (a_comment bytes) (a_token kind others) left right alike same = absurd (cc alike)
same_pieces (a_token kind bytes) (a_blank other) left right alike same = absurd (cc alike)
same_pieces (a_token kind bytes) (a_comment others) left right alike same = absurd (cc alike)
same_pieces (a_token kind bytes) (a_token kind' others) left right alike same = ap length_of alike
  where
    length_of : Piece → ℕ
    length_of (piece.Token lexeme) = lexeme.length
    length_of (piece.Comment n) = n
    length_of piece.Blank = 1
    length_of piece.Unclosed = 0
    length_of piece.Nothing = 0

same_front : (one other left right : List ℕ) → length one ≡ length other → one ++ left ≡ other ++ right → (one ≡ other) × (left ≡ right)
same_front [] [] left right long same = (refl, same)
same_front [] (b ∷ bs) left right long same = absurd (cc long)
same_front (a ∷ as_) [] left right long same = absurd (cc long)
same_front (a ∷ as_) (b ∷ bs) left right long same =
    let shorter : length as_ ≡ length bs = (let l = long in omega (arith, l)) in
    let rest = same_front as_ bs left right shorter (ap (drop 1) same) in
    let first : a ≡ b = cc same in
    (ap (λ (x : ℕ). x ∷ as_) first ∙ ap (λ (xs : List ℕ). b ∷ xs) rest.0, rest.1)

pub same_part : (one other : TextPart) (left right : List ℕ) → piece_of one ≡ piece_of other
    → part_bytes one ++ left ≡ part_bytes other ++ right
    → (one ≡ other) × (left ≡ right)
same_part one other left right alike same =
    let both = same_front (part_bytes one) (part_bytes other) left right (same_pieces one other left right alike same) same in
    (by one other alike both.0, both.1)
  where
    by : (one other : TextPart) → piece_of one ≡ piece_of other → part_bytes one ≡ part_bytes other → one ≡ other
    by (a_blank byte) (a_blank other) alike bytes = let same : byte ≡ other = cc bytes in ap (λ (b : ℕ). a_blank b) same
    by (a_blank byte) (a_comment others) alike bytes = absurd (cc alike)
    by (a_blank byte) (a_token kind others) alike bytes = absurd (cc alike)
    by (a_comment ours) (a_blank other) alike bytes = absurd (cc alike)
    by (a_comment ours) (a_comment others) alike bytes = ap (λ (bs : List ℕ). a_comment bs) bytes
    by (a_comment ours) (a_token kind others) alike bytes = absurd (cc alike)
    by (a_token kind ours) (a_blank other) alike bytes = absurd (cc alike)
    by (a_token kind ours) (a_comment others) alike bytes = absurd (cc alike)
    by (a_token kind ours) (a_token kind' others) alike bytes =
        let same : kind ≡ kind' = ap kind_of alike in
        ap (λ (k : ℕ). a_token k ours) same ∙ ap (λ (bs : List ℕ). a_token kind' bs) bytes
      where
        kind_of : Piece → ℕ
        kind_of (piece.Token lexeme) = lexeme.kind
        kind_of (piece.Comment n) = n
        kind_of piece.Blank = 1
        kind_of piece.Unclosed = 0
        kind_of piece.Nothing = 0
