-- The kinds of tokens are distinct and below their count, and every token has one of them.
use Rattle.std.proofs.Common.{◌≡◌, ◌≢◌, ℕ, zero, suc, ◌-◌, ◌<◌, Bool, true, false, ◌&&◌, not, List, [], ◌∷◌, take, drop, length, codes, subst, Option, Some, None, sym, ap, ◌∙◌, refl, nat_eq, nat_lt, unwrap_or, cond, arith}
use Rattle.std.specs.Option.{option_or}
use Rattle.std.specs.Prelude.{All, AllPairs, IfSome}
use Rattle.std.specs.Str.{bytes_eq}
use Rattle.std.specs.Char.{is_ascii_alphabetic, is_ascii_digit}
use Rattle.std.specs.List.{prefix_len}
use Rattle.std.proofs.lemmas.Bool.{and_parts, eq-eqb, ltb-true, not-true}
use Rattle.std.proofs.lemmas.List.Elements.{All-cons}
use Rattle.std.proofs.lemmas.List.Kept.{AllPairs-cons}
use Rattle.std.proofs.lemmas.Slice.Eq.{bytes_eq-Decides}
use Rattle.lotos_base.specs.Name.{folded}
use Rattle.lotos_lexer.specs.declared.kinds.TheConstants.{NAME, SIGN_NAME, COUNT}
use Rattle.lotos_lexer.specs.declared.lexemes.Lexeme.{Lexeme}
use Rattle.lotos_lexer.specs.declared.pieces.Piece.{Piece}
use Rattle.lotos_lexer.specs.declared.pieces.Piece.TheVariants as piece
use Rattle.lotos_lexer.specs.declared.positions.Position.{Position}
use Rattle.lotos_lexer.specs.declared.tokens.Token.{Token}
use Rattle.lotos_lexer.specs.Bytes.{first_is, is_blank, is_sign, begins_with}
use Rattle.lotos_lexer.specs.Spellings.{Spelling, reserved_words, operators, reserved_runs, single_signs}
use Rattle.lotos_lexer.specs.Lexemes.{word_length, word_kind_in, kind_in, lexeme_of, spelling_at, word, digit_name, operator, closing, run_of_signs, single_sign, lexeme_at}
use Rattle.lotos_lexer.specs.Pieces.{comment, close_at, token, piece_at}
use Rattle.lotos_lexer.specs.Tokens.{Lexed, Tokens, BadByte, OpenComment, with_token, behind, start, token_at, cut, tokens_of, list_open_behind}
use Rattle.lotos_lexer.specs.Kinds.{spelling_kinds, token_kinds, KindsAreDistinct, KindsAreBelowTheCount, ReservedWordsAreApart, TokensHaveKinds}

-- whether a number is none of a list
abbrev is_new : ℕ → List ℕ → Bool
is_new n [] = true
is_new n (m ∷ ms) = not (nat_eq n m) && is_new n ms

-- whether the numbers of a list are distinct
abbrev are_distinct : List ℕ → Bool
are_distinct [] = true
are_distinct (n ∷ ns) = is_new n ns && are_distinct ns

-- whether the numbers of a list are below the count of kinds
abbrev are_kinds : List ℕ → Bool
are_kinds [] = true
are_kinds (n ∷ ns) = nat_lt n COUNT && are_kinds ns

differ : (n m : ℕ) → not (nat_eq n m) ≡ true → n ≢ m
differ n m apart same =
    let yes : nat_eq n m ≡ true = eq-eqb n m same in
    let never : nat_eq n m ≡ false = not-true (nat_eq n m) apart in
    absurd cc

new_differs : (n : ℕ) (ms : List ℕ) → is_new n ms ≡ true → All (λ m. n ≢ m) ms
new_differs n [] is = λ k d within. absurd (omega arith)
new_differs n (m ∷ ms) is =
    let parts = and_parts (not (nat_eq n m)) (is_new n ms) is in
    All-cons (λ m. n ≢ m) m ms (differ n m parts.0) (new_differs n ms parts.1)

distinct : (ns : List ℕ) → are_distinct ns ≡ true → AllPairs (λ one other. one ≢ other) ns
distinct [] is = λ i j d before within. absurd (omega arith)
distinct (n ∷ ns) is =
    let parts = and_parts (is_new n ns) (are_distinct ns) is in
    AllPairs-cons (λ one other. one ≢ other) n ns (new_differs n ns parts.0) (distinct ns parts.1)

below : (ns : List ℕ) → are_kinds ns ≡ true → All (λ n. n < COUNT) ns
below [] is = λ k d within. absurd (omega arith)
below (n ∷ ns) is =
    let parts = and_parts (nat_lt n COUNT) (are_kinds ns) is in
    All-cons (λ n. n < COUNT) n ns (ltb-true n COUNT parts.0) (below ns parts.1)

pub kinds_distinct : KindsAreDistinct
kinds_distinct = distinct token_kinds refl

pub kinds_below : KindsAreBelowTheCount
kinds_below = below token_kinds refl

-- a kind that is new to the rows of a table is the kind of no word of it
not_in_table : (rows : List Spelling) (spelled : List ℕ) (kind : ℕ) → is_new kind (spelling_kinds rows) ≡ true
    → word_kind_in rows spelled ≡ Some kind → ⊥
not_in_table [] spelled kind new found = absurd cc
not_in_table (row ∷ rows) spelled kind new found =
    let parts = and_parts (not (nat_eq kind row.1)) (is_new kind (spelling_kinds rows)) new in
    by (bytes_eq (folded row.0) (folded spelled)) refl parts.0 (not_in_table rows spelled kind parts.1)
  where
    by : (same : Bool) → bytes_eq (folded row.0) (folded spelled) ≡ same → not (nat_eq kind row.1) ≡ true
        → (word_kind_in rows spelled ≡ Some kind → ⊥) → ⊥
    by true is_it apart rest =
        let here : Some row.1 ≡ Some kind = sym (rw is_it refl) ∙ found in
        differ kind row.1 apart cc
    by false is_it apart rest = rest (sym (rw is_it refl) ∙ found)

-- in a table of distinct kinds two words of one kind are one word
apart_in : (rows : List Spelling) (one other : List ℕ) (kind : ℕ) → are_distinct (spelling_kinds rows) ≡ true
    → word_kind_in rows one ≡ Some kind
    → word_kind_in rows other ≡ Some kind → folded one ≡ folded other
apart_in [] one other kind is one_is other_is = absurd cc
apart_in (row ∷ rows) one other kind is one_is other_is =
    let parts = and_parts (is_new row.1 (spelling_kinds rows)) (are_distinct (spelling_kinds rows)) is in
    by (bytes_eq (folded row.0) (folded one)) refl (bytes_eq (folded row.0) (folded other)) refl parts.0
    (apart_in rows one other kind parts.1)
  where
    alike : (spelled : List ℕ) → bytes_eq (folded row.0) (folded spelled) ≡ true → folded row.0 ≡ folded spelled
    alike spelled same = (bytes_eq-Decides (folded row.0) (folded spelled)).0 same

    here : (spelled : List ℕ) → bytes_eq (folded row.0) (folded spelled) ≡ true → word_kind_in (row ∷ rows) spelled ≡ Some kind
        → row.1 ≡ kind
    here spelled same found = let both : Some row.1 ≡ Some kind = sym (rw same refl) ∙ found in cc

    behind_row : (spelled : List ℕ) → bytes_eq (folded row.0) (folded spelled) ≡ false → word_kind_in (row ∷ rows) spelled ≡ Some kind
        → word_kind_in rows spelled ≡ Some kind
    behind_row spelled differs found = sym (rw differs refl) ∙ found

    by : (same : Bool) → bytes_eq (folded row.0) (folded one) ≡ same → (same' : Bool) → bytes_eq (folded row.0) (folded other) ≡ same'
        → is_new row.1 (spelling_kinds rows) ≡ true
        → (word_kind_in rows one ≡ Some kind → word_kind_in rows other ≡ Some kind → folded one ≡ folded other) → folded one ≡ folded other
    by true first true second new rest = sym (alike one first) ∙ alike other second
    by true first false second new rest =
        absurd (not_in_table rows other row.1 new (behind_row other second other_is ∙ ap (λ k. Some k) (sym (here one first one_is))))
    by false first true second new rest =
        absurd (not_in_table rows one row.1 new (behind_row one first one_is ∙ ap (λ k. Some k) (sym (here other second other_is))))
    by false first false second new rest = rest (behind_row one first one_is) (behind_row other second other_is)

pub words_apart : ReservedWordsAreApart
words_apart one other kind one_is other_is = apart_in reserved_words one other kind refl one_is other_is

-- the kind of a lexeme, where there is one, is below the count
abbrev HasKind : Option Lexeme → Type 0
HasKind found = IfSome found (λ lexeme. lexeme.kind < COUNT)

word_kind : (rows : List Spelling) (spelled : List ℕ) → are_kinds (spelling_kinds rows) ≡ true
    → unwrap_or (word_kind_in rows spelled) NAME < COUNT
word_kind [] spelled is = omega arith
word_kind (row ∷ rows) spelled is =
    let parts = and_parts (nat_lt row.1 COUNT) (are_kinds (spelling_kinds rows)) is in
    by (bytes_eq (folded row.0) (folded spelled)) (ltb-true row.1 COUNT parts.0) (word_kind rows spelled parts.1)
  where
    by : (same : Bool) → row.1 < COUNT → unwrap_or (word_kind_in rows spelled) NAME < COUNT
        → unwrap_or (cond same (Some row.1) (word_kind_in rows spelled)) NAME < COUNT
    by true here rest = here
    by false here rest = rest

run_kind : (rows : List Spelling) (spelled : List ℕ) (other : ℕ) → are_kinds (spelling_kinds rows) ≡ true → other < COUNT
    → unwrap_or (kind_in rows spelled) other < COUNT
run_kind [] spelled other is small = small
run_kind (row ∷ rows) spelled other is small =
    let parts = and_parts (nat_lt row.1 COUNT) (are_kinds (spelling_kinds rows)) is in
    by (bytes_eq row.0 spelled) (ltb-true row.1 COUNT parts.0) (run_kind rows spelled other parts.1 small)
  where
    by : (same : Bool) → row.1 < COUNT → unwrap_or (kind_in rows spelled) other < COUNT
        → unwrap_or (cond same (Some row.1) (kind_in rows spelled)) other < COUNT
    by true here rest = here
    by false here rest = rest

spelling_kind : (rows : List Spelling) (bytes : List ℕ) → are_kinds (spelling_kinds rows) ≡ true → HasKind (spelling_at rows bytes)
spelling_kind [] bytes is = tt
spelling_kind (row ∷ rows) bytes is =
    let parts = and_parts (nat_lt row.1 COUNT) (are_kinds (spelling_kinds rows)) is in
    by (begins_with row.0 bytes) (ltb-true row.1 COUNT parts.0) (spelling_kind rows bytes parts.1)
  where
    by : (same : Bool) → row.1 < COUNT → HasKind (spelling_at rows bytes)
        → HasKind (cond same (Some (lexeme_of row.1 (length row.0))) (spelling_at rows bytes))
    by true here rest = here
    by false here rest = rest

if_there : (test : Bool) (lexeme : Lexeme) → lexeme.kind < COUNT → HasKind (cond test (Some lexeme) None)
if_there true lexeme small = small
if_there false lexeme small = tt

or_kind : (one other : Option Lexeme) → HasKind one → HasKind other → HasKind (option_or one other)
or_kind None other first second = second
or_kind (Some lexeme) other first second = first

lexeme_kind : (open_list : Bool) (bytes : List ℕ) → HasKind (lexeme_at open_list bytes)
lexeme_kind open_list bytes =
    or_kind (word bytes) (option_or (digit_name bytes) (option_or (operator bytes)
    (option_or (closing open_list bytes) (option_or (run_of_signs bytes) (single_sign bytes)))))
    (if_there (first_is is_ascii_alphabetic bytes) _ (word_kind reserved_words (take (word_length bytes) bytes) refl))
    (or_kind (digit_name bytes) (option_or (operator bytes)
    (option_or (closing open_list bytes) (option_or (run_of_signs bytes) (single_sign bytes))))
    (if_there (first_is is_ascii_digit bytes) _ (omega arith))
    (or_kind (operator bytes) (option_or (closing open_list bytes) (option_or (run_of_signs bytes) (single_sign bytes)))
    (spelling_kind operators bytes refl)
    (or_kind (closing open_list bytes) (option_or (run_of_signs bytes) (single_sign bytes))
    (if_there (open_list && begins_with (codes "]|") bytes) _ (omega arith))
    (or_kind (run_of_signs bytes) (single_sign bytes)
    (if_there (first_is is_sign bytes) _ (run_kind reserved_runs (take (prefix_len is_sign bytes) bytes) SIGN_NAME refl (omega arith)))
    (spelling_kind single_signs bytes refl)))))

-- where a piece is a token, its kind is below the count
abbrev PieceHasKind : Piece → Type 0
PieceHasKind (piece.Token lexeme) = lexeme.kind < COUNT
PieceHasKind _ = Unit {0}

piece_kind : (open_list : Bool) (bytes : List ℕ) → PieceHasKind (piece_at open_list bytes)
piece_kind open_list bytes =
    by (first_is is_blank bytes) (begins_with (codes "(*") bytes) (close_at (drop 2 bytes)) (lexeme_at open_list bytes)
    (lexeme_kind open_list bytes)
  where
    by : (blank opened : Bool) (closed : Option ℕ) (found : Option Lexeme) → HasKind found
        → PieceHasKind (cond blank piece.Blank (cond opened (comment closed) (token found)))
    by true opened closed found small = tt
    by false true None found small = tt
    by false true (Some closed) found small = tt
    by false false closed None small = tt
    by false false closed (Some lexeme) small = small

-- the kinds of all tokens that a text is cut into are below the count
abbrev LexedHasKinds : Lexed → Type 0
LexedHasKinds (Tokens tokens) = All (λ (it : Token). it.kind < COUNT) tokens
LexedHasKinds _ = Unit {0}

one_more : (first : Token) (lexed : Lexed) → first.kind < COUNT → LexedHasKinds lexed → LexedHasKinds (with_token first lexed)
one_more first (Tokens tokens) small rest = All-cons (λ (it : Token). it.kind < COUNT) first tokens small rest
one_more first (BadByte place) small rest = tt
one_more first (OpenComment place) small rest = tt

cut_kinds : (number inside : ℕ) (open_list : Bool) (position : Position) (bytes : List ℕ)
    → LexedHasKinds (cut number inside open_list position bytes)
cut_kinds number inside open_list position [] = λ k d within. absurd (omega arith)
cut_kinds number (suc inside) open_list position (byte ∷ rest) = cut_kinds number inside open_list (behind byte position) rest
cut_kinds number zero open_list position (byte ∷ rest) =
    by (piece_at open_list (byte ∷ rest)) refl (piece_kind open_list (byte ∷ rest))
    (λ inside opened. cut_kinds number inside opened (behind byte position) rest)
  where
    by : (found : Piece) → piece_at open_list (byte ∷ rest) ≡ found → PieceHasKind found
        → ((inside : ℕ) (opened : Bool) → LexedHasKinds (cut number inside opened (behind byte position) rest))
        → LexedHasKinds (cut number zero open_list position (byte ∷ rest))
    by piece.Blank is small more = rw (is, cut) (more 0 open_list)
    by (piece.Comment count) is small more = rw (is, cut) (more (count - 1) open_list)
    by (piece.Token lexeme) is small more =
        rw (is, cut) (one_more (token_at number position lexeme) _ small
        (more (lexeme.length - 1) (list_open_behind lexeme.kind open_list)))
    by piece.Unclosed is small more = rw (is, cut) tt
    by piece.Nothing is small more = rw (is, cut) tt

pub tokens_kinds : TokensHaveKinds
tokens_kinds number text tokens cut_into = subst LexedHasKinds cut_into (cut_kinds number 0 false start text)
