-- Parts of a text that are cut into tokens which are one of a family of the grammar.
use Rattle.std.proofs.Common.{◌≡◌, ℕ, ◌<◌, Bool, true, false, ◌&&◌, List, [], ◌∷◌, ◌++◌, length, refl, ap, sym, ◌∙◌, subst, arith, codes, append_assoc, append-nil, inl, inr}
use Rattle.std.specs.Prelude.{nat_eq, if◌then◌else◌}
use Rattle.std.specs.List.{prefix_len}
use Rattle.lotos_base.specs.WrittenTerm.{PlacedName}
use Rattle.lotos_lexer.specs.declared.tokens.Token.{Token}
use Rattle.lotos_lexer.specs.declared.kinds.TheConstants.{NAME, DIGIT_NAME, SIGN_NAME, OF, COMMA, LEFT_PARENTHESIS, RIGHT_PARENTHESIS}
use Rattle.std.proofs.lemmas.Bool.Decides.{Decides-eqb}
use Rattle.lotos_lexer.specs.declared.pieces.Piece.{Piece}
use Rattle.lotos_lexer.specs.declared.pieces.Piece.TheVariants as piece
use Rattle.lotos_lexer.specs.Bytes.{is_sign}
use Rattle.lotos_lexer.specs.Lexemes.{lexeme_of, word_length}
use Rattle.lotos_lexer.specs.Pieces.{close_at, comment, piece_at}
use Rattle.lotos_lexer.specs.Tokens.{token_at}
use Rattle.lotos_rows.specs.Words.{IsOfKind, Between, between}
use Rattle.lotos_rows.specs.Names.{named, IsOperationName, word_name, digit_name, sign_name}
use Rattle.session_histories.specs.HandedOn.{begins_with_sign, spaced, round}
use Rattle.session_laws.specs.TextNames.{IsWordSpelling, IsDigitSpelling, IsSignSpelling, IsOperationSpelling}
use Rattle.session_laws.proofs.NameTokens.{IsApart, word_piece, digit_piece, sign_piece}
use Rattle.session_laws.proofs.CutPieces.{behind_bytes, IsCut, cut_joined, cut_one, cut_blank, spelled_there}

-- The bytes of the text behind `before` are cut into tokens, which are a thing of the family, and the thing fits.
pub record Stands {A : Type 0} (number : ℕ) (before bytes rest : List ℕ) (one : List Token → A → Type 0) (fits : A → Type 0) : Type 0 where
  pub tokens : List Token
  pub thing : A
  pub is_cut : IsCut number before bytes rest tokens
  pub is_one : one tokens thing
  pub fitting : fits thing

-- so it is wherever the bytes stand in the text before something that goes on with no word and no sign
abbrev pub StandsAnywhere : {A : Type 0} → ℕ → List ℕ → List ℕ → (List Token → A → Type 0) → (A → Type 0) → Type 0
StandsAnywhere number text bytes one fits =
    (before rest : List ℕ) → text ≡ before ++ (bytes ++ rest) → IsApart rest → Stands number before bytes rest one fits

-- where two parts stand
pub first_part : (text before xs ys rest : List ℕ) → text ≡ before ++ ((xs ++ ys) ++ rest) → text ≡ before ++ (xs ++ (ys ++ rest))
first_part text before xs ys rest is = is ∙ ap (λ (bytes : List ℕ). before ++ bytes) (append_assoc xs ys rest)

pub second_part : (text before xs ys rest : List ℕ) → text ≡ before ++ ((xs ++ ys) ++ rest) → text ≡ (before ++ xs) ++ (ys ++ rest)
second_part text before xs ys rest is = first_part text before xs ys rest is ∙ sym (append_assoc before xs (ys ++ rest))

-- a byte with which no word and no run goes on
pub apart : (b : ℕ) (bytes : List ℕ) → word_length (b ∷ bytes) ≡ 0 → prefix_len is_sign (b ∷ bytes) ≡ 0 → IsApart (b ∷ bytes)
apart b bytes word run = record { no_word = word; no_run = run }

pub nothing_apart : IsApart []
nothing_apart = record { no_word = refl; no_run = refl }

-- ---- Names

named_there : (number : ℕ) (text before name rest : List ℕ) (kind : ℕ) → text ≡ before ++ (name ++ rest)
    → (named text (token_at number (behind_bytes before) (lexeme_of kind (length name)))).name ≡ name
named_there number text before name rest kind is = spelled_there number text before name rest kind is

-- a name has bytes
word_has_bytes : (name : List ℕ) → IsWordSpelling name → 0 < length name
word_has_bytes [] is = let never : false ≡ true = is.begins in cc
word_has_bytes (b ∷ bs) is = omega arith

digit_has_bytes : (name : List ℕ) → IsDigitSpelling name → 0 < length name
digit_has_bytes [] is = let never : false ≡ true = is.begins in cc
digit_has_bytes (b ∷ bs) is = omega arith

sign_has_bytes : (name : List ℕ) → IsSignSpelling name → 0 < length name
sign_has_bytes [] is = let never : false ≡ true = is.begins in cc
sign_has_bytes (b ∷ bs) is = omega arith

pub name_stands : (number : ℕ) (text name : List ℕ) → IsOperationSpelling name
    → StandsAnywhere number text name (IsOperationName text) (λ (placed : PlacedName). placed.name ≡ name)
name_stands number text name (inl is) before rest there apart_rest = record {
  tokens = token_at number (behind_bytes before) (lexeme_of NAME (length name)) ∷ [];
  thing = named text (token_at number (behind_bytes before) (lexeme_of NAME (length name)));
  is_cut = cut_one number before name rest NAME (word_has_bytes name is) (word_piece name rest is apart_rest) refl;
  is_one = word_name (record { kind_is = refl });
  fitting = named_there number text before name rest NAME there;
}
name_stands number text name (inr (inl is)) before rest there apart_rest = record {
  tokens = token_at number (behind_bytes before) (lexeme_of DIGIT_NAME (length name)) ∷ [];
  thing = named text (token_at number (behind_bytes before) (lexeme_of DIGIT_NAME (length name)));
  is_cut = cut_one number before name rest DIGIT_NAME (digit_has_bytes name is) (digit_piece name rest is apart_rest) refl;
  is_one = digit_name (record { kind_is = refl });
  fitting = named_there number text before name rest DIGIT_NAME there;
}
name_stands number text name (inr (inr is)) before rest there apart_rest = record {
  tokens = token_at number (behind_bytes before) (lexeme_of SIGN_NAME (length name)) ∷ [];
  thing = named text (token_at number (behind_bytes before) (lexeme_of SIGN_NAME (length name)));
  is_cut = cut_one number before name rest SIGN_NAME (sign_has_bytes name is) (sign_piece name rest is apart_rest) refl;
  is_one = sign_name (record { kind_is = refl });
  fitting = named_there number text before name rest SIGN_NAME there;
}

-- ---- ` of ` and a sort

-- `of` and the name of a sort
pub data IsSortBehind (text : List ℕ) : List Token → PlacedName → Type 0 where
  sort_behind : {word sort : Token} → IsOfKind OF word → IsOfKind NAME sort → IsSortBehind text (word ∷ sort ∷ []) (named text sort)

of_cut : (number : ℕ) (before rest : List ℕ)
    → IsCut number before (codes "of") (32 ∷ rest) (token_at number (behind_bytes before) (lexeme_of OF 2) ∷ [])
of_cut number before rest = cut_one number before (codes "of") (32 ∷ rest) OF (omega arith) refl refl

pub sort_stands : (number : ℕ) (text name : List ℕ) → IsWordSpelling name
    → StandsAnywhere number text (codes " of " ++ name) (IsSortBehind text) (λ (placed : PlacedName). placed.name ≡ name)
sort_stands number text name is before rest there apart_rest = record {
  tokens = of_token ∷ sort_token ∷ [];
  thing = named text sort_token;
  is_cut = cut_joined number before (codes " of ") name rest (of_token ∷ []) (sort_token ∷ []) of_is_cut sort_is_cut;
  is_one = sort_behind (record { kind_is = refl }) (record { kind_is = refl });
  fitting = named_there number text (before ++ codes " of ") name rest NAME (second_part text before (codes " of ") name rest there);
}
  where
    of_token : Token
    of_token = token_at number (behind_bytes (before ++ codes " ")) (lexeme_of OF 2)

    sort_token : Token
    sort_token = token_at number (behind_bytes (before ++ codes " of ")) (lexeme_of NAME (length name))

    of_is_cut : IsCut number before (codes " of ") (name ++ rest) (of_token ∷ [])
    of_is_cut =
        cut_joined number before (codes " ") (codes "of ") (name ++ rest) [] (of_token ∷ [])
        (cut_blank number before (codes "of " ++ (name ++ rest)))
        (cut_joined number (before ++ codes " ") (codes "of") (codes " ") (name ++ rest) (of_token ∷ []) []
        (of_cut number (before ++ codes " ") (name ++ rest))
        (cut_blank number ((before ++ codes " ") ++ codes "of") (name ++ rest)))

    sort_is_cut : IsCut number (before ++ codes " of ") name rest (sort_token ∷ [])
    sort_is_cut = cut_one number (before ++ codes " of ") name rest NAME (word_has_bytes name is) (word_piece name rest is apart_rest) refl

-- ---- Brackets

-- behind a bracket that is opened stands no `*`
abbrev pub BeginsOtherwise : List ℕ → Type 0
BeginsOtherwise bytes = begins_with_sign 42 bytes ≡ false

not_star : (b : ℕ) → nat_eq b 42 ≡ false → nat_eq 42 b ≡ false
not_star b other = by (nat_eq 42 b) refl
  where
    by : (same : Bool) → nat_eq 42 b ≡ same → same ≡ false
    by true same = ap (λ (n : ℕ). nat_eq n 42) ((Decides-eqb 42 b).0 same) ∙ other
    by false same = refl

unless : (t : Bool) (one other : Piece) → t ≡ false → (if (t && true) then one else other) ≡ other
unless true one other h = cc
unless false one other h = refl

pub opened_piece : (bytes : List ℕ) → BeginsOtherwise bytes → piece_at false (40 ∷ bytes) ≡ piece.Token (lexeme_of LEFT_PARENTHESIS 1)
opened_piece [] other = refl
opened_piece (b ∷ bytes) other =
    unless (nat_eq 42 b) (comment (close_at bytes)) (piece.Token (lexeme_of LEFT_PARENTHESIS 1)) (not_star b other)

pub opened_other : (bytes more : List ℕ) (star : Bool) → begins_with_sign 42 bytes ≡ star
    → BeginsOtherwise ((if star then codes " " ++ bytes else bytes) ++ (41 ∷ more))
opened_other bytes more true is = refl
opened_other [] more false is = refl
opened_other (b ∷ bs) more false is = is

-- a part with a blank in front
pub behind_blank : {A : Type 0} (number : ℕ) (before bytes rest : List ℕ) (one : List Token → A → Type 0) (fits : A → Type 0)
    → Stands number (before ++ codes " ") bytes rest one fits → Stands number before (codes " " ++ bytes) rest one fits
behind_blank number before bytes rest one fits part = record {
  tokens = part.tokens;
  thing = part.thing;
  is_cut = cut_joined number before (codes " ") bytes rest [] part.tokens (cut_blank number before (bytes ++ rest)) part.is_cut;
  is_one = part.is_one;
  fitting = part.fitting;
}

-- a part with a blank behind it
pub before_blank : {A : Type 0} (number : ℕ) (before bytes rest : List ℕ) (one : List Token → A → Type 0) (fits : A → Type 0)
    → Stands number before bytes (32 ∷ rest) one fits → Stands number before (bytes ++ codes " ") rest one fits
before_blank number before bytes rest one fits part = record {
  tokens = part.tokens;
  thing = part.thing;
  is_cut =
      subst (IsCut number before (bytes ++ codes " ") rest) (append-nil part.tokens)
      (cut_joined number before bytes (codes " ") rest part.tokens [] part.is_cut (cut_blank number (before ++ bytes) rest));
  is_one = part.is_one;
  fitting = part.fitting;
}

-- what stands anywhere stands in brackets
pub round_stands : {A : Type 0} (number : ℕ) (text bytes : List ℕ) (one : List Token → A → Type 0) (fits : A → Type 0)
    → StandsAnywhere number text bytes one fits → (before rest : List ℕ) → text ≡ before ++ (round bytes ++ rest)
    → Stands number before (round bytes) rest (Between LEFT_PARENTHESIS RIGHT_PARENTHESIS one) fits
round_stands number text bytes one fits inside before rest there = record {
  tokens = left ∷ (inner.tokens ++ right ∷ []);
  thing = inner.thing;
  is_cut =
      cut_joined number before (codes "(" ++ spaced 42 bytes) (codes ")") rest (left ∷ inner.tokens) (right ∷ [])
      (cut_joined number before (codes "(") (spaced 42 bytes) (41 ∷ rest) (left ∷ []) inner.tokens left_is_cut inner.is_cut)
      (cut_one number (before ++ (codes "(" ++ spaced 42 bytes)) (codes ")") rest RIGHT_PARENTHESIS (omega arith) refl refl);
  is_one = between (record { kind_is = refl }) inner.is_one (record { kind_is = refl });
  fitting = inner.fitting;
}
  where
    left : Token
    left = token_at number (behind_bytes before) (lexeme_of LEFT_PARENTHESIS 1)

    right : Token
    right = token_at number (behind_bytes (before ++ (codes "(" ++ spaced 42 bytes))) (lexeme_of RIGHT_PARENTHESIS 1)

    left_is_cut : IsCut number before (codes "(") (spaced 42 bytes ++ (41 ∷ rest)) (left ∷ [])
    left_is_cut =
        cut_one number before (codes "(") (spaced 42 bytes ++ (41 ∷ rest)) LEFT_PARENTHESIS (omega arith)
        (opened_piece (spaced 42 bytes ++ (41 ∷ rest)) (opened_other bytes rest (begins_with_sign 42 bytes) refl)) refl

    inner_by : (star : Bool) → text ≡ (before ++ codes "(") ++ ((if star then codes " " ++ bytes else bytes) ++ (41 ∷ rest))
        → Stands number (before ++ codes "(") (if star then codes " " ++ bytes else bytes) (41 ∷ rest) one fits
    inner_by true at =
        behind_blank number (before ++ codes "(") bytes (41 ∷ rest) one fits
        (inside ((before ++ codes "(") ++ codes " ") (41 ∷ rest) (second_part text (before ++ codes "(") (codes " ") bytes (41 ∷ rest) at)
        (apart 41 rest refl refl))
    inner_by false at = inside (before ++ codes "(") (41 ∷ rest) at (apart 41 rest refl refl)

    inner : Stands number (before ++ codes "(") (spaced 42 bytes) (41 ∷ rest) one fits
    inner =
        inner_by (begins_with_sign 42 bytes)
        (second_part text before (codes "(") (spaced 42 bytes) (41 ∷ rest)
        (first_part text before (codes "(" ++ spaced 42 bytes) (codes ")") rest there))

-- ---- Commas

abbrev pub comma_token : ℕ → List ℕ → Token
comma_token number before = token_at number (behind_bytes before) (lexeme_of COMMA 1)

pub comma_cut : (number : ℕ) (before rest : List ℕ) → IsCut number before (codes ", ") rest (comma_token number before ∷ [])
comma_cut number before rest =
    cut_joined number before (codes ",") (codes " ") rest (token_at number (behind_bytes before) (lexeme_of COMMA 1) ∷ []) []
    (cut_one number before (codes ",") (32 ∷ rest) COMMA (omega arith) refl refl)
    (cut_blank number (before ++ codes ",") rest)

pub comma_is : (number : ℕ) (before : List ℕ) → IsOfKind COMMA (comma_token number before)
comma_is number before = record { kind_is = refl }
