-- The words in which the rules of the grammar are said: a token of a kind; an optional thing, any number of things,
-- things with a separator; a thing behind a word, or between two. `one` says which tokens are which thing.
use Rattle.std.specs.Prelude.{◌≡◌, ℕ, List, [], ◌∷◌, ◌++◌}
use Rattle.lotos_lexer.specs.declared.tokens.Token.{Token}

-- the token is of the kind
pub record IsOfKind (kind : ℕ) (token : Token) : Type 0 where
  pub kind_is : token.kind ≡ kind

-- [x]: one, or nothing, which stands for the absent value
pub data Optional {A : Type 0} (absent : A) (one : List Token → A → Type 0) : List Token → A → Type 0 where
  left_out : Optional absent one [] absent
  there : {tokens : List Token} {value : A} → one tokens value → Optional absent one tokens value

-- {x}: any number of them
pub data Many {A : Type 0} (one : List Token → A → Type 0) : List Token → List A → Type 0 where
  no_more : Many one [] []
  and_then : {tokens rest : List Token} {value : A} {values : List A} →
      one tokens value → Many one rest values → Many one (tokens ++ rest) (value ∷ values)

-- x { separator x }
pub data Separated {A : Type 0} (separator : ℕ) (one : List Token → A → Type 0) : List Token → List A → Type 0 where
  last : {tokens : List Token} {value : A} → one tokens value → Separated separator one tokens (value ∷ [])
  before_more : {tokens rest : List Token} {token : Token} {value : A} {values : List A} →
      one tokens value → IsOfKind separator token → Separated separator one rest values →
      Separated separator one (tokens ++ token ∷ rest) (value ∷ values)

-- x { [separator] x }
pub data Loosely {A : Type 0} (separator : ℕ) (one : List Token → A → Type 0) : List Token → List A → Type 0 where
  last_loose : {tokens : List Token} {value : A} → one tokens value → Loosely separator one tokens (value ∷ [])
  with_separator : {tokens rest : List Token} {token : Token} {value : A} {values : List A} →
      one tokens value → IsOfKind separator token → Loosely separator one rest values →
      Loosely separator one (tokens ++ token ∷ rest) (value ∷ values)
  without_separator : {tokens rest : List Token} {value : A} {values : List A} →
      one tokens value → Loosely separator one rest values → Loosely separator one (tokens ++ rest) (value ∷ values)

-- word x
pub data Behind {A : Type 0} (word : ℕ) (one : List Token → A → Type 0) : List Token → A → Type 0 where
  behind : {token : Token} {tokens : List Token} {value : A} →
      IsOfKind word token → one tokens value → Behind word one (token ∷ tokens) value

-- left x right
pub data Between {A : Type 0} (left right : ℕ) (one : List Token → A → Type 0) : List Token → A → Type 0 where
  between : {open_token close_token : Token} {tokens : List Token} {value : A} →
      IsOfKind left open_token → one tokens value → IsOfKind right close_token →
      Between left right one (open_token ∷ (tokens ++ close_token ∷ [])) value
