-- The kinds of tokens: one for each fixed spelling, and four of tokens without one.
use Rattle.std.specs.Prelude.{◌≡◌, ◌≢◌, ℕ, ◌<◌, List, [], ◌∷◌, ◌++◌, map, length, Some, All, AllPairs}
use Rattle.lotos_base.specs.Name.{folded}
use Rattle.lotos_lexer.specs.declared.kinds.TheConstants.{NAME, DIGIT_NAME, SIGN_NAME, GATES_CLOSE, COUNT}
use Rattle.lotos_lexer.specs.declared.tokens.Token.{Token}
use Rattle.lotos_lexer.specs.Spellings.{Spelling, reserved_words, operators, reserved_runs, single_signs}
use Rattle.lotos_lexer.specs.Lexemes.{word_kind_in}
use Rattle.lotos_lexer.specs.Tokens.{Tokens, tokens_of}

-- the kinds of the spellings of a table
abbrev pub spelling_kinds : List Spelling → List ℕ
spelling_kinds rows = map (λ row. row.1) rows

-- the kinds of tokens without a fixed spelling: a word, a digit name and a run of signs that are not
-- reserved, and the sign that closes a gate list
abbrev pub kinds_unspelled : List ℕ
kinds_unspelled = NAME ∷ DIGIT_NAME ∷ SIGN_NAME ∷ GATES_CLOSE ∷ []

-- every kind of token
abbrev pub token_kinds : List ℕ
token_kinds = spelling_kinds reserved_words ++ (spelling_kinds operators
    ++ (spelling_kinds reserved_runs ++ (spelling_kinds single_signs ++ kinds_unspelled)))

-- no two kinds are one number
abbrev pub KindsAreDistinct : Type 0
KindsAreDistinct = AllPairs (λ one other. one ≢ other) token_kinds

-- there are as many kinds as the count says
abbrev pub KindsAreCounted : Type 0
KindsAreCounted = length token_kinds ≡ COUNT

-- each kind is below the count
abbrev pub KindsAreBelowTheCount : Type 0
KindsAreBelowTheCount = All (λ kind. kind < COUNT) token_kinds

-- two words of one reserved kind are one word but for letter case
abbrev pub ReservedWordsAreApart : Type 0
ReservedWordsAreApart = (one other : List ℕ) (kind : ℕ) → word_kind_in reserved_words one ≡ Some kind
    → word_kind_in reserved_words other ≡ Some kind → folded one ≡ folded other

-- the kind of each token of a text is below the count
abbrev pub TokensHaveKinds : Type 0
TokensHaveKinds = (number : ℕ) (text : List ℕ) (tokens : List Token) → tokens_of number text ≡ Tokens tokens
    → All (λ token. token.kind < COUNT) tokens
