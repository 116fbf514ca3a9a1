-- Which token is to blame where tokens are no text of a kind, and the place of it. `one` says which tokens are which tree.
use Rattle.std.specs.Prelude.{ℕ, ◌+◌, ◌<◌, ◌≤◌, List, ◌++◌, Option, Some, None, length, take, slice_get}
use Rattle.lotos_base.specs.declared.places.Place.{Place}
use Rattle.lotos_lexer.specs.declared.tokens.Token.{Token}
use Rattle.lotos_lexer.specs.Tokens.{behind_all, place_at, start}

-- some text begins with the tokens: with further tokens they are one
abbrev pub BeginsSomeText : {A : Type 0} → (List Token → A → Type 0) → List Token → Type 0
BeginsSomeText {A} one tokens = (more : List Token) × (found : A) × one (tokens ++ more) found

-- the first token with which the tokens stop being a beginning, or their number where they are a beginning and no text
pub record IsBlamed {A : Type 0} (one : List Token → A → Type 0) (tokens : List Token) (at : ℕ) : Type 0 where
  pub in_range : at ≤ length tokens
  pub begins_before : BeginsSomeText one (take at tokens)
  pub not_with : at < length tokens → ¬ BeginsSomeText one (take (at + 1) tokens)
  pub no_text : (found : A) → ¬ one tokens found

-- the place just past the last byte of the text with this number
abbrev pub end_place : ℕ → List ℕ → Place
end_place number text = place_at number (behind_all text start)

abbrev pub place_or : Place → Option Token → Place
place_or place None = place
place_or place (Some token) = token.place

-- the place of the token with this index, or the place just past the last byte
abbrev pub blamed_place : ℕ → List ℕ → List Token → ℕ → Place
blamed_place number text tokens at = place_or (end_place number text) (slice_get tokens at)
