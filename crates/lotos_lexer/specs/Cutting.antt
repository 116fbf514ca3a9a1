-- A text that is cut up to a position: its tokens so far, and what the rest is cut into.
use Rattle.std.specs.Prelude.{ℕ, ◌≤◌, List, [], ◌∷◌, drop, length}
use Rattle.lotos_lexer.specs.declared.tokens.Token.{Token}
use Rattle.lotos_lexer.specs.declared.lexing.Cutting.{Cutting}
use Rattle.lotos_lexer.specs.Tokens.{Lexed, with_token, cut, IsOfText}

-- more tokens in front
abbrev pub with_tokens : List Token → Lexed → Lexed
with_tokens [] lexed = lexed
with_tokens (token ∷ rest) lexed = with_token token (with_tokens rest lexed)

-- what a text is cut into, given how far it is cut
abbrev pub cut_by : ℕ → List ℕ → Cutting → Lexed
cut_by number text cutting =
    with_tokens cutting.tokens.items (cut number 0 cutting.open_list cutting.position (drop cutting.position.offset text))

-- the text is cut as far as a position of it
abbrev pub IsInside : List ℕ → Cutting → Type 0
IsInside text cutting = (cutting.position.offset ≤ length text) × IsOfText cutting.position
