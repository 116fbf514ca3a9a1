-- What tokens may begin with: viable lists of the rows are the beginnings of texts of the definition.
use Rattle.std.proofs.Common.{◌≡◌, ◌∙◌, ℕ, List, [], ◌∷◌, ◌++◌, map, refl, ap, sym, subst}
use Rattle.std.specs.Prelude.{◌↔◌}
use Rattle.std.proofs.lemmas.List.{map-append}
use Rattle.ll_engine.specs.Language.{ContextFree, IsSentence, IsViable}
use Rattle.lotos_lexer.specs.declared.tokens.Token.{Token}
use Rattle.lotos_rows.specs.declared.starts.TheConstants as starts
use Rattle.lotos_rows.specs.Rows.{grammar_from}
use Rattle.lotos_rows.specs.Starts.{IsWrittenSpecification, AreItems, AreOrderItems, AreOptionalTerms}
use Rattle.tree_building.specs.Laws.{RowsBeginAsTheDefinition}
use Rattle.tree_building.specs.Sentences.{kind_of}
use Rattle.tree_building.proofs.AllGiven.{rows_have}

-- some token of a kind
token_of : ℕ → Token
token_of kind = record { kind = kind; place = record { text = 0; line = 1; col = 1 }; first = 0; past = 0 }

kinds_of_tokens : (kinds : List ℕ) → map kind_of (map token_of kinds) ≡ kinds
unfolding token_of
kinds_of_tokens [] = refl
kinds_of_tokens (kind ∷ kinds) = ap (λ l. kind ∷ l) (kinds_of_tokens kinds)

begins : {A : Type 0} (g : ContextFree) (tokens : List Token) (one : List Token → A → Type 0) →
    ((all : List Token) → IsSentence g (map kind_of all) ↔ ((found : A) × one all found)) →
    IsViable g (map kind_of tokens) ↔ ((more : List Token) × (found : A) × one (tokens ++ more) found)
begins g tokens one has = (
  λ viable.
      let more = map token_of viable.0 in
      let kinds : map kind_of (tokens ++ more) ≡ map kind_of tokens ++ viable.0 =
      map-append kind_of tokens more ∙ ap (λ (l : List ℕ). map kind_of tokens ++ l) (kinds_of_tokens viable.0) in
      let it = (has (tokens ++ more)).0 (subst (IsSentence g) (sym kinds) viable.1) in
      (more, it.0, it.1),
  λ found. (
    map kind_of found.0,
    subst (IsSentence g) (map-append kind_of tokens found.0) ((has (tokens ++ found.0)).1 (found.1, found.2)),
  ),
)

pub rows_begin : RowsBeginAsTheDefinition
rows_begin = record {
  specification = λ text tokens. begins (grammar_from starts.SPEC) tokens (IsWrittenSpecification text) (rows_have.specification text);
  items = λ text tokens. begins (grammar_from starts.TYPETEXT) tokens (AreItems text) (rows_have.items text);
  order = λ text tokens. begins (grammar_from starts.ORDER) tokens (AreOrderItems text) (rows_have.order text);
  terms = λ text tokens. begins (grammar_from starts.TERMS) tokens (AreOptionalTerms text) (rows_have.terms text);
}
