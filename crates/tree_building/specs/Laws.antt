-- The laws that tie the rows to the definition of the grammar by subject.
use Rattle.std.specs.Prelude.{◌≡◌, ◌↔◌, ℕ, List, ◌++◌, map}
use Rattle.ll_engine.specs.Language.{IsSentence, IsViable}
use Rattle.lotos_base.specs.WrittenTerm.{WrittenTerm, ListedOperation}
use Rattle.lotos_lexer.specs.declared.tokens.Token.{Token}
use Rattle.lotos_rows.specs.declared.starts.TheConstants as starts
use Rattle.lotos_rows.specs.Rows.{grammar_from}
use Rattle.syntax_trees.specs.WrittenItem.{WrittenItem}
use Rattle.syntax_trees.specs.WrittenDefinition.{WrittenSpecification}
use Rattle.lotos_rows.specs.Starts.{IsWrittenSpecification, AreItems, AreOrderItems, AreOptionalTerms}
use Rattle.tree_building.specs.Meaning.{Meaning, a_specification, some_items, some_order_items, some_terms}
use Rattle.tree_building.specs.Sentences.{kind_of, PartMeans, Derived}

-- what is derived is what the part is
abbrev pub DerivedPartsAreSentences : Type 0
DerivedPartsAreSentences =
    (text : List ℕ) (p : ℕ) (tokens : List Token) (meaning : Meaning) → Derived text p tokens meaning → PartMeans text p tokens meaning

-- and so of the texts
pub record DerivedTextsAreSentences : Type 0 where
  pub specification : (text : List ℕ) (tokens : List Token) (found : WrittenSpecification) →
      Derived text starts.SPEC tokens (a_specification found) →
      IsWrittenSpecification text tokens found
  pub items : (text : List ℕ) (tokens : List Token) (items : List WrittenItem) → Derived text starts.TYPETEXT tokens (some_items items) →
      AreItems text tokens items
  pub order : (text : List ℕ) (tokens : List Token) (items : List ListedOperation) →
      Derived text starts.ORDER tokens (some_order_items items) → AreOrderItems text tokens items
  pub terms : (text : List ℕ) (tokens : List Token) (terms : List WrittenTerm) → Derived text starts.TERMS tokens (some_terms terms) →
      AreOptionalTerms text tokens terms

-- and what the definition says is derived
pub record SentencesAreDerived : Type 0 where
  pub specification : (text : List ℕ) (tokens : List Token) (found : WrittenSpecification) → IsWrittenSpecification text tokens found →
      Derived text starts.SPEC tokens (a_specification found)
  pub items : (text : List ℕ) (tokens : List Token) (items : List WrittenItem) → AreItems text tokens items →
      Derived text starts.TYPETEXT tokens (some_items items)
  pub order : (text : List ℕ) (tokens : List Token) (items : List ListedOperation) → AreOrderItems text tokens items →
      Derived text starts.ORDER tokens (some_order_items items)
  pub terms : (text : List ℕ) (tokens : List Token) (terms : List WrittenTerm) → AreOptionalTerms text tokens terms →
      Derived text starts.TERMS tokens (some_terms terms)

-- tokens are one tree at most
pub record TextsAreUnambiguous : Type 0 where
  pub specification : (text : List ℕ) (tokens : List Token) (some other : WrittenSpecification) →
      IsWrittenSpecification text tokens some → IsWrittenSpecification text tokens other → some ≡ other
  pub items : (text : List ℕ) (tokens : List Token) (some other : List WrittenItem) → AreItems text tokens some →
      AreItems text tokens other → some ≡ other
  pub order : (text : List ℕ) (tokens : List Token) (some other : List ListedOperation) →
      AreOrderItems text tokens some → AreOrderItems text tokens other → some ≡ other
  pub terms : (text : List ℕ) (tokens : List Token) (some other : List WrittenTerm) →
      AreOptionalTerms text tokens some → AreOptionalTerms text tokens other → some ≡ other

-- the sentences of the rows are those of the definition, whatever the text: by the kinds of the tokens, and so for every list of
-- tokens with these kinds
pub record RowsHaveTheSentences : Type 0 where
  pub specification : (text : List ℕ) (tokens : List Token) →
      IsSentence (grammar_from starts.SPEC) (map kind_of tokens)
      ↔ ((found : WrittenSpecification) × IsWrittenSpecification text tokens found)
  pub items : (text : List ℕ) (tokens : List Token) →
      IsSentence (grammar_from starts.TYPETEXT) (map kind_of tokens) ↔ ((items : List WrittenItem) × AreItems text tokens items)
  pub order : (text : List ℕ) (tokens : List Token) →
      IsSentence (grammar_from starts.ORDER) (map kind_of tokens) ↔ ((items : List ListedOperation) × AreOrderItems text tokens items)
  pub terms : (text : List ℕ) (tokens : List Token) →
      IsSentence (grammar_from starts.TERMS) (map kind_of tokens) ↔ ((terms : List WrittenTerm) × AreOptionalTerms text tokens terms)

-- What tokens may begin with, said of the definition: further tokens make them a text. The kinds of tokens are viable by the rows
-- exactly where the tokens begin such a text.
pub record RowsBeginAsTheDefinition : Type 0 where
  pub specification : (text : List ℕ) (tokens : List Token) →
      IsViable (grammar_from starts.SPEC) (map kind_of tokens) ↔
      ((more : List Token) × (found : WrittenSpecification) × IsWrittenSpecification text (tokens ++ more) found)
  pub items : (text : List ℕ) (tokens : List Token) →
      IsViable (grammar_from starts.TYPETEXT) (map kind_of tokens) ↔ ((more : List Token) × (items : List WrittenItem)
      × AreItems text (tokens ++ more) items)
  pub order : (text : List ℕ) (tokens : List Token) →
      IsViable (grammar_from starts.ORDER) (map kind_of tokens) ↔
      ((more : List Token) × (items : List ListedOperation) × AreOrderItems text (tokens ++ more) items)
  pub terms : (text : List ℕ) (tokens : List Token) →
      IsViable (grammar_from starts.TERMS) (map kind_of tokens) ↔
      ((more : List Token) × (terms : List WrittenTerm) × AreOptionalTerms text (tokens ++ more) terms)
