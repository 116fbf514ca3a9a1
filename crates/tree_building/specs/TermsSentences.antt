-- The parts of terms.
use Rattle.std.specs.Prelude.{ℕ, ◌==◌, List, [], ◌∷◌, ◌++◌}
use Rattle.lotos_base.specs.WrittenTerm.{PlacedName, WrittenTerm}
use Rattle.lotos_lexer.specs.declared.kinds.TheConstants.{NAME, COMMA, OF}
use Rattle.lotos_lexer.specs.declared.tokens.Token.{Token}
use Rattle.lotos_rows.specs.declared.terms.TheConstants as terms
use Rattle.lotos_rows.specs.Words.{IsOfKind, Optional, Many, Behind}
use Rattle.lotos_rows.specs.Names.{named, place_of, IsOperationName}
use Rattle.lotos_rows.specs.Terms.{IsTerm, IsFactor, AreTerms, AreArguments}
use Rattle.tree_building.specs.Meaning.{Meaning, PlainStartedTerm, a_term, some_factors, some_names, some_terms}
use Rattle.tree_building.specs.PartSentences.{As, choose}

-- one of a family of terms, with the place of its first token
pub data Started (one : List Token → WrittenTerm → Type 0) : List Token → PlainStartedTerm → Type 0 where
  started : {first : Token} {rest : List Token} {term : WrittenTerm} → one (first ∷ rest) term →
      Started one (first ∷ rest) (record { start = place_of first; term = term })

-- an operation and the factor behind it
pub data IsOperationAndFactor (text : List ℕ) : List Token → PlacedName × WrittenTerm → Type 0 where
  operation_and_factor : {tokens rest : List Token} {name : PlacedName} {factor : WrittenTerm} →
      IsOperationName text tokens name → IsFactor text rest factor → IsOperationAndFactor text (tokens ++ rest) (name, factor)

-- the sort of a factor, or none
pub data IsSortMark (text : List ℕ) : List Token → List PlacedName → Type 0 where
  no_sort_mark : IsSortMark text [] []
  a_sort_mark : {word sort : Token} → IsOfKind OF word → IsOfKind NAME sort → IsSortMark text (word ∷ sort ∷ []) (named text sort ∷ [])

abbrev pub terms_part : List ℕ → ℕ → List Token → Meaning → Type 0
terms_part text p tokens meaning =
    choose (p == terms.TERM) (As a_term (Started (IsTerm text)) tokens meaning)
    (choose (p == terms.MORE_FACTORS) (As some_factors (Many (IsOperationAndFactor text)) tokens meaning)
    (choose (p == terms.FACTOR) (As a_term (Started (IsFactor text)) tokens meaning)
    (choose (p == terms.ARGUMENTS) (As some_terms (AreArguments text) tokens meaning)
    (choose (p == terms.SORT_MARK) (As some_names (IsSortMark text) tokens meaning)
    (choose (p == terms.TERM_LIST) (As some_terms (AreTerms text) tokens meaning)
    (As some_terms (Optional [] (Behind COMMA (AreTerms text))) tokens meaning))))))
