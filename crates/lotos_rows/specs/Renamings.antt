-- The pairs of a renaming or an actualisation:
--
--   renames  = ["sortnames" sortpair { [","] sortpair }] ["opnnames" oppair { [","] oppair }]
--   sortpair = name "for" name
--   oppair   = op "for" op
--
-- A pair is placed at the given name. Underscores round an operation of a pair say nothing.
use Rattle.std.specs.Prelude.{ℕ, List, [], ◌∷◌, ◌++◌}
use Rattle.lotos_lexer.specs.declared.kinds.TheConstants.{NAME, COMMA, FOR, SORTNAMES, OPNNAMES}
use Rattle.lotos_lexer.specs.declared.tokens.Token.{Token}
use Rattle.lotos_base.specs.WrittenTerm.{PlacedName}
use Rattle.syntax_trees.specs.WrittenItem.{WrittenPair, WrittenPairs}
use Rattle.lotos_rows.specs.Words.{IsOfKind, Optional, Loosely, Behind}
use Rattle.lotos_rows.specs.Names.{named, NamedOperation, IsWrittenOperation}

-- a pair of two names
abbrev pub pair_of_names : PlacedName → PlacedName → WrittenPair
pair_of_names given replaced = record { place = given.place; given = given.name; replaced = replaced }

-- sortpair = name "for" name
pub data IsSortPair (text : List ℕ) : List Token → WrittenPair → Type 0 where
  sort_for : {given word replaced : Token} → IsOfKind NAME given → IsOfKind FOR word → IsOfKind NAME replaced →
      IsSortPair text (given ∷ word ∷ replaced ∷ []) (pair_of_names (named text given) (named text replaced))

-- oppair = op "for" op
pub data IsOperationPair (text : List ℕ) : List Token → WrittenPair → Type 0 where
  operation_for : {tokens rest : List Token} {word : Token} {given replaced : NamedOperation} →
      IsWrittenOperation text tokens given → IsOfKind FOR word → IsWrittenOperation text rest replaced →
      IsOperationPair text (tokens ++ word ∷ rest) (pair_of_names given.name replaced.name)

-- renames = ["sortnames" sortpair { [","] sortpair }] ["opnnames" oppair { [","] oppair }]
pub data AreRenames (text : List ℕ) : List Token → WrittenPairs → Type 0 where
  renames : {sort_tokens operation_tokens : List Token} {sort_pairs operation_pairs : List WrittenPair} →
      Optional [] (Behind SORTNAMES (Loosely COMMA (IsSortPair text))) sort_tokens sort_pairs →
      Optional [] (Behind OPNNAMES (Loosely COMMA (IsOperationPair text))) operation_tokens operation_pairs →
      AreRenames text (sort_tokens ++ operation_tokens) (record { sort_pairs = sort_pairs; operation_pairs = operation_pairs })
