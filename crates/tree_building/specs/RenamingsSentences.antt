-- The parts of renamings.
use Rattle.std.specs.Prelude.{ℕ, ◌==◌, List, []}
use Rattle.lotos_lexer.specs.declared.kinds.TheConstants.{COMMA, SORTNAMES, OPNNAMES}
use Rattle.lotos_lexer.specs.declared.tokens.Token.{Token}
use Rattle.lotos_rows.specs.declared.renamings.TheConstants as renamings
use Rattle.lotos_rows.specs.Words.{Optional, Loosely, Behind}
use Rattle.lotos_rows.specs.Renamings.{IsSortPair, IsOperationPair, AreRenames}
use Rattle.tree_building.specs.Meaning.{Meaning, some_pairs, both_pairs}
use Rattle.tree_building.specs.PartSentences.{As, choose}
use Rattle.tree_building.specs.NamesSentences.{FurtherLoosely}

abbrev pub renamings_part : List ℕ → ℕ → List Token → Meaning → Type 0
renamings_part text p tokens meaning =
    choose (p == renamings.RENAMES) (As both_pairs (AreRenames text) tokens meaning)
    (choose (p == renamings.SORT_RENAMES) (As some_pairs (Optional [] (Behind SORTNAMES (Loosely COMMA (IsSortPair text)))) tokens meaning)
    (choose (p == renamings.SORT_PAIRS) (As some_pairs (Loosely COMMA (IsSortPair text)) tokens meaning)
    (choose (p == renamings.MORE_SORT_PAIRS) (As some_pairs (FurtherLoosely COMMA (IsSortPair text)) tokens meaning)
    (choose (p == renamings.OPERATION_RENAMES)
    (As some_pairs (Optional [] (Behind OPNNAMES (Loosely COMMA (IsOperationPair text)))) tokens meaning)
    (choose (p == renamings.OPERATION_PAIRS) (As some_pairs (Loosely COMMA (IsOperationPair text)) tokens meaning)
    (As some_pairs (FurtherLoosely COMMA (IsOperationPair text)) tokens meaning))))))
