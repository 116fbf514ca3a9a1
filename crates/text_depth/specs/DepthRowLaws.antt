-- The rows find the first node that is too deep: what is kept of a text by its derivation is that node of its tree.
use Rattle.std.specs.Prelude.{◌≡◌, ℕ, List, [], ◌∷◌, Some}
use Rattle.ll_engine.specs.Derivation.{Forest, DerivesSymbols}
use Rattle.ll_engine.specs.declared.symbol.Symbol.TheVariants.{Part}
use Rattle.ll_engine.specs.Fold.{folded_trees}
use Rattle.lotos_lexer.specs.declared.tokens.Token.{Token}
use Rattle.lotos_rows.specs.Kept.{is_kept_kind}
use Rattle.lotos_rows.specs.Rows.{rows}
use Rattle.tree_building.specs.Meaning.{Meaning}
use Rattle.tree_building.specs.RowMeaning.{numbered_row_means}
use Rattle.text_depth.specs.DepthPart.{depth_of}
use Rattle.text_depth.specs.RowDepth.{numbered_row_depth}

abbrev pub DepthsAreThoseOfTheTrees : Type 0
DepthsAreThoseOfTheTrees =
    (limit : ℕ) (text : List ℕ) (p : ℕ) (tree : Forest) (tokens : List Token) (meaning : Meaning) → DerivesSymbols rows tree (Part p ∷ []) →
    folded_trees (numbered_row_means text) is_kept_kind tree tokens ≡ Some (meaning ∷ []) →
    folded_trees (numbered_row_depth limit) is_kept_kind tree tokens ≡ Some (depth_of limit meaning ∷ [])
