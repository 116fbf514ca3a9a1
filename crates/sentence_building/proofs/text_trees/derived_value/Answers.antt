use Rattle.std.proofs.Common.{◌∙◌}
use Rattle.std.proofs.lemmas.Result.{IfOk-weaker}
use Rattle.tree_building.proofs.Grammars.{kept_in_rows}
use Rattle.sentence_building.proofs.Meanings.{value_is}
use Rattle.sentence_building.proofs.text_trees.derived_value.Goals as goal

pub fold_derivation-requires : goal.fold_derivation-requires
fold_derivation-requires c = kept_in_rows c.args.grammar.now c.requires.lotos

-- the tree of the derivation is that by which the tokens have the meaning
pub returns : goal.returns
returns c =
    let derivation = c.requires.derivation in
    IfOk-weaker c.fold_derivation.result _ _
    (λ built told found derived.
    told derivation.0 derivation.1 derivation.2 derivation.3
    ∙ value_is c.args.text.now c.args.grammar.now c.requires.lotos c.args.tokens.now derivation.0 derivation.1 derivation.2 found derived)
    c.fold_derivation.ensures
