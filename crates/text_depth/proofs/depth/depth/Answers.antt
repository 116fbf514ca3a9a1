use Rattle.std.proofs.Common.{◌≡◌, ◌∙◌, Some, None, ap, sym}
use Rattle.std.specs.Prelude.{option_map}
use Rattle.std.proofs.lemmas.Result.{IfOk-weaker}
use Rattle.tree_building.specs.Reading.{node_limit}
use Rattle.text_depth.specs.DepthPart.{depth_of}
use Rattle.text_depth.specs.RowDepth.{closed_part}
use Rattle.text_depth.specs.PartView.{kept_of}
use Rattle.tree_building.proofs.Grammars.{kept_in_rows}
use Rattle.text_depth.proofs.Depths.{kept_is, value_is}
use Rattle.text_depth.proofs.depth.depth.Goals as goal

pub fold_derivation-requires : goal.fold_derivation-requires
fold_derivation-requires c = kept_in_rows c.args.grammar.now c.requires.lotos

pub returns-in-Some : goal.returns-in-Some
returns-in-Some c =
    let derivation = c.requires.derivation in
    IfOk-weaker c.closed_part.result _ _
    (λ deep is text found derived.
    is
    ∙ ap (closed_part node_limit)
    (kept_is c.in-Some.part (depth_of node_limit found)
    (ap (option_map kept_of) (sym c.in-Some.is)
    ∙ c.in_ok-part.ensures derivation.0 derivation.1 derivation.2 (derivation.3 ∙ sym c.in_ok-rows.ensures.items)
    ∙ value_is node_limit text c.args.grammar.now c.requires.lotos c.args.tokens.now derivation.0 derivation.1 derivation.2 found derived)))
    c.closed_part.ensures

pub returns-in-None : goal.returns-in-None
returns-in-None c =
    λ text found derived.
    let derivation = c.requires.derivation in
    let none : None ≡ Some (depth_of node_limit found) =
    ap (option_map kept_of) (sym c.in-None.is)
    ∙ c.in_ok-part.ensures derivation.0 derivation.1 derivation.2 (derivation.3 ∙ sym c.in_ok-rows.ensures.items)
    ∙ value_is node_limit text c.args.grammar.now c.requires.lotos c.args.tokens.now derivation.0 derivation.1 derivation.2 found derived in
    absurd (cc)
