use Rattle.std.proofs.Common.{◌∙◌, ℕ, ap, map, sym, arith}
use Rattle.std.proofs.lemmas.Result.{IfOk-weaker}
use Rattle.ll_engine.specs.Run.{from_last}
use Rattle.ll_engine.proofs.Running.{length-from_last}
use Rattle.syntax_trees.specs.Grouping.{grouped}
use Rattle.tree_building.proofs.FromLast.{map_reverse}
use Rattle.syntax_trees.specs.Firsts.{firsts_between}
use Rattle.syntax_trees.specs.FirstsView.{firsts_of}
use Rattle.text_depth.specs.RowDepth.{or_no_nodes}
use Rattle.text_depth.proofs.PartLists.{no_tree}
use Rattle.text_depth.proofs.part.grouped_firsts.Goals as goal

pub returns-then-len : goal.returns-then-len
returns-then-len c =
    c.everywhere.ensures
    ∙ sym
    (ap or_no_nodes
    (no_tree (from_last firsts_of c.args.operands.items) (from_last (λ (strength : ℕ). strength) c.args.strengths.items)
    (λ e.
    c.if-len.true
    (omega (
      arith,
      e,
      length-from_last firsts_of c.args.operands.items,
      length-from_last (λ (strength : ℕ). strength) c.args.strengths.items,
      c.args.operands.ok.0,
      c.args.strengths.ok.0,
    )))))

pub returns : goal.returns
returns c =
    let operands = ap (map firsts_of) c.turned.ensures ∙ map_reverse firsts_of c.args.operands.items in
    let strengths = ap (map (λ (strength : ℕ). strength)) c.turned-2.ensures
    ∙ map_reverse (λ (strength : ℕ). strength) c.args.strengths.items in
    IfOk-weaker c.group_operands.result _ _
    (λ tree is.
    sym
    (ap or_no_nodes
    (ap (λ it. grouped (λ strength. strength) (λ strength. firsts_between) it
    (from_last (λ (strength : ℕ). strength) c.args.strengths.items))
    (sym operands)
    ∙ ap (λ it. grouped (λ strength. strength) (λ strength. firsts_between) (map firsts_of c.turned.result.items) it)
    (sym strengths) ∙ is)))
    c.group_operands.ensures
