use Rattle.std.proofs.Common.{refl, ap, ◌∙◌}
use Rattle.std.proofs.lemmas.Result.{IfOk-weaker}
use Rattle.behaviour_tree.specs.MoveView.{shape_of}
use Rattle.menu_builder.proofs.SharedShapeLemmas.{rest_over}
use Rattle.menu_builder.proofs.shared_shapes.shared_below.Goals as goal

pub returns : goal.returns
returns c =
    IfOk-weaker c.all_over.result _ _ (λ made e s at.
    rest_over c.args.path.now _ c.loop-left.left c.args.shapes.now.items c.loop-left.shapes.items c.args.start c.loop-left.reached
    c.index.result.now s (shape_of c.in_ok-shape.shape) (shape_of made) c.loop-left.invariant.reaches refl at c.index.ensures
    (c.in_ok-shape.ensures ∙ ap shape_of c.deref.ensures) e) c.all_over.ensures
