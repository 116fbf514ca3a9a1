use Rattle.std.proofs.Common.{arith, refl, ap, ◌∙◌}
use Rattle.behaviour_tree.specs.MoveView.{shape_of}
use Rattle.menu_builder.specs.SharedShapes.{shapes_in}
use Rattle.draft_parts.specs.VariantView.{variant_of}
use Rattle.menu_builder.proofs.SharedShapeLemmas.{made_anew, pushed_within}
use Rattle.menu_builder.proofs.shared_shapes.made_over.Goals as goal

pub returns : goal.returns
returns c =
    made_anew c.args.variant c.args.shapes.now.items c.push_shape.new.shapes.items _ c.args.part c.len-made.result
    c.index.result.now c.index_mut.result.now c.tell.new.self (shape_of c.around.result) c.requires.shared c.requires.within
    c.index.ensures (pushed_within _ _ _ _ c.in_ok-push_shape.ensures.kept c.requires.within) c.index_mut.ensures.value
    c.in_ok-push_shape.ensures.kept (c.in_ok-push_shape.ensures.told c.requires.shared.told)
    (c.around.ensures ∙ ap (λ s. variant_of c.args.variant (shape_of s)) c.in_ok-owned.ensures)
    (omega (arith, c.len-made.ensures, c.args.shapes.now.ok))
    c.tell.ensures.shape (λ told there. c.tell.ensures.told (shapes_in c.push_shape.new.shapes.items) told there) refl
