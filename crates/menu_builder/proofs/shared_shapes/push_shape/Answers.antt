use Rattle.std.proofs.Common.{refl}
use Rattle.menu_builder.proofs.SharedShapeLemmas.{one_more_told}
use Rattle.menu_builder.proofs.shared_shapes.push_shape.Goals as goal

pub returns-clause-told : goal.returns-clause-told
returns-clause-told c = λ h. one_more_told c.args.shapes.now.items c.push.new.self.items _ c.in_ok-push.ensures.items refl refl h
