use Rattle.std.proofs.Common.{◌≡◌, List, subst}
use Rattle.std.specs.Prelude.{Some, slice_get}
use Rattle.lotos_base.proofs.Members.{read_member}
use Rattle.type_presentations.specs.declared.presented.PresentedType.{PresentedType}
use Rattle.type_presentations.proofs.presented.PresentedTypes.without_formals.Goals as goal

pub add_unless_formal-requires : goal.add_unless_formal-requires
add_unless_formal-requires c =
    let found : slice_get c.deref-presented-items.result.now c.loop-presented.presented-index ≡ Some c.presented-item.result =
    read_member c.deref-presented-items.result.now c.loop-presented.presented-index c.presented-item.result c.loop-presented-test.true
    c.presented-item.is in
    c.requires.each c.loop-presented.presented-index c.presented-item.result
    (subst (λ (ts : List PresentedType). slice_get ts c.loop-presented.presented-index ≡ Some c.presented-item.result)
    c.deref-presented-items.ensures.value found)
