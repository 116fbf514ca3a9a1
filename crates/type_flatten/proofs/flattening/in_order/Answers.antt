use Rattle.std.proofs.Common.{List, [], ◌∷◌, ◌++◌, get_or, ap, ◌∙◌}
use Rattle.type_definitions.specs.Flattened.{types_at}
use Rattle.type_definitions.specs.TypeNamesView.{types_in}
use Rattle.type_definitions.specs.TypeView.{declared_types_of}
use Rattle.type_definitions.specs.declared.type_texts.TypeText.{TypeText}
use Rattle.type_flatten.proofs.OrderLemmas.{next_in_order}
use Rattle.type_flatten.proofs.flattening.in_order.Goals as goal

pub loop-number-preserved : goal.loop-number-preserved
loop-number-preserved c =
    let texts = declared_types_of c.loop-number.texts.items in
    let number = get_or c.args.order.now c.loop-number.number-index 0 in
    next_in_order (types_in c.args.names.now) texts _ _ c.args.order.now c.loop-number.number-index c.loop-number-test.true
    (c.in_ok-add_type.ensures
    ∙ ap (λ (ts : List TypeText). texts ++ types_at (declared_types_of ts) (number ∷ [])) c.types-types.ensures)
    c.loop-number.invariant
