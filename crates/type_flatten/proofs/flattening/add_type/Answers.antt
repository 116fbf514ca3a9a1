use Rattle.std.proofs.Common.{◌≡◌, ◌<◌, ◌≤◌, length, ap, sym, ◌∙◌, ltb-true, ltb-false}
use Rattle.std.specs.Prelude.{Some, slice_get}
use Rattle.std.proofs.lemmas.Option.{slice_get-get_or, slice_get_past}
use Rattle.type_definitions.specs.declared.type_texts.TypeText.{TypeText}
use Rattle.type_flatten.proofs.OrderLemmas.{type_added, nothing_added}
use Rattle.type_flatten.proofs.flattening.add_type.Goals as goal

pub returns-in-Some : goal.returns-in-Some
returns-in-Some c =
    let within : c.args.number < length c.args.types.now = ltb-true _ _ (sym c.in-Some.ensures.lookup.0) in
    let found : slice_get c.args.types.now c.args.number ≡ Some c.in-Some.text.now =
    slice_get-get_or c.args.types.now c.args.number c.in-Some.text.now within
    ∙ ap (λ (t : TypeText). Some t) (sym c.in-Some.ensures.lookup.1) in
    type_added c.args.types.now c.args.number c.in-Some.text.now c.args.texts.now.items c.push.new.self.items found
    c.in_ok-push.ensures.items

pub returns : goal.returns
returns c =
    let past : length c.args.types.now ≤ c.args.number = ltb-false _ _ (sym c.in_default.ensures.lookup.0) in
    nothing_added c.args.types.now c.args.number c.args.texts.now.items
    (slice_get_past c.args.types.now c.args.number past)
