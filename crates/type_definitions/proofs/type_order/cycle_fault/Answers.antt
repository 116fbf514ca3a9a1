use Rattle.std.proofs.Common.{◌≡◌, ℕ, List, refl, sym, ap, ◌∙◌}
use Rattle.std.specs.Prelude.{Some, None}
use Rattle.std.proofs.lemmas.Option.{none-some}
use Rattle.lotos_base.specs.Name.{spelling}
use Rattle.lotos_base.specs.WrittenView.{placed_name_of}
use Rattle.type_definitions.specs.TypeNamesView.{types_in}
use Rattle.type_definitions.specs.MentionFaults.{mention_at}
use Rattle.type_definitions.proofs.UnknownLemmas.{mention_of_number, mention_read}
use Rattle.type_definitions.proofs.type_order.cycle_fault.Goals as goal

pub unreachable-requires : goal.unreachable-requires
unreachable-requires c =
    let there = mention_of_number (types_in c.args.names.now) c.args.by c.args.position c.requires in
    let read = mention_read c.args.names.now.types.items c.types.result.now c.args.by c.args.position c.index-types-by.result
    c.types.ensures
    c.requires in
    none-some there.0 (c.in_default.ensures ∙ sym read ∙ there.1)

pub returns-in-Ok : goal.returns-in-Ok
returns-in-Ok c =
    let read = mention_read c.args.names.now.types.items c.types.result.now c.args.by c.args.position c.index-types-by.result
    c.types.ensures
    c.requires in
    let there : mention_at (types_in c.args.names.now) c.args.by c.args.position ≡ Some (placed_name_of c.in-Some.mention.now) =
    read ∙ sym c.in-Some.ensures in (
      placed_name_of c.in-Some.mention.now,
      record { by = c.args.by; position = c.args.position; is_first = c.requires; is_there = there },
      refl,
      sym c.in-Ok.ensures,
    )
