use Rattle.std.proofs.Common.{◌≡◌, List, [], length, map, take, drop, sym, ap, ◌∙◌, arith}
use Rattle.std.specs.Prelude.{Option, None}
use Rattle.std.proofs.Math.Seq.{take-length, drop-length}
use Rattle.lotos_base.specs.WrittenTerm.{PlacedName}
use Rattle.type_definitions.specs.DeclaredTypes.{DeclaredType, mentions_in, type_numbers, mention_graph}
use Rattle.type_definitions.specs.GraphRows.{graph_rows_of}
use Rattle.type_definitions.specs.MentionFaults.{unknown_mention, AreAllKnown}
use Rattle.type_definitions.specs.TypeNamesView.{types_in}
use Rattle.type_definitions.specs.TypeView.{declared_types_of}
use Rattle.type_definitions.specs.declared.type_texts.TypeText.{TypeText}
use Rattle.type_definitions.proofs.UnknownLemmas.{graph_within}
use Rattle.type_definitions.proofs.resolving.graph_of_names.Goals as goal

pub of-requires : goal.of-requires
of-requires c =
    let whole : c.loop-text.text-index ≡ length c.types-text-items.result.now = omega arith in
    let known : AreAllKnown (types_in c.args.names.now) =
    sym c.loop-text.invariant.0
    ∙ ap (λ n. unknown_mention (types_in c.args.names.now) (declared_types_of (drop n c.types-text-items.result.now))) whole
    ∙ ap (λ (ts : List TypeText). unknown_mention (types_in c.args.names.now) (declared_types_of ts))
    (drop-length c.types-text-items.result.now) in
    let rows : graph_rows_of c.loop-text.rows.items ≡ mention_graph (types_in c.args.names.now) =
    c.loop-text.invariant.1
    ∙ ap (λ n. map (λ (t : DeclaredType). type_numbers (types_in c.args.names.now) (mentions_in t.body))
    (declared_types_of (take n c.types-text-items.result.now))) whole
    ∙ ap (λ (ts : List TypeText). map (λ (t : DeclaredType). type_numbers (types_in c.args.names.now) (mentions_in t.body))
    (declared_types_of ts))
    (take-length c.types-text-items.result.now ∙ c.types-text-items.ensures) in
    graph_within (types_in c.args.names.now) (graph_rows_of c.loop-text.rows.items) known rows
