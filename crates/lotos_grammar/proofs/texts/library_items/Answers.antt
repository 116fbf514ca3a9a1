use Rattle.std.proofs.Common.{◌∙◌, map, []}
use Rattle.syntax_trees.specs.TreeViews.{item_of}
use Rattle.lotos_grammar.specs.Gathering.{shipped, in_file}
use Rattle.lotos_grammar.specs.declared.faults.LibraryFault.TheVariants.{NoMemory}
use Rattle.lotos_base.specs.WrittenView.{placed_name_of}
use Rattle.lotos_grammar.specs.GatheredView.{gathered_of}
use Rattle.lotos_grammar.proofs.ShelfLemmas.{gives_nothing}
use Rattle.lotos_grammar.proofs.TextLemmas.{wants_before, wants_behind, text_items, moved_items, stops_by_file, shipped_text, no_text, numbered, with_one_more, err_is}
use Rattle.lotos_grammar.proofs.WalkLemmas.{from_err}
use Rattle.lotos_grammar.proofs.texts.library_items.Goals as goal

pub returns-in_err-text-in-None-clause-replaced : goal.returns-in_err-text-in-None-clause-replaced
returns-in_err-text-in-None-clause-replaced g c =
    stops_by_file _ _ (gathered_of c.args.so_far.now) c.args.place c.args.name c.in_err-text-in-None.field-0.0
    c.from_residual-in_err-text-in-None.result
    (err_is _ _ c.from_residual-in_err-text-in-None.ensures.1) c.requires (no_text _ _ _ c.text_of.ensures c.in-None.is)
    c.in_err-text-in-None.ensures

pub returns-in_ok-push-in-Some-clause-replaced : goal.returns-in_ok-push-in-Some-clause-replaced
returns-in_ok-push-in-Some-clause-replaced g c =
    text_items _ _ (gathered_of c.args.so_far.now) _ c.args.place c.args.name [] _ _ c.items_of.result
    c.requires (shipped (shipped_text _ _ _ _ c.text_of.ensures c.in-Some.is))
    (numbered c.args.so_far.now.libraries.items c.len.result (c.len.ensures ∙ c.args.so_far.now.libraries.ok.0))
    (gives_nothing _)
    (with_one_more c.args.so_far.now.libraries.items c.push.new.self.items (map item_of c.args.so_far.now.types.items) c.args.name
    c.in_ok-push-in-Some.ensures.items)
    c.items_of.ensures

pub returns-in_ok-push-in-None-clause-replaced : goal.returns-in_ok-push-in-None-clause-replaced
returns-in_ok-push-in-None-clause-replaced g c =
    moved_items _ _ (gathered_of c.args.so_far.now) _ c.args.place c.args.name c.in_ok-text-in-None.text.items c.as_slice.result.now _
    c.items_of-in-None.result
    c.as_slice.ensures.value c.requires (no_text _ _ _ c.text_of.ensures c.in-None.is)
    (numbered c.args.so_far.now.libraries.items c.len.result (c.len.ensures ∙ c.args.so_far.now.libraries.ok.0))
    c.in_ok-text-in-None.ensures.gives
    (with_one_more c.args.so_far.now.libraries.items c.push-in-None.new.self.items (map item_of c.args.so_far.now.types.items) c.args.name
    c.in_ok-push-in-None.ensures.items)
    c.items_of-in-None.ensures

pub returns-in_err-push-in-Some-clause-replaced : goal.returns-in_err-push-in-Some-clause-replaced
returns-in_err-push-in-Some-clause-replaced g c =
    from_err _ _ c.from_residual.result NoMemory (err_is _ NoMemory c.from_residual.ensures.1)
    (wants_before _ (gathered_of c.args.so_far.now) (gathered_of c.args.so_far.now) (placed_name_of (c.args.place, c.args.name)))

pub returns-in_err-push-in-None-clause-replaced : goal.returns-in_err-push-in-None-clause-replaced
returns-in_err-push-in-None-clause-replaced g c =
    from_err _ _ c.from_residual-in_err-push-in-None.result NoMemory (err_is _ NoMemory c.from_residual-in_err-push-in-None.ensures.1)
    (wants_behind _ _ (gathered_of c.args.so_far.now) (gathered_of c.args.so_far.now) c.args.place c.args.name _
    c.in_ok-text-in-None.text.items c.requires (in_file (no_text _ _ _ c.text_of.ensures c.in-None.is)) c.in_ok-text-in-None.ensures.gives)
