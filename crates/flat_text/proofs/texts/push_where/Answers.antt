use Rattle.std.proofs.Common.{◌≡◌, ◌≤◌, ◌++◌, ℕ, List, [], length, drop, map, codes, ap, sym, ◌∙◌, subst}
use Rattle.std.proofs.lemmas.List.{append-nil, drop_all}
use Rattle.lotos_base.proofs.Pieces.{two_pieces}
use Rattle.lotos_base.specs.Name.{spelling}
use Rattle.behaviour_tree.specs.DefinitionView.{process_of}
use Rattle.behaviour_tree.specs.declared.definitions.Process.{Process}
use Rattle.report_text.proofs.HandedOn.{filled_list}
use Rattle.report_text.specs.NamingView.{naming_of}
use Rattle.flat_text.specs.FlatText.{processes_lines}
use Rattle.flat_text.proofs.FilledLists.{mapped_filled, no_processes, processes_filled}
use Rattle.flat_text.proofs.texts.push_where.Goals as goal

pub returns : goal.returns
returns c =
    let past : length c.args.processes.now.items ≤ c.loop-index.index =
    subst (λ (ps : List Process). length ps ≤ c.loop-index.index) c.deref-process-items.ensures.value c.loop-index-test.false in
    let written : c.loop-index.into.items ≡ c.push_text.new.into.items
    ++ processes_lines (naming_of c.args.naming.now) (map spelling c.args.names.now.items) (map process_of c.args.processes.now.items) =
    sym (append-nil c.loop-index.into.items)
    ∙ ap (λ (rest : List ℕ). c.loop-index.into.items ++ rest)
    (sym (no_processes (naming_of c.args.naming.now) (map spelling (drop c.loop-index.index c.args.names.now.items))
    (map process_of (drop c.loop-index.index c.args.processes.now.items))
    (ap (map process_of) (drop_all c.loop-index.index c.args.processes.now.items past))))
    ∙ c.loop-index.invariant in
    two_pieces c.args.into.now.items c.push_text.new.into.items c.loop-index.into.items (codes "where\n") _ c.in_ok-push_text.ensures
    written
    ∙ ap (λ (text : List ℕ). c.args.into.now.items ++ text)
    (sym (processes_filled (naming_of c.args.naming.now) (map spelling c.args.names.now.items) (map process_of c.args.processes.now.items)
    (mapped_filled process_of c.args.processes.now.items
    (filled_list c.args.processes.now.items _ c.args.processes.now.ok.0 (sym c.is_empty.ensures ∙ c.if-is_empty.false)))))
