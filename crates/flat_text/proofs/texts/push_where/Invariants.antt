use Rattle.std.proofs.Common.{◌≡◌, ◌++◌, drop, map}
use Rattle.lotos_base.specs.Name.{spelling}
use Rattle.behaviour_tree.specs.DefinitionView.{process_of}
use Rattle.report_text.specs.NamingView.{naming_of}
use Rattle.flat_text.specs.FlatText.{processes_lines}
use Rattle.flat_text.proofs.texts.push_where.Given as goal

-- the processes so far are written
abbrev pub invariant-loop-index : goal.invariant-loop-index
invariant-loop-index l =
    l.into.items ++ processes_lines (naming_of l.naming) (map spelling (drop l.index l.names.items))
    (map process_of (drop l.index l.processes.items))
    ≡ l.initial.into.items ++ processes_lines (naming_of l.naming) (map spelling l.names.items) (map process_of l.processes.items)
