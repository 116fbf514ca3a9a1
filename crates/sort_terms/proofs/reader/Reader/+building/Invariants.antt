use Rattle.std.proofs.Common.{◌≡◌, drop}
use Rattle.sort_terms.specs.ReaderView.{signature_read}
use Rattle.sort_terms.specs.Tables.{all_built_from}
use Rattle.sort_terms.specs.TableView.{tables_of}
use Rattle.sort_terms.specs.TermView.{all_profiled}
use Rattle.sort_terms.proofs.BuiltLists.{behind}
use Rattle.sort_terms.proofs.reader.Reader.+building.Given as goal

abbrev pub invariant-all_built-loop-i : goal.invariant-all_built-loop-i
invariant-all_built-loop-i l =
    all_built_from (signature_read l.self) (tables_of l.arguments.items) l.sorts.items
    ≡ behind (all_profiled l.built.items) (all_built_from (signature_read l.self) (tables_of (drop l.i l.arguments.items))
    (drop l.i l.sorts.items))
