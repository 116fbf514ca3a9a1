use Rattle.std.proofs.Common.{take}
use Rattle.lotos_base.specs.WrittenTerm.{written_terms}
use Rattle.lotos_base.specs.WrittenView.{written_terms_of}
use Rattle.sort_terms.specs.ReaderView.{signature_read}
use Rattle.sort_terms.specs.ScopeView.{variables_in}
use Rattle.sort_terms.specs.Suiting.{AllSuit}
use Rattle.sort_terms.specs.TableView.{tables_of}
use Rattle.sort_terms.proofs.reader.Reader.+counting.Given as goal

abbrev pub invariant-all_counted-loop-term : goal.invariant-all_counted-loop-term
invariant-all_counted-loop-term l =
    AllSuit (signature_read l.self) (variables_in l.scope) (written_terms (written_terms_of (take l.term-index l.term-items)))
    (tables_of l.made.items)
