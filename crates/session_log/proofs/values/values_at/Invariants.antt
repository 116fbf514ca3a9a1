use Rattle.std.proofs.Common.{map}
use Rattle.lotos_base.specs.WrittenView.{written_term_of}
use Rattle.sort_terms.specs.ReaderView.{signature_read}
use Rattle.session_log.proofs.ValueLemmas.{AreHalfRead}
use Rattle.session_log.proofs.values.values_at.Given as goal

-- the terms so far are read
abbrev pub invariant-loop-index : goal.invariant-loop-index
invariant-loop-index l =
    AreHalfRead (signature_read l.reader) l.sorts.items (map written_term_of l.terms) l.index l.values.items
