use Rattle.std.proofs.Common.{◌≡◌, map}
use Rattle.lotos_base.specs.WrittenView.{written_term_of}
use Rattle.sort_terms.specs.ReaderView.{signature_read}
use Rattle.sort_terms.specs.ReadingOutcome.{refusals_together, unknown_in}
use Rattle.sort_terms.specs.ScopeView.{variables_in}
use Rattle.sort_terms.specs.Searching.{between}
use Rattle.sort_terms.proofs.reader.Reader.+unknown.Given as goal

abbrev pub invariant-first_among-loop-i : goal.invariant-first_among-loop-i
invariant-first_among-loop-i l =
    refusals_together (map (λ w. unknown_in (signature_read l.self) (variables_in l.scope) (written_term_of w))
    (between l.fn.from l.fn.to l.written.items))
    ≡ refusals_together (map (λ w. unknown_in (signature_read l.self) (variables_in l.scope) (written_term_of w))
    (between l.i l.fn.to l.written.items))
