use Rattle.lotos_base.specs.WrittenView.{written_term_of}
use Rattle.sort_terms.specs.ReaderView.{signature_read}
use Rattle.sort_terms.specs.ScopeView.{variables_in}
use Rattle.sort_terms.specs.SortedView.{term_in}
use Rattle.scope_parts.specs.FaultView.{fault_of_term}
use Rattle.scope_parts.specs.VisibleView.{visible_in}
use Rattle.scope_parts.proofs.AnswerLemmas.{err_is}
use Rattle.scope_parts.proofs.TermLemmas.{seen_over, term_answered, term_refused}
use Rattle.scope_parts.proofs.terms.Terms.term.Goals as goal

pub read_in-requires : goal.read_in-requires
read_in-requires c =
    seen_over (signature_read c.args.self.now.reader) (visible_in c.args.visible.now) (variables_in c.in_ok-scope.scope)
    (written_term_of c.args.written.now) c.in_ok-scope.ensures c.requires

pub returns-in_err-read_in-clause-read : goal.returns-in_err-read_in-clause-read
returns-in_err-read_in-clause-read c =
    err_is term_in c.from_residual-in_err-read_in.result (fault_of_term c.in_err-read_in.field-0.0) _
    c.from_residual-in_err-read_in.ensures.1
    (term_refused (signature_read c.args.self.now.reader) (visible_in c.args.visible.now) (variables_in c.in_ok-scope.scope)
    (written_term_of c.args.written.now) c.args.expected c.in_err-read_in.field-0.0 c.in_ok-scope.ensures
    c.in_err-read_in.ensures.refused)

pub returns-clause-read : goal.returns-clause-read
returns-clause-read c =
    term_answered (signature_read c.args.self.now.reader) (visible_in c.args.visible.now) (variables_in c.in_ok-scope.scope)
    (written_term_of c.args.written.now) c.args.expected
    (record { term = term_in c.in_ok-read_in.field-0; sort = c.in_ok-read_in.field-0.sort }) c.in_ok-scope.ensures
    c.in_ok-read_in.ensures.read.1
