use Rattle.lotos_base.specs.WrittenView.{written_term_of}
use Rattle.sort_terms.specs.ReaderView.{signature_read}
use Rattle.sort_terms.specs.ScopeView.{variables_in}
use Rattle.sort_terms.specs.SortedView.{term_in}
use Rattle.behaviour_tree.specs.BehaviourView.{test_of}
use Rattle.scope_parts.specs.FaultView.{fault_of_term}
use Rattle.scope_parts.specs.VisibleView.{visible_in}
use Rattle.scope_parts.proofs.AnswerLemmas.{err_is}
use Rattle.scope_parts.proofs.TermLemmas.{both_over, pair_answered, pair_refused}
use Rattle.scope_parts.proofs.terms.Terms.pair.Goals as goal

pub read_pair-requires : goal.read_pair-requires
read_pair-requires c =
    both_over (signature_read c.args.self.now.reader) (visible_in c.args.visible.now) (variables_in c.in_ok-scope.scope)
    (written_term_of c.args.left.now) (written_term_of c.args.right.now) c.in_ok-scope.ensures c.requires

pub returns-in_err-left-clause-read : goal.returns-in_err-left-clause-read
returns-in_err-left-clause-read c =
    err_is test_of c.from_residual-in_err-left.result (fault_of_term c.in_err-left.field-0.0) _
    c.from_residual-in_err-left.ensures.1
    (pair_refused (signature_read c.args.self.now.reader) (visible_in c.args.visible.now) (variables_in c.in_ok-scope.scope)
    (written_term_of c.args.left.now) (written_term_of c.args.right.now) c.in_err-left.field-0.0 c.in_ok-scope.ensures
    c.in_err-left.ensures.refused)

pub returns-clause-read : goal.returns-clause-read
returns-clause-read c =
    pair_answered (signature_read c.args.self.now.reader) (visible_in c.args.visible.now) (variables_in c.in_ok-scope.scope)
    (written_term_of c.args.left.now) (written_term_of c.args.right.now)
    (record { left = term_in c.in_ok-left.left; right = term_in c.in_ok-left.right; sort = c.in_ok-left.left.sort })
    c.in_ok-scope.ensures c.in_ok-left.ensures.read.3
