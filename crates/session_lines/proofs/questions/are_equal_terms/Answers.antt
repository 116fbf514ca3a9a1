use Rattle.lotos_base.specs.WrittenView.{written_term_of}
use Rattle.sort_terms.specs.ReaderView.{signature_read}
use Rattle.sort_terms.specs.ScopeView.{variables_in}
use Rattle.sort_terms.specs.SortedView.{term_in}
use Rattle.session_lines.proofs.QuestionLemmas.{pair_ground}
use Rattle.session_lines.proofs.questions.are_equal_terms.Goals as goal

pub equal-requires-clause-left_ground : goal.equal-requires-clause-left_ground
equal-requires-clause-left_ground c =
    (pair_ground (signature_read c.args.reader.now) (variables_in c.new-scope.result) (written_term_of c.args.terms.0.now)
    (written_term_of c.args.terms.1.now)
    (record { left = term_in c.in_ok-left.left; right = term_in c.in_ok-left.right; sort = c.in_ok-left.left.sort })
    c.new-scope.ensures c.in_ok-left.ensures.read.3).0

pub equal-requires-clause-right_ground : goal.equal-requires-clause-right_ground
equal-requires-clause-right_ground c =
    (pair_ground (signature_read c.args.reader.now) (variables_in c.new-scope.result) (written_term_of c.args.terms.0.now)
    (written_term_of c.args.terms.1.now)
    (record { left = term_in c.in_ok-left.left; right = term_in c.in_ok-left.right; sort = c.in_ok-left.left.sort })
    c.new-scope.ensures c.in_ok-left.ensures.read.3).1
