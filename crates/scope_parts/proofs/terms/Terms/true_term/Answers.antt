use Rattle.std.proofs.Common.{ap, sym, ◌∙◌, subst}
use Rattle.std.specs.Prelude.{option_map}
use Rattle.behaviour_tree.specs.BehaviourView.{test_of}
use Rattle.sort_terms.specs.ProfiledTerm.{IsOf, bare}
use Rattle.sort_terms.specs.ReaderView.{signature_read}
use Rattle.sort_terms.specs.SortedView.{term_in}
use Rattle.syntax_trees.specs.TreeViews.{premiss_of}
use Rattle.scope_parts.specs.Sorts.{truth_in}
use Rattle.scope_parts.specs.TermsView.{truth_of}
use Rattle.scope_parts.specs.VisibleView.{visible_in}
use Rattle.scope_parts.proofs.AnswerLemmas.{err_is}
use Rattle.scope_parts.proofs.TermLemmas.{true_answered, true_refused}
use Rattle.scope_parts.proofs.terms.Terms.true_term.Goals as goal

pub constant_term-requires : goal.constant_term-requires
constant_term-requires c = (c.args.self.now.known c.in-Some.truth c.in-Some.is).constant

pub returns-in_err-left-clause-read : goal.returns-in_err-left-clause-read
returns-in_err-left-clause-read c =
    err_is test_of c.from_residual.result c.in_err-left.field-0.0 _ c.from_residual.ensures.1
    (true_refused (signature_read c.args.self.now.reader) (visible_in c.args.visible.now) (premiss_of c.args.text.now)
    (truth_in (signature_read c.args.self.now.reader)) (truth_of c.in-Some.truth) c.in_err-left.field-0.0
    (ap (option_map truth_of) (sym c.in-Some.is) ∙ c.args.self.now.told) c.in_err-left.ensures.read)

pub returns-clause-read : goal.returns-clause-read
returns-clause-read c =
    true_answered (signature_read c.args.self.now.reader) (visible_in c.args.visible.now) (premiss_of c.args.text.now)
    (truth_in (signature_read c.args.self.now.reader)) (truth_of c.in-Some.truth) (term_in c.in_ok-left.left) (term_in c.in_ok-right.right)
    (ap (option_map truth_of) (sym c.in-Some.is) ∙ c.args.self.now.told) c.in_ok-left.ensures.read (ap bare c.in_ok-right.ensures)

pub returns-clause-profiles : goal.returns-clause-profiles
returns-clause-profiles c = (
  c.in_ok-left.ensures.profile,
  (
    subst (IsOf (signature_read c.args.self.now.reader)) (sym c.in_ok-right.ensures)
        ((c.args.self.now.known c.in-Some.truth c.in-Some.is).operation, tt),
    tt,
  ),
)
