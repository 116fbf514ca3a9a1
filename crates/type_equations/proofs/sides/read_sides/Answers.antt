use Rattle.std.proofs.lemmas.Result.{err_from_is_err_and}
use Rattle.lotos_base.specs.WrittenView.{written_term_of}
use Rattle.std.proofs.Common.{sym, subst}
use Rattle.lotos_base.specs.Signature.{Signature}
use Rattle.syntax_trees.specs.TreeViews.{written_equation_of}
use Rattle.syntax_trees.specs.WrittenEquation.{WrittenEquation}
use Rattle.sort_terms.specs.ProfiledTerm.{IsOf}
use Rattle.sort_terms.specs.ReaderView.{signature_read}
use Rattle.sort_terms.specs.ScopeView.{variables_in}
use Rattle.sort_terms.specs.SortedView.{profiled_in, term_in}
use Rattle.type_definitions.proofs.HoldsLemmas.{refused_term}
use Rattle.type_definitions.specs.DeclaredEquations.{type_fault_of, IsSide, IsFaultOfSides}
use Rattle.type_equations.proofs.SideLemmas.{side_read, side_refused, left_fault, right_fault, unless_weaker, of_expected_sort}
use Rattle.type_equations.proofs.sides.read_sides.Goals as goal

pub returns-in_err-left : goal.returns-in_err-left
returns-in_err-left c =
    let e = err_from_is_err_and c.from_residual.result c.from_residual.ensures.1 in
    rw (e.1, e.2) (λ p asked same scope is.
    refused_term (IsFaultOfSides p asked) c.in_err-left.field-0.0
    (unless_weaker _ _ c.in_err-left.field-0.0
    (λ r refused.
    left_fault p asked (written_equation_of c.args.equation.now) (type_fault_of r) is
    (side_refused p asked (signature_read c.args.reader.now) (variables_in c.args.scope.now.scope.now) c.args.scope.now.sort
    (written_term_of c.args.equation.now.left) r same scope.scope_is scope.sort_is refused))
    c.in_err-left.ensures.refused))

pub returns-in_err-right : goal.returns-in_err-right
returns-in_err-right c =
    let e = err_from_is_err_and c.from_residual-in_err-right.result c.from_residual-in_err-right.ensures.1 in
    rw (e.1, e.2) (λ p asked same scope is.
    let one =
    side_read p asked (signature_read c.args.reader.now) (variables_in c.args.scope.now.scope.now) c.args.scope.now.sort
    (written_term_of c.args.equation.now.left) (record { term = term_in c.in_ok-left.left; sort = c.in_ok-left.left.sort }) same
    scope.scope_is scope.sort_is c.in_ok-left.ensures.read.1 in
    refused_term (IsFaultOfSides p asked) c.in_err-right.field-0.0
    (unless_weaker _ _ c.in_err-right.field-0.0
    (λ r refused.
    right_fault p asked (written_equation_of c.args.equation.now) (term_in c.in_ok-left.left) (type_fault_of r) is one
    (side_refused p asked (signature_read c.args.reader.now) (variables_in c.args.scope.now.scope.now) c.args.scope.now.sort
    (written_term_of c.args.equation.now.right) r same scope.scope_is scope.sort_is refused))
    c.in_err-right.ensures.refused))

pub returns : goal.returns
returns c = λ p asked same scope is.
    let one =
    side_read p asked (signature_read c.args.reader.now) (variables_in c.args.scope.now.scope.now) c.args.scope.now.sort
    (written_term_of c.args.equation.now.left) (record { term = term_in c.in_ok-left.left; sort = c.in_ok-left.left.sort }) same
    scope.scope_is scope.sort_is c.in_ok-left.ensures.read.1 in
    let other =
    side_read p asked (signature_read c.args.reader.now) (variables_in c.args.scope.now.scope.now) c.args.scope.now.sort
    (written_term_of c.args.equation.now.right) (record { term = term_in c.in_ok-right.right; sort = c.in_ok-right.right.sort }) same
    scope.scope_is scope.sort_is c.in_ok-right.ensures.read.1 in (
      subst (λ (d : WrittenEquation). IsSide p asked d.left (term_in c.in_ok-left.left)) (sym is) one,
      subst (λ (d : WrittenEquation). IsSide p asked d.right (term_in c.in_ok-right.right)) (sym is) other,
      subst (λ (s : Signature). IsOf s (profiled_in c.in_ok-left.left)) (sym same) c.in_ok-left.ensures.read.0,
      subst (λ (s : Signature). IsOf s (profiled_in c.in_ok-right.right)) (sym same) c.in_ok-right.ensures.read.0,
      of_expected_sort (signature_read c.args.reader.now) (variables_in c.args.scope.now.scope.now)
          (written_term_of c.args.equation.now.left) c.args.scope.now.sort
          (record { term = term_in c.in_ok-left.left; sort = c.in_ok-left.left.sort }) c.in_ok-left.ensures.read.1,
      of_expected_sort (signature_read c.args.reader.now) (variables_in c.args.scope.now.scope.now)
          (written_term_of c.args.equation.now.right) c.args.scope.now.sort
          (record { term = term_in c.in_ok-right.right; sort = c.in_ok-right.right.sort }) c.in_ok-right.ensures.read.1,
    )
