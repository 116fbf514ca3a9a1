use Rattle.std.proofs.Common.{◌≡◌, true, length, refl, arith}
use Rattle.std.proofs.lemmas.Result.{err_from_is_err_and}
use Rattle.syntax_trees.specs.TreeViews.{written_equation_of, group_of}
use Rattle.type_definitions.proofs.HoldsLemmas.{holds_weaker}
use Rattle.type_definitions.specs.DeclaredEquations.{none_asked}
use Rattle.type_equations.specs.SectionScope.{asked_in, question_in}
use Rattle.type_equations.proofs.GivenLemmas.{given_next, fault_next}
use Rattle.type_equations.proofs.GroupLemmas.{group_given, group_sorts_fault, group_fault}
use Rattle.type_equations.proofs.formal.check_group.Goals as goal

pub returns-in_err-scope : goal.returns-in_err-scope
returns-in_err-scope c =
    let e = err_from_is_err_and c.from_residual.result c.from_residual.ensures.1 in
    rw (e.1, e.2) (λ p written is truth.
    holds_weaker _ _ c.in_err-scope.field-0.0
    (λ f found type_name. group_sorts_fault true written c.args.group.now type_name p f (found type_name))
    (c.in_err-scope.ensures p written is.same is.given is.variables_are))

pub loop-equation-init : goal.loop-equation-init
loop-equation-init c = λ p written is truth. none_asked p

pub check_equation-requires : goal.check_equation-requires
check_equation-requires c =
    let p = c.requires.0 in
    let written = c.requires.1 in
    let is = c.requires.2 in (
      p,
      asked_in written (group_of c.args.group.now) (written_equation_of c.equation-item.result),
      is.same,
      (c.in_ok-scope.ensures p written is.same is.given is.variables_are).1,
    )

pub loop-equation-preserved : goal.loop-equation-preserved
loop-equation-preserved c = λ p written is truth.
    let scope = c.in_ok-scope.ensures p written is.same is.given is.variables_are in
    given_next written_equation_of (question_in true written (group_of c.args.group.now)) p p p c.deref-equation-items.result.now
    c.loop-equation.equation-index c.equation-item.result c.loop-equation-test.true c.equation-item.is
    (c.loop-equation.invariant p written is truth)
    (c.in_ok-check_equation.ensures p (asked_in written (group_of c.args.group.now) (written_equation_of c.equation-item.result))
    is.same scope.1
    truth refl)

pub returns-in_err-check_equation : goal.returns-in_err-check_equation
returns-in_err-check_equation c =
    let e = err_from_is_err_and c.from_residual-in_err-check_equation.result c.from_residual-in_err-check_equation.ensures.1 in
    rw (e.1, e.2) (λ p written is truth.
    let scope = c.in_ok-scope.ensures p written is.same is.given is.variables_are in
    holds_weaker _ _ c.in_err-check_equation.field-0.0
    (λ f found type_name.
    group_fault true written c.args.group.now type_name p c.deref-equation-items.result.now f c.deref-equation-items.ensures.value scope.0
    (fault_next written_equation_of (question_in true written (group_of c.args.group.now)) type_name p p c.deref-equation-items.result.now
    c.loop-equation.equation-index c.equation-item.result f c.loop-equation-test.true c.equation-item.is
    (c.loop-equation.invariant p written is truth) (found type_name)))
    (c.in_err-check_equation.ensures p (asked_in written (group_of c.args.group.now) (written_equation_of c.equation-item.result))
    is.same scope.1
    truth refl))

pub returns : goal.returns
returns c = λ p written is truth.
    let scope = c.in_ok-scope.ensures p written is.same is.given is.variables_are in
    let all : c.loop-equation.equation-index ≡ length c.deref-equation-items.result.now = omega arith in
    group_given true written c.args.group.now p p c.deref-equation-items.result.now c.loop-equation.equation-index
    c.deref-equation-items.ensures.value all scope.0 (c.loop-equation.invariant p written is truth)
