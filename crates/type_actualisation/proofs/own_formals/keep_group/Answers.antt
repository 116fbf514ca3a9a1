use Rattle.std.proofs.Common.{◌≡◌, true, length, refl, arith}
use Rattle.syntax_trees.specs.TreeViews.{written_equation_of, group_of}
use Rattle.sort_terms.specs.ReaderView.{signature_read}
use Rattle.type_equations.specs.SectionScope.{asked_in, question_in}
use Rattle.type_actualisation.specs.FormalLists.{over_signature}
use Rattle.type_actualisation.proofs.OwnLemmas.{group_kept, kept_next, nothing_kept}
use Rattle.type_actualisation.proofs.own_formals.keep_group.Goals as goal

pub loop-equation-init : goal.loop-equation-init
loop-equation-init c =
    (λ written is. nothing_kept (over_signature (signature_read c.args.reader.now)) c.args.list.now, c.requires.over)

pub keep_equation-requires-clause-over : goal.keep_equation-requires-clause-over
keep_equation-requires-clause-over c = c.loop-equation.invariant.1

pub keep_equation-requires-clause-scoped : goal.keep_equation-requires-clause-scoped
keep_equation-requires-clause-scoped c =
    let p = over_signature (signature_read c.args.reader.now) in
    let written = c.requires.section.0 in
    let is = c.requires.section.1 in (
      asked_in written (group_of c.args.group.now) (written_equation_of c.equation-item.result),
      (c.in_ok-scope.ensures p written is.same is.given is.variables_are).1,
      refl,
    )

pub loop-equation-preserved : goal.loop-equation-preserved
loop-equation-preserved c = (
  λ written is.
      let p = over_signature (signature_read c.args.reader.now) in
      let scope = c.in_ok-scope.ensures p written is.same is.given is.variables_are in
      kept_next written_equation_of (question_in true written (group_of c.args.group.now)) p c.args.list.now c.loop-equation.list
      c.keep_equation.new.list c.deref-equation-items.result.now c.loop-equation.equation-index c.equation-item.result
      c.loop-equation-test.true c.equation-item.is (c.loop-equation.invariant.0 written is)
      (c.in_ok-keep_equation.ensures.kept (asked_in written (group_of c.args.group.now) (written_equation_of c.equation-item.result))
      scope.1
      refl),
  c.in_ok-keep_equation.ensures.over,
)

pub returns-clause-kept : goal.returns-clause-kept
returns-clause-kept c = λ written is.
    let all : c.loop-equation.equation-index ≡ length c.deref-equation-items.result.now = omega arith in
    group_kept (over_signature (signature_read c.args.reader.now)) written c.args.group.now c.args.list.now c.loop-equation.list
    c.deref-equation-items.result.now c.loop-equation.equation-index c.deref-equation-items.ensures.value all
    (c.loop-equation.invariant.0 written is)

pub returns-clause-over : goal.returns-clause-over
returns-clause-over c = c.loop-equation.invariant.1
