use Rattle.std.proofs.Common.{◌≡◌, false, length, refl, ◌∙◌, arith}
use Rattle.std.proofs.lemmas.Result.{err_from_is_err_and}
use Rattle.lotos_base.specs.Name.{spelling}
use Rattle.syntax_trees.specs.TreeViews.{written_equation_of, group_of}
use Rattle.type_definitions.proofs.HoldsLemmas.{holds_weaker}
use Rattle.type_definitions.specs.DeclaredEquations.{none_asked, own_asked}
use Rattle.type_presentations.specs.PresentationView.{presentation_of}
use Rattle.type_equations.specs.SectionScope.{asked_in, question_in}
use Rattle.type_equations.proofs.GivenLemmas.{given_next, fault_next, gives_same}
use Rattle.type_equations.proofs.GroupLemmas.{group_given, group_sorts_fault, group_fault}
use Rattle.type_equations.proofs.SectionLemmas.{scope_for_over}
use Rattle.type_equations.proofs.own.add_group.Goals as goal

pub returns-in_err-scope-clause-given : goal.returns-in_err-scope-clause-given
returns-in_err-scope-clause-given c =
    let e = err_from_is_err_and c.from_residual.result c.from_residual.ensures.1 in
    rw (e.1, e.2) (λ written is.
    holds_weaker _ _ c.in_err-scope.field-0.0
    (λ f found.
    group_sorts_fault false written c.args.group.now (spelling c.args.type_name.now) (presentation_of c.args.presentation.now) f
    (found (spelling c.args.type_name.now)))
    (c.in_err-scope.ensures (presentation_of c.args.presentation.now) written is.same is.given is.variables_are))

pub loop-equation-init : goal.loop-equation-init
loop-equation-init c = record {
  given = λ written is. none_asked (presentation_of c.args.presentation.now);
  same = refl;
  sound = c.requires.sound;
  within = c.requires.within;
}

pub add_equation-requires-clause-same : goal.add_equation-requires-clause-same
add_equation-requires-clause-same c = c.loop-equation.invariant.same ∙ c.requires.section.1.same

pub add_equation-requires-clause-scoped : goal.add_equation-requires-clause-scoped
add_equation-requires-clause-scoped c =
    let start = presentation_of c.args.presentation.now in
    let now = presentation_of c.loop-equation.presentation in
    let written = c.requires.section.0 in
    let is = c.requires.section.1 in
    let asked = asked_in written (group_of c.args.group.now) (written_equation_of c.equation-item.result) in (
      asked,
      scope_for_over start now asked.variables asked.sort c.in_ok-scope.scope c.loop-equation.invariant.same
          (c.in_ok-scope.ensures start written is.same is.given is.variables_are).1,
      refl,
    )

pub loop-equation-preserved : goal.loop-equation-preserved
loop-equation-preserved c =
    let start = presentation_of c.args.presentation.now in
    let now = presentation_of c.loop-equation.presentation in
    let new = presentation_of c.add_equation.new.presentation in
    let first = c.requires.section.0 in
    let first_is = c.requires.section.1 in
    let first_asked = asked_in first (group_of c.args.group.now) (written_equation_of c.equation-item.result) in record {
      given = λ written is.
          let asked = asked_in written (group_of c.args.group.now) (written_equation_of c.equation-item.result) in
          given_next written_equation_of (question_in false written (group_of c.args.group.now)) start now new
          c.deref-equation-items.result.now
          c.loop-equation.equation-index c.equation-item.result c.loop-equation-test.true c.equation-item.is
          (c.loop-equation.invariant.given written is)
          (c.in_ok-add_equation.ensures.given asked
          (scope_for_over start now asked.variables asked.sort c.in_ok-scope.scope c.loop-equation.invariant.same
          (c.in_ok-scope.ensures start written is.same is.given is.variables_are).1)
          refl);
      same =
          gives_same now new (own_asked first_asked)
          (c.in_ok-add_equation.ensures.given first_asked
          (scope_for_over start now first_asked.variables first_asked.sort c.in_ok-scope.scope c.loop-equation.invariant.same
          (c.in_ok-scope.ensures start first first_is.same first_is.given first_is.variables_are).1)
          refl)
          ∙ c.loop-equation.invariant.same;
      sound = c.in_ok-add_equation.ensures.sound;
      within = c.in_ok-add_equation.ensures.within;
    }

pub returns-in_err-add_equation-clause-given : goal.returns-in_err-add_equation-clause-given
returns-in_err-add_equation-clause-given c =
    let e = err_from_is_err_and c.from_residual-in_err-add_equation.result c.from_residual-in_err-add_equation.ensures.1 in
    rw (e.1, e.2) (λ written is.
    let start = presentation_of c.args.presentation.now in
    let now = presentation_of c.loop-equation.presentation in
    let asked = asked_in written (group_of c.args.group.now) (written_equation_of c.equation-item.result) in
    let scope = c.in_ok-scope.ensures start written is.same is.given is.variables_are in
    holds_weaker _ _ c.in_err-add_equation.field-0.0
    (λ f found.
    group_fault false written c.args.group.now (spelling c.args.type_name.now) start c.deref-equation-items.result.now f
    c.deref-equation-items.ensures.value scope.0
    (fault_next written_equation_of (question_in false written (group_of c.args.group.now)) (spelling c.args.type_name.now) start now
    c.deref-equation-items.result.now c.loop-equation.equation-index c.equation-item.result f c.loop-equation-test.true c.equation-item.is
    (c.loop-equation.invariant.given written is) found))
    (c.in_err-add_equation.ensures.given asked
    (scope_for_over start now asked.variables asked.sort c.in_ok-scope.scope c.loop-equation.invariant.same scope.1) refl))

pub returns-clause-given : goal.returns-clause-given
returns-clause-given c = λ written is.
    let start = presentation_of c.args.presentation.now in
    let scope = c.in_ok-scope.ensures start written is.same is.given is.variables_are in
    let all : c.loop-equation.equation-index ≡ length c.deref-equation-items.result.now = omega arith in
    group_given false written c.args.group.now start (presentation_of c.loop-equation.presentation) c.deref-equation-items.result.now
    c.loop-equation.equation-index c.deref-equation-items.ensures.value all scope.0 (c.loop-equation.invariant.given written is)

pub add_equation-requires-clause-sound : goal.add_equation-requires-clause-sound
add_equation-requires-clause-sound c = c.loop-equation.invariant.sound

pub returns-clause-sound : goal.returns-clause-sound
returns-clause-sound c = c.loop-equation.invariant.sound

pub returns-clause-within : goal.returns-clause-within
returns-clause-within c = c.loop-equation.invariant.within
