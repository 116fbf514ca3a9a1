use Rattle.std.proofs.Common.{◌≡◌, List, length, map, ap, sym, subst, ◌∙◌, arith}
use Rattle.lotos_base.proofs.Pieces.{take_whole}
use Rattle.lotos_base.proofs.Members.{at_map, read_member_of}
use Rattle.lotos_base.specs.Signature.{Signature}
use Rattle.lotos_base.specs.Equation.{Equation}
use Rattle.sort_terms.specs.EquationView.{equation_of}
use Rattle.sort_terms.specs.Operations.{sort_of}
use Rattle.sort_terms.specs.declared.equations.Equation.{Equation as CodeEquation}
use Rattle.type_presentations.specs.SortListView.{sorts_in}
use Rattle.type_presentations.specs.OperationListView.{operations_in}
use Rattle.type_definitions.proofs.WalkLemmas.{so_far}
use Rattle.type_definitions.specs.Presentation.{Presentation}
use Rattle.type_definitions.specs.DeclaredEquations.{with_equation}
use Rattle.type_definitions.proofs.FaultLemmas.{few_members}
use Rattle.type_presentations.specs.PresentationView.{presentation_of}
use Rattle.type_presentations.proofs.SizeLemmas.{within_limits}
use Rattle.type_renaming.specs.Parts.{KeepsProfilesOf, with_equations}
use Rattle.type_renaming.proofs.KeptLemmas.{as_long, no_equations, more_equations}
use Rattle.type_renaming.proofs.PartLemmas.{shared}
use Rattle.type_renaming.proofs.equations.keep_equations.Goals as goal

pub numbers_below-requires : goal.numbers_below-requires
numbers_below-requires c = record {
  few = few_members sort_of c.sorts.result.now (sorts_in c.args.base.now.sorts) c.sorts.ensures
      (within_limits (presentation_of c.args.base.now) c.requires.few).sorts;
}

pub numbers_below-requires-2 : goal.numbers_below-requires-2
numbers_below-requires-2 c = record {
  few = few_members shared c.ops.result.now (operations_in c.args.base.now.ops) c.ops.ensures
      (within_limits (presentation_of c.args.base.now) c.requires.few).operations;
}

pub loop-equation-init : goal.loop-equation-init
loop-equation-init c = (c.requires.sound, no_equations (presentation_of c.args.renamed.now))

pub keep_equation-requires-clause-profiles : goal.keep_equation-requires-clause-profiles
keep_equation-requires-clause-profiles c =
    subst (λ (s : Signature). KeepsProfilesOf (presentation_of c.args.base.now).signature s)
    (sym (ap (λ (p : Presentation). p.signature) c.loop-equation.invariant.1)) c.requires.profiles

pub keep_equation-requires-clause-same : goal.keep_equation-requires-clause-same
keep_equation-requires-clause-same c = record {
  sorts = as_long sort_of c.sorts.result.now (sorts_in c.args.base.now.sorts) c.in_ok-sorts.sorts.items c.as_slice-sort_numbers.result.now
      c.sorts.ensures c.as_slice-sort_numbers.ensures.value c.in_ok-sorts.ensures;
  operations = as_long shared c.ops.result.now (operations_in c.args.base.now.ops) c.in_ok-ops.ops.items c.as_slice-op_numbers.result.now
      c.ops.ensures c.as_slice-op_numbers.ensures.value c.in_ok-ops.ensures;
}

pub keep_equation-requires-clause-over : goal.keep_equation-requires-clause-over
keep_equation-requires-clause-over c =
    c.requires.whole.data_.equations (equation_of c.equation-item.result) (
      c.loop-equation.equation-index,
      at_map equation_of c.args.base.now.equations.equations.items c.loop-equation.equation-index c.equation-item.result
          (read_member_of c.equations-equations.result.now c.args.base.now.equations.equations.items c.loop-equation.equation-index
          c.equation-item.result c.equations-equations.ensures.same c.loop-equation-test.true c.equation-item.is),
    )

pub keep_equation-requires-clause-sides : goal.keep_equation-requires-clause-sides
keep_equation-requires-clause-sides c =
    c.requires.whole.sides c.loop-equation.equation-index c.equation-item.result
    (read_member_of c.equations-equations.result.now c.args.base.now.equations.equations.items c.loop-equation.equation-index
    c.equation-item.result c.equations-equations.ensures.same c.loop-equation-test.true c.equation-item.is)

pub loop-equation-preserved : goal.loop-equation-preserved
loop-equation-preserved c =
    let p = presentation_of c.args.renamed.now in
    let e = equation_of c.equation-item.result in (
      c.in_ok-keep_equation.ensures.sound,
      c.in_ok-keep_equation.ensures.kept ∙ ap (λ (q : Presentation). with_equation q e) c.loop-equation.invariant.1
          ∙ more_equations p _ e
          ∙ ap (λ (es : List Equation). with_equations p es)
          (sym (so_far equation_of c.equations-equations.result.now c.loop-equation.equation-index c.equation-item.result
          c.loop-equation-test.true c.equation-item.is)),
    )

pub returns-clause-kept : goal.returns-clause-kept
returns-clause-kept c =
    let p = presentation_of c.args.renamed.now in
    let all : c.loop-equation.equation-index ≡ length c.equations-equations.result.now = omega arith in
    c.loop-equation.invariant.1
    ∙ ap (λ (es : List CodeEquation). with_equations p (map equation_of es))
    (take_whole c.equations-equations.result.now c.loop-equation.equation-index all)
    ∙ ap (λ (es : List Equation). with_equations p es) c.equations-equations.ensures.equations
