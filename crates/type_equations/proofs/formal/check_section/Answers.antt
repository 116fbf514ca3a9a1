use Rattle.std.proofs.Common.{Vec, Global, ◌≡◌, true, List, [], length, refl, ap, subst, arith}
use Rattle.std.proofs.lemmas.Result.{err_from_is_err_and}
use Rattle.syntax_trees.specs.TreeViews.{group_of, written_variables_of}
use Rattle.syntax_trees.specs.declared.named.VarText.{VarText}
use Rattle.sort_terms.specs.ReaderView.{signature_read}
use Rattle.sort_terms.specs.declared.equations.Variable.{Variable as CodeVariable}
use Rattle.type_definitions.proofs.HoldsLemmas.{holds_weaker}
use Rattle.type_definitions.specs.Presentation.{Presentation}
use Rattle.type_definitions.specs.DeclaredEquations.{none_asked, asked_of_group, asked_of_variables, HasFirstFault}
use Rattle.type_equations.proofs.GivenLemmas.{groups_next, groups_fault}
use Rattle.type_equations.proofs.GroupLemmas.{section_given, section_sorts_fault, section_fault}
use Rattle.type_equations.proofs.SectionLemmas.{section_is, sorts_given}
use Rattle.type_equations.proofs.formal.check_section.Goals as goal

pub returns-in_err-add_variables : goal.returns-in_err-add_variables
returns-in_err-add_variables c =
    let e = err_from_is_err_and c.from_residual.result c.from_residual.ensures.1 in
    rw (e.1, e.2) (λ p same truth.
    holds_weaker _ _ c.in_err-add_variables.field-0.0
    (λ f found type_name.
    section_sorts_fault true c.args.section.now type_name p f
    (subst (λ (vs : List VarText). HasFirstFault type_name p (asked_of_variables (written_variables_of vs)) f) c.as_slice.ensures.value
    (found type_name)))
    (c.in_err-add_variables.ensures p same))

pub loop-group-init : goal.loop-group-init
loop-group-init c = λ p same truth. none_asked p

pub check_group-requires : goal.check_group-requires
check_group-requires c =
    let p : Presentation =
    record { signature = signature_read c.args.reader.now; equations = []; formal_sorts = []; formal_operations = [] } in (
      p,
      written_variables_of c.args.section.now.variables.items,
      section_is p (signature_read c.args.reader.now) c.args.section.now _ _ _ _ c.new-variables.ensures.items c.as_slice.ensures.value
          (ap (λ (v : Vec CodeVariable Global). v.items) c.in_ok-shared.ensures) refl (c.in_ok-add_variables.ensures p refl),
    )

pub loop-group-preserved : goal.loop-group-preserved
loop-group-preserved c = λ p same truth.
    let here =
    section_is p (signature_read c.args.reader.now) c.args.section.now _ _ _ _ c.new-variables.ensures.items c.as_slice.ensures.value
    (ap (λ (v : Vec CodeVariable Global). v.items) c.in_ok-shared.ensures) same (c.in_ok-add_variables.ensures p same) in
    groups_next group_of (asked_of_group true (written_variables_of c.args.section.now.variables.items)) p p p
    c.deref-group-items.result.now
    c.loop-group.group-index c.group-item.result c.loop-group-test.true c.group-item.is (c.loop-group.invariant p same truth)
    (c.in_ok-check_group.ensures p (written_variables_of c.args.section.now.variables.items) here truth)

pub returns-in_err-check_group : goal.returns-in_err-check_group
returns-in_err-check_group c =
    let e = err_from_is_err_and c.from_residual-in_err-check_group.result c.from_residual-in_err-check_group.ensures.1 in
    rw (e.1, e.2) (λ p same truth.
    let here =
    section_is p (signature_read c.args.reader.now) c.args.section.now _ _ _ _ c.new-variables.ensures.items c.as_slice.ensures.value
    (ap (λ (v : Vec CodeVariable Global). v.items) c.in_ok-shared.ensures) same (c.in_ok-add_variables.ensures p same) in
    holds_weaker _ _ c.in_err-check_group.field-0.0
    (λ f found type_name.
    section_fault true c.args.section.now type_name p c.deref-group-items.result.now f c.deref-group-items.ensures.value here.given
    (groups_fault group_of (asked_of_group true (written_variables_of c.args.section.now.variables.items)) type_name p p
    c.deref-group-items.result.now c.loop-group.group-index c.group-item.result f c.loop-group-test.true c.group-item.is
    (c.loop-group.invariant p same truth) (found type_name)))
    (c.in_err-check_group.ensures p (written_variables_of c.args.section.now.variables.items) here truth))

pub returns : goal.returns
returns c = λ p same truth.
    let all : c.loop-group.group-index ≡ length c.deref-group-items.result.now = omega arith in
    section_given true c.args.section.now p p c.deref-group-items.result.now c.loop-group.group-index c.deref-group-items.ensures.value all
    (sorts_given p c.args.section.now _ c.as_slice.ensures.value (c.in_ok-add_variables.ensures p same).0)
    (c.loop-group.invariant p same truth)
