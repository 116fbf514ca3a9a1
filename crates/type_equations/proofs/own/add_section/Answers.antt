use Rattle.std.proofs.Common.{Vec, Global, ◌≡◌, false, List, length, ap, subst, arith}
use Rattle.std.proofs.lemmas.Result.{err_from_is_err_and}
use Rattle.lotos_base.specs.Name.{spelling}
use Rattle.syntax_trees.specs.TreeViews.{group_of, written_variables_of}
use Rattle.syntax_trees.specs.declared.named.VarText.{VarText}
use Rattle.sort_terms.specs.ReaderView.{signature_read}
use Rattle.sort_terms.specs.declared.equations.Variable.{Variable as CodeVariable}
use Rattle.type_definitions.proofs.HoldsLemmas.{holds_weaker}
use Rattle.type_definitions.specs.DeclaredEquations.{none_asked, asked_of_group, asked_of_variables, HasFirstFault}
use Rattle.type_presentations.specs.PresentationView.{presentation_of}
use Rattle.type_equations.proofs.GivenLemmas.{groups_next, groups_fault, give_all_same}
use Rattle.type_equations.proofs.GroupLemmas.{section_given, section_sorts_fault, section_fault}
use Rattle.type_equations.proofs.SectionLemmas.{section_is, section_over, sorts_given}
use Rattle.type_equations.proofs.own.add_section.Goals as goal

pub returns-in_err-add_variables-clause-given : goal.returns-in_err-add_variables-clause-given
returns-in_err-add_variables-clause-given c =
    let e = err_from_is_err_and c.from_residual.result c.from_residual.ensures.1 in
    rw (e.1, e.2)
    (holds_weaker _ _ c.in_err-add_variables.field-0.0
    (λ f found.
    section_sorts_fault false c.args.section.now (spelling c.args.type_name.now) (presentation_of c.args.presentation.now) f
    (subst
    (λ (vs : List VarText).
    HasFirstFault (spelling c.args.type_name.now) (presentation_of c.args.presentation.now)
    (asked_of_variables (written_variables_of vs)) f)
    c.as_slice.ensures.value (found (spelling c.args.type_name.now))))
    (c.in_err-add_variables.ensures (presentation_of c.args.presentation.now) c.requires.same))

pub loop-group-init : goal.loop-group-init
loop-group-init c = record {
  given = none_asked (presentation_of c.args.presentation.now);
  sound = c.requires.sound;
  within = c.requires.within;
}

pub add_group-requires-clause-section : goal.add_group-requires-clause-section
add_group-requires-clause-section c =
    let start = presentation_of c.args.presentation.now in
    let now = presentation_of c.loop-group.presentation in
    let written = written_variables_of c.args.section.now.variables.items in (
      written,
      section_over start now written (signature_read c.args.reader.now) _
          (give_all_same start now _ c.loop-group.invariant.given)
          (section_is start (signature_read c.args.reader.now) c.args.section.now _ _ _ _ c.new-variables.ensures.items
          c.as_slice.ensures.value (ap (λ (v : Vec CodeVariable Global). v.items) c.in_ok-shared.ensures) c.requires.same
          (c.in_ok-add_variables.ensures start c.requires.same)),
    )

pub loop-group-preserved : goal.loop-group-preserved
loop-group-preserved c =
    let start = presentation_of c.args.presentation.now in
    let now = presentation_of c.loop-group.presentation in
    let written = written_variables_of c.args.section.now.variables.items in record {
      given =
          groups_next group_of (asked_of_group false written) start now (presentation_of c.add_group.new.presentation)
          c.deref-group-items.result.now c.loop-group.group-index c.group-item.result c.loop-group-test.true c.group-item.is
          c.loop-group.invariant.given
          (c.in_ok-add_group.ensures.given written
          (section_over start now written (signature_read c.args.reader.now) _
          (give_all_same start now _ c.loop-group.invariant.given)
          (section_is start (signature_read c.args.reader.now) c.args.section.now _ _ _ _ c.new-variables.ensures.items
          c.as_slice.ensures.value (ap (λ (v : Vec CodeVariable Global). v.items) c.in_ok-shared.ensures) c.requires.same
          (c.in_ok-add_variables.ensures start c.requires.same))));
      sound = c.in_ok-add_group.ensures.sound;
      within = c.in_ok-add_group.ensures.within;
    }

pub returns-in_err-add_group-clause-given : goal.returns-in_err-add_group-clause-given
returns-in_err-add_group-clause-given c =
    let e = err_from_is_err_and c.from_residual-in_err-add_group.result c.from_residual-in_err-add_group.ensures.1 in
    let start = presentation_of c.args.presentation.now in
    let now = presentation_of c.loop-group.presentation in
    let written = written_variables_of c.args.section.now.variables.items in
    let here =
    section_is start (signature_read c.args.reader.now) c.args.section.now _ _ _ _ c.new-variables.ensures.items
    c.as_slice.ensures.value (ap (λ (v : Vec CodeVariable Global). v.items) c.in_ok-shared.ensures) c.requires.same
    (c.in_ok-add_variables.ensures start c.requires.same) in
    rw (e.1, e.2)
    (holds_weaker _ _ c.in_err-add_group.field-0.0
    (λ f found.
    section_fault false c.args.section.now (spelling c.args.type_name.now) start c.deref-group-items.result.now f
    c.deref-group-items.ensures.value here.given
    (groups_fault group_of (asked_of_group false written) (spelling c.args.type_name.now) start now c.deref-group-items.result.now
    c.loop-group.group-index c.group-item.result f c.loop-group-test.true c.group-item.is c.loop-group.invariant.given found))
    (c.in_err-add_group.ensures.given written
    (section_over start now written (signature_read c.args.reader.now) _ (give_all_same start now _ c.loop-group.invariant.given) here)))

pub returns-clause-given : goal.returns-clause-given
returns-clause-given c =
    let start = presentation_of c.args.presentation.now in
    let all : c.loop-group.group-index ≡ length c.deref-group-items.result.now = omega arith in
    section_given false c.args.section.now start (presentation_of c.loop-group.presentation) c.deref-group-items.result.now
    c.loop-group.group-index c.deref-group-items.ensures.value all
    (sorts_given start c.args.section.now _ c.as_slice.ensures.value (c.in_ok-add_variables.ensures start c.requires.same).0)
    c.loop-group.invariant.given

pub add_group-requires-clause-sound : goal.add_group-requires-clause-sound
add_group-requires-clause-sound c = c.loop-group.invariant.sound

pub add_group-requires-clause-within : goal.add_group-requires-clause-within
add_group-requires-clause-within c = c.loop-group.invariant.within

pub returns-clause-sound : goal.returns-clause-sound
returns-clause-sound c = c.loop-group.invariant.sound

pub returns-clause-within : goal.returns-clause-within
returns-clause-within c = c.loop-group.invariant.within
