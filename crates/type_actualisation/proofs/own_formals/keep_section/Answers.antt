use Rattle.std.proofs.Common.{Vec, Global, ◌≡◌, true, length, refl, ap, arith}
use Rattle.syntax_trees.specs.TreeViews.{group_of, written_variables_of}
use Rattle.sort_terms.specs.ReaderView.{signature_read}
use Rattle.sort_terms.specs.declared.equations.Variable.{Variable as CodeVariable}
use Rattle.type_definitions.specs.DeclaredEquations.{asked_of_group}
use Rattle.type_equations.proofs.SectionLemmas.{section_is}
use Rattle.type_actualisation.specs.FormalLists.{over_signature}
use Rattle.type_actualisation.proofs.OwnLemmas.{group_kept_next, nothing_kept, section_kept}
use Rattle.type_actualisation.proofs.own_formals.keep_section.Goals as goal

pub loop-group-init : goal.loop-group-init
loop-group-init c =
    (nothing_kept (over_signature (signature_read c.args.reader.now)) c.args.list.now, c.requires)

pub keep_group-requires-clause-over : goal.keep_group-requires-clause-over
keep_group-requires-clause-over c = c.loop-group.invariant.1

pub keep_group-requires-clause-section : goal.keep_group-requires-clause-section
keep_group-requires-clause-section c =
    let p = over_signature (signature_read c.args.reader.now) in (
      written_variables_of c.args.section.now.variables.items,
      section_is p (signature_read c.args.reader.now) c.args.section.now _ _ _ _ c.new-variables.ensures.items c.as_slice.ensures.value
          (ap (λ (v : Vec CodeVariable Global). v.items) c.in_ok-shared.ensures) refl (c.in_ok-add_variables.ensures p refl),
    )

pub loop-group-preserved : goal.loop-group-preserved
loop-group-preserved c =
    let p = over_signature (signature_read c.args.reader.now) in
    let written = written_variables_of c.args.section.now.variables.items in
    let here =
    section_is p (signature_read c.args.reader.now) c.args.section.now _ _ _ _ c.new-variables.ensures.items c.as_slice.ensures.value
    (ap (λ (v : Vec CodeVariable Global). v.items) c.in_ok-shared.ensures) refl (c.in_ok-add_variables.ensures p refl) in (
      group_kept_next group_of (asked_of_group true written) p c.args.list.now c.loop-group.list c.keep_group.new.list
          c.deref-group-items.result.now c.loop-group.group-index c.group-item.result c.loop-group-test.true c.group-item.is
          c.loop-group.invariant.0 (c.in_ok-keep_group.ensures.kept written here),
      c.in_ok-keep_group.ensures.over,
    )

pub returns-clause-kept : goal.returns-clause-kept
returns-clause-kept c =
    let all : c.loop-group.group-index ≡ length c.deref-group-items.result.now = omega arith in
    section_kept (over_signature (signature_read c.args.reader.now)) c.args.section.now c.args.list.now c.loop-group.list
    c.deref-group-items.result.now c.loop-group.group-index c.deref-group-items.ensures.value all c.loop-group.invariant.0

pub returns-clause-over : goal.returns-clause-over
returns-clause-over c = c.loop-group.invariant.1
