use Rattle.std.proofs.Common.{List, ℕ, map, subst}
use Rattle.std.specs.Prelude.{true}
use Rattle.std.proofs.lemmas.Result.{err_from_is_err_and}
use Rattle.lotos_base.specs.Name.{spelling}
use Rattle.lotos_base.specs.Signature.{Sort}
use Rattle.type_presentations.specs.NamesView.{HasNames}
use Rattle.syntax_trees.specs.TreeViews.{written_operation_of}
use Rattle.type_definitions.proofs.HoldsLemmas.{holds_weaker}
use Rattle.type_definitions.specs.declared.type_faults.TypeFault.TheVariants.{NoMemory}
use Rattle.type_presentations.specs.PresentationView.{presentation_of}
use Rattle.type_presentations.specs.SectionView.{sections_of}
use Rattle.type_presentations.proofs.SectionLemmas.{refused, formal_sorts_fail, sorts_fail, has_sorts, formal_operations_fail, has_formal_operations, operations_fail, all_declared, sort_names_stay}
use Rattle.type_presentations.proofs.declaring.declare_all.Goals as goal

pub returns-in_err-declare_sorts : goal.returns-in_err-declare_sorts
returns-in_err-declare_sorts c =
    let e = err_from_is_err_and c.from_residual.result c.from_residual.ensures.1 in
    rw (e.1, e.2)
    (refused (spelling c.args.type_name.now) (presentation_of c.args.presentation.now) (sections_of c.args.sections.now) _
    (holds_weaker _ _ c.in_err-declare_sorts.field-0.0
    (formal_sorts_fail (spelling c.args.type_name.now) (presentation_of c.args.presentation.now) (sections_of c.args.sections.now))
    c.in_err-declare_sorts.ensures.found))

pub returns-in_err-declare_sorts-2 : goal.returns-in_err-declare_sorts-2
returns-in_err-declare_sorts-2 c =
    let e = err_from_is_err_and c.from_residual-in_err-declare_sorts-2.result c.from_residual-in_err-declare_sorts-2.ensures.1 in
    let one = c.in_ok-declare_sorts.ensures in
    rw (e.1, e.2)
    (refused (spelling c.args.type_name.now) (presentation_of c.args.presentation.now) (sections_of c.args.sections.now) _
    (holds_weaker _ _ c.in_err-declare_sorts-2.field-0.0
    (λ f found.
    sorts_fail (spelling c.args.type_name.now) (presentation_of c.args.presentation.now) _ (sections_of c.args.sections.now) f
    (record { none = one.none; is = one.made }) found)
    c.in_err-declare_sorts-2.ensures.found))

pub returns-in_err-declare_ops : goal.returns-in_err-declare_ops
returns-in_err-declare_ops c =
    let e = err_from_is_err_and c.from_residual-in_err-declare_ops.result c.from_residual-in_err-declare_ops.ensures.1 in
    let origin = spelling c.args.type_name.now in
    let p = presentation_of c.args.presentation.now in
    let written = sections_of c.args.sections.now in
    let one = c.in_ok-declare_sorts.ensures in
    let two = c.in_ok-declare_sorts-2.ensures in
    rw (e.1, e.2)
    (refused (spelling c.args.type_name.now) (presentation_of c.args.presentation.now) (sections_of c.args.sections.now) _
    (holds_weaker _ _ c.in_err-declare_ops.field-0.0
    (λ f found.
    formal_operations_fail origin p _ written f (has_sorts origin p _ _ written (record { none = one.none; is = one.made }) two.none
    two.made) found)
    c.in_err-declare_ops.ensures.found))

pub returns-in_err-declare_ops-2 : goal.returns-in_err-declare_ops-2
returns-in_err-declare_ops-2 c =
    let e = err_from_is_err_and c.from_residual-in_err-declare_ops-2.result c.from_residual-in_err-declare_ops-2.ensures.1 in
    let origin = spelling c.args.type_name.now in
    let p = presentation_of c.args.presentation.now in
    let written = sections_of c.args.sections.now in
    let one = c.in_ok-declare_sorts.ensures in
    let two = c.in_ok-declare_sorts-2.ensures in
    let three = c.in_ok-declare_ops.ensures in
    rw (e.1, e.2)
    (refused (spelling c.args.type_name.now) (presentation_of c.args.presentation.now) (sections_of c.args.sections.now) _
    (holds_weaker _ _ c.in_err-declare_ops-2.field-0.0
    (λ f found.
    operations_fail origin p _ written f
    (has_formal_operations origin p _ _ written
    (has_sorts origin p _ _ written (record { none = one.none; is = one.made }) two.none two.made) three.none three.made)
    found)
    c.in_err-declare_ops-2.ensures.found))

pub returns : goal.returns
returns c =
    let origin = spelling c.args.type_name.now in
    let p = presentation_of c.args.presentation.now in
    let written = sections_of c.args.sections.now in
    let one = c.in_ok-declare_sorts.ensures in
    let two = c.in_ok-declare_sorts-2.ensures in
    let three = c.in_ok-declare_ops.ensures in
    let four = c.in_ok-declare_ops-2.ensures in
    let all =
    all_declared origin p _ _ written
    (has_formal_operations origin p _ _ written
    (has_sorts origin p _ _ written (record { none = one.none; is = one.made }) two.none two.made) three.none three.made)
    four.none four.made in
    record { none = all.0; made = all.1; sound = four.sound; within = four.within }

pub returns-in_err-sorts : goal.returns-in_err-sorts
returns-in_err-sorts c =
    let e = err_from_is_err_and c.from_residual-in_err-sorts.result c.from_residual-in_err-sorts.ensures.1 in
    rw (e.1, e.2)
    (refused (spelling c.args.type_name.now) (presentation_of c.args.presentation.now) (sections_of c.args.sections.now) NoMemory tt)

pub declare_ops-requires-2-clause-named : goal.declare_ops-requires-2-clause-named
declare_ops-requires-2-clause-named c =
    let named =
    subst (λ (ss : List Sort). HasNames c.in_ok-sorts.sorts (map (λ (s : Sort). s.name) ss)) c.sorts.ensures c.in_ok-sorts.ensures in
    subst (λ (ns : List (List ℕ)). HasNames c.in_ok-sorts.sorts ns)
    (sort_names_stay (spelling c.args.type_name.now) true (presentation_of c.declare_sorts-2.new.presentation)
    (presentation_of c.declare_ops.new.presentation) (map written_operation_of c.args.sections.now.formal_ops.now)
    c.in_ok-declare_ops.ensures.made)
    named
