use Rattle.std.proofs.Common.{true, false, sym}
use Rattle.std.proofs.lemmas.Result.{err_from_is_err_and}
use Rattle.lotos_base.specs.Name.{spelling}
use Rattle.syntax_trees.specs.TreeViews.{equations_of}
use Rattle.type_definitions.proofs.HoldsLemmas.{holds_weaker}
use Rattle.type_definitions.specs.DeclaredEquations.{asked_of_section}
use Rattle.type_presentations.specs.PresentationView.{presentation_of}
use Rattle.type_equations.proofs.AskedLemmas.{give_append, fault_later}
use Rattle.type_equations.proofs.GivenLemmas.{fault_first}
use Rattle.type_equations.proofs.declaring.give_by_reader.Goals as goal

pub returns-in_err-check_section-clause-given : goal.returns-in_err-check_section-clause-given
returns-in_err-check_section-clause-given c =
    let e = err_from_is_err_and c.from_residual-in_err-check_section.result c.from_residual-in_err-check_section.ensures.1 in
    let p = presentation_of c.args.presentation.now in
    rw (e.1, e.2)
    (holds_weaker _ _ c.in_err-check_section.field-0.0
    (λ f found.
    fault_first (spelling c.args.type_name.now) p (asked_of_section true (equations_of c.args.sections.now.formal_equations.now))
    (asked_of_section false (equations_of c.args.sections.now.equations.now)) f (found (spelling c.args.type_name.now)))
    (c.in_err-check_section.ensures p c.requires.same (c.in_ok-truth.ensures p c.requires.same (sym c.ops.ensures))))

pub add_section-requires-clause-same : goal.add_section-requires-clause-same
add_section-requires-clause-same c = c.requires.same

pub returns-in_err-add_section-clause-given : goal.returns-in_err-add_section-clause-given
returns-in_err-add_section-clause-given c =
    let e = err_from_is_err_and c.from_residual-in_err-add_section.result c.from_residual-in_err-add_section.ensures.1 in
    let p = presentation_of c.args.presentation.now in
    rw (e.1, e.2)
    (holds_weaker _ _ c.in_err-add_section.field-0.0
    (λ f found.
    fault_later (spelling c.args.type_name.now) p p (asked_of_section true (equations_of c.args.sections.now.formal_equations.now))
    (asked_of_section false (equations_of c.args.sections.now.equations.now)) f
    (c.in_ok-check_section.ensures p c.requires.same (c.in_ok-truth.ensures p c.requires.same (sym c.ops.ensures))) found)
    c.in_err-add_section.ensures.given)

pub returns-clause-given : goal.returns-clause-given
returns-clause-given c =
    let p = presentation_of c.args.presentation.now in
    give_append p p (presentation_of c.add_section.new.presentation)
    (asked_of_section true (equations_of c.args.sections.now.formal_equations.now))
    (asked_of_section false (equations_of c.args.sections.now.equations.now))
    (c.in_ok-check_section.ensures p c.requires.same (c.in_ok-truth.ensures p c.requires.same (sym c.ops.ensures)))
    c.in_ok-add_section.ensures.given

pub returns-clause-sound : goal.returns-clause-sound
returns-clause-sound c = c.in_ok-add_section.ensures.sound

pub returns-clause-within : goal.returns-clause-within
returns-clause-within c = c.in_ok-add_section.ensures.within
