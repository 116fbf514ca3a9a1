use Rattle.std.proofs.Common.{List, map, ap, sym, subst}
use Rattle.lotos_base.specs.WrittenView.{written_term_of}
use Rattle.lotos_base.specs.declared.written_terms.Written.{Written}
use Rattle.lotos_base.proofs.Options.{gave_up}
use Rattle.session_lines.specs.HandedOn.{IsTermsReading}
use Rattle.menu_builder.specs.Menus.{entries_in}
use Rattle.session_log.specs.CourseView.{basis_over, progress_of}
use Rattle.session_log.specs.Lines.{said_by}
use Rattle.session_log.proofs.ReplayLemmas.{tells_line, no_form, stops_unread, stops_misread, step_told_of_line, label_told_of_line}
use Rattle.session_log.proofs.ResultLemmas.{on_ok}
use Rattle.session_log.proofs.replaying.replay_line.Goals as goal

pub returns-in_err-said-clause-answered : goal.returns-in_err-said-clause-answered
returns-in_err-said-clause-answered g c =
    gave_up _ _ c.from_residual.result c.in_err-said.field-0.0 c.from_residual.ensures.1
    (tells_line _ _ (no_form (basis_over (g.D.Deciding.known_data c.args.data.now) (g.D.Deciding.canon c.args.data.now)
    c.args.base.now.spec.now) (progress_of c.args.course.now) c.args.line.now) c.in_err-said.field-0.0 c.in_err-said.ensures.answered)

pub returns-in_err-terms-clause-answered : goal.returns-in_err-terms-clause-answered
returns-in_err-terms-clause-answered g c =
    gave_up _ _ c.from_residual-in_err-terms.result c.in_err-terms.field-0.0 c.from_residual-in_err-terms.ensures.1
    (tells_line _ _ (stops_unread (basis_over (g.D.Deciding.known_data c.args.data.now) (g.D.Deciding.canon c.args.data.now)
    c.args.base.now.spec.now) (progress_of c.args.course.now) c.args.line.now (said_by c.in_ok-said.said) c.in_ok-said.ensures.answered)
    c.in_err-terms.field-0.0 c.in_err-terms.ensures)

pub returns-in_err-values-clause-answered : goal.returns-in_err-values-clause-answered
returns-in_err-values-clause-answered g c =
    let known = g.D.Deciding.known_data c.args.data.now in
    gave_up _ _ c.from_residual-in_err-values.result c.in_err-values.field-0.0 c.from_residual-in_err-values.ensures.1
    (tells_line _ _ (stops_misread (basis_over known (g.D.Deciding.canon c.args.data.now) c.args.base.now.spec.now)
    (progress_of c.args.course.now) c.args.line.now (said_by c.in_ok-said.said) c.in_ok-said.ensures.answered
    (map written_term_of c.as_slice.result.now)
    (subst (λ (terms : List Written). IsTermsReading 0 c.in_ok-said.said.terms.now (map written_term_of terms))
    (sym c.as_slice.ensures.value)
    c.in_ok-terms.ensures) c.menu.result.now (ap entries_in (sym c.menu.ensures))) c.in_err-values.field-0.0
    (c.in_err-values.ensures known.signature c.requires.over))

pub step-requires-clause-given : goal.step-requires-clause-given
step-requires-clause-given g c = (c.in_ok-values.ensures (g.D.Deciding.known_data c.args.data.now).signature c.requires.over).given

pub returns-in_err-label-clause-answered : goal.returns-in_err-label-clause-answered
returns-in_err-label-clause-answered g c =
    let known = g.D.Deciding.known_data c.args.data.now in
    gave_up _ _ c.from_residual-in_err-label.result _ c.from_residual-in_err-label.ensures.1
    (step_told_of_line known (g.D.Deciding.canon c.args.data.now) c.args.base.now.spec.now (progress_of c.args.course.now)
    c.args.line.now c.in_ok-said.said c.in_ok-said.ensures.answered (map written_term_of c.as_slice.result.now)
    (subst (λ (terms : List Written). IsTermsReading 0 c.in_ok-said.said.terms.now (map written_term_of terms))
    (sym c.as_slice.ensures.value)
    c.in_ok-terms.ensures) c.menu.result.now (ap entries_in (sym c.menu.ensures)) c.in_ok-values.values.items
    (c.in_ok-values.ensures known.signature c.requires.over) c.in_err-label.field-0.0 c.in_err-label.ensures.answered.1)

pub returns-clause-answered : goal.returns-clause-answered
returns-clause-answered g c =
    let known = g.D.Deciding.known_data c.args.data.now in
    label_told_of_line known (g.D.Deciding.canon c.args.data.now) c.args.base.now.spec.now (progress_of c.args.course.now)
    c.args.line.now c.in_ok-said.said c.in_ok-said.ensures.answered (map written_term_of c.as_slice.result.now)
    (subst (λ (terms : List Written). IsTermsReading 0 c.in_ok-said.said.terms.now (map written_term_of terms))
    (sym c.as_slice.ensures.value)
    c.in_ok-terms.ensures) c.menu.result.now (ap entries_in (sym c.menu.ensures)) c.in_ok-values.values.items
    (c.in_ok-values.ensures known.signature c.requires.over) c.args.base.now.signature.now c.requires.over.printed c.in_ok-label.label _
    c.in_ok-label.ensures.answered c.same_label.result c.same_label.ensures

pub returns-clause-kept_after : goal.returns-clause-kept_after
returns-clause-kept_after g c = on_ok c.same_label.result c.in_ok-label.ensures.kept_after
