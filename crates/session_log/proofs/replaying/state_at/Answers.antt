use Rattle.std.proofs.Common.{◌≡◌, ℕ, List, ap, sym, ◌∙◌}
use Rattle.lotos_base.proofs.Pieces.{no_member_by_length}
use Rattle.behaviour_tree.specs.declared.states.State.{State}
use Rattle.session_log.specs.CourseView.{basis_over, progress_of}
use Rattle.session_log.specs.Replayed.{written_state}
use Rattle.session_log.proofs.ReplayLemmas.{some_there, none_left, state_shown, state_kept, state_told}
use Rattle.session_log.proofs.replaying.state_at.Goals as goal

pub returns-then-is_empty-clause-answered : goal.returns-then-is_empty-clause-answered
returns-then-is_empty-clause-answered c = λ data_ canon over.
    none_left (basis_over data_ canon c.args.base.now.spec.now) (progress_of c.args.course.now) c.args.number c.args.rest.now
    (no_member_by_length c.args.rest.now (sym c.is_empty.ensures ∙ c.if-is_empty.true))

pub returns-in-Ok-clause-answered : goal.returns-in-Ok-clause-answered
returns-in-Ok-clause-answered c = λ data_ canon over.
    let signature = c.args.base.now.signature.now in
    let spec = c.args.base.now.spec.now in
    let some = some_there c.args.rest.now (sym c.is_empty.ensures ∙ c.if-is_empty.false) in
    state_kept (basis_over data_ canon spec) (progress_of c.args.course.now) c.args.rest.now c.first_line-cut.result.0.now
    c.first_line-cut.result.1.now (written_state signature spec c.state.result.now) (c.first_line-cut.ensures.line some)
    (ap (λ (it : State). written_state signature spec it) c.state.ensures
    ∙ state_shown data_ canon spec signature c.args.course.now over.printed) c.in-Ok.ensures

pub returns-in-Err-clause-answered : goal.returns-in-Err-clause-answered
returns-in-Err-clause-answered c = λ data_ canon over.
    let signature = c.args.base.now.signature.now in
    let spec = c.args.base.now.spec.now in
    let some = some_there c.args.rest.now (sym c.is_empty.ensures ∙ c.if-is_empty.false) in
    state_told (basis_over data_ canon spec) (progress_of c.args.course.now) c.args.number c.args.rest.now
    c.first_line-cut.result.0.now c.first_line-cut.result.1.now (written_state signature spec c.state.result.now)
    (c.first_line-cut.ensures.line some)
    (ap (λ (it : State). written_state signature spec it) c.state.ensures
    ∙ state_shown data_ canon spec signature c.args.course.now over.printed) c.in-Err.why c.at.result c.at.ensures c.in-Err.ensures
