use Rattle.std.proofs.Common.{◌≡◌, inl, inr, [], refl, ap, ◌∙◌}
use Rattle.session_log.specs.HandedOn.{label_of, SessionBasis}
use Rattle.sort_terms.specs.SignatureView.{signature_of}
use Rattle.line_server.specs.Request.{take_step}
use Rattle.history_lines.specs.Answer.{did_text}
use Rattle.history_lines.specs.LinesView.{basis_of, reached, standing_of}
use Rattle.history_lines.specs.RefusalView.{AddsDecline}
use Rattle.history_lines.specs.Serving.{moment_of, GivesAnswer, IsBeforeOrBehind}
use Rattle.history_lines.proofs.ServingLemmas.{either_way, same_standing, is_as_before, gives_step, gives_declined}
use Rattle.history_lines.proofs.lines.HistoryLines.step_line.Goals as goal

pub returns-in-Ok-clause-answered : goal.returns-in-Ok-clause-answered
returns-in-Ok-clause-answered g c = λ texts faults.
    let before = standing_of c.args.self.now texts in
    let after = standing_of c.take.new.self texts in
    let request = take_step c.args.number c.args.text.now in
    either_way c.did.result
    (λ line. line.items ≡ did_text (basis_of c.take.new.self) (label_of c.in-Ok.label) (reached c.take.new.self))
    (λ line. GivesAnswer (moment_of before faults) request line.items (moment_of after faults))
    (λ _. IsBeforeOrBehind (moment_of before faults) request (moment_of after faults))
    (λ line printed.
    gives_step before after faults c.args.number c.args.text.now line.items (label_of c.in-Ok.label) c.in-Ok.ensures.answered
    c.in-Ok.ensures.stays.basis refl printed)
    (λ _.
    inr (
      did_text (basis_of c.take.new.self) (label_of c.in-Ok.label) (reached c.take.new.self),
      gives_step before after faults c.args.number c.args.text.now _ (label_of c.in-Ok.label) c.in-Ok.ensures.answered
          c.in-Ok.ensures.stays.basis refl refl,
    ))
    c.did.ensures

pub returns-in-Err-clause-answered : goal.returns-in-Err-clause-answered
returns-in-Err-clause-answered g c = λ texts faults.
    let before = standing_of c.args.self.now texts in
    let after = standing_of c.take.new.self texts in
    let request = take_step c.args.number c.args.text.now in
    let same : after ≡ before = same_standing after before c.in-Err.ensures.stays.basis c.in-Err.ensures.answered.0 refl in
    let shown = signature_of c.take.new.self.signature.now in
    either_way c.decline_line.result
    (λ line. AddsDecline shown c.in-Err.decline [] line.items)
    (λ line. GivesAnswer (moment_of before faults) request line.items (moment_of after faults))
    (λ _. IsBeforeOrBehind (moment_of before faults) request (moment_of after faults))
    (λ line adds.
    gives_declined before after faults c.args.number c.args.text.now line.items c.in-Err.decline shown c.in-Err.ensures.answered.1 same
    (c.in-Err.ensures.stays.serving.shown ∙ ap (λ (it : SessionBasis). it.data_.signature) c.in-Err.ensures.stays.basis) adds)
    (λ _. inl (is_as_before before after faults faults same refl))
    c.decline_line.ensures
