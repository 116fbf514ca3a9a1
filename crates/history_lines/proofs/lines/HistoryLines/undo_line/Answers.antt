use Rattle.std.proofs.Common.{◌≡◌, inr, refl, ap}
use Rattle.session_log.specs.HandedOn.{Spec, book_canon}
use Rattle.sort_terms.specs.EquationView.{data_of}
use Rattle.session_log.specs.CourseView.{basis_over}
use Rattle.line_server.specs.Request.{undo}
use Rattle.history_lines.specs.LinesView.{basis_of, reached, standing_of}
use Rattle.history_lines.specs.Serving.{moment_of, GivesAnswer, IsBeforeOrBehind, undo_text}
use Rattle.history_lines.proofs.ServingLemmas.{either_way, gives_undo}
use Rattle.history_lines.proofs.lines.HistoryLines.undo_line.Goals as goal

pub returns-clause-answered : goal.returns-clause-answered
returns-clause-answered g c = λ texts faults.
    let lines = c.args.self.now in
    let before = standing_of lines texts in
    let new = record lines { session = c.undo-undone.new.self } in
    let after = standing_of new texts in
    let same : basis_of new ≡ basis_of lines =
    ap (λ (it : Spec). basis_over (data_of lines.book.flat) (book_canon lines.book) it) c.undo-undone.ensures.same_spec in
    either_way c.told.result (λ line. line.items ≡ undo_text c.undo-undone.result (basis_of new) (reached new))
    (λ line. GivesAnswer (moment_of before faults) undo line.items (moment_of after faults))
    (λ _. IsBeforeOrBehind (moment_of before faults) undo (moment_of after faults))
    (λ line printed. gives_undo before after faults line.items c.undo-undone.result c.undo-undone.ensures.undone same refl printed)
    (λ _.
    inr (
      undo_text c.undo-undone.result (basis_of new) (reached new),
      gives_undo before after faults _ c.undo-undone.result c.undo-undone.ensures.undone same refl refl,
    ))
    c.told.ensures
