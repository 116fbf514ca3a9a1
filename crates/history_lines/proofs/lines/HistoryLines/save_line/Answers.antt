use Rattle.std.proofs.Common.{◌≡◌, ◌++◌, ◌<◌, ◌≤◌, ℕ, List, inl, inr, refl, codes, length, subst}
use Rattle.line_server.specs.Request.{save}
use Rattle.history_lines.specs.ShelfAnswer.{trace_limit}
use Rattle.history_lines.specs.Standing.{shown_trace}
use Rattle.history_lines.specs.LinesView.{basis_of, reached, standing_of}
use Rattle.history_lines.specs.Serving.{moment_of, GivesAnswer, IsBeforeOrBehind}
use Rattle.history_lines.proofs.ServingLemmas.{either_way, is_as_before}
use Rattle.history_lines.proofs.CallLemmas.{calls_alike}
use Rattle.history_lines.proofs.ShelfLemmas.{gives_long_trace}
use Rattle.history_lines.proofs.lines.HistoryLines.save_line.Goals as goal

pub returns-in-Ok-clause-called : goal.returns-in-Ok-clause-called
returns-in-Ok-clause-called g c =
    calls_alike c.put_trace.result (standing_of c.args.self.now (g.F.Shelf.state c.args.shelf.now).texts) (save c.args.name.now) _ _
    (inr (subst (λ (it : List ℕ). length it ≤ trace_limit) c.in-Ok.ensures.0 c.in-Ok.ensures.1, c.put_trace.ensures.called))
    (inr c.put_trace.ensures.called)

pub returns-in-Err-TooLong-clause-answered : goal.returns-in-Err-TooLong-clause-answered
returns-in-Err-TooLong-clause-answered g c =
    let lines = c.args.self.now in
    let before = standing_of lines (g.F.Shelf.state c.args.shelf.now).texts in
    let faults = (g.F.Shelf.state c.args.shelf.now).faults in
    let name = c.args.name.now in
    let long : trace_limit < length (shown_trace (basis_of lines) (reached lines)) =
    (rw c.in-Err-TooLong.field-0-is at c.in-Err-TooLong.ensures) in
    either_way c.name_line.result (λ line. line.items ≡ codes "refused 809 TraceTooLong " ++ name ++ codes "\n")
    (λ line. GivesAnswer (moment_of before faults) (save name) line.items (moment_of before faults))
    (λ _. IsBeforeOrBehind (moment_of before faults) (save name) (moment_of before faults))
    (λ line printed. gives_long_trace before faults name line.items long printed)
    (λ _. inl (is_as_before before before faults faults refl refl))
    c.name_line.ensures

pub returns-in-Err-TooLong-clause-called : goal.returns-in-Err-TooLong-clause-called
returns-in-Err-TooLong-clause-called g c =
    let lines = c.args.self.now in
    let long : trace_limit < length (shown_trace (basis_of lines) (reached lines)) =
    (rw c.in-Err-TooLong.field-0-is at c.in-Err-TooLong.ensures) in
    calls_alike c.name_line.result (standing_of lines (g.F.Shelf.state c.args.shelf.now).texts) (save c.args.name.now) _ _
    (inl (long, refl)) (inl refl)

pub returns-in-Err-NoMemory-clause-answered : goal.returns-in-Err-NoMemory-clause-answered
returns-in-Err-NoMemory-clause-answered g c = inl (is_as_before _ _ _ _ refl refl)

pub returns-in-Err-NoMemory-clause-called : goal.returns-in-Err-NoMemory-clause-called
returns-in-Err-NoMemory-clause-called g c = inl refl
