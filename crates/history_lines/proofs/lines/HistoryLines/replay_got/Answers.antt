use Rattle.std.proofs.Common.{◌≡◌, ◌++◌, ◌<◌, inl, refl, codes, length, arith}
use Rattle.line_server.specs.Request.{replay}
use Rattle.history_lines.specs.ShelfAnswer.{trace_limit}
use Rattle.history_lines.specs.LinesView.{standing_of}
use Rattle.history_lines.specs.Serving.{moment_of, GivesAnswer, IsBeforeOrBehind}
use Rattle.history_lines.proofs.ServingLemmas.{either_way, is_as_before}
use Rattle.history_lines.proofs.ShelfLemmas.{got_short, got_long, gives_long_text}
use Rattle.history_lines.proofs.lines.HistoryLines.replay_got.Goals as goal

pub returns-then-got-gt-TRACE_LIMIT-clause-answered : goal.returns-then-got-gt-TRACE_LIMIT-clause-answered
returns-then-got-gt-TRACE_LIMIT-clause-answered g c = λ texts faults gets.
    let before = standing_of c.args.self.now texts in
    let name = c.args.name.now in
    let long : trace_limit < length c.args.got.now = omega (arith, c.if-got-gt-TRACE_LIMIT.true) in
    either_way c.name_line.result (λ line. line.items ≡ codes "refused 809 TraceTooLong " ++ name ++ codes "\n")
    (λ line. GivesAnswer (moment_of before faults) (replay name) line.items (moment_of before faults))
    (λ _. IsBeforeOrBehind (moment_of before faults) (replay name) (moment_of before faults))
    (λ line printed. gives_long_text before faults name line.items (got_long texts name c.args.got.now gets long) printed)
    (λ _. inl (is_as_before before before faults faults refl refl))
    c.name_line.ensures

pub returns-clause-answered : goal.returns-clause-answered
returns-clause-answered g c = λ texts faults gets.
    c.replay_whole.ensures.answered c.args.name.now texts faults
    (got_short texts c.args.name.now c.args.got.now gets (omega (arith, c.if-got-gt-TRACE_LIMIT.false)))
