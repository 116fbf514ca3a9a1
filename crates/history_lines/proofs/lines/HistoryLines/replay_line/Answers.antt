use Rattle.std.proofs.Common.{◌≡◌, ◌++◌, ◌+◌, ℕ, inl, inr, List, Option, IfSome, refl, codes, ap, sym, subst}
use Rattle.lotos_base.specs.Outside.{Texts, Gets}
use Rattle.line_server.specs.Request.{replay}
use Rattle.history_lines.specs.CommandRefusal.{unread}
use Rattle.history_lines.specs.ShelfAnswer.{trace_limit, refusal_in}
use Rattle.history_lines.specs.LinesView.{standing_of}
use Rattle.history_lines.specs.Serving.{moment_of, GivesAnswer, IsBeforeOrBehind}
use Rattle.history_lines.proofs.ServingLemmas.{either_way, is_as_before, at_moment, same_moment}
use Rattle.history_lines.proofs.ShelfLemmas.{gives_failed, gives_missing}
use Rattle.history_lines.proofs.lines.HistoryLines.replay_line.Goals as goal

pub returns-in-Ok-clause-answered : goal.returns-in-Ok-clause-answered
returns-in-Ok-clause-answered g c =
    let lines = c.replay_got.new.self in
    let texts = (g.F.Shelf.state c.args.shelf.now).texts in
    let faults = (g.F.Shelf.state c.args.shelf.now).faults in
    let texts_after = (g.F.Shelf.state c.get.new.self).texts in
    let faults_after = (g.F.Shelf.state c.get.new.self).faults in
    at_moment c.replay_got.result (moment_of (standing_of c.args.self.now texts) faults) (moment_of (standing_of lines texts) faults)
    (moment_of (standing_of lines texts_after) faults_after) (λ line. line.items) (replay c.args.name.now)
    (same_moment (standing_of lines texts_after) (standing_of lines texts) faults_after faults
    (ap (λ (it : Option Texts). standing_of lines it) c.in-Ok.ensures.texts) c.in-Ok.ensures.counts)
    (c.replay_got.ensures.answered texts faults
    (subst (λ (it : List ℕ). IfSome texts (λ (told : Texts). Gets told c.args.name.now (trace_limit + 1) it)) (sym c.as_slice.ensures.value)
    c.in-Ok.ensures.answers))

pub returns-in-Err-Missing-clause-answered : goal.returns-in-Err-Missing-clause-answered
returns-in-Err-Missing-clause-answered g c =
    let before = standing_of c.args.self.now (g.F.Shelf.state c.args.shelf.now).texts in
    let after = standing_of c.args.self.now (g.F.Shelf.state c.get.new.self).texts in
    let faults = (g.F.Shelf.state c.args.shelf.now).faults in
    let faults_after = (g.F.Shelf.state c.get.new.self).faults in
    let name = c.args.name.now in
    let same : after ≡ before = ap (λ (it : Option Texts). standing_of c.args.self.now it) c.in-Err-Missing.ensures.texts in
    let missing = rw c.in-Err-Missing.field-0-is at c.in-Err-Missing.ensures.answers in
    let counted = rw c.in-Err-Missing.field-0-is at c.in-Err-Missing.ensures.counts in
    either_way c.name_line.result (λ line. line.items ≡ codes "refused 807 Unread " ++ name ++ codes "\n")
    (λ line. GivesAnswer (moment_of before faults) (replay name) line.items (moment_of after faults_after))
    (λ _. IsBeforeOrBehind (moment_of before faults) (replay name) (moment_of after faults_after))
    (λ line printed. gives_missing before after faults faults_after name line.items missing same counted printed)
    (λ _. inl (is_as_before before after faults faults_after same counted))
    c.name_line.ensures

pub returns-in-Err-Failed-clause-answered : goal.returns-in-Err-Failed-clause-answered
returns-in-Err-Failed-clause-answered g c =
    let before = standing_of c.args.self.now (g.F.Shelf.state c.args.shelf.now).texts in
    let after = standing_of c.args.self.now (g.F.Shelf.state c.get.new.self).texts in
    let faults = (g.F.Shelf.state c.args.shelf.now).faults in
    let faults_after = (g.F.Shelf.state c.get.new.self).faults in
    let name = c.args.name.now in
    let same : after ≡ before = ap (λ (it : Option Texts). standing_of c.args.self.now it) c.in-Err-Failed.ensures.texts in
    let rises = rw c.in-Err-Failed.field-0-is at c.in-Err-Failed.ensures.counts in
    either_way c.name_line-in-Err-Failed.result (λ line. line.items ≡ codes "refused 807 Unread " ++ name ++ codes "\n")
    (λ line. GivesAnswer (moment_of before faults) (replay name) line.items (moment_of after faults_after))
    (λ _. IsBeforeOrBehind (moment_of before faults) (replay name) (moment_of after faults_after))
    (λ line printed. gives_failed before after faults faults_after name line.items same rises printed)
    (λ _.
    inr (
      refusal_in before (unread name),
      gives_failed before after faults faults_after name (refusal_in before (unread name)) same rises refl,
    ))
    c.name_line-in-Err-Failed.ensures
