use Rattle.std.proofs.Common.{◌≡◌, ◌++◌, ℕ, ◌≤◌, List, inl, inr, refl, codes, length, subst}
use Rattle.line_server.specs.Request.{save}
use Rattle.history_lines.specs.CommandRefusal.{unwritten}
use Rattle.history_lines.specs.ShelfAnswer.{trace_limit, HasPut, saved_text, refusal_in}
use Rattle.history_lines.specs.LinesView.{standing_of}
use Rattle.history_lines.specs.Serving.{moment_of, GivesAnswer, IsBeforeOrBehind}
use Rattle.history_lines.proofs.ServingLemmas.{either_way}
use Rattle.history_lines.proofs.ShelfLemmas.{gives_saved, gives_unwritten, as_before_put}
use Rattle.history_lines.proofs.lines.HistoryLines.put_trace.Goals as goal

pub returns-in-Ok-clause-answered : goal.returns-in-Ok-clause-answered
returns-in-Ok-clause-answered g c =
    let before = standing_of c.args.self.now (g.F.Shelf.state c.args.shelf.now).texts in
    let faults = (g.F.Shelf.state c.args.shelf.now).faults in
    let texts = (g.F.Shelf.state c.put.new.self).texts in
    let after = standing_of c.args.self.now texts in
    let faults_after = (g.F.Shelf.state c.put.new.self).faults in
    let name = c.args.name.now in
    let short = subst (λ (it : List ℕ). length it ≤ trace_limit) c.requires.trace c.requires.short in
    let put = subst (λ (it : List ℕ). HasPut (g.F.Shelf.state c.args.shelf.now).texts texts name it) c.requires.trace
    c.in-Ok.ensures.leaves in
    either_way c.name_line.result (λ line. line.items ≡ codes "saved " ++ name ++ codes "\n")
    (λ line. GivesAnswer (moment_of before faults) (save name) line.items (moment_of after faults_after))
    (λ _. IsBeforeOrBehind (moment_of before faults) (save name) (moment_of after faults_after))
    (λ line printed. gives_saved before texts faults faults_after name line.items short put c.in-Ok.ensures.counts printed)
    (λ _. inr (saved_text name, gives_saved before texts faults faults_after name (saved_text name) short put c.in-Ok.ensures.counts refl))
    c.name_line.ensures

pub returns-in-Err-Failed-clause-answered : goal.returns-in-Err-Failed-clause-answered
returns-in-Err-Failed-clause-answered g c =
    let before = standing_of c.args.self.now (g.F.Shelf.state c.args.shelf.now).texts in
    let faults = (g.F.Shelf.state c.args.shelf.now).faults in
    let texts = (g.F.Shelf.state c.put.new.self).texts in
    let after = standing_of c.args.self.now texts in
    let faults_after = (g.F.Shelf.state c.put.new.self).faults in
    let name = c.args.name.now in
    let short = subst (λ (it : List ℕ). length it ≤ trace_limit) c.requires.trace c.requires.short in
    either_way c.name_line-in-Err-Failed.result (λ line. line.items ≡ codes "refused 808 Unwritten " ++ name ++ codes "\n")
    (λ line. GivesAnswer (moment_of before faults) (save name) line.items (moment_of after faults_after))
    (λ _. IsBeforeOrBehind (moment_of before faults) (save name) (moment_of after faults_after))
    (λ line printed.
    gives_unwritten before texts faults faults_after name line.items short
    (rw c.in-Err-Failed.field-0-is at c.in-Err-Failed.ensures.leaves) (rw c.in-Err-Failed.field-0-is at c.in-Err-Failed.ensures.counts)
    printed)
    (λ _.
    inr (
      refusal_in before (unwritten name),
      gives_unwritten before texts faults faults_after name (refusal_in before (unwritten name)) short
          (rw c.in-Err-Failed.field-0-is at c.in-Err-Failed.ensures.leaves)
          (rw c.in-Err-Failed.field-0-is at c.in-Err-Failed.ensures.counts)
          refl,
    ))
    c.name_line-in-Err-Failed.ensures

pub returns-in-Err-NoMemory-clause-answered : goal.returns-in-Err-NoMemory-clause-answered
returns-in-Err-NoMemory-clause-answered g c =
    let before = standing_of c.args.self.now (g.F.Shelf.state c.args.shelf.now).texts in
    inl (as_before_put before (g.F.Shelf.state c.put.new.self).texts (g.F.Shelf.state c.args.shelf.now).faults
    (g.F.Shelf.state c.put.new.self).faults
    (rw c.in-Err-NoMemory.field-0-is at c.in-Err-NoMemory.ensures.leaves)
    (rw c.in-Err-NoMemory.field-0-is at c.in-Err-NoMemory.ensures.counts))
