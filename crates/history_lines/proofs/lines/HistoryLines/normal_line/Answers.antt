use Rattle.std.proofs.Common.{inl, refl}
use Rattle.lotos_base.proofs.Options.{gave_up}
use Rattle.history_lines.specs.LinesView.{standing_of}
use Rattle.history_lines.proofs.ServingLemmas.{same_standing, is_as_before, said_normal}
use Rattle.history_lines.proofs.StayLemmas.{stays}
use Rattle.history_lines.proofs.lines.HistoryLines.normal_line.Goals as goal

pub returns-clause-answered : goal.returns-clause-answered
returns-clause-answered g c = λ texts faults.
    let lines = c.args.self.now in
    let on = stays g.M.MenuMaker.suits lines lines.session c.push_normal.new.book c.requires.serving c.push_normal.ensures.same_data
    c.push_normal.ensures.same_canon refl c.requires.serving.lawful in
    let before = standing_of lines texts in
    let after = standing_of (record lines { book = c.push_normal.new.book }) texts in
    said_normal before after faults c.args.terms.now c.new-text.result.items c.push_normal.new.into.items c.new-text.ensures.items
    (same_standing after before on.basis refl refl) c.in_ok-push_normal.ensures.added

pub returns-in_err-push_normal-clause-answered : goal.returns-in_err-push_normal-clause-answered
returns-in_err-push_normal-clause-answered g c = λ texts faults.
    let lines = c.args.self.now in
    let on = stays g.M.MenuMaker.suits lines lines.session c.push_normal.new.book c.requires.serving c.push_normal.ensures.same_data
    c.push_normal.ensures.same_canon refl c.requires.serving.lawful in
    let before = standing_of lines texts in
    let after = standing_of (record lines { book = c.push_normal.new.book }) texts in
    gave_up _ _ c.from_residual.result c.in_err-push_normal.field-0.0 c.from_residual.ensures.1
    (inl (is_as_before before after faults faults (same_standing after before on.basis refl refl) refl))

pub returns-clause-serving_after : goal.returns-clause-serving_after
returns-clause-serving_after g c =
    (stays g.M.MenuMaker.suits c.args.self.now c.args.self.now.session c.push_normal.new.book c.requires.serving
    c.push_normal.ensures.same_data c.push_normal.ensures.same_canon refl c.requires.serving.lawful).serving

pub returns-in_err-push_normal-clause-serving_after : goal.returns-in_err-push_normal-clause-serving_after
returns-in_err-push_normal-clause-serving_after g c =
    (stays g.M.MenuMaker.suits c.args.self.now c.args.self.now.session c.push_normal.new.book c.requires.serving
    c.push_normal.ensures.same_data c.push_normal.ensures.same_canon refl c.requires.serving.lawful).serving
