use Rattle.std.proofs.Common.{inl, refl, sym, subst}
use Rattle.session_log.specs.HandedOn.{entries_in, Menu, specification_of, Spec, book_canon}
use Rattle.sort_terms.specs.EquationView.{data_of}
use Rattle.lotos_base.proofs.Options.{gave_up}
use Rattle.session_log.specs.Kept.{IsKeptMenu}
use Rattle.value_lists.specs.ListOutcome.{InstancesComeTo}
use Rattle.value_lists.specs.ListText.{instances_text}
use Rattle.value_lists.specs.ListView.{AddsList}
use Rattle.session_log.specs.CourseView.{basis_over}
use Rattle.history_lines.specs.LinesView.{standing_of}
use Rattle.history_lines.proofs.ServingLemmas.{same_standing, is_as_before, said_instances}
use Rattle.history_lines.proofs.StayLemmas.{stays}
use Rattle.history_lines.proofs.lines.HistoryLines.instances_line.Goals as goal

pub push_instances-requires-clause-menu : goal.push_instances-requires-clause-menu
push_instances-requires-clause-menu g c =
    subst (λ (it : Menu). IsKeptMenu (data_of c.args.self.now.book.flat).signature it) (sym c.menu.ensures)
    c.requires.serving.lawful.course.menu

pub returns-clause-answered : goal.returns-clause-answered
returns-clause-answered g c = λ texts faults.
    let lines = c.args.self.now in
    let on = stays g.M.MenuMaker.suits lines lines.session c.push_instances.new.book c.requires.serving
    c.push_instances.ensures.same_data c.push_instances.ensures.same_canon refl c.requires.serving.lawful in
    let before = standing_of lines texts in
    let after = standing_of (record lines { book = c.push_instances.new.book }) texts in
    said_instances before after faults c.args.number c.args.size c.new-text.result.items c.push_instances.new.into.items
    c.new-text.ensures.items (same_standing after before on.basis refl refl)
    (subst (λ (it : Spec).
    AddsList
    (InstancesComeTo (basis_over (data_of lines.book.flat) (book_canon lines.book) it) (entries_in lines.session.course.menu) c.args.number c.args.size)
    (instances_text (basis_over (data_of lines.book.flat) (book_canon lines.book) it) c.args.number) c.new-text.result.items
    c.push_instances.new.into.items) c.spec.ensures
    (subst (λ (it : Menu).
    AddsList
    (InstancesComeTo (basis_over (data_of lines.book.flat) (book_canon lines.book) c.spec.result.now) (entries_in it) c.args.number c.args.size)
    (instances_text (basis_over (data_of lines.book.flat) (book_canon lines.book) c.spec.result.now) c.args.number) c.new-text.result.items
    c.push_instances.new.into.items) c.menu.ensures c.in_ok-push_instances.ensures.added))

pub returns-in_err-push_instances-clause-answered : goal.returns-in_err-push_instances-clause-answered
returns-in_err-push_instances-clause-answered g c = λ texts faults.
    let lines = c.args.self.now in
    let on = stays g.M.MenuMaker.suits lines lines.session c.push_instances.new.book c.requires.serving
    c.push_instances.ensures.same_data c.push_instances.ensures.same_canon refl c.requires.serving.lawful in
    let before = standing_of lines texts in
    let after = standing_of (record lines { book = c.push_instances.new.book }) texts in
    gave_up _ _ c.from_residual.result c.in_err-push_instances.field-0.0 c.from_residual.ensures.1
    (inl (is_as_before before after faults faults (same_standing after before on.basis refl refl) refl))

pub returns-clause-serving_after : goal.returns-clause-serving_after
returns-clause-serving_after g c =
    (stays g.M.MenuMaker.suits c.args.self.now c.args.self.now.session c.push_instances.new.book c.requires.serving
    c.push_instances.ensures.same_data c.push_instances.ensures.same_canon refl c.requires.serving.lawful).serving

pub returns-in_err-push_instances-clause-serving_after : goal.returns-in_err-push_instances-clause-serving_after
returns-in_err-push_instances-clause-serving_after g c =
    (stays g.M.MenuMaker.suits c.args.self.now c.args.self.now.session c.push_instances.new.book c.requires.serving
    c.push_instances.ensures.same_data c.push_instances.ensures.same_canon refl c.requires.serving.lawful).serving
