use Rattle.std.proofs.Common.{◌≡◌, ◌++◌, ◌∷◌, [], ℕ, List, ap, ◌∙◌, sym}
use Rattle.std.specs.Prelude.{nat_eq}
use Rattle.type_definitions.specs.Presentation.{with_new}
use Rattle.type_presentations.specs.MarksView.{marks_in}
use Rattle.type_presentations.proofs.MarkLemmas.{marked}
use Rattle.type_presentations.proofs.marks.Marks.add.Goals as goal

pub returns-then-is_new-clause-known : goal.returns-then-is_new-clause-known
returns-then-is_new-clause-known c =
    let m =
    marked (marks_in c.args.self.now) c.args.self.now.known.keys c.insert.new.self.keys c.args.number c.in_ok-is_new.is_new c.requires.known
    c.in_ok-is_new.ensures.keys c.in_ok-is_new.ensures.added in
    m.appended ∙ ap (λ (ns : List ℕ). with_new nat_eq [] ns) (sym c.in_ok-push.ensures.items)

pub returns-then-is_new-clause-marks : goal.returns-then-is_new-clause-marks
returns-then-is_new-clause-marks c =
    let m =
    marked (marks_in c.args.self.now) c.args.self.now.known.keys c.insert.new.self.keys c.args.number c.in_ok-is_new.is_new c.requires.known
    c.in_ok-is_new.ensures.keys c.in_ok-is_new.ensures.added in
    c.in_ok-push.ensures.items ∙ sym (m.grown c.if-is_new.true)

pub returns-clause-known : goal.returns-clause-known
returns-clause-known c =
    let m =
    marked (marks_in c.args.self.now) c.args.self.now.known.keys c.insert.new.self.keys c.args.number c.in_ok-is_new.is_new c.requires.known
    c.in_ok-is_new.ensures.keys c.in_ok-is_new.ensures.added in
    m.unchanged c.if-is_new.false

pub returns-clause-marks : goal.returns-clause-marks
returns-clause-marks c =
    let m =
    marked (marks_in c.args.self.now) c.args.self.now.known.keys c.insert.new.self.keys c.args.number c.in_ok-is_new.is_new c.requires.known
    c.in_ok-is_new.ensures.keys c.in_ok-is_new.ensures.added in
    sym (m.stays c.if-is_new.false)
