use Rattle.std.proofs.Common.{◌≡◌, ◌++◌, ◌∷◌, [], ℕ, List, ap, ◌∙◌, sym}
use Rattle.std.specs.Prelude.{nat_eq}
use Rattle.type_definitions.specs.Presentation.{with_new}
use Rattle.type_presentations.specs.MarksView.{marks_in}
use Rattle.type_presentations.proofs.MarkLemmas.{marked}
use Rattle.type_presentations.proofs.marks.Marks.append.Goals as goal

pub returns-clause-known : goal.returns-clause-known
returns-clause-known c =
    let m =
    marked (marks_in c.args.self.now) c.args.self.now.known.keys c.insert.new.self.keys c.args.number _ c.requires.known
    c.in_ok-insert.ensures.keys c.in_ok-insert.ensures.added in
    m.appended ∙ ap (λ (ns : List ℕ). with_new nat_eq [] ns) (sym c.in_ok-push.ensures.items)
