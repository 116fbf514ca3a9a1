use Rattle.std.proofs.Common.{◌∙◌}
use Rattle.type_presentations.specs.MarksView.{marks_in}
use Rattle.type_presentations.proofs.MarkLemmas.{known_is_marked}
use Rattle.type_presentations.proofs.marks.Marks.has.Goals as goal

pub returns : goal.returns
returns c = c.contains.ensures ∙ known_is_marked (marks_in c.args.self.now) c.args.self.now.known.keys c.args.number c.requires
