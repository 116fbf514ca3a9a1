use Rattle.std.proofs.Common.{◌∙◌, sym}
use Rattle.syntax_trees.proofs.ReversedLists.{no_some, seen_followed}
use Rattle.syntax_trees.proofs.firsts.FirstNodes.followed.Goals as goal

pub returns : goal.returns
returns c =
    seen_followed c.args.self.places.items c.args.behind.places.items c.in_ok-overlaid.field-0.items c.args.self.rest c.args.behind.rest
    (no_some c.args.self.rest (sym c.is_some.ensures ∙ c.if-is_some.false)) c.in_ok-overlaid.ensures
