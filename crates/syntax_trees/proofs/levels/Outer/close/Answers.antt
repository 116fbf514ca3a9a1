use Rattle.std.proofs.Common.{ap, ◌∙◌, map, take, [], ◌∷◌, ◌++◌}
use Rattle.std.proofs.lemmas.List.{map-append}
use Rattle.syntax_trees.specs.TreeViews.{inner_of, inner_list_of}
use Rattle.syntax_trees.proofs.TakingItems.{seen_again}
use Rattle.syntax_trees.proofs.levels.Outer.close.Goals as goal

pub returns-clause-kept : goal.returns-clause-kept
returns-clause-kept c =
    ap (map inner_of) c.keep.ensures.kept ∙ map-append inner_of (take c.args.self.level.kept c.args.self.level.list.items) (_ ∷ [])
    ∙ ap (λ it. inner_list_of (take c.args.self.level.kept c.args.self.level.list.items) ++ it ∷ [])
    (seen_again c.args.self.place c.args.self.name c.args.self.gates c.args.self.params c.args.self.func c.args.self.body c.args.inner)
