use Rattle.std.proofs.Common.{◌∙◌, List, map, ap}
use Rattle.syntax_trees.specs.TreeViews.{written_behaviour_of, heading_of, inner_of}
use Rattle.syntax_trees.specs.WrittenDefinition.{WrittenInner, process, inners_of}
use Rattle.tree_building.proofs.FromLast.{map_reverse}
use Rattle.sentence_building.proofs.MadeProcesses.{made_process}
use Rattle.sentence_building.proofs.definitions.process_of_heading.Goals as goal

-- the declarations are turned round
pub returns : goal.returns
returns c =
    let heading = c.args.heading in
    made_process heading.place heading.name heading.gates heading.params heading.func c.args.body c.turned.result
    ∙ ap
    (λ (inner : List WrittenInner). process (heading_of heading.place heading.name heading.gates.items heading.params.items heading.func)
    (written_behaviour_of c.args.body) (inners_of inner))
    (ap (map inner_of) c.turned.ensures ∙ map_reverse inner_of c.args.inner.items)
