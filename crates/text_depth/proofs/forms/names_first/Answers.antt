use Rattle.std.proofs.Common.{◌∙◌, ◌∷◌, [], ap, map, sym}
use Rattle.std.proofs.lemmas.List.{map-append}
use Rattle.lotos_base.specs.WrittenView.{text_place_of}
use Rattle.tree_building.proofs.FromLast.{map_reverse}
use Rattle.syntax_trees.specs.FirstsView.{firsts_of}
use Rattle.syntax_trees.specs.TreeFirsts.{names_firsts}
use Rattle.text_depth.proofs.PartLists.{names_firsts_append}
use Rattle.text_depth.proofs.forms.names_first.Goals as goal

pub loop-place-init : goal.loop-place-init
loop-place-init c =
    ap (λ it. names_firsts it (firsts_of c.args.inside)) (ap (map text_place_of) c.turned-names.ensures
    ∙ map_reverse text_place_of c.args.names.items)

pub loop-place-preserved : goal.loop-place-preserved
loop-place-preserved c =
    let left = map text_place_of c.pop.new.self.items in
    ap (names_firsts left) c.in_ok-firsts.ensures
    ∙ names_firsts_append left (text_place_of c.in-Some.place ∷ []) (firsts_of c.loop-place.firsts)
    ∙ ap (λ it. names_firsts it (firsts_of c.loop-place.firsts))
    (sym (ap (map text_place_of) c.in-Some.ensures.items ∙ map-append text_place_of c.pop.new.self.items (c.in-Some.place ∷ [])))
    ∙ c.loop-place.invariant
