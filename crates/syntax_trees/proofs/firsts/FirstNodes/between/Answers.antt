use Rattle.std.proofs.Common.{◌∙◌, ◌-◌, ap, sym, length, map, reverse}
use Rattle.std.specs.Prelude.{slice_get}
use Rattle.std.proofs.lemmas.Result.{IfOk-weaker}
use Rattle.lotos_base.specs.WrittenView.{text_place_of}
use Rattle.syntax_trees.specs.Firsts.{firsts_below}
use Rattle.syntax_trees.specs.FirstsView.{firsts_of}
use Rattle.syntax_trees.proofs.FirstsLemmas.{between-is}
use Rattle.syntax_trees.proofs.ReversedLists.{last_of, seen_last}
use Rattle.syntax_trees.proofs.firsts.FirstNodes.between.Goals as goal

pub returns-in_ok-followed-in-Some : goal.returns-in_ok-followed-in-Some
returns-in_ok-followed-in-Some c =
    let place = c.in-Some.place in
    let found = last_of c.args.self.places.items place
    (c.in-Some.ensures ∙ c.last.ensures.value ∙ ap (λ it. slice_get it (length it - 1)) c.deref.ensures.value) in
    let made = between-is (firsts_of c.args.self) (firsts_of c.args.behind) (text_place_of place) (reverse (map text_place_of found.0))
    (seen_last c.args.self.places.items found.0 place found.1) in
    IfOk-weaker c.below.result _ _ (λ nodes is. is ∙ ap (firsts_below (text_place_of place)) c.in_ok-followed-in-Some.ensures ∙ sym made)
    c.below.ensures
