use Rattle.std.proofs.Common.{◌≡◌, ◌∙◌, ◌∷◌, List, ap, sym}
use Rattle.std.proofs.lemmas.Result.{IfOk-weaker}
use Rattle.std.specs.Prelude.{option_and_then}
use Rattle.lotos_base.specs.WrittenTerm.{PlacedName}
use Rattle.lotos_base.specs.WrittenView.{placed_name_of, text_place_of}
use Rattle.ll_engine.specs.Run.{from_last}
use Rattle.tree_building.specs.BehavioursMeaning.{choice_of_gates, choice_of_values, or_else}
use Rattle.tree_building.specs.Meaning.{Meaning}
use Rattle.tree_building.specs.MeaningView.{meaning}
use Rattle.ll_engine.proofs.Stacks.{from_last_more}
use Rattle.behaviour_building.proofs.choices.choice_at.Goals as goal

-- the first part are the names, and the second says over what the choice is
pub returns : goal.returns
returns c =
    let place = text_place_of c.args.word.place in
    let end = c.in-Some-pop.end in
    let others = from_last meaning c.pop.new.self.items in
    let names = from_last placed_name_of c.in-Some.names.items in
    let parts_are : from_last meaning c.take.new.parts.items ≡ meaning end ∷ others =
    ap (from_last meaning) c.in-Some-pop.ensures.items ∙ from_last_more meaning c.pop.new.self.items end in
    IfOk-weaker c.chosen_over.result _ _
    (λ built told.
    told others
    ∙ sym (ap (λ (parts : List Meaning). or_else (choice_of_values place names parts) (choice_of_gates place names parts)) parts_are)
    ∙ ap (option_and_then (λ (pair : List PlacedName × List Meaning).
    or_else (choice_of_values place pair.0 pair.1) (choice_of_gates place pair.0 pair.1)))
    c.in-Some.ensures)
    c.chosen_over.ensures
