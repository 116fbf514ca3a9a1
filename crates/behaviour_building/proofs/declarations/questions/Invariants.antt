use Rattle.std.proofs.Common.{◌≡◌, map}
use Rattle.lotos_base.specs.WrittenView.{placed_name_of}
use Rattle.lotos_rows.specs.Names.{variables_of_sort}
use Rattle.syntax_trees.specs.TreeViews.{written_offer_of}
use Rattle.syntax_trees.specs.WrittenBehaviour.{offer_variable}
use Rattle.ll_engine.specs.Run.{from_last}
use Rattle.behaviour_building.proofs.declarations.questions.Given as goal

-- the questions of the names so far
abbrev pub invariant-loop-name : goal.invariant-loop-name
invariant-loop-name l =
    from_last written_offer_of l.offers.items ≡ map offer_variable
    (variables_of_sort (from_last placed_name_of l.yielded) (placed_name_of l.sort))
