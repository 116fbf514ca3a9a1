use Rattle.std.proofs.Common.{◌≡◌, ◌++◌, map}
use Rattle.lotos_base.specs.WrittenView.{placed_name_of}
use Rattle.lotos_rows.specs.Behaviours.{gate_choices_among}
use Rattle.syntax_trees.specs.TreeViews.{gate_choice_of}
use Rattle.ll_engine.specs.Run.{from_last}
use Rattle.behaviour_building.proofs.declarations.add_gate_choices.Given as goal

-- the declarations of the names so far are in front
abbrev pub invariant-loop-name : goal.invariant-loop-name
invariant-loop-name l =
    from_last gate_choice_of l.gates.items
    ≡ gate_choices_among (from_last placed_name_of l.yielded) (map placed_name_of l.among.items)
    ++ from_last gate_choice_of l.initial.gates.items
