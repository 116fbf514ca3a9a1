use Rattle.std.proofs.Common.{◌≡◌, ◌++◌, drop, length}
use Rattle.syntax_trees.specs.TreeViews.{placed_names_of}
use Rattle.scope_parts.specs.BindingsView.{bindings_in}
use Rattle.scope_parts.specs.Behaviours.{numbers_from}
use Rattle.scope_parts.specs.GatesDeclared.{declared}
use Rattle.scope_parts.specs.GatesView.{gates_in}
use Rattle.scope_parts.specs.Numbering.{each_once, each_once_from, spelled_names}
use Rattle.scope_parts.proofs.gate_table.GateTable.hide_all.Given as goal

abbrev pub invariant-loop-name : goal.invariant-loop-name
invariant-loop-name l = record {
  numbers :
      l.numbers.items ++ numbers_from (length (gates_in l.self).names)
      (each_once_from (bindings_in l.before) (spelled_names (placed_names_of (drop l.name-index l.name-items))))
      ≡ numbers_from (length (gates_in l.initial.self).names) (each_once (spelled_names (placed_names_of l.name-items)));
  declared :
      declared (each_once_from (bindings_in l.before) (spelled_names (placed_names_of (drop l.name-index l.name-items)))) (gates_in l.self)
      ≡ declared (each_once (spelled_names (placed_names_of l.name-items))) (gates_in l.initial.self);
}
