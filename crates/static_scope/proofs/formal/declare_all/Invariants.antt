use Rattle.std.proofs.Common.{◌≡◌, ◌++◌, drop, length}
use Rattle.syntax_trees.specs.TreeViews.{placed_names_of}
use Rattle.scope_parts.specs.Behaviours.{numbers_from}
use Rattle.scope_parts.specs.GatesDeclared.{declared}
use Rattle.scope_parts.specs.GatesView.{gates_in}
use Rattle.scope_parts.specs.Numbering.{spelled_names}
use Rattle.static_scope.proofs.formal.declare_all.Given as goal

abbrev pub invariant-loop-name : goal.invariant-loop-name
invariant-loop-name l = record {
  numbers :
      l.numbers.items ++ numbers_from (length (gates_in l.table).names) (placed_names_of (drop l.name-index l.name-items))
      ≡ numbers_from (length (gates_in l.initial.table).names) (placed_names_of l.name-items);
  declared :
      declared (spelled_names (placed_names_of (drop l.name-index l.name-items))) (gates_in l.table)
      ≡ declared (spelled_names (placed_names_of l.name-items)) (gates_in l.initial.table);
}
