use Rattle.std.proofs.Common.{◌≡◌, ◌≤◌, ◌+◌, length, map, drop}
use Rattle.sort_terms.specs.Operations.{operation_of}
use Rattle.type_definitions.specs.Actualisation.{Actualising}
use Rattle.type_presentations.specs.OperationListView.{HasOperationKeys, operations_in}
use Rattle.type_renaming.specs.MakersView.{makers_in}
use Rattle.type_renaming.specs.CameView.{operations_with}
use Rattle.type_renaming.specs.SourceView.{AreOperationsComing}
use Rattle.type_renaming.proofs.ArrivingLemmas.{Arriving}
use Rattle.type_renaming.proofs.MemberLemmas.{operations_of}
use Rattle.type_renaming.proofs.coming_operations.bring_each.Given as goal

abbrev pub invariant-loop-number : goal.invariant-loop-number
invariant-loop-number l = record {
  keyed : HasOperationKeys l.list;
  few : length (operations_in l.list) ≤ length (operations_in l.fn.list) + l.number;
  makers : length (makers_in l.came.makers) ≡ length (operations_in l.list);
  arriving : (a : Actualising)
      → AreOperationsComing a l.source l.sorts (operations_in l.fn.list) (map (λ op. operation_of op.value) l.coming) l.actuals
      → Arriving (operations_of a) (operations_with l.list l.came) l.number (map (λ op. operation_of op.value) (drop l.number l.coming))
      (drop l.number l.actuals);
}
