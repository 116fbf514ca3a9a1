use Rattle.std.proofs.Common.{◌≡◌, map, drop, false}
use Rattle.std.specs.List.{list_any}
use Rattle.sort_terms.specs.Operations.{operation_of}
use Rattle.type_renaming.proofs.PartLemmas.{shared}
use Rattle.sort_terms.specs.WellFormedTest.{are_one_operation}
use Rattle.type_renaming.specs.Clashes.{operation_clash}
use Rattle.type_renaming.specs.RenamerView.{operation_pairs_in, type_name_in}
use Rattle.type_renaming.proofs.operations.pair_of_earlier.Given as goal

abbrev pub invariant-loop-other : goal.invariant-loop-other
invariant-loop-other l =
    (list_any (are_one_operation (operation_of l.op)) (map shared (drop l.other-index l.earlier)) ≡ false)
    × (operation_clash (type_name_in l.renamer) (operation_pairs_in l.renamer) (map shared (drop l.other-index l.earlier))
    (operation_of l.op)
    ≡ operation_clash (type_name_in l.renamer) (operation_pairs_in l.renamer) (map shared l.earlier) (operation_of l.op))
