use Rattle.std.proofs.Common.{◌≡◌, map, take, drop}
use Rattle.lotos_base.specs.Signature.{Operation}
use Rattle.sort_terms.specs.WellFormedTest.{are_one_operation}
use Rattle.type_definitions.specs.TypeFault.{double_operation}
use Rattle.type_definitions.specs.Renaming.{clash_among, pair_for, renamed_operation, renamed_operation_clash}
use Rattle.type_presentations.specs.PresentationView.{IsSound, presentation_of}
use Rattle.type_renaming.specs.Parts.{operations_alone, with_these_operations}
use Rattle.type_renaming.specs.RenamerView.{operation_pairs_in, type_name_in}
use Rattle.type_renaming.proofs.PartLemmas.{shared}
use Rattle.type_renaming.proofs.operations.rename_ops.Given as goal

abbrev pub invariant-loop-number : goal.invariant-loop-number
invariant-loop-number l =
    IsSound l.renamed
    × (presentation_of l.renamed
    ≡ with_these_operations (presentation_of l.fn.renamed)
    (map (renamed_operation (type_name_in l.renamer) (operation_pairs_in l.renamer)) (map shared (take l.number l.base))))
    × (clash_among
    (λ (one : Operation) (other : Operation).
    are_one_operation (renamed_operation (type_name_in l.renamer) (operation_pairs_in l.renamer) one)
    (renamed_operation (type_name_in l.renamer) (operation_pairs_in l.renamer) other))
    (λ (o : Operation). pair_for (operation_pairs_in l.renamer).operation_pairs o.name) double_operation
    (map shared (take l.number l.base)) (map shared (drop l.number l.base))
    ≡ renamed_operation_clash (operations_alone (map shared l.base)) (type_name_in l.renamer) (operation_pairs_in l.renamer))
