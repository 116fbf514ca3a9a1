use Rattle.std.proofs.Common.{◌≡◌, ℕ, map, drop}
use Rattle.sort_terms.specs.Operations.{operation_of}
use Rattle.type_presentations.specs.OperationListView.{operations_in}
use Rattle.type_definitions.specs.Actualisation.{Actualising, actual_operation, actualised_sort}
use Rattle.type_definitions.specs.ActualisationFaults.{formal_operation_fault}
use Rattle.type_definitions.specs.ProfiledImage.{number_in}
use Rattle.type_presentations.specs.PairIndexView.{pairs_in}
use Rattle.type_renaming.specs.PartsView.{IsBaseOf}
use Rattle.type_renaming.proofs.ActualLemmas.{Looked}
use Rattle.type_renaming.proofs.actual_ops.actual_op_numbers.Given as goal

abbrev pub invariant-loop-number : goal.invariant-loop-number
invariant-loop-number l = (a : Actualising) → IsBaseOf a l.base l.mention → a.actual.signature.operations ≡ operations_in l.ops
    → a.pairs.operation_pairs ≡ pairs_in l.pairs → ((n : ℕ) → number_in l.sorts n ≡ actualised_sort a n)
    → Looked (formal_operation_fault a) a.base.presentation.formal_operations (actual_operation a)
    a.base.presentation.signature.operations l.number (map (λ op. operation_of op.value) (drop l.number l.coming)) l.numbers.items
