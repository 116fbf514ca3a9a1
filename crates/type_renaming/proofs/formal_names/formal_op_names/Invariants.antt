use Rattle.std.proofs.Common.{◌≡◌, length, map, take}
use Rattle.lotos_base.specs.Signature.{Operation}
use Rattle.sort_terms.specs.Operations.{operation_of}
use Rattle.type_presentations.specs.NamesView.{HasNames}
use Rattle.type_definitions.specs.Actualisation.{marked_from}
use Rattle.type_presentations.specs.MarksView.{marks_in}
use Rattle.type_renaming.proofs.formal_names.formal_op_names.Given as goal

abbrev pub invariant-loop-number : goal.invariant-loop-number
invariant-loop-number l =
    HasNames l.names
    (map (λ (o : Operation). o.name)
    (marked_from (marks_in l.base.formal_ops) 0 (map (λ op. operation_of op.value) (take l.number l.ops))))
    × (length
    (map (λ (o : Operation). o.name)
    (marked_from (marks_in l.base.formal_ops) 0 (map (λ op. operation_of op.value) (take l.number l.ops))))
    ≡ l.count)
