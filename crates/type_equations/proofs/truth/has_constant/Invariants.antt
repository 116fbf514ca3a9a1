use Rattle.std.proofs.Common.{◌≡◌, map, drop, length}
use Rattle.std.specs.Prelude.{◌&&◌, nat_eq}
use Rattle.std.specs.List.{list_any}
use Rattle.lotos_base.specs.Name.{spelling}
use Rattle.lotos_base.specs.Signature.{Operation, prefix_form}
use Rattle.lotos_base.specs.Twins.{form_eq}
use Rattle.sort_terms.specs.Operations.{operation_of}
use Rattle.sort_terms.specs.ReadingOutcome.{one_name}
use Rattle.type_equations.proofs.truth.has_constant.Given as goal

abbrev pub invariant-loop-op : goal.invariant-loop-op
invariant-loop-op l =
    list_any
    (λ (o : Operation).
    (one_name o.name (spelling l.name) && form_eq o.form prefix_form) && (nat_eq (length o.arguments) 0 && nat_eq o.result l.sort))
    (map (λ op. operation_of op.value) l.ops)
    ≡ list_any
    (λ (o : Operation).
    (one_name o.name (spelling l.name) && form_eq o.form prefix_form) && (nat_eq (length o.arguments) 0 && nat_eq o.result l.sort))
    (map (λ op. operation_of op.value) (drop l.op-index l.ops))
