use Rattle.std.proofs.Common.{List, ℕ, ap, sym, ◌∙◌}
use Rattle.std.specs.Prelude.{Some}
use Rattle.lotos_base.specs.WrittenTerm.{PlacedName}
use Rattle.lotos_base.specs.WrittenView.{placed_name_of}
use Rattle.sort_terms.specs.Operations.{operation_of}
use Rattle.type_definitions.specs.TypeFault.{missing_actual}
use Rattle.type_renaming.proofs.SortActuals.{has_operation, lacks_operation}
use Rattle.type_renaming.proofs.actual_ops.actual_of_formal.Goals as goal

pub returns-in_default : goal.returns-in_default
returns-in_default c = λ a at parts.
    let none = rw c.in_default.is at c.in_ok-position.ensures in
    lacks_operation a (operation_of c.args.op.now) (none a parts)
    ∙ ap (λ (n : PlacedName). Some (missing_actual n.place (operation_of c.args.op.now).name)) at
    ∙ ap (λ (n : List ℕ). Some (missing_actual (placed_name_of c.args.mention.now).place n)) (sym c.in_ok-copy.ensures)

pub returns : goal.returns
returns c = λ a at parts.
    let here = rw c.in-Some.is at c.in_ok-position.ensures in
    let both = here a parts in
    (has_operation a (operation_of c.args.op.now) both.0, both.1)
