use Rattle.std.proofs.Common.{List, ℕ, ap, sym}
use Rattle.std.specs.Prelude.{Some}
use Rattle.lotos_base.specs.WrittenView.{text_place_of}
use Rattle.type_definitions.specs.TypeFault.{double_operation}
use Rattle.type_renaming.proofs.operations.double_op_at.Goals as goal

pub returns : goal.returns
returns c = ap (λ (n : List ℕ). Some (double_operation (text_place_of c.args.pair.now.place) n)) (sym c.in_ok-copy.ensures)
