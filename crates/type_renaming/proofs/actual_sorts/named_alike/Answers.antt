use Rattle.std.proofs.Common.{List, ℕ, ap}
use Rattle.lotos_base.specs.WrittenView.{placed_name_of}
use Rattle.type_definitions.specs.TypeFault.{missing_actual}
use Rattle.type_renaming.proofs.actual_sorts.named_alike.Goals as goal

pub returns-in_default : goal.returns-in_default
returns-in_default c = λ p has.
    let none = rw c.in_default.is at c.in_ok-found.ensures in
    (none p has, ap (λ (n : List ℕ). missing_actual (placed_name_of c.args.mention.now).place n) c.in_ok-copy.ensures)

pub returns : goal.returns
returns c = λ p has. let here = rw c.in-Some.is at c.in_ok-found.ensures in here p has
