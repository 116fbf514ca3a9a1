use Rattle.std.proofs.Common.{List, ℕ, ap}
use Rattle.std.specs.Prelude.{Some}
use Rattle.syntax_trees.specs.TreeViews.{pair_of}
use Rattle.type_definitions.specs.TypeFault.{unknown_sort}
use Rattle.type_renaming.proofs.actual_sorts.named_by_pair.Goals as goal

pub returns-in_default : goal.returns-in_default
returns-in_default c = λ p has.
    let none = rw c.in_default.is at c.in_ok-found.ensures in
    (none p has, ap (λ (n : List ℕ). unknown_sort (pair_of c.args.pair.now).place (Some n)) c.in_ok-copy.ensures)

pub returns : goal.returns
returns c = λ p has. let here = rw c.in-Some.is at c.in_ok-found.ensures in here p has
