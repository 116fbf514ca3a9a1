-- By recursion on the path.
use Rattle.std.proofs.Common.{subst, ℕ}
use Rattle.lotos_base.specs.Sorting.{HasSort}
use Rattle.lotos_base.proofs.SortLemmas.{subterm_sort, one_sort}
use Rattle.lotos_base.proofs.paths.replacement_keeps_sorts.Goals as goal

pub returns-clause-parts : goal.returns-clause-parts
returns-clause-parts c = λ signature path t part s h e.
    let found = subterm_sort signature path t part s h e in
    (found.sort, found.sorted)

pub returns-clause-whole : goal.returns-clause-whole
returns-clause-whole c = λ signature path t old part whole s r h e o p w.
    let found = subterm_sort signature path t old s h e in
    found.others part whole (subst (λ (q : ℕ). HasSort signature part q) (one_sort signature old r found.sort o found.sorted) p) w
