use Rattle.std.proofs.Common.{◌≡◌, drop}
use Rattle.sort_terms.specs.Tables.{combined}
use Rattle.sort_terms.specs.TableView.{tables_of}
use Rattle.sort_terms.proofs.CombinedLemmas.{with_several}
use Rattle.sort_terms.proofs.counting.several_readings.Given as goal

abbrev pub invariant-loop-i : goal.invariant-loop-i
invariant-loop-i l =
    combined l.sorts.items (tables_of l.arguments.items)
    ≡ with_several l.several (combined (drop l.i l.sorts.items) (tables_of (drop l.i l.arguments.items)))
