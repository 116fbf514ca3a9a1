use Rattle.std.proofs.Common.{◌≡◌, ◌≤◌, ◌++◌, drop}
use Rattle.draft_solving.specs.Variables.{places_by_sorts}
use Rattle.draft_solving.proofs.variables.places.Given as goal

abbrev pub invariant-loop-i : goal.invariant-loop-i
invariant-loop-i l =
    (l.made.items ++ places_by_sorts l.first l.i (drop l.i l.sorts.items) ≡ places_by_sorts 0 0 l.sorts.items)
    × (l.first ≤ l.i)
