use Rattle.std.proofs.Common.{◌≡◌, length}
use Rattle.draft_solving.proofs.places.Places.none.Given as goal

abbrev pub invariant-loop : goal.invariant-loop
invariant-loop l = length l.lists.items ≡ l.counter
