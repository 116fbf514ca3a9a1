use Rattle.draft_solving.proofs.NameLemmas.{AreOwnUpTo}
use Rattle.draft_solving.proofs.naming.own_names.Given as goal

abbrev pub invariant-loop-i : goal.invariant-loop-i
invariant-loop-i l = AreOwnUpTo l.i l.names.items
