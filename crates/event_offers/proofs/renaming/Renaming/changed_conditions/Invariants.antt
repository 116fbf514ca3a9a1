use Rattle.event_offers.proofs.ChangedLemmas.{AreSidesRenamed}
use Rattle.event_offers.proofs.InPlace.{AreChangedUpTo}
use Rattle.event_offers.proofs.renaming.Renaming.changed_conditions.Given as goal

abbrev pub invariant-loop-i : goal.invariant-loop-i
invariant-loop-i l = AreChangedUpTo (AreSidesRenamed l.self) l.i l.fn.conditions.items l.made.items
