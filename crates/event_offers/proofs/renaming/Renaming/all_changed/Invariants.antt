use Rattle.event_offers.proofs.ChangedLemmas.{IsRenamed}
use Rattle.event_offers.proofs.InPlace.{AreChangedUpTo}
use Rattle.event_offers.proofs.renaming.Renaming.all_changed.Given as goal

abbrev pub invariant-loop-i : goal.invariant-loop-i
invariant-loop-i l = AreChangedUpTo (IsRenamed l.self) l.i l.fn.terms.items l.made.items
