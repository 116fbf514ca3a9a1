use Rattle.event_offers.specs.Keeping.{KeepsData}
use Rattle.event_offers.proofs.InPlace.{AreChangedUpTo}
use Rattle.draft_solving.proofs.ChangingLemmas.{IsSettled}
use Rattle.draft_solving.proofs.changing.canonical_terms.Given as goal

abbrev pub invariant-loop-i : goal.invariant-loop-i
invariant-loop-i g l =
    AreChangedUpTo (IsSettled (g.D.Deciding.known_data l.fn.decider).signature (g.D.Deciding.canon l.fn.decider)) l.i
    l.fn.terms.items l.made.items
    × KeepsData g.D.Deciding.known_data g.D.Deciding.canon l.fn.decider l.decider
