use Rattle.std.proofs.Common.{drop}
use Rattle.event_offers.specs.Keeping.{KeepsData}
use Rattle.draft_solving.proofs.PutWay.{IsPutUpTo}
use Rattle.draft_solving.proofs.putting.put_everywhere.Given as goal

abbrev pub invariant-loop-place : goal.invariant-loop-place
invariant-loop-place g l =
    IsPutUpTo (g.D.Deciding.known_data l.fn.decider) (g.D.Deciding.canon l.fn.decider) l.found
    (drop l.place-index l.place-items) l.fn.work l.work
    × KeepsData g.D.Deciding.known_data g.D.Deciding.canon l.fn.decider l.decider
