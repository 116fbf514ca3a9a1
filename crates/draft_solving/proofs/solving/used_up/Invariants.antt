use Rattle.std.proofs.Common.{◌≡◌}
use Rattle.event_offers.specs.Keeping.{KeepsData}
use Rattle.draft_solving.specs.Way.{IsUnderWay}
use Rattle.draft_solving.proofs.UnderWay.{left_in}
use Rattle.draft_solving.proofs.solving.used_up.Given as goal

abbrev pub invariant-solving : goal.invariant-solving
invariant-solving g l =
    IsUnderWay (g.D.Deciding.known_data l.fn.decider) (g.D.Deciding.canon l.fn.decider) l.work
    × (l.work.draft ≡ l.fn.work.draft)
    × KeepsData g.D.Deciding.known_data g.D.Deciding.canon l.fn.decider l.decider

abbrev pub decreases-solving : goal.decreases-solving
decreases-solving g l = left_in l.work
