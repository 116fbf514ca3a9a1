use Rattle.std.proofs.Common.{◌≡◌, length}
use Rattle.path_order.proofs.RankLemmas.{AreRanked}
use Rattle.path_order.proofs.ranking.ranked.Given as goal

abbrev pub invariant-loop-j : goal.invariant-loop-j
invariant-loop-j l = AreRanked l.listing l.ranks.items l.j × (length l.ranks.items ≡ l.fn.count)
