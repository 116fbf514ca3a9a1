use Rattle.behaviour_semantics.proofs.RankLemmas.{no_cycle, short_walks}
use Rattle.behaviour_semantics.proofs.ranks.falling_ranks_guard.Goals as goal

pub returns : goal.returns
returns c = record { guarded = no_cycle; short = short_walks }
