use Rattle.behaviour_semantics.proofs.GuardedLists.{guarded_list}
use Rattle.behaviour_semantics.proofs.listing.guarded_lists_end.Goals as goal

pub returns : goal.returns
returns c = guarded_list
