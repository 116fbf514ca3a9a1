use Rattle.std.proofs.Common.{◌≡◌, drop}
use Rattle.behaviour_tree.specs.BehaviourTerms.{profiles_of}
use Rattle.event_offers.specs.Joining.{have_like_sorts}
use Rattle.event_offers.proofs.labels.have_same_sorts.Given as goal

abbrev pub invariant-loop-i : goal.invariant-loop-i
invariant-loop-i l =
    have_like_sorts (profiles_of (drop l.i l.terms.items)) (profiles_of (drop l.i l.others.items))
    ≡ have_like_sorts (profiles_of l.terms.items) (profiles_of l.others.items)
