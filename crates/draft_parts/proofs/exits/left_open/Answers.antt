use Rattle.behaviour_tree.specs.BehaviourTerms.{profiles_of}
use Rattle.draft_parts.specs.Offered.{open_leaves}
use Rattle.draft_parts.proofs.TurnLemmas.{one_turn}
use Rattle.draft_parts.proofs.exits.left_open.Goals as goal

pub loop-result-preserved : goal.loop-result-preserved
loop-result-preserved c =
    one_turn open_leaves c.deref-result-items.result.now c.loop-result.result-index c.result-item.result
    (profiles_of c.loop-result.made.items) (profiles_of c.push_open.new.leaves.items) _ c.loop-result.number c.in_ok-number.number
    c.loop-result-test.true c.result-item.is c.in_ok-number.ensures c.loop-result.invariant
