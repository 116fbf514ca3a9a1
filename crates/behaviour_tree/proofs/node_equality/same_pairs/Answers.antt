use Rattle.behaviour_tree.proofs.ListLemmas.{tells_pairs}
use Rattle.behaviour_tree.proofs.node_equality.same_pairs.Goals as goal

pub returns : goal.returns
returns c =
    tells_pairs c.eq.result c.as_slice.result.now c.as_slice-2.result.now c.args.pairs.now.items c.args.others.now.items c.eq.ensures
    c.as_slice.ensures.value c.as_slice-2.ensures.value
