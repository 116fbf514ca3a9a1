use Rattle.menu_builder.proofs.NodeLemmas.{node_size}
use Rattle.menu_builder.proofs.nodes.+node_moves.Given as goal

abbrev pub decreases-node_moves : goal.decreases-node_moves
decreases-node_moves g l = node_size l.node.now
