use Rattle.std.proofs.Common.{sym, ◌∙◌}
use Rattle.behaviour_tree.specs.BehaviourView.{terms_of}
use Rattle.behaviour_tree.proofs.NodeLemmas.{nothing_put}
use Rattle.behaviour_tree.proofs.node_equality.are_values.Goals as goal

pub returns : goal.returns
returns c = (
  (λ is. c.same_values.ensures.0 is ∙ nothing_put (terms_of c.args.closed.now.items)),
  (λ e. c.same_values.ensures.1 (e ∙ sym (nothing_put (terms_of c.args.closed.now.items)))),
)
