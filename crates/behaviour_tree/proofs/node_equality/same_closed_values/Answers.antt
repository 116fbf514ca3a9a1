use Rattle.std.proofs.Common.{sym, ◌∙◌}
use Rattle.behaviour_tree.specs.BehaviourView.{terms_of}
use Rattle.behaviour_tree.proofs.NodeLemmas.{nothing_put}
use Rattle.behaviour_tree.proofs.node_equality.same_closed_values.Goals as goal

pub returns : goal.returns
returns c = (
  (λ is. sym (nothing_put (terms_of c.args.values.now.items)) ∙ c.are_values.ensures.0 is),
  (λ e. c.are_values.ensures.1 (nothing_put (terms_of c.args.values.now.items) ∙ e)),
)
