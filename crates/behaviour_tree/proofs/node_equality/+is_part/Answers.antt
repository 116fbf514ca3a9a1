use Rattle.std.proofs.Common.{◌∙◌, ap}
use Rattle.behaviour_tree.specs.StateView.{stands_for}
use Rattle.behaviour_tree.specs.Placings.{values_of}
use Rattle.behaviour_tree.proofs.NodeLemmas.{never_relabelled}
use Rattle.behaviour_tree.proofs.node_equality.+is_part.Goals as goal

-- no behaviour of a specification is relabelled
pub returns-in-Relabel-default : goal.returns-in-Relabel-default
returns-in-Relabel-default t c = (
  (λ h. cc),
  (λ e. absurd (never_relabelled (values_of c.args.here.now) c.args.part.now c.in-Relabel-default.field-0-0.items
      (stands_for c.in-Relabel-default.field-1-0.value) (e ∙ ap stands_for c.in-Relabel-default.is-0))),
)
