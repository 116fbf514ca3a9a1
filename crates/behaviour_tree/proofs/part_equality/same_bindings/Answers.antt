use Rattle.behaviour_tree.specs.Placed.{bound_with}
use Rattle.behaviour_tree.specs.BehaviourView.{let_of}
use Rattle.behaviour_tree.specs.Placings.{values_of}
use Rattle.behaviour_tree.proofs.ListLemmas.{both_maps}
use Rattle.behaviour_tree.proofs.part_equality.same_bindings.Goals as goal

pub returns : goal.returns
returns c =
    both_maps (bound_with (values_of c.args.here.now)) (bound_with (values_of c.args.there.now)) let_of
    c.args.bindings.now.items c.args.others.now.items
    c.all_same.result c.all_same.ensures
