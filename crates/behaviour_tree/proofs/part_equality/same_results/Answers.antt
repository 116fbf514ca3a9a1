use Rattle.behaviour_semantics.specs.Replacement.{exit_value_with}
use Rattle.behaviour_tree.specs.BehaviourView.{exit_value_of}
use Rattle.behaviour_tree.specs.Placings.{values_of}
use Rattle.behaviour_tree.proofs.ListLemmas.{both_maps}
use Rattle.behaviour_tree.proofs.part_equality.same_results.Goals as goal

pub returns : goal.returns
returns c =
    both_maps (exit_value_with (values_of c.args.here.now)) (exit_value_with (values_of c.args.there.now)) exit_value_of
    c.args.values.now.items c.args.others.now.items
    c.all_same.result c.all_same.ensures
