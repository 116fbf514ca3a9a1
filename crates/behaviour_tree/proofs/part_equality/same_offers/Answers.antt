use Rattle.behaviour_semantics.specs.Replacement.{offer_with}
use Rattle.behaviour_tree.specs.BehaviourView.{offer_of}
use Rattle.behaviour_tree.specs.Placings.{values_of}
use Rattle.behaviour_tree.proofs.ListLemmas.{both_maps}
use Rattle.behaviour_tree.proofs.part_equality.same_offers.Goals as goal

pub returns : goal.returns
returns c =
    both_maps (offer_with (values_of c.args.here.now)) (offer_with (values_of c.args.there.now)) offer_of
    c.args.offers.now.items c.args.others.now.items
    c.all_same.result c.all_same.ensures
