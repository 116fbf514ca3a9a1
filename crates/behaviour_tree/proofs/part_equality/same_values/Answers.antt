use Rattle.lotos_base.specs.Substitution.{substituted}
use Rattle.sort_terms.specs.SortedView.{term_in}
use Rattle.behaviour_tree.specs.Placings.{values_of}
use Rattle.behaviour_tree.proofs.ListLemmas.{both_maps}
use Rattle.behaviour_tree.proofs.part_equality.same_values.Goals as goal

pub returns : goal.returns
returns c =
    both_maps (substituted (values_of c.args.here.now)) (substituted (values_of c.args.there.now)) term_in
    c.args.values.now.items c.args.others.now.items
    c.all_same.result c.all_same.ensures
