use Rattle.syntax_trees.specs.TreeViews.{written_specification_of}
use Rattle.spec_acceptance.proofs.AgainLemmas.{stands_over}
use Rattle.spec_acceptance.proofs.FlowLemmas.{lists_there}
use Rattle.spec_acceptance.proofs.again.without_types.Goals as goal

pub returns-in-Ok : goal.returns-in-Ok
returns-in-Ok c =
    stands_over c.args.flat.now (written_specification_of c.args.tree.now) _ c.in-Ok.spec c.in_ok-take_items.ensures.left
    c.in-Ok.ensures.read
    (c.in-Ok.ensures.over
    (lists_there c.requires.0 (written_specification_of c.args.tree.now) _ c.requires.1 c.in_ok-take_items.ensures.left))
