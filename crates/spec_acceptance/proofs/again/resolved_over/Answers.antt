use Rattle.std.proofs.lemmas.Result.{IfOk-weaker}
use Rattle.syntax_trees.specs.TreeViews.{written_specification_of}
use Rattle.spec_acceptance.proofs.AgainLemmas.{one_tree}
use Rattle.spec_acceptance.proofs.again.resolved_over.Goals as goal

pub returns-in-Ok : goal.returns-in-Ok
returns-in-Ok c = λ tree read.
    IfOk-weaker c.resolved_tree.result _ _
    (λ made over. one_tree c.args.text.now c.args.flat.now (written_specification_of c.in-Ok.tree) tree made
    c.in-Ok.ensures.answer read over)
    c.resolved_tree.ensures
