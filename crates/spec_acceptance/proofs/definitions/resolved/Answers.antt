use Rattle.syntax_trees.specs.TreeViews.{written_specification_of as written_specification}
use Rattle.spec_acceptance.proofs.KnownLemmas.{resolved_fine, resolved_faulty}
use Rattle.spec_acceptance.proofs.definitions.resolved.Goals as goal

pub returns-in-Ok : goal.returns-in-Ok
returns-in-Ok c =
    resolved_fine (written_specification c.args.tree.now) c.args.known c.in-Ok.spec c.in-Ok.ensures.read (c.in-Ok.ensures.over c.requires)
    c.in-Ok.ensures.places

pub returns-in-Err : goal.returns-in-Err
returns-in-Err c =
    resolved_faulty (written_specification c.args.tree.now) c.args.known c.in-Err.fault c.scope_refusal.result c.in-Err.ensures.read
    c.scope_refusal.ensures
