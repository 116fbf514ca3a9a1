use Rattle.std.proofs.Common.{None}
use Rattle.spec_acceptance.proofs.DoingLemmas.{err_out}
use Rattle.spec_acceptance.proofs.ReadLemmas.{text_misread}
use Rattle.spec_acceptance.proofs.RequiredLemmas.{text_requires}
use Rattle.spec_acceptance.proofs.required.founded_requiring.Goals as goal

pub tree_requiring-known-requires : goal.tree_requiring-known-requires
tree_requiring-known-requires g c = (c.args.text.now, c.in_ok-tree.ensures)

pub returns-in_err-tree : goal.returns-in_err-tree
returns-in_err-tree g c =
    err_out _ c.in_err-tree.field-0.0 _ _ c.from_residual.ensures.1 (text_misread _ _ None _ c.in_err-tree.ensures)

pub returns : goal.returns
returns g c = text_requires _ _ _ _ _ c.tree_requiring-known.result c.in_ok-tree.ensures c.tree_requiring-known.ensures
