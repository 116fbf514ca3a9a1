use Rattle.std.proofs.Common.{◌≡◌, drop}
use Rattle.lotos_base.specs.Substitution.{is_listed}
use Rattle.certificate_theory.specs.Certified.{with_trees}
use Rattle.induct_parts.specs.CertificateView.{trees_in}
use Rattle.induct_parts.proofs.trees.has_tree.Given as goal

abbrev pub invariant-loop-tree : goal.invariant-loop-tree
invariant-loop-tree l =
    is_listed (with_trees (trees_in l.trees)) l.operation ≡ is_listed (with_trees (trees_in (drop l.tree-index l.trees))) l.operation
