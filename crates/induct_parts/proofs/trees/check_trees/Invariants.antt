use Rattle.std.proofs.Common.{◌≡◌, ◌+◌, drop, length}
use Rattle.lotos_base.specs.Equation.{Data}
use Rattle.lotos_base.specs.Term.{Term}
use Rattle.certificate_theory.specs.Certified.{IsRightTree, IsWrongTree, lines_of_tree, lines_of_trees}
use Rattle.induct_parts.specs.CertificateView.{tree_in, trees_in}
use Rattle.induct_parts.specs.SettingView.{setting_covers, theory_in}
use Rattle.induct_parts.proofs.LineSteps.{RightSoFar}
use Rattle.induct_parts.proofs.trees.check_trees.Given as goal

abbrev pub invariant-loop-number : goal.invariant-loop-number
invariant-loop-number l = record {
  so_far : (data_ : Data) (canon : Term → Term) → RightSoFar (IsRightTree (theory_in l.setting data_ canon) (setting_covers l.setting))
      (IsWrongTree (theory_in l.setting data_ canon) (setting_covers l.setting)) lines_of_tree tree_in
      (1 + length (setting_covers l.setting)) l.trees l.number l.line;
  few : l.line + lines_of_trees (trees_in (drop l.number l.trees)) ≡ 1 + length l.setting.covers.now + lines_of_trees (trees_in l.trees);
}
