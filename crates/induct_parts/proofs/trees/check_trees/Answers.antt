use Rattle.std.proofs.Common.{◌≡◌, ◌+◌, ℕ, [], length, refl, ap, sym, ◌∙◌, subst, arith}
use Rattle.std.proofs.lemmas.List.{length-map}
use Rattle.std.proofs.lemmas.Option.{slice_get_read}
use Rattle.lotos_base.proofs.Each.{each_member}
use Rattle.lotos_base.specs.Signature.{Operation, IsOperation}
use Rattle.certificate_theory.specs.Certified.{IsRightTree, IsWrongTree, lines_of_tree}
use Rattle.induct_parts.specs.CertificateView.{cover_in, tree_in, trees_in}
use Rattle.induct_parts.specs.SettingView.{setting_signature, setting_covers, theory_in}
use Rattle.induct_parts.specs.declared.certificates.PatternTree.{PatternTree as CodeTree}
use Rattle.lotos_base.specs.Equation.{Data}
use Rattle.lotos_base.specs.Term.{Term}
use Rattle.certificate_theory.specs.Lines.{FirstIsWrong}
use Rattle.induct_parts.specs.FaultView.{HoldsAtLine}
use Rattle.induct_parts.specs.declared.at_line.AtLine.{AtLine}
use Rattle.induct_parts.proofs.Outcomes.{handed_on}
use Rattle.induct_parts.proofs.LineSteps.{RightSoFar, things_begin, things_go_on, things_end, thing_wrong}
use Rattle.induct_parts.proofs.LineCounts.{tree_length, trees_go_on, tree_within, trees_end}
use Rattle.induct_parts.proofs.trees.check_trees.Goals as goal

pub loop-number-init : goal.loop-number-init
loop-number-init c = record {
  so_far = λ data_ canon.
      let theory = theory_in c.args.setting.now data_ canon in
      let covers = setting_covers c.args.setting.now in
      subst (λ (line : ℕ). RightSoFar (IsRightTree theory covers) (IsWrongTree theory covers) lines_of_tree tree_in (1 + length covers)
      c.args.trees.now 0 line)
      (ap (λ (k : ℕ). 1 + k) (length-map c.args.setting.now.covers.now cover_in))
      (things_begin (IsRightTree theory covers) (IsWrongTree theory covers) lines_of_tree tree_in (1 + length covers) c.args.trees.now);
  few = refl;
}

pub check_tree-requires-clause-operation : goal.check_tree-requires-clause-operation
check_tree-requires-clause-operation c =
    each_member (λ (tree : CodeTree). (operation : Operation) × IsOperation (setting_signature c.args.setting.now) tree.operation operation)
    c.args.trees.now c.loop-number.number c.index-trees-number.result c.requires.operations
    (slice_get_read c.args.trees.now (length c.args.trees.now) c.loop-number.number c.index-trees-number.result refl c.loop-number-test.true
    c.index-trees-number.is)

pub check_tree-requires-clause-few : goal.check_tree-requires-clause-few
check_tree-requires-clause-few c =
    let within = tree_within c.args.trees.now c.loop-number.number c.loop-number.line _ c.index-trees-number.result c.loop-number-test.true
    c.index-trees-number.is c.loop-number.invariant.few in
    omega (arith, within, c.requires.few)

pub returns-in_err-check_tree-clause-wrong : goal.returns-in_err-check_tree-clause-wrong
returns-in_err-check_tree-clause-wrong c =
    let covers = setting_covers c.args.setting.now in
    let at = c.in_err-check_tree.field-0.0 in
    handed_on (λ (told : AtLine). (data_ : Data) (canon : Term → Term) → HoldsAtLine (FirstIsWrong
    (IsRightTree (theory_in c.args.setting.now data_ canon) covers) (IsWrongTree (theory_in c.args.setting.now data_ canon) covers)
    lines_of_tree (1 + length covers) [] (trees_in c.args.trees.now)) told)
    c.from_residual.result at c.from_residual.ensures.1
    (λ data_ canon.
    let theory = theory_in c.args.setting.now data_ canon in
    thing_wrong (IsRightTree theory covers) (IsWrongTree theory covers) lines_of_tree tree_in (1 + length covers) c.args.trees.now
    c.loop-number.number c.loop-number.line at.line c.index-trees-number.result at.fault c.loop-number-test.true
    c.index-trees-number.is (c.in_err-check_tree.ensures.wrong data_ canon) (c.loop-number.invariant.so_far data_ canon))

pub loop-number-preserved : goal.loop-number-preserved
loop-number-preserved c =
    let more : c.loop-number.line + (1 + c.len.result) ≡ c.loop-number.line + (1 + length c.index-trees-number.result.lines.items) =
    ap (λ (k : ℕ). c.loop-number.line + (1 + k)) (c.len.ensures ∙ c.index-trees-number.result.lines.ok.0) in
    record {
      so_far = λ data_ canon.
          let theory = theory_in c.args.setting.now data_ canon in
          let covers = setting_covers c.args.setting.now in
          things_go_on (IsRightTree theory covers) (IsWrongTree theory covers) lines_of_tree tree_in (1 + length covers) c.args.trees.now
          c.loop-number.number c.loop-number.line (c.loop-number.line + (1 + c.len.result)) c.index-trees-number.result
          c.loop-number-test.true c.index-trees-number.is (c.in_ok-check_tree.ensures.right data_ canon)
          (more ∙ ap (λ (k : ℕ). c.loop-number.line + k) (sym (tree_length c.index-trees-number.result)))
          (c.loop-number.invariant.so_far data_ canon);
      few = trees_go_on c.args.trees.now c.loop-number.number c.loop-number.line (c.loop-number.line + (1 + c.len.result)) _
          c.index-trees-number.result c.loop-number-test.true c.index-trees-number.is more c.loop-number.invariant.few;
    }

pub returns-clause-line : goal.returns-clause-line
returns-clause-line c =
    trees_end c.args.trees.now c.loop-number.number c.loop-number.line _ c.loop-number-test.false c.loop-number.invariant.few

pub returns-clause-right : goal.returns-clause-right
returns-clause-right c = λ data_ canon.
    let theory = theory_in c.args.setting.now data_ canon in
    let covers = setting_covers c.args.setting.now in
    things_end (IsRightTree theory covers) (IsWrongTree theory covers) lines_of_tree tree_in (1 + length covers) c.args.trees.now
    c.loop-number.number c.loop-number.line c.loop-number-test.false (c.loop-number.invariant.so_far data_ canon)
