use Rattle.std.proofs.Common.{ℕ, [], sym, subst}
use Rattle.std.proofs.lemmas.Result.{IfOk-weaker, IfErr-weaker}
use Rattle.lotos_base.proofs.Each.{Each}
use Rattle.lotos_base.specs.Signature.{Operation, IsOperation, IsWellFormedSignature}
use Rattle.certificate_theory.specs.Certified.{IsInductionFault, IsRightLemma, IsWrongLemma, lines_of_lemma}
use Rattle.certificate_theory.specs.Lines.{FirstIsWrong}
use Rattle.induct_parts.specs.FaultView.{HoldsAtLine}
use Rattle.induct_parts.specs.SettingView.{setting_signature, setting_covers, theory_in, known_theory, IsKnownLemma}
use Rattle.induct_parts.specs.CertificateView.{certificate_in, lemmas_in}
use Rattle.induct_parts.specs.declared.certificates.PatternTree.{PatternTree as CodeTree}
use Rattle.induct_parts.specs.declared.setting.Setting.{Setting}
use Rattle.induct_parts.proofs.CertificateSteps.{results_of_covers, known_fit, setting_set}
use Rattle.induct_parts.proofs.Outcomes.{handed_on}
use Rattle.induct_parts.proofs.FaultSteps.{covers_fault, trees_fault, lack_fault, lemmas_fault}
use Rattle.induct_parts.proofs.WholeSteps.{of_lists, lists_are, fault_known, certified_known, covered_known, hold_known, trees_few, lemmas_few, lemmas_begin}
use Rattle.induct_parts.proofs.checking.check_certificate.Goals as goal

pub returns-in_err-check_covers-clause-refused : goal.returns-in_err-check_covers-clause-refused
returns-in_err-check_covers-clause-refused g c =
    let setting : Setting = record {
      alloc = c.args.alloc;
      signature = c.args.signature;
      rules = c.args.rules;
      covers = c.as_slice-covers.result;
    } in
    let data_ = g.D.Deciding.known_data c.args.data_.now in
    let canon = g.D.Deciding.canon c.args.data_.now in
    let other = of_lists c.as_slice-covers.result.now c.as_slice-trees.result.now c.as_slice-lemmas.result.now in
    let same = lists_are c.args.certificate.now c.as_slice-covers.result.now c.as_slice-trees.result.now c.as_slice-lemmas.result.now
    c.as_slice-covers.ensures.value c.as_slice-trees.ensures.value c.as_slice-lemmas.ensures.value in
    let at = c.in_err-check_covers.field-0.0 in
    handed_on (HoldsAtLine (IsInductionFault (known_theory data_ c.args.rules.now canon) (certificate_in c.args.certificate.now)))
    c.from_residual.result at c.from_residual.ensures.1
    (fault_known setting data_ canon c.requires.same_signature c.args.certificate.now other same at
    (covers_fault (theory_in setting data_ canon) other at c.in_err-check_covers.ensures.wrong))

pub check_trees-requires-clause-covers : goal.check_trees-requires-clause-covers
check_trees-requires-clause-covers g c =
    let setting : Setting = record {
      alloc = c.args.alloc;
      signature = c.args.signature;
      rules = c.args.rules;
      covers = c.as_slice-covers.result;
    } in
    let data_ = g.D.Deciding.known_data c.args.data_.now in
    let canon = g.D.Deciding.canon c.args.data_.now in
    let other = of_lists c.as_slice-covers.result.now c.as_slice-trees.result.now c.as_slice-lemmas.result.now in
    let same = lists_are c.args.certificate.now c.as_slice-covers.result.now c.as_slice-trees.result.now c.as_slice-lemmas.result.now
    c.as_slice-covers.ensures.value c.as_slice-trees.ensures.value c.as_slice-lemmas.ensures.value in
    results_of_covers (setting_signature setting) (setting_covers setting) c.in_ok-check_covers.ensures.right

pub check_trees-requires-clause-operations : goal.check_trees-requires-clause-operations
check_trees-requires-clause-operations g c =
    let setting : Setting = record {
      alloc = c.args.alloc;
      signature = c.args.signature;
      rules = c.args.rules;
      covers = c.as_slice-covers.result;
    } in
    let data_ = g.D.Deciding.known_data c.args.data_.now in
    let canon = g.D.Deciding.canon c.args.data_.now in
    let other = of_lists c.as_slice-covers.result.now c.as_slice-trees.result.now c.as_slice-lemmas.result.now in
    let same = lists_are c.args.certificate.now c.as_slice-covers.result.now c.as_slice-trees.result.now c.as_slice-lemmas.result.now
    c.as_slice-covers.ensures.value c.as_slice-trees.ensures.value c.as_slice-lemmas.ensures.value in
    subst (Each (λ (tree : CodeTree). (operation : Operation) × IsOperation (setting_signature setting) tree.operation operation))
    (sym c.as_slice-trees.ensures.value) c.requires.known.trees

pub check_trees-requires-clause-few : goal.check_trees-requires-clause-few
check_trees-requires-clause-few g c =
    trees_few c.args.certificate.now c.as_slice-covers.result.now c.as_slice-trees.result.now c.as_slice-covers.ensures.value
    c.as_slice-trees.ensures.value c.requires.few

pub returns-in_err-begin-clause-refused : goal.returns-in_err-begin-clause-refused
returns-in_err-begin-clause-refused g c =
    let setting : Setting = record {
      alloc = c.args.alloc;
      signature = c.args.signature;
      rules = c.args.rules;
      covers = c.as_slice-covers.result;
    } in
    let data_ = g.D.Deciding.known_data c.args.data_.now in
    let canon = g.D.Deciding.canon c.args.data_.now in
    let other = of_lists c.as_slice-covers.result.now c.as_slice-trees.result.now c.as_slice-lemmas.result.now in
    let same = lists_are c.args.certificate.now c.as_slice-covers.result.now c.as_slice-trees.result.now c.as_slice-lemmas.result.now
    c.as_slice-covers.ensures.value c.as_slice-trees.ensures.value c.as_slice-lemmas.ensures.value in
    let at = c.in_err-begin.field-0.0 in
    handed_on (HoldsAtLine (IsInductionFault (known_theory data_ c.args.rules.now canon) (certificate_in c.args.certificate.now)))
    c.from_residual-in_err-begin.result at c.from_residual-in_err-begin.ensures.1
    (fault_known setting data_ canon c.requires.same_signature c.args.certificate.now other same at
    (trees_fault (theory_in setting data_ canon) other at c.in_ok-check_covers.ensures.right (c.in_err-begin.ensures.wrong data_ canon)))

pub returns-in_err-check_complete-clause-refused : goal.returns-in_err-check_complete-clause-refused
returns-in_err-check_complete-clause-refused g c =
    let setting : Setting = record {
      alloc = c.args.alloc;
      signature = c.args.signature;
      rules = c.args.rules;
      covers = c.as_slice-covers.result;
    } in
    let data_ = g.D.Deciding.known_data c.args.data_.now in
    let canon = g.D.Deciding.canon c.args.data_.now in
    let other = of_lists c.as_slice-covers.result.now c.as_slice-trees.result.now c.as_slice-lemmas.result.now in
    let same = lists_are c.args.certificate.now c.as_slice-covers.result.now c.as_slice-trees.result.now c.as_slice-lemmas.result.now
    c.as_slice-covers.ensures.value c.as_slice-trees.ensures.value c.as_slice-lemmas.ensures.value in
    let at = c.in_err-check_complete.field-0.0 in
    handed_on (HoldsAtLine (IsInductionFault (known_theory data_ c.args.rules.now canon) (certificate_in c.args.certificate.now)))
    c.from_residual-in_err-check_complete.result at c.from_residual-in_err-check_complete.ensures.1
    (fault_known setting data_ canon c.requires.same_signature c.args.certificate.now other same at
    (lack_fault (theory_in setting data_ canon) other at c.in_ok-check_covers.ensures.right (c.in_ok-begin.ensures.right data_ canon)
    c.in_err-check_complete.ensures.lacking))

pub check_lemmas-requires-clause-set : goal.check_lemmas-requires-clause-set
check_lemmas-requires-clause-set g c =
    let setting : Setting = record {
      alloc = c.args.alloc;
      signature = c.args.signature;
      rules = c.args.rules;
      covers = c.as_slice-covers.result;
    } in
    let data_ = g.D.Deciding.known_data c.args.data_.now in
    let canon = g.D.Deciding.canon c.args.data_.now in
    let other = of_lists c.as_slice-covers.result.now c.as_slice-trees.result.now c.as_slice-lemmas.result.now in
    let same = lists_are c.args.certificate.now c.as_slice-covers.result.now c.as_slice-trees.result.now c.as_slice-lemmas.result.now
    c.as_slice-covers.ensures.value c.as_slice-trees.ensures.value c.as_slice-lemmas.ensures.value in
    let fit = known_fit data_ c.args.rules.now canon
    (subst IsWellFormedSignature c.requires.same_signature c.args.signature.now.well_formed) c.requires.rules_of
    (g.met.D.Deciding.is_canon c.args.data_.now) in
    setting_set setting data_ canon c.requires.same_signature fit c.in_ok-check_covers.ensures.right

pub check_lemmas-requires-clause-known : goal.check_lemmas-requires-clause-known
check_lemmas-requires-clause-known g c =
    let setting : Setting = record {
      alloc = c.args.alloc;
      signature = c.args.signature;
      rules = c.args.rules;
      covers = c.as_slice-covers.result;
    } in
    let data_ = g.D.Deciding.known_data c.args.data_.now in
    let canon = g.D.Deciding.canon c.args.data_.now in
    let other = of_lists c.as_slice-covers.result.now c.as_slice-trees.result.now c.as_slice-lemmas.result.now in
    let same = lists_are c.args.certificate.now c.as_slice-covers.result.now c.as_slice-trees.result.now c.as_slice-lemmas.result.now
    c.as_slice-covers.ensures.value c.as_slice-trees.ensures.value c.as_slice-lemmas.ensures.value in
    subst (Each (IsKnownLemma (setting_signature setting))) (sym c.as_slice-lemmas.ensures.value) c.requires.known.lemmas

pub check_lemmas-requires-clause-few : goal.check_lemmas-requires-clause-few
check_lemmas-requires-clause-few g c =
    lemmas_few c.args.certificate.now c.as_slice-covers.result.now c.as_slice-trees.result.now c.as_slice-lemmas.result.now
    c.in_ok-begin.begin c.as_slice-covers.ensures.value c.as_slice-trees.ensures.value c.as_slice-lemmas.ensures.value c.requires.few
    c.in_ok-begin.ensures.line

pub returns-clause-certified : goal.returns-clause-certified
returns-clause-certified g c =
    let setting : Setting = record {
      alloc = c.args.alloc;
      signature = c.args.signature;
      rules = c.args.rules;
      covers = c.as_slice-covers.result;
    } in
    let data_ = g.D.Deciding.known_data c.args.data_.now in
    let canon = g.D.Deciding.canon c.args.data_.now in
    let other = of_lists c.as_slice-covers.result.now c.as_slice-trees.result.now c.as_slice-lemmas.result.now in
    let same = lists_are c.args.certificate.now c.as_slice-covers.result.now c.as_slice-trees.result.now c.as_slice-lemmas.result.now
    c.as_slice-covers.ensures.value c.as_slice-trees.ensures.value c.as_slice-lemmas.ensures.value in
    IfOk-weaker c.check_lemmas.result _ _
    (λ u right. certified_known setting data_ canon c.requires.same_signature c.args.certificate.now other same (record {
      covers = c.in_ok-check_covers.ensures.right;
      trees = c.in_ok-begin.ensures.right data_ canon;
      complete = c.in_ok-check_complete.ensures.complete;
      lemmas = right;
    }))
    c.check_lemmas.ensures.right

pub returns-clause-covers : goal.returns-clause-covers
returns-clause-covers g c =
    let setting : Setting = record {
      alloc = c.args.alloc;
      signature = c.args.signature;
      rules = c.args.rules;
      covers = c.as_slice-covers.result;
    } in
    let data_ = g.D.Deciding.known_data c.args.data_.now in
    let canon = g.D.Deciding.canon c.args.data_.now in
    let other = of_lists c.as_slice-covers.result.now c.as_slice-trees.result.now c.as_slice-lemmas.result.now in
    let same = lists_are c.args.certificate.now c.as_slice-covers.result.now c.as_slice-trees.result.now c.as_slice-lemmas.result.now
    c.as_slice-covers.ensures.value c.as_slice-trees.ensures.value c.as_slice-lemmas.ensures.value in
    let fit = known_fit data_ c.args.rules.now canon
    (subst IsWellFormedSignature c.requires.same_signature c.args.signature.now.well_formed) c.requires.rules_of
    (g.met.D.Deciding.is_canon c.args.data_.now) in
    IfOk-weaker c.check_lemmas.result _ _
    (λ u right. covered_known setting data_ canon c.requires.same_signature c.args.certificate.now other same fit c.requires.known (record {
      covers = c.in_ok-check_covers.ensures.right;
      trees = c.in_ok-begin.ensures.right data_ canon;
      complete = c.in_ok-check_complete.ensures.complete;
      lemmas = right;
    }))
    c.check_lemmas.ensures.right

pub returns-clause-hold : goal.returns-clause-hold
returns-clause-hold g c =
    let setting : Setting = record {
      alloc = c.args.alloc;
      signature = c.args.signature;
      rules = c.args.rules;
      covers = c.as_slice-covers.result;
    } in
    let data_ = g.D.Deciding.known_data c.args.data_.now in
    let canon = g.D.Deciding.canon c.args.data_.now in
    let other = of_lists c.as_slice-covers.result.now c.as_slice-trees.result.now c.as_slice-lemmas.result.now in
    let same = lists_are c.args.certificate.now c.as_slice-covers.result.now c.as_slice-trees.result.now c.as_slice-lemmas.result.now
    c.as_slice-covers.ensures.value c.as_slice-trees.ensures.value c.as_slice-lemmas.ensures.value in
    let fit = known_fit data_ c.args.rules.now canon
    (subst IsWellFormedSignature c.requires.same_signature c.args.signature.now.well_formed) c.requires.rules_of
    (g.met.D.Deciding.is_canon c.args.data_.now) in
    IfOk-weaker c.check_lemmas.result _ _
    (λ u right. hold_known setting data_ canon c.requires.same_signature c.args.certificate.now other same fit c.requires.known (record {
      covers = c.in_ok-check_covers.ensures.right;
      trees = c.in_ok-begin.ensures.right data_ canon;
      complete = c.in_ok-check_complete.ensures.complete;
      lemmas = right;
    }))
    c.check_lemmas.ensures.right

pub returns-clause-refused : goal.returns-clause-refused
returns-clause-refused g c =
    let setting : Setting = record {
      alloc = c.args.alloc;
      signature = c.args.signature;
      rules = c.args.rules;
      covers = c.as_slice-covers.result;
    } in
    let data_ = g.D.Deciding.known_data c.args.data_.now in
    let canon = g.D.Deciding.canon c.args.data_.now in
    let other = of_lists c.as_slice-covers.result.now c.as_slice-trees.result.now c.as_slice-lemmas.result.now in
    let same = lists_are c.args.certificate.now c.as_slice-covers.result.now c.as_slice-trees.result.now c.as_slice-lemmas.result.now
    c.as_slice-covers.ensures.value c.as_slice-trees.ensures.value c.as_slice-lemmas.ensures.value in
    let theory = theory_in setting data_ canon in
    IfErr-weaker c.check_lemmas.result _ _
    (λ at wrong. fault_known setting data_ canon c.requires.same_signature c.args.certificate.now other same at
    (lemmas_fault theory other at c.in_ok-check_covers.ensures.right (c.in_ok-begin.ensures.right data_ canon)
    c.in_ok-check_complete.ensures.complete
    (subst (λ (line : ℕ). HoldsAtLine (FirstIsWrong (IsRightLemma theory (setting_covers setting))
    (IsWrongLemma theory (setting_covers setting)) lines_of_lemma line [] (lemmas_in c.as_slice-lemmas.result.now)) at)
    (lemmas_begin c.as_slice-covers.result.now c.as_slice-trees.result.now c.in_ok-begin.begin c.in_ok-begin.ensures.line) wrong)))
    c.check_lemmas.ensures.wrong
