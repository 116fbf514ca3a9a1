use Rattle.std.proofs.Common.{map, ap, ◌∙◌}
use Rattle.certificate_theory.specs.Splits.{first_case, absent_from}
use Rattle.induct_parts.specs.CaseView.{case_in}
use Rattle.induct_parts.specs.CertificateView.{lemma_in}
use Rattle.induct_parts.specs.SettingView.{theory_in}
use Rattle.induct_parts.specs.StatementView.{statement_of}
use Rattle.induct_parts.specs.declared.cases.Case.{Case}
use Rattle.induct_parts.proofs.CaseSteps.{same_case, first_is_known}
use Rattle.induct_parts.proofs.cases.first.Goals as goal

pub returns-clause-first : goal.returns-clause-first
returns-clause-first g c =
    let theory = theory_in c.args.setting.now (g.D.Deciding.known_data c.args.data_.now) (g.D.Deciding.canon c.args.data_.now) in
    let point : Case = record {
      sorts = c.in_ok-sorts.sorts;
      gone = c.in_ok-gone.gone;
      hypotheses = c.new.result;
      goal = c.in_ok-goal.goal;
    } in
    same_case (case_in point) (first_case theory (lemma_in c.args.lemma.now)) (c.in_ok-sorts.ensures.items ∙ c.as_slice.ensures.value)
    (c.in_ok-gone.ensures ∙ ap (absent_from (statement_of c.args.lemma.now.statement) 0) c.as_slice-2.ensures.value)
    (ap (map statement_of) c.new.ensures.items) c.in_ok-goal.ensures.made

pub returns-clause-known : goal.returns-clause-known
returns-clause-known g c =
    let data_ = g.D.Deciding.known_data c.args.data_.now in
    let canon = g.D.Deciding.canon c.args.data_.now in
    let theory = theory_in c.args.setting.now data_ canon in
    let point : Case = record {
      sorts = c.in_ok-sorts.sorts;
      gone = c.in_ok-gone.gone;
      hypotheses = c.new.result;
      goal = c.in_ok-goal.goal;
    } in
    first_is_known c.args.setting.now data_ canon c.args.lemma.now point c.requires.set c.requires.known
    (same_case (case_in point) (first_case theory (lemma_in c.args.lemma.now)) (c.in_ok-sorts.ensures.items ∙ c.as_slice.ensures.value)
    (c.in_ok-gone.ensures ∙ ap (absent_from (statement_of c.args.lemma.now.statement) 0) c.as_slice-2.ensures.value)
    (ap (map statement_of) c.new.ensures.items) c.in_ok-goal.ensures.made)
    c.new.ensures.items (c.in_ok-goal.ensures.over _ c.requires.set.signature)
