use Rattle.std.proofs.Common.{◌≡◌, ◌≤◌, ◌<◌, ◌+◌, List, [], ◌∷◌, map, reverse, length, ap, sym, ◌∙◌, subst, refl, arith}
use Rattle.lotos_base.proofs.Each.{Each}
use Rattle.lotos_base.specs.Equation.{Data}
use Rattle.lotos_base.specs.Term.{Term}
use Rattle.induct_parts.specs.CaseView.{case_in, cases_in, IsKnownCase}
use Rattle.induct_parts.specs.CertificateView.{proof_line_of}
use Rattle.induct_parts.specs.FaultView.{HoldsOfLineFault}
use Rattle.induct_parts.specs.SettingView.{setting_signature, setting_covers, theory_in, proving_in, IsSet}
use Rattle.certificate_theory.specs.InductionCertificate.{ProofLine as PlainLine}
use Rattle.certificate_theory.specs.Faults.{bad_line}
use Rattle.certificate_theory.specs.Lines.{LinesReach, FailsToDeal}
use Rattle.certificate_theory.specs.Proofs.{CaseComesTo, IsWrongAtCase}
use Rattle.sort_terms.proofs.SizeLemmas.{no_members}
use Rattle.induct_parts.proofs.DataLemmas.{held_then, held_before}
use Rattle.induct_parts.proofs.LineSteps.{deal_begins, deal_goes_on, deal_ends, deal_wrong, deal_missing, pushed_alone, some_left, stack_some}
use Rattle.induct_parts.proofs.lemmas.deal.Goals as goal

pub loop-number-init : goal.loop-number-init
loop-number-init g c =
    let theory = theory_in c.args.setting.now (g.D.Deciding.known_data c.args.data_.now) (g.D.Deciding.canon c.args.data_.now) in
    let alone = pushed_alone c.new-left.result.items c.push.new.self.items c.args.first c.new-left.ensures.items
    c.in_ok-push.ensures.items in
    record {
      same_data = refl;
      same_canon = refl;
      so_far = deal_begins (CaseComesTo theory (setting_covers c.args.setting.now) (proving_in c.args.proving.now))
          (IsWrongAtCase theory (setting_covers c.args.setting.now) (proving_in c.args.proving.now)) proof_line_of
          (case_in c.args.first ∷ [])
          c.args.lines.now (cases_in (reverse c.push.new.self.items)) (ap (map case_in) alone);
      known = subst (Each (IsKnownCase (setting_signature c.args.setting.now) c.args.proving.now.free)) (sym alone) (c.requires.known, tt);
    }

pub next-requires-clause-set : goal.next-requires-clause-set
next-requires-clause-set g c =
    held_then (IsSet c.args.setting.now) c.loop-number.invariant.same_data c.loop-number.invariant.same_canon c.requires.set

pub loop-number-preserved : goal.loop-number-preserved
loop-number-preserved g c =
    let theory = theory_in c.args.setting.now (g.D.Deciding.known_data c.args.data_.now) (g.D.Deciding.canon c.args.data_.now) in
    record {
      same_data = c.next.ensures.same_data ∙ c.loop-number.invariant.same_data;
      same_canon = c.next.ensures.same_canon ∙ c.loop-number.invariant.same_canon;
      so_far = deal_goes_on (CaseComesTo theory (setting_covers c.args.setting.now) (proving_in c.args.proving.now))
          (IsWrongAtCase theory (setting_covers c.args.setting.now) (proving_in c.args.proving.now)) proof_line_of
          (case_in c.args.first ∷ [])
          c.args.lines.now c.loop-number.number (cases_in (reverse c.loop-number.left.items)) (cases_in (reverse c.next.new.left.items))
          c.index-lines-number.result c.loop-number-test.true c.index-lines-number.is
          (held_before (λ (d : Data) (k : Term → Term). LinesReach
          (CaseComesTo (theory_in c.args.setting.now d k) (setting_covers c.args.setting.now) (proving_in c.args.proving.now))
          (cases_in (reverse c.loop-number.left.items)) (proof_line_of c.index-lines-number.result ∷ [])
          (cases_in (reverse c.next.new.left.items)))
          c.loop-number.invariant.same_data c.loop-number.invariant.same_canon c.in-Ok.ensures.comes)
          c.loop-number.invariant.so_far;
      known = c.in-Ok.ensures.known;
    }

pub returns-in-Err-clause-wrong : goal.returns-in-Err-clause-wrong
returns-in-Err-clause-wrong g c =
    let theory = theory_in c.args.setting.now (g.D.Deciding.known_data c.args.data_.now) (g.D.Deciding.canon c.args.data_.now) in
    deal_wrong (CaseComesTo theory (setting_covers c.args.setting.now) (proving_in c.args.proving.now))
    (IsWrongAtCase theory (setting_covers c.args.setting.now) (proving_in c.args.proving.now)) proof_line_of (case_in c.args.first ∷ [])
    c.args.lines.now c.loop-number.number c.args.begin (c.args.begin + c.loop-number.number)
    (cases_in (reverse c.loop-number.left.items)) c.index-lines-number.result c.in-Err.fault c.loop-number-test.true
    c.index-lines-number.is
    (held_before (λ (d : Data) (k : Term → Term). (rest : List PlainLine) → HoldsOfLineFault (FailsToDeal
    (CaseComesTo (theory_in c.args.setting.now d k) (setting_covers c.args.setting.now) (proving_in c.args.proving.now))
    (IsWrongAtCase (theory_in c.args.setting.now d k) (setting_covers c.args.setting.now) (proving_in c.args.proving.now)) bad_line
    (cases_in (reverse c.loop-number.left.items)) (proof_line_of c.index-lines-number.result ∷ rest) 0) c.in-Err.fault)
    c.loop-number.invariant.same_data c.loop-number.invariant.same_canon c.in-Err.ensures.wrong)
    refl c.loop-number.invariant.so_far

pub returns-then-not-is_empty-clause-wrong : goal.returns-then-not-is_empty-clause-wrong
returns-then-not-is_empty-clause-wrong g c =
    let theory = theory_in c.args.setting.now (g.D.Deciding.known_data c.args.data_.now) (g.D.Deciding.canon c.args.data_.now) in
    let past : length c.args.lines.now ≤ c.loop-number.number = c.loop-number-test.false in
    let at : c.args.begin + length c.args.lines.now ≡ c.args.begin + c.loop-number.number =
    omega (arith, past, c.loop-number.auto.number-end) in
    let more : 0 < length c.loop-number.left.items =
    stack_some c.loop-number.left.items c.loop-number.left.len c.is_empty.result c.loop-number.left.ok.0 c.is_empty.ensures
    (cc c.if-not-is_empty.true) in
    let some = some_left case_in c.loop-number.left.items more in
    deal_missing (CaseComesTo theory (setting_covers c.args.setting.now) (proving_in c.args.proving.now))
    (IsWrongAtCase theory (setting_covers c.args.setting.now) (proving_in c.args.proving.now)) proof_line_of (case_in c.args.first ∷ [])
    c.args.lines.now c.loop-number.number c.args.begin (c.args.begin + length c.args.lines.now)
    (cases_in (reverse c.loop-number.left.items)) some.1 some.0 past some.2 at c.loop-number.invariant.so_far

pub returns-clause-right : goal.returns-clause-right
returns-clause-right g c =
    let theory = theory_in c.args.setting.now (g.D.Deciding.known_data c.args.data_.now) (g.D.Deciding.canon c.args.data_.now) in
    let none = no_members c.loop-number.left.items c.loop-number.left.len c.is_empty.result c.loop-number.left.ok.0 c.is_empty.ensures
    (cc c.if-not-is_empty.false) in
    deal_ends (CaseComesTo theory (setting_covers c.args.setting.now) (proving_in c.args.proving.now))
    (IsWrongAtCase theory (setting_covers c.args.setting.now) (proving_in c.args.proving.now)) proof_line_of (case_in c.args.first ∷ [])
    c.args.lines.now c.loop-number.number (cases_in (reverse c.loop-number.left.items)) c.loop-number-test.false
    (ap (λ xs. cases_in (reverse xs)) none) c.loop-number.invariant.so_far
