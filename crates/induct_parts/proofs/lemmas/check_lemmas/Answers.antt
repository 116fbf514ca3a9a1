use Rattle.std.proofs.Common.{◌≡◌, ◌+◌, ℕ, [], length, take, refl, ap, sym, ◌∙◌, arith}
use Rattle.std.proofs.lemmas.Option.{slice_get_read}
use Rattle.lotos_base.proofs.Each.{each_member}
use Rattle.lotos_base.specs.Equation.{Data}
use Rattle.lotos_base.specs.Term.{Term}
use Rattle.certificate_theory.specs.Certified.{IsRightLemma, IsWrongLemma, lines_of_lemma}
use Rattle.induct_parts.specs.CertificateView.{lemma_in, lemmas_in}
use Rattle.induct_parts.specs.FaultView.{HoldsOfLineFault, HoldsAtLine, FromLine}
use Rattle.induct_parts.specs.SettingView.{setting_signature, setting_covers, theory_in, IsSet, IsKnownLemma}
use Rattle.induct_parts.proofs.DataLemmas.{held_then, held_before}
use Rattle.certificate_theory.specs.Lines.{FirstIsWrong}
use Rattle.induct_parts.proofs.Outcomes.{handed_on}
use Rattle.induct_parts.proofs.LineSteps.{things_begin, things_go_on, things_end, thing_wrong}
use Rattle.induct_parts.proofs.LineCounts.{lemma_length, lemmas_go_on, lemma_within}
use Rattle.induct_parts.proofs.StandFacts.{each_take}
use Rattle.induct_parts.proofs.lemmas.check_lemmas.Goals as goal

pub loop-number-init : goal.loop-number-init
loop-number-init g c =
    let theory = theory_in c.args.setting.now (g.D.Deciding.known_data c.args.data_.now) (g.D.Deciding.canon c.args.data_.now) in
    let covers = setting_covers c.args.setting.now in
    record {
      same_data = refl;
      same_canon = refl;
      so_far = things_begin (IsRightLemma theory covers) (IsWrongLemma theory covers) lines_of_lemma lemma_in c.args.begin
          c.args.lemmas.now;
      few = refl;
    }

pub check_lemma-requires-clause-set : goal.check_lemma-requires-clause-set
check_lemma-requires-clause-set g c =
    held_then (IsSet c.args.setting.now) c.loop-number.invariant.same_data c.loop-number.invariant.same_canon c.requires.set

pub check_lemma-requires-clause-before : goal.check_lemma-requires-clause-before
check_lemma-requires-clause-before g c =
    each_take (IsKnownLemma (setting_signature c.args.setting.now)) c.args.lemmas.now c.loop-number.number c.requires.known

pub check_lemma-requires-clause-known : goal.check_lemma-requires-clause-known
check_lemma-requires-clause-known g c =
    each_member (IsKnownLemma (setting_signature c.args.setting.now)) c.args.lemmas.now c.loop-number.number c.index-lemmas-number.result
    c.requires.known
    (slice_get_read c.args.lemmas.now (length c.args.lemmas.now) c.loop-number.number c.index-lemmas-number.result refl
    c.loop-number-test.true c.index-lemmas-number.is)

pub check_lemma-requires-clause-few : goal.check_lemma-requires-clause-few
check_lemma-requires-clause-few g c =
    let within = lemma_within c.args.lemmas.now c.loop-number.number c.loop-number.line _ c.index-lemmas-number.result
    c.loop-number-test.true c.index-lemmas-number.is c.loop-number.invariant.few in
    omega (arith, within, c.requires.few)

pub returns-in_err-check_lemma-clause-wrong : goal.returns-in_err-check_lemma-clause-wrong
returns-in_err-check_lemma-clause-wrong g c =
    let theory = theory_in c.args.setting.now (g.D.Deciding.known_data c.args.data_.now) (g.D.Deciding.canon c.args.data_.now) in
    let covers = setting_covers c.args.setting.now in
    let at = c.in_err-check_lemma.field-0.0 in
    handed_on (HoldsAtLine (FirstIsWrong (IsRightLemma theory covers) (IsWrongLemma theory covers) lines_of_lemma c.args.begin []
    (lemmas_in c.args.lemmas.now)))
    c.from_residual.result at c.from_residual.ensures.1
    (thing_wrong (IsRightLemma theory covers) (IsWrongLemma theory covers) lines_of_lemma lemma_in c.args.begin c.args.lemmas.now
    c.loop-number.number c.loop-number.line at.line c.index-lemmas-number.result at.fault c.loop-number-test.true c.index-lemmas-number.is
    (held_before (λ (d : Data) (k : Term → Term). HoldsOfLineFault
    (FromLine c.loop-number.line (IsWrongLemma (theory_in c.args.setting.now d k)
    covers (lemmas_in (take c.loop-number.number c.args.lemmas.now)) (lemma_in c.index-lemmas-number.result)) at.line) at.fault)
    c.loop-number.invariant.same_data c.loop-number.invariant.same_canon c.in_err-check_lemma.ensures.wrong)
    c.loop-number.invariant.so_far)

pub loop-number-preserved : goal.loop-number-preserved
loop-number-preserved g c =
    let theory = theory_in c.args.setting.now (g.D.Deciding.known_data c.args.data_.now) (g.D.Deciding.canon c.args.data_.now) in
    let covers = setting_covers c.args.setting.now in
    let more : c.loop-number.line + (3 + c.len.result) ≡ c.loop-number.line + (3 + length c.index-lemmas-number.result.lines.items) =
    ap (λ (k : ℕ). c.loop-number.line + (3 + k)) (c.len.ensures ∙ c.index-lemmas-number.result.lines.ok.0) in
    record {
      same_data = c.check_lemma.ensures.same_data ∙ c.loop-number.invariant.same_data;
      same_canon = c.check_lemma.ensures.same_canon ∙ c.loop-number.invariant.same_canon;
      so_far = things_go_on (IsRightLemma theory covers) (IsWrongLemma theory covers) lines_of_lemma lemma_in c.args.begin
          c.args.lemmas.now c.loop-number.number c.loop-number.line (c.loop-number.line + (3 + c.len.result))
          c.index-lemmas-number.result c.loop-number-test.true c.index-lemmas-number.is
          (held_before (λ (d : Data) (k : Term → Term). IsRightLemma (theory_in c.args.setting.now d k) covers
          (lemmas_in (take c.loop-number.number c.args.lemmas.now)) (lemma_in c.index-lemmas-number.result))
          c.loop-number.invariant.same_data c.loop-number.invariant.same_canon c.in_ok-check_lemma.ensures.right)
          (more ∙ ap (λ (k : ℕ). c.loop-number.line + k) (sym (lemma_length c.index-lemmas-number.result)))
          c.loop-number.invariant.so_far;
      few = lemmas_go_on c.args.lemmas.now c.loop-number.number c.loop-number.line (c.loop-number.line + (3 + c.len.result)) _
          c.index-lemmas-number.result c.loop-number-test.true c.index-lemmas-number.is more c.loop-number.invariant.few;
    }

pub returns-clause-right : goal.returns-clause-right
returns-clause-right g c =
    let theory = theory_in c.args.setting.now (g.D.Deciding.known_data c.args.data_.now) (g.D.Deciding.canon c.args.data_.now) in
    let covers = setting_covers c.args.setting.now in
    things_end (IsRightLemma theory covers) (IsWrongLemma theory covers) lines_of_lemma lemma_in c.args.begin c.args.lemmas.now
    c.loop-number.number c.loop-number.line c.loop-number-test.false c.loop-number.invariant.so_far
