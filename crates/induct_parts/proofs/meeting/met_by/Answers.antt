use Rattle.std.proofs.Common.{length, refl}
use Rattle.std.proofs.lemmas.Option.{slice_get_read}
use Rattle.lotos_base.proofs.Each.{each_member}
use Rattle.sort_terms.specs.EquationView.{equation_of}
use Rattle.induct_parts.specs.SettingView.{IsKnownLemma}
use Rattle.induct_parts.proofs.MeetingLemmas.{met_here, none_more, none_at_all}
use Rattle.induct_parts.proofs.meeting.met_by.Goals as goal

pub is_same-requires : goal.is_same-requires
is_same-requires c = (
  c.requires.0,
  each_member (IsKnownLemma c.requires.0) c.args.lemmas.now c.loop-i.i c.index-lemmas-i.result c.requires.1
      (slice_get_read c.args.lemmas.now (length c.args.lemmas.now) c.loop-i.i c.index-lemmas-i.result refl c.loop-i-test.true
      c.index-lemmas-i.is),
)

pub returns-then-same : goal.returns-then-same
returns-then-same c =
    met_here c.args.lemmas.now (equation_of c.args.equation.now) c.loop-i.i c.index-lemmas-i.result
    (slice_get_read c.args.lemmas.now (length c.args.lemmas.now) c.loop-i.i c.index-lemmas-i.result refl c.loop-i-test.true
    c.index-lemmas-i.is)
    c.loop-i.invariant (c.in_ok-same.ensures.0 c.if-same.true)

pub loop-i-preserved : goal.loop-i-preserved
loop-i-preserved c =
    none_more c.args.lemmas.now (equation_of c.args.equation.now) c.loop-i.i c.index-lemmas-i.result
    (slice_get_read c.args.lemmas.now (length c.args.lemmas.now) c.loop-i.i c.index-lemmas-i.result refl c.loop-i-test.true
    c.index-lemmas-i.is)
    c.loop-i.invariant (λ renamed. absurd (cc (c.in_ok-same.ensures.1 renamed, c.if-same.false)))

pub returns : goal.returns
returns c =
    none_at_all c.args.lemmas.now (equation_of c.args.equation.now) c.loop-i.i c.loop-i-test.false c.loop-i.invariant
