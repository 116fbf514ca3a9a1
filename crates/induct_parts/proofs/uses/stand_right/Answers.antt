use Rattle.std.proofs.Common.{sym, subst}
use Rattle.std.specs.Prelude.{IsTrue}
use Rattle.induct_parts.specs.CertificateView.{use_source_of}
use Rattle.induct_parts.specs.SettingView.{proving_in}
use Rattle.induct_parts.specs.UseView.{StandsRight}
use Rattle.induct_parts.proofs.CoverFacts.{says_no, says_yes}
use Rattle.induct_parts.proofs.StandFacts.{IsItself, each_take_more, each_take_all, each_fails}
use Rattle.induct_parts.proofs.uses.stand_right.Goals as goal

pub returns-then-not-stands_right : goal.returns-then-not-stands_right
returns-then-not-stands_right c =
    says_no (each_fails (StandsRight c.args.proving.now c.args.source) c.args.pairs.now c.loop-pair.pair-index c.pair-item.result
    c.loop-pair-test.true c.pair-item.is
    (λ stands.
    let t : IsTrue c.stands_right.result =
    c.stands_right.ensures.1 (subst (IsItself (proving_in c.args.proving.now) (use_source_of c.args.source) c.pair-item.result.0)
    (sym c.term.ensures) stands) in
    absurd (cc (t, c.if-not-stands_right.true))))

pub loop-pair-preserved : goal.loop-pair-preserved
loop-pair-preserved c =
    each_take_more (StandsRight c.args.proving.now c.args.source) c.args.pairs.now c.loop-pair.pair-index c.pair-item.result
    c.loop-pair-test.true c.pair-item.is
    (subst (IsItself (proving_in c.args.proving.now) (use_source_of c.args.source) c.pair-item.result.0) c.term.ensures
    (c.stands_right.ensures.0 (cc c.if-not-stands_right.false)))
    c.loop-pair.invariant

pub returns : goal.returns
returns c =
    says_yes (each_take_all (StandsRight c.args.proving.now c.args.source) c.args.pairs.now c.loop-pair.pair-index c.loop-pair-test.false
    c.loop-pair.invariant)
