use Rattle.std.proofs.Common.{◌≡◌, map, get_or, Some, refl, ap, sym, ◌∙◌, arith}
use Rattle.std.proofs.lemmas.List.{length-map}
use Rattle.lotos_base.proofs.Members.{at_map}
use Rattle.certificate_theory.specs.Certificate.{CertificateLine, lists_pair}
use Rattle.bisim_check.specs.LineView.{line_of}
use Rattle.bisim_check.specs.declared.lines.PairLine.TheVariants.{Left}
use Rattle.bisim_check.proofs.AnswerLemmas.{place_given, place_within, none_below_next}
use Rattle.bisim_check.proofs.DataLemmas.{never}
use Rattle.bisim_check.proofs.checking.lists_the_starts.Goals as goal

pub returns-then-is_start_pair : goal.returns-then-is_start_pair
returns-then-is_start_pair c =
    let lines = c.args.lines.now in
    let i = c.loop-line.line-index in
    let line = get_or lines i (Left 0 0) in (
      (λ _. (
        i,
        at_map line_of lines i line (place_given lines i (Left 0 0) c.loop-line-test.true)
            ∙ ap Some (c.is_start_pair.ensures.0 c.if-is_start_pair.true),
      )),
      (λ _. refl),
    )

pub loop-line-preserved : goal.loop-line-preserved
loop-line-preserved c =
    let lines = c.args.lines.now in
    let i = c.loop-line.line-index in
    let line = get_or lines i (Left 0 0) in
    none_below_next (λ (it : CertificateLine). it ≡ lists_pair 0 0) (map line_of lines) i (line_of line)
    (at_map line_of lines i line (place_given lines i (Left 0 0) c.loop-line-test.true)) c.loop-line.invariant
    (λ h. never (sym c.if-is_start_pair.false ∙ c.is_start_pair.ensures.1 h))

pub returns : goal.returns
returns c = (
  (λ h. absurd (never h)),
  (λ starts. absurd (c.loop-line.invariant starts.0 (lists_pair 0 0)
      (omega (
        arith,
        place_within (map line_of c.args.lines.now) starts.0 (lists_pair 0 0) starts.1,
        length-map c.args.lines.now line_of,
      )) starts.1 refl)),
)
