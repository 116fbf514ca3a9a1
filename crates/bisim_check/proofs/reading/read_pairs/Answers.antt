use Rattle.std.proofs.Common.{◌≡◌, ◌+◌, ℕ, map, ap, sym, ◌∙◌, arith}
use Rattle.std.proofs.lemmas.List.{length-map}
use Rattle.bisim_check.specs.LineTexts.{IsFirstBadLine, IsNoLine}
use Rattle.bisim_check.specs.LineView.{BadLineIs, line_of}
use Rattle.bisim_check.proofs.LineReadings.{bad_told, first_bad}
use Rattle.lotos_base.proofs.Options.{gave_up}
use Rattle.bisim_check.proofs.reading.read_pairs.Goals as goal

pub returns-in_err-add_line-clause-read : goal.returns-in_err-add_line-clause-read
returns-in_err-add_line-clause-read c =
    let text = c.args.text.now in
    let lines = c.loop-rest.lines.items in
    let now = c.loop-rest.invariant in
    gave_up _ (BadLineIs (IsFirstBadLine text)) c.from_residual.result c.in_err-add_line.field-0.0 c.from_residual.ensures.1
    (bad_told (λ place. (place ≡ c.loop-rest.number + 1) × IsNoLine c.first_line-cut.result.0.now) (IsFirstBadLine text)
    c.in_err-add_line.field-0.0
    (λ place h. first_bad text c.loop-rest.rest.now c.first_line-cut.result.0.now c.first_line-cut.result.1.now (map line_of lines) place
    now.cut now.small (c.first_line-cut.ensures.line (omega (arith, c.in-len1-up.len_at_least)))
    (h.0 ∙ ap (λ (n : ℕ). n + 1) (now.counted ∙ sym (length-map lines line_of))) h.1) c.in_err-add_line.ensures)
