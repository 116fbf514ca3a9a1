use Rattle.std.proofs.Common.{◌≤◌, map, List, length, subst, arith}
use Rattle.lotos_base.specs.Limits.{text_limit}
use Rattle.bisim_check.specs.LineTexts.{IsFirstBadLine}
use Rattle.bisim_check.specs.LineView.{line_of, BadLineIs}
use Rattle.bisim_check.specs.declared.lines.PairLine.{PairLine}
use Rattle.bisim_check.specs.declared.lines.PairTextFault.{PairTextFault}
use Rattle.certificate_verbs.specs.Comparing.{JudgesThen}
use Rattle.certificate_verbs.proofs.ComparingLemmas.{IsAnswered, text_too_long, text_read, line_bad}
use Rattle.certificate_verbs.proofs.comparing.with_certificate.Goals as goal

pub returns-then-text-gt-TEXT_LIMIT : goal.returns-then-text-gt-TEXT_LIMIT
returns-then-text-gt-TEXT_LIMIT c = λ first other now h k.
    text_too_long first other now c.args.text.now c.plainly_refused.result (omega (arith, c.if-text-gt-TEXT_LIMIT.true))
    c.plainly_refused.ensures

pub returns-in-Ok : goal.returns-in-Ok
returns-in-Ok c = λ first other now h k.
    let short : length c.args.text.now ≤ text_limit = omega (arith, c.if-text-gt-TEXT_LIMIT.false) in
    text_read first other now c.args.text.now c.judged.result (map line_of c.in-Ok.lines.items) short c.in-Ok.ensures.read
    (subst (λ (ls : List PairLine). IsAnswered (JudgesThen first other (map line_of ls)) now now c.judged.result) c.as_slice.ensures.value
    (c.judged.ensures first other now h k))

pub returns-in-Err-BadLine : goal.returns-in-Err-BadLine
returns-in-Err-BadLine c = λ first other now h k.
    let short : length c.args.text.now ≤ text_limit = omega (arith, c.if-text-gt-TEXT_LIMIT.false) in
    line_bad first other now c.args.text.now c.line_refused.result c.in-Err-BadLine.line short
    (subst (λ (f : PairTextFault). BadLineIs (IsFirstBadLine c.args.text.now) f) c.in-Err-BadLine.field-0-is
    c.in-Err-BadLine.ensures.read)
    c.line_refused.ensures
