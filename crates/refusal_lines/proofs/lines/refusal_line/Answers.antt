use Rattle.refusal_lines.specs.RefusalView.{refusal_of}
use Rattle.refusal_lines.proofs.LineLemmas.{told_line}
use Rattle.refusal_lines.proofs.lines.refusal_line.Goals as goal

pub returns : goal.returns
returns c =
    told_line c.args.spec.now c.args.order.now c.args.refused.now (refusal_of c.args.refused.now.fault) c.as_slice.result.now
    c.args.into.now.items _ c.as_slice.ensures.value c.in_ok-append_line.ensures
