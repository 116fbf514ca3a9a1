use Rattle.std.proofs.Common.{◌≡◌, ◌++◌, drop}
use Rattle.refusal_lines.specs.LineView.{spec_in}
use Rattle.refusal_lines.specs.RefusalDetail.{process_steps_text}
use Rattle.refusal_lines.proofs.evidence.push_steps.Given as goal

-- the processes so far are written
abbrev pub invariant-loop-process : goal.invariant-loop-process
invariant-loop-process l =
    l.into.items ++ process_steps_text (spec_in l.spec) (drop l.process-index l.process-items)
    ≡ l.initial.into.items ++ process_steps_text (spec_in l.spec) l.process-items
