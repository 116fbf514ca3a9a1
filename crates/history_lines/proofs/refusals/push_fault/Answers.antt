use Rattle.std.proofs.Common.{sym}
use Rattle.std.proofs.lemmas.Result.{on_ok_weaker}
use Rattle.session_log.specs.RefusalView.{step_refusal_of}
use Rattle.history_lines.proofs.RefusalLemmas.{step_added}
use Rattle.history_lines.proofs.refusals.push_fault.Goals as goal

pub returns-in-Some : goal.returns-in-Some
returns-in-Some c =
    rw c.in-Step.is
    (on_ok_weaker c.push_step_refused.result
    (step_added c.args.name.now c.in-Step.line (step_refusal_of c.in-Step.why) c.in-Some.code.now c.args.into.now.items
    c.push_step_refused.new.into.items (sym c.in-Some.ensures))
    c.push_step_refused.ensures)
