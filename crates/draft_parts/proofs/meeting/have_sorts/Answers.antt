use Rattle.std.proofs.Common.{arith}
use Rattle.draft_parts.proofs.MeetingLemmas.{unlike_counts}
use Rattle.draft_parts.proofs.meeting.have_sorts.Goals as goal

pub returns-then-len : goal.returns-then-len
returns-then-len c = unlike_counts c.args.values.now.items c.args.variables.now.items (λ e. omega arith)
