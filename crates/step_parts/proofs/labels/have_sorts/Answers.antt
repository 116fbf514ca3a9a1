use Rattle.std.proofs.Common.{sym, ◌∙◌}
use Rattle.behaviour_semantics.specs.Behaviour.{sorts_of}
use Rattle.behaviour_tree.specs.BehaviourView.{variables_of}
use Rattle.draft_parts.proofs.MeetingLemmas.{ends_told}
use Rattle.step_parts.proofs.labels.have_sorts.Goals as goal

pub returns : goal.returns
returns c = λ signature h.
    c.have_sorts.ensures ∙ sym (ends_told signature c.args.values.now.items (sorts_of (variables_of c.args.variables.now.items)) h)
