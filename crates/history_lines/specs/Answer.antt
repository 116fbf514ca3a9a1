-- What each line of a session comes to.
use Rattle.std.specs.Prelude.{◌≡◌, ℕ, Bool, List, [], ◌++◌, codes}
use Rattle.lotos_base.specs.Term.{Term}
use Rattle.behaviour_semantics.specs.Label.{Label}
use Rattle.line_server.specs.Request.{Request, skip, show_menu, show_behaviour, show_trace, undo, leave, no_request, take_step, save, replay, show_normal, compare, list_values, list_instances, request_of}
use Rattle.session_log.specs.HandedOn.{QuestionOutcome, IsNormalAnswer, IsComparison, normal_text, comparison_text, bad_command}
use Rattle.session_log.specs.HandedOn.{SessionBasis, Progress, HasUndone, shown_label}
use Rattle.value_lists.specs.ListOutcome.{ListOutcome, EntryInstances, ValuesComeTo, InstancesComeTo}
use Rattle.value_lists.specs.ListText.{listed_values_text, instances_text}
use Rattle.history_lines.specs.Standing.{Standing, shown_menu, state_line, shown_trace}
use Rattle.history_lines.specs.CommandRefusal.{ill_formed}
use Rattle.history_lines.specs.Befallen.{Befallen, says, leaves_session, come_to}
use Rattle.history_lines.specs.StepAnswer.{StepAnswer, took, declined, StepComesTo}
use Rattle.history_lines.specs.ShelfAnswer.{refusal_in, SaveComesTo, ReplayComesTo}

-- a step that was taken: its label, and the menu behind it
abbrev pub did_text : SessionBasis → Label → Progress → List ℕ
did_text basis label new = codes "did " ++ shown_label basis label ++ codes "\n" ++ shown_menu basis new

abbrev pub after_step : Standing → StepAnswer → Befallen
after_step standing (took label new) = says (come_to standing new) (did_text standing.basis label new)
after_step standing (declined refusal) = says standing (refusal_in standing refusal)

-- the last step was undone, or there is none
abbrev pub undone_text : SessionBasis → Progress → List ℕ
undone_text basis new = codes "undone\n" ++ shown_menu basis new

pub data UndoComesTo (standing : Standing) : Befallen → Type 0 where
  is_undone :
      (new : Progress) →
      HasUndone standing.progress new →
      UndoComesTo standing (says (come_to standing new) (undone_text standing.basis new))
  is_at_start :
      standing.progress.steps ≡ [] →
      UndoComesTo standing (says standing (codes "nothing to undo\n"))

-- what a request comes to
abbrev pub RequestComesTo : Standing → Request → Befallen → Type 0
RequestComesTo standing skip it = it ≡ says standing []
RequestComesTo standing show_menu it = it ≡ says standing (shown_menu standing.basis standing.progress)
RequestComesTo standing (take_step number terms) it =
    (answer : StepAnswer) × StepComesTo standing.basis standing.progress number terms answer × (it ≡ after_step standing answer)
RequestComesTo standing undo it = UndoComesTo standing it
RequestComesTo standing show_trace it = it ≡ says standing (shown_trace standing.basis standing.progress)
RequestComesTo standing (save name) it = SaveComesTo standing name it
RequestComesTo standing (replay name) it = ReplayComesTo standing name it
RequestComesTo standing (compare terms) it =
    (outcome : QuestionOutcome Bool) × IsComparison standing.basis.data_ terms outcome × (it ≡ says standing (comparison_text outcome))
RequestComesTo standing (show_normal terms) it =
    (outcome : QuestionOutcome Term) × IsNormalAnswer standing.basis.data_.signature standing.basis.canon terms outcome
    × (it ≡ says standing (normal_text standing.basis.data_.signature outcome))
RequestComesTo standing (list_values name size) it =
    (outcome : ListOutcome (List Term)) × ValuesComeTo standing.basis name size outcome
    × (it ≡ says standing (listed_values_text standing.basis outcome))
RequestComesTo standing (list_instances number size) it =
    (outcome : ListOutcome EntryInstances) × InstancesComeTo standing.basis standing.progress.situation.menu number size outcome
    × (it ≡ says standing (instances_text standing.basis number outcome))
RequestComesTo standing show_behaviour it = it ≡ says standing (state_line standing.basis standing.progress)
RequestComesTo standing leave it = it ≡ leaves_session standing
RequestComesTo standing no_request it = it ≡ says standing (refusal_in standing (ill_formed bad_command))

-- what a line comes to
abbrev pub LineComesTo : Standing → List ℕ → Befallen → Type 0
LineComesTo standing line it = RequestComesTo standing (request_of line) it
