-- What the line of a step comes to.
use Rattle.std.proofs.Common.{◌≡◌, ℕ, List, length, Option, Some, refl, ap, sym, ◌∙◌, subst}
use Rattle.behaviour_semantics.proofs.SupplyLemmas.{length-values}
use Rattle.session_log.proofs.ReplayLemmas.{read_values}
use Rattle.lotos_base.specs.WrittenTerm.{WrittenTerm}
use Rattle.session_log.specs.HandedOn.{IsTermsFault, ReadFault, bad_term, AreTermsOfLine, Refusal, BadCommand, BadTerm, CodeNoMemory as NoMemory}
use Rattle.session_log.specs.HandedOn.{SessionBasis, Progress, StepRefusal, entry_numbered, count_refusal, number_refusal}
use Rattle.session_log.specs.HandedOn.{condition_refusal, value_refusal, step_refusal, AreRead}
use Rattle.session_log.specs.HandedOn.read_faults as fault
use Rattle.lotos_base.specs.Term.{Term}
use Rattle.sort_terms.specs.SortedView.{term_in}
use Rattle.behaviour_semantics.specs.Fault.{first_of_two}
use Rattle.behaviour_semantics.specs.Rule.{AreValues}
use Rattle.behaviour_semantics.specs.Solving.{Entry as PlainEntry}
use Rattle.session_log.specs.HandedOn.step_refusals as plain
use Rattle.session_log.proofs.HandedOn.{free_of_count, fit_sorts}
use Rattle.session_log.specs.RefusalView.{TellsStep}
use Rattle.session_log.specs.Values.{IsFirstMisread, TellsMisread}
use Rattle.session_log.specs.declared.refusals.StepRefusal.{StepRefusal as CodeRefusal}
use Rattle.session_log.specs.declared.refusals.StepRefusal.TheVariants as step
use Rattle.history_lines.specs.CommandRefusal.{ill_formed, no_step}
use Rattle.history_lines.specs.StepAnswer.{StepAnswer, declined, IsCounted, AreStepValues, StepComesTo, is_unread, is_miscounted, is_misread, is_unmet}
use Rattle.history_lines.specs.RefusalView.{declined_for_text}
use Rattle.history_lines.specs.Serving.{Declines}
use Rattle.history_lines.specs.declared.refusals.Decline.TheVariants.{Terms, Step}

module _ (basis : SessionBasis) (progress : Progress) (number : ℕ) (text : List ℕ) where
  abbrev Comes : StepAnswer → Type 0
  Comes = StepComesTo basis progress number text

  -- a text that is not read
  pub unread : (found : ReadFault) → IsTermsFault 0 text found → Declines (StepComesTo basis progress number text) (declined_for_text found)
  unread (fault.BadByte place) is = is_unread 101 (fault.BadByte place, is, (λ none. absurd (cc none)), refl)
  unread (fault.OpenComment place) is = is_unread 102 (fault.OpenComment place, is, (λ none. absurd (cc none)), refl)
  unread fault.TooLong is = absurd is
  unread (fault.Syntax place) is = is_unread 104 (fault.Syntax place, is, (λ none. absurd (cc none)), refl)
  unread (fault.TooDeep place) is = is_unread 105 (fault.TooDeep place, is, (λ none. absurd (cc none)), refl)
  unread fault.NoMemory is = tt

  module _ (terms : List WrittenTerm) (are : AreTermsOfLine text terms) where
    miscounted_for : (why : StepRefusal) → number_refusal progress.situation.menu number (length terms) ≡ Some why
        → StepComesTo basis progress number text (declined (no_step why))
    miscounted_for why e = is_miscounted terms why are e

    -- another number of values, or no such entry
    pub miscounted : (given : ℕ) → given ≡ length terms → (why : CodeRefusal)
        → TellsStep (number_refusal progress.situation.menu number given) why
        → Declines (StepComesTo basis progress number text) (Step why)
    miscounted given same why told = by why (subst (λ (it : ℕ). TellsStep (number_refusal progress.situation.menu number it) why) same told)
      where
        by : (why : CodeRefusal) → TellsStep (number_refusal progress.situation.menu number (length terms)) why
            → Declines (StepComesTo basis progress number text) (Step why)
        by (step.NoEntry n count) h = miscounted_for (plain.no_entry n count) h
        by (step.ValueCount wanted found) h = miscounted_for (plain.value_count wanted found) h
        by (step.ValueSort variable) h = miscounted_for (plain.value_sort variable) h
        by (step.Unmet left right) h = miscounted_for (plain.unmet (term_in left) (term_in right)) h
        by step.NoMemory h = tt

    module _ (entry : PlainEntry) (listed : entry_numbered progress.situation.menu number ≡ Some entry)
        (counted : length terms ≡ length entry.variables) where
      is_counted : IsCounted progress.situation.menu number text entry terms
      is_counted = record { are = are; listed = listed; counted = counted }

      -- a value that is not read
      pub misread : (refusal : Refusal) → TellsMisread (IsFirstMisread basis.data_.signature entry.variables terms) refusal
          → Declines (StepComesTo basis progress number text) (Terms refusal)
      misread BadCommand h = absurd h
      misread (BadTerm code) h =
          subst (λ (it : ℕ). StepComesTo basis progress number text (declined (ill_formed (bad_term it)))) (sym h.2)
          (is_misread entry terms h.0 is_counted h.1)
      misread NoMemory h = tt

      pub valued : (values : List Term) → AreRead basis.data_.signature entry.variables terms values
          → AreStepValues basis progress.situation.menu number text entry values
      valued values read = record { terms = terms; counted = is_counted; read = read }

-- ---- Values that are read fit their variables

module _ (basis : SessionBasis) (progress : Progress) (number : ℕ) (text : List ℕ) (entry : PlainEntry) (values : List Term)
    (valued_ : AreStepValues basis progress.situation.menu number text entry values) where
  fitting : AreValues basis.data_.signature entry.variables values
  fitting = read_values basis.data_.signature entry.variables valued_.terms values valued_.read

  -- nothing but a condition can refuse the step
  conditions_alone : step_refusal basis progress.situation.menu number values ≡ condition_refusal basis.canon entry values
  conditions_alone =
      ap (λ (it : Option PlainEntry). first_of_two (count_refusal number (length progress.situation.menu) it (length values))
      (value_refusal basis.data_.signature basis.canon it values)) valued_.counted.listed
      ∙ (ap (λ (it : Option StepRefusal). first_of_two it (value_refusal basis.data_.signature basis.canon (Some entry) values))
      (free_of_count number (length progress.situation.menu) entry (length values)
      (length-values basis.data_.signature entry.variables values fitting))
      ∙ ap (λ (it : Option StepRefusal). first_of_two it (condition_refusal basis.canon entry values))
      (fit_sorts basis.data_.signature 0 entry.variables values fitting))

  unmet_for : (why : StepRefusal) → step_refusal basis progress.situation.menu number values ≡ Some why
      → StepComesTo basis progress number text (declined (no_step why))
  unmet_for why e = is_unmet entry values why valued_ (sym conditions_alone ∙ e)

  pub step_declined : (refusal : CodeRefusal) → TellsStep (step_refusal basis progress.situation.menu number values) refusal
      → Declines (StepComesTo basis progress number text) (Step refusal)
  step_declined (step.NoEntry n count) h = unmet_for (plain.no_entry n count) h
  step_declined (step.ValueCount wanted found) h = unmet_for (plain.value_count wanted found) h
  step_declined (step.ValueSort variable) h = unmet_for (plain.value_sort variable) h
  step_declined (step.Unmet left right) h = unmet_for (plain.unmet (term_in left) (term_in right)) h
  step_declined step.NoMemory h = tt
