-- What the line of a step comes to.
use Rattle.std.specs.Prelude.{◌≡◌, ℕ, List, length, Some}
use Rattle.lotos_base.specs.WrittenTerm.{WrittenTerm}
use Rattle.lotos_base.specs.Term.{Term}
use Rattle.sort_terms.specs.ReadingOutcome as reading
use Rattle.behaviour_semantics.specs.Label.{Label}
use Rattle.behaviour_semantics.specs.Solving.{Entry}
use Rattle.session_log.specs.HandedOn.{bad_term, term_number, AreTermsOfLine, AreUnread, SessionBasis, Progress, StepRefusal, entry_numbered}
use Rattle.session_log.specs.HandedOn.{number_refusal, condition_refusal, HasStepped, AreRead}
use Rattle.session_log.specs.Values.{IsFirstMisread}
use Rattle.history_lines.specs.CommandRefusal.{CommandRefusal, ill_formed, no_step}

-- the step was taken, with a label, and the session has come so far; or the line is refused
pub data StepAnswer : Type 0 where
  took : Label → Progress → StepAnswer
  declined : CommandRefusal → StepAnswer

-- The text has as many terms as the entry with this number has variables.
pub record IsCounted (menu : List Entry) (number : ℕ) (text : List ℕ) (entry : Entry) (terms : List WrittenTerm) : Type 0 where
  pub are : AreTermsOfLine text terms
  pub listed : entry_numbered menu number ≡ Some entry
  pub counted : length terms ≡ length entry.variables

-- And they are read as these values, each at the sort of its variable.
pub record AreStepValues (basis : SessionBasis) (menu : List Entry) (number : ℕ) (text : List ℕ) (entry : Entry) (values : List Term)
    : Type 0 where
  pub terms : List WrittenTerm
  pub counted : IsCounted menu number text entry terms
  pub read : AreRead basis.data_.signature entry.variables terms values

-- What the step by the entry with this number and the values in the text comes to. First the tokens, the grammar and the depth
-- of the text are looked at, then the number of the entry and that of the values, then their readings in order, and then the
-- conditions of the entry.
pub data StepComesTo (basis : SessionBasis) (progress : Progress) (number : ℕ) (text : List ℕ) : StepAnswer → Type 0 where
  is_unread :
      (fault : ℕ) →
      AreUnread text fault →
      StepComesTo basis progress number text (declined (ill_formed (bad_term fault)))
  is_miscounted :
      (terms : List WrittenTerm) (refusal : StepRefusal) →
      AreTermsOfLine text terms →
      number_refusal progress.situation.menu number (length terms) ≡ Some refusal →
      StepComesTo basis progress number text (declined (no_step refusal))
  is_misread :
      (entry : Entry) (terms : List WrittenTerm) (refusal : reading.ReadingRefusal) →
      IsCounted progress.situation.menu number text entry terms →
      IsFirstMisread basis.data_.signature entry.variables terms refusal →
      StepComesTo basis progress number text (declined (ill_formed (bad_term (term_number refusal))))
  is_unmet :
      (entry : Entry) (values : List Term) (refusal : StepRefusal) →
      AreStepValues basis progress.situation.menu number text entry values →
      condition_refusal basis.canon entry values ≡ Some refusal →
      StepComesTo basis progress number text (declined (no_step refusal))
  is_taken :
      (entry : Entry) (values : List Term) (label : Label) (new : Progress) →
      AreStepValues basis progress.situation.menu number text entry values →
      HasStepped basis progress number values label new →
      StepComesTo basis progress number text (took label new)
