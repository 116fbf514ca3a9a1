-- The values in the text of a step.
use Rattle.std.specs.Prelude.{ℕ, List}
use Rattle.sort_terms.specs.declared.sorted.Sorted.{Sorted}
use Rattle.behaviour_semantics.specs.Solving.{Entry}
use Rattle.session_log.specs.HandedOn.{terms_of, SessionBasis, Progress}
use Rattle.session_log.specs.Entries.{AreGiven}
use Rattle.history_lines.specs.StepAnswer.{AreStepValues}

-- the values are those in the text for the entry with this number, and ground terms of the signature
pub record ChoosesValues (basis : SessionBasis) (progress : Progress) (number : ℕ) (text : List ℕ) (values : List Sorted) : Type 0 where
  pub entry : Entry
  pub valued : AreStepValues basis progress.situation.menu number text entry (terms_of values)
  pub given : AreGiven basis.data_.signature values
