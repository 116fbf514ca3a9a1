-- One more state of a side.
use Rattle.std.specs.Prelude.{◌≡◌, ℕ, List, [], ◌∷◌, ◌++◌}
use Rattle.certificate_theory.specs.Certificate.{ComparedSide}
use Rattle.certificate_theory.specs.NamedStates.{NamesState}
use Rattle.bisim_check.specs.Surveys.{behaviour_in, behaviours_in}
use Rattle.bisim_check.specs.declared.surveys.Surveyed.{Surveyed}

-- The later states are the earlier ones with one more, which is the target of an entry of one of them.
pub record HasNewState (side : ComparedSide) (from number : ℕ) (before after : List Surveyed) : Type 0 where
  pub last : Surveyed
  pub named : NamesState side (behaviours_in before) from number (behaviour_in last)
  pub added : after ≡ before ++ (last ∷ [])
