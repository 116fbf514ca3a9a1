-- Where a session begins: what it goes over, and the state of its start with the menu.
use Rattle.std.specs.Prelude.{◌≡◌, [], Option}
use Rattle.lotos_base.specs.Outside.{Texts}
use Rattle.session_log.specs.HandedOn.{SessionBasis, Progress, IsSituation, IsStateOver}
use Rattle.history_lines.specs.Standing.{Standing}

pub record Beginning : Type 0 where
  pub basis : SessionBasis
  pub progress : Progress

-- The state is closed and well formed over the specification, whose data have a canon; the menu is the exact one; and no step
-- was taken.
pub record CanBegin (begun : Beginning) : Type 0 where
  pub over : IsStateOver begun.basis begun.progress.situation.state
  pub menu_is : IsSituation begun.basis begun.progress.situation
  pub at_start : begun.progress.steps ≡ []

-- The session stands there, beside a shelf with these texts.
abbrev pub standing_at : Beginning → Option Texts → Standing
standing_at begun texts = record { basis = begun.basis; progress = begun.progress; texts = texts }
