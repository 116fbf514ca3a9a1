-- Where a session stands that answers lines: what it goes over, how far it has come, and the texts of its shelf.
use Rattle.std.specs.Prelude.{ℕ, List, ◌++◌, Option, codes}
use Rattle.lotos_base.specs.Outside.{Texts}
use Rattle.session_log.specs.HandedOn.{menu_text, SessionBasis, Progress, trace_text}
pub use Rattle.session_log.specs.HandedOn.{shown_state}

-- the texts of the shelf by name stand here where the shelf tells them
pub record Standing : Type 0 where
  pub basis : SessionBasis
  pub progress : Progress
  pub texts : Option Texts

-- the menu of the state that was reached
abbrev pub shown_menu : SessionBasis → Progress → List ℕ
shown_menu basis progress = menu_text basis.data_.signature basis.specification.gate_names progress.situation.menu

-- the trace of the steps that led there
abbrev pub shown_trace : SessionBasis → Progress → List ℕ
shown_trace basis progress = trace_text basis.data_.signature basis.specification progress

-- the texts with their line feeds
abbrev pub state_line : SessionBasis → Progress → List ℕ
state_line basis progress = shown_state basis progress ++ codes "\n"
