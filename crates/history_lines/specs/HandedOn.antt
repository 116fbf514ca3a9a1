-- What crates above this one need of the crates below it.
pub use Rattle.session_log.specs.CourseView.{basis_over, progress_of, pasts_of, past_of, situation_of}
pub use Rattle.session_log.specs.Entries.{AreGiven}
pub use Rattle.session_log.specs.HandedOn.{FreshMenus, head_text, unread_text, written_menu, Menu, specification_of, state_of}
pub use Rattle.session_log.specs.HandedOn.{Spec, State, opened_progress, SessionBasis, Item, PastStep, stepped, HasStepped, StepRefusal, KeepsData}
pub use Rattle.session_log.specs.HandedOn.{step_refusal, label_text, AreRanksOf, choice_entry, item, nought, small_basis, small_menu, small_succ}
pub use Rattle.session_log.specs.HandedOn.{label_of, terms_of, Progress, Situation, book_canon, IsSituation, first_situation}
pub use Rattle.session_log.specs.Kept.{IsLawfulSession, AreSuited, IsKeptState}
pub use Rattle.session_log.specs.RefusalView.{TellsStep}
pub use Rattle.session_log.specs.declared.courses.Course.{Course}
pub use Rattle.session_log.specs.declared.courses.Past.{Past}
pub use Rattle.session_log.specs.declared.sessions.Session.{Session}
