-- What crates above this one need of the crates below it.
pub use Rattle.history_lines.specs.Answer.{RequestComesTo, LineComesTo, after_step, UndoComesTo, is_undone, is_at_start}
pub use Rattle.history_lines.specs.Answered.{AreAnswered}
pub use Rattle.history_lines.specs.Befallen.{Befallen}
pub use Rattle.history_lines.specs.Beginning.{CanBegin, Beginning, standing_at}
pub use Rattle.history_lines.specs.HandedOn.{Progress, Situation, first_situation, IsSituation, basis_over, progress_of, pasts_of, Past}
pub use Rattle.history_lines.specs.HandedOn.{AreSuited, IsKeptState, Session, FreshMenus, specification_of, state_of, Spec, State, past_of}
pub use Rattle.history_lines.specs.HandedOn.{head_text, Course, unread_text, written_menu, Menu, AreGiven, AreRanksOf}
pub use Rattle.history_lines.specs.HandedOn.{IsLawfulSession, book_canon}
pub use Rattle.history_lines.specs.LinesView.{standing_of, basis_of, reached, IsServing}
pub use Rattle.history_lines.specs.Reached.{IsReached}
pub use Rattle.history_lines.specs.ReportLaws.{LinesLeadOn, ServedLinesAreAnswered}
pub use Rattle.history_lines.specs.Serving.{ShelfCounts, moment_of, IsBeforeOrBehind}
pub use Rattle.history_lines.specs.SessionMachine.{SessionPoint, history_machine, point, LineLeaves, LineIs}
pub use Rattle.history_lines.specs.ShelfAnswer as shelf_answer
pub use Rattle.history_lines.specs.ShelfAnswer.{SaveComesTo, ReplayComesTo, is_too_long, is_unwritten, is_saved, is_failed, is_missing}
pub use Rattle.history_lines.specs.ShelfAnswer.{is_long, is_refused, is_replayed, trace_limit, HasPut, StandsUnder, saved_text}
pub use Rattle.history_lines.specs.ShelfAnswer.{replayed_text}
pub use Rattle.history_lines.specs.Standing.{Standing, shown_trace, shown_menu}
pub use Rattle.history_lines.specs.StepAnswer as step_answer
pub use Rattle.history_lines.specs.StepAnswer.{StepAnswer, StepComesTo}
pub use Rattle.history_lines.specs.declared.lines.HistoryLines.{HistoryLines}
