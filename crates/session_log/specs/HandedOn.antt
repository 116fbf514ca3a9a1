-- What crates above this one need of the crates below it.
pub use Rattle.behaviour_tree.specs.BehaviourTerms.{profiles_of}
pub use Rattle.behaviour_tree.specs.BehaviourView.{terms_of}
pub use Rattle.behaviour_tree.specs.Closed.{IsClosedNode}
pub use Rattle.behaviour_tree.specs.DefinitionView.{specification_of}
pub use Rattle.behaviour_tree.specs.MoveView.{label_of}
pub use Rattle.behaviour_tree.specs.Over.{AreTermsOf}
pub use Rattle.behaviour_tree.specs.StateView.{state_of}
pub use Rattle.behaviour_tree.specs.declared.definitions.Spec.{Spec}
pub use Rattle.behaviour_tree.specs.declared.states.State.{State}
pub use Rattle.menu_builder.specs.HandedOn.{KeepsData, menu_entries, plain_entry, IsEntryOf, Menu, AreRanksOf}
pub use Rattle.menu_builder.specs.Menus.{entries_in}
pub use Rattle.menu_builder.specs.declared.makers.FreshMenus.{FreshMenus}
pub use Rattle.session_histories.specs.Lawful.{HasStepped, IsSituation, LeadTo, IsLawful, IsLawfulFrom}
pub use Rattle.session_histories.specs.Refusal.{StepRefusal, step_refusal, entry_numbered, count_refusal, number_refusal, condition_refusal}
pub use Rattle.session_histories.specs.Refusal as step_refusals
pub use Rattle.session_histories.specs.Refusal.{value_refusal, no_entry, value_count, unmet, value_sort}
pub use Rattle.lotos_base.specs.SmallData.{nought}
pub use Rattle.session_histories.specs.RefusalCases.{choice_entry, item, small_basis, small_menu, small_succ, small_signature, small_falsehood}
pub use Rattle.session_histories.specs.RefusalCases.{small_truth}
pub use Rattle.session_histories.specs.Replay.{ReplayRefusal, LinesOutcome, goes_on, stops, ReplayIs, bad_line, label_differs, step_refused}
pub use Rattle.session_histories.specs.Replay.{state_differs, in_line, other_specification, AreRead, shown_label, LineRefusal, shown_state}
pub use Rattle.session_histories.specs.ReplayLaws.{ReplayIsExact}
pub use Rattle.session_histories.specs.Session.{Progress, opened_progress, SessionBasis, Item, PastStep, Situation, stepped, first_situation}
pub use Rattle.session_histories.specs.Session.{HasUndone, first_of}
pub use Rattle.session_histories.specs.SessionLaws.{SessionsFollowDerivations, SessionsStayLawful, LeadsBy, HaveOneStart, IsStateOver}
pub use Rattle.session_histories.specs.StepLaws.{StepsAreExact}
pub use Rattle.session_histories.specs.TraceText.{trace_text}
pub use Rattle.session_lines.specs.Answer as question_answers
pub use Rattle.session_lines.specs.Answer.{normal_text, comparison_text, IsNormalAnswer, IsComparison, QuestionOutcome}
pub use Rattle.session_lines.specs.AnswerLaws.{QuestionsHaveOneAnswer}
pub use Rattle.session_lines.specs.HandedOn.{IsTermsFault, TextsHaveOneOutcome, ReadFault, BadByte, OpenComment, NoMemory, state_text, Book}
pub use Rattle.session_lines.specs.HandedOn.{label_text, menu_text, entry_term_text, head_text, unread_text, written_menu}
pub use Rattle.session_lines.specs.HandedOn.{written_value, written_label, book_canon, book_normalises, plain_rules_in, book_sided}
pub use Rattle.session_lines.specs.HandedOn.{left_out}
pub use Rattle.session_lines.specs.HandedOn.read_faults
pub use Rattle.session_lines.specs.Refusal.{AreTermsOfLine, AreUnread, bad_term, term_number, fault_number, bad_command, QuestionRefusal}
pub use Rattle.session_lines.specs.Refusal.{question_refusal_text}
pub use Rattle.session_lines.specs.Refusal as question_refusals
pub use Rattle.session_lines.specs.View.{AddsOutcome, refused_for_term, refused_for_text, question_refusal_of}
pub use Rattle.session_lines.specs.declared.refusals.Refusal.{Refusal}
pub use Rattle.session_lines.specs.declared.refusals.Refusal.TheVariants.{BadCommand, BadTerm, NoMemory as CodeNoMemory}
