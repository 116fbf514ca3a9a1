-- What crates above this one need of the crates below it.
pub use Rattle.bisim_check.specs.LineTexts.{ArePairLines}
pub use Rattle.certificate_theory.specs.Certificate.{CertificateLine}
pub use Rattle.certificate_theory.specs.CertificateLaws.{AcceptedCertificatesShowBisimilarity, AcceptedStartsDoTheSame, AreShownBisimilar}
pub use Rattle.certificate_theory.specs.CertificateLaws.{CertificatesComeToOneThing, DoTheSame}
pub use Rattle.certificate_theory.specs.SameData.{AreSameData}
pub use Rattle.command_words.specs.HandedOn.{book_canon, book_chooses, book_is_canon, Book, rules_in, precedence_in, rules_of, Chooses, Did}
pub use Rattle.command_words.specs.HandedOn.{Acceptance, HoldsAccepted, Accepted, ShelfState, GotFile, Gives, Comes, goes_on, unread, stops}
pub use Rattle.command_words.specs.HandedOn.{wants_memory, Refused, Asked, Founded, IsAccepted, IsFounded, Part, Then, Has, Telling, Lacks}
pub use Rattle.command_words.specs.HandedOn.{AreGotFrom, got_from, ComesOfPart, FoundsWith, WithBook, ComesOver, IsFileOf}
pub use Rattle.command_words.specs.HandedOn.{refused_of, AcceptsText, Failed, NotAccepted, File, Spec, NoMemory, asked_acceptance, words_of, Opens}
pub use Rattle.command_words.specs.HandedOn.{FoundedBy, start_of, Founds, StartsWithValues, accepted_with, founded_with, DataAreWellFormed}
pub use Rattle.command_words.specs.HandedOn.{OpensBook, ComesToAgreement, FunctionalitiesAgree, Guarded, IsGuardedIn, KeepsSpecification}
pub use Rattle.command_words.specs.HandedOn.{Disagree, FunctionalityFault, differ_at, with_spec, StartValuesAreGround, Gathered, faulty}
pub use Rattle.command_words.specs.HandedOn.{GatheringOutcome, all_gathered, without_file, memory_wanted, Becomes, nothing_yet, item, then}
pub use Rattle.command_words.specs.HandedOn.{with_type, Waiting, mention, MentionComesTo, read_before, one_too_many, in_place, not_read}
pub use Rattle.command_words.specs.HandedOn.{no_file, wanted_before_text, wanted_behind_text, gathering_goes_on, gathering_stops, a_type}
pub use Rattle.command_words.specs.HandedOn.{nothing_waits, mentions, ends, memory_ends, Files, IsOpenedBy, ends_both, EndsSo, IsDetermined}
pub use Rattle.command_words.specs.HandedOn.{StandsFor, Breaks, scopes_told, Resolves, Gathers, comes_of, GetsFile, is_got, is_lacking}
pub use Rattle.command_words.specs.HandedOn.{is_wanting, ReadsSpecification, ReadsOrder, Orders, HaveData, HaveFault, types_told, Flattens}
pub use Rattle.command_words.specs.HandedOn.{are_within, Refusal, AreStartValues, IsStartFault, WordTerm, HaveValues, HaveTermFault, Start}
pub use Rattle.command_words.specs.HandedOn.{misread, miscounted, misfitting, GivesSome, calls_after}
pub use Rattle.command_words.specs.Words.{CommandLine, Compared, check, session, demonstration, flattening, bisimilarity, Induced, command_line_of}
pub use Rattle.command_words.specs.Words.{induction, usage_text, command_line, compared_files, induced}
pub use Rattle.command_words.specs.declared.commands.Command.{Command}
pub use Rattle.demo_walks.specs.DemoSummary.{IsSummary}
pub use Rattle.demo_walks.specs.DemoText.{demo_text}
pub use Rattle.demo_walks.specs.HandedOn.{Progress, Situation, first_situation, IsSituation, basis_over, progress_of, pasts_of, AreSuited}
pub use Rattle.demo_walks.specs.HandedOn.{IsKeptState, IsLawfulSession, Past, Session, specification_of, state_of, Spec as CodeSpec, State}
pub use Rattle.demo_walks.specs.HandedOn.{CanBegin, SessionPoint, history_machine, Beginning, head_text, AreAnswered, Standing, point, Menu}
pub use Rattle.demo_walks.specs.HandedOn.{standing_at, LinesLeadOn, ServedLinesAreAnswered, past_of, Course, moment_of, IsBeforeOrBehind}
pub use Rattle.demo_walks.specs.HandedOn.{LineLeaves, written_menu, standing_of, RequestComesTo, LineComesTo, after_step, UndoComesTo}
pub use Rattle.demo_walks.specs.HandedOn.{is_undone, is_at_start, Befallen, IsReached, ShelfCounts, LineIs, SaveComesTo, ReplayComesTo}
pub use Rattle.demo_walks.specs.HandedOn.{is_too_long, is_unwritten, is_saved, is_failed, is_missing, is_long, is_refused, is_replayed}
pub use Rattle.demo_walks.specs.HandedOn.{trace_limit, HasPut, StandsUnder, saved_text, replayed_text, shown_trace, StepAnswer, StepComesTo}
pub use Rattle.demo_walks.specs.HandedOn.{shown_menu, basis_of, reached, HistoryLines, IsServing, unread_text}
pub use Rattle.demo_walks.specs.HandedOn.shelf_answer
pub use Rattle.demo_walks.specs.HandedOn.step_answer
pub use Rattle.induct_check.specs.HandedOn.{AllLemmasHold, stated, FirstFaultsAreOne, RightOnesHaveNoFault, RequirementsAreMetOnce, MetIsNotOpen}
pub use Rattle.induct_check.specs.HandedOn.{Lemma, HoldsByInduction, IsMetBy}
