-- What crates above this one need of the crates below it.
pub use Rattle.certificate_verbs.specs.Finishing.{print, Finish, prints, serves, Print, refusal_printed}
pub use Rattle.certificate_verbs.specs.HandedOn.{Asked, Founded, FoundedBy, Acceptance, IsAccepted, start_of, AcceptsText, Founds, session}
pub use Rattle.certificate_verbs.specs.HandedOn.{IsFounded, StartsWithValues, accepted_with, founded_with, DataAreWellFormed, ComesOfPart}
pub use Rattle.certificate_verbs.specs.HandedOn.{ComesOver, got_from, asked_acceptance, Opens, OpensBook, ComesToAgreement, FunctionalitiesAgree}
pub use Rattle.certificate_verbs.specs.HandedOn.{Guarded, IsGuardedIn, KeepsSpecification, Disagree, FunctionalityFault, differ_at, Did}
pub use Rattle.certificate_verbs.specs.HandedOn.{with_spec, ShelfState, GotFile, Gives, StartValuesAreGround, Gathered, GatheringOutcome}
pub use Rattle.certificate_verbs.specs.HandedOn.{all_gathered, faulty, without_file, memory_wanted, Becomes, nothing_yet, item, with_type}
pub use Rattle.certificate_verbs.specs.HandedOn.{Waiting, mention, MentionComesTo, read_before, one_too_many, in_place, not_read, no_file}
pub use Rattle.certificate_verbs.specs.HandedOn.{wanted_before_text, wanted_behind_text, gathering_goes_on, gathering_stops, nothing_waits}
pub use Rattle.certificate_verbs.specs.HandedOn.{a_type, mentions, then, ends, memory_ends, AreGotFrom, Files, IsOpenedBy, Refused, Comes}
pub use Rattle.certificate_verbs.specs.HandedOn.{goes_on, unread, stops, wants_memory, Part, Then, Has, Telling, ends_both, EndsSo, check}
pub use Rattle.certificate_verbs.specs.HandedOn.{IsDetermined, Lacks, StandsFor, Breaks, scopes_told, Resolves, Gathers, comes_of, GetsFile}
pub use Rattle.certificate_verbs.specs.HandedOn.{is_got, is_lacking, is_wanting, ReadsSpecification, ReadsOrder, Orders, HaveData, Refusal}
pub use Rattle.certificate_verbs.specs.HandedOn.{HaveFault, types_told, Flattens, RequestComesTo, LineComesTo, after_step, UndoComesTo}
pub use Rattle.certificate_verbs.specs.HandedOn.{is_undone, is_at_start, Befallen, Beginning, CanBegin, standing_at, IsReached, LinesLeadOn}
pub use Rattle.certificate_verbs.specs.HandedOn.{ShelfCounts, SessionPoint, LineIs, history_machine, point, SaveComesTo, ReplayComesTo}
pub use Rattle.certificate_verbs.specs.HandedOn.{is_too_long, is_unwritten, is_saved, is_failed, is_missing, is_long, is_refused, WordTerm}
pub use Rattle.certificate_verbs.specs.HandedOn.{is_replayed, trace_limit, HasPut, StandsUnder, saved_text, replayed_text, Standing, Start}
pub use Rattle.certificate_verbs.specs.HandedOn.{shown_trace, StepAnswer, StepComesTo, Progress, head_text, shown_menu, flattening, misread}
pub use Rattle.certificate_verbs.specs.HandedOn.{AreStartValues, IsStartFault, HaveValues, HaveTermFault, miscounted, misfitting}
pub use Rattle.certificate_verbs.specs.HandedOn.shelf_answer
pub use Rattle.certificate_verbs.specs.HandedOn.step_answer
pub use Rattle.certificate_verbs.specs.NormalForms.{AreNormalForms}
pub use Rattle.certificate_verbs.specs.declared.ended.Ended.{Ended}
pub use Rattle.certificate_verbs.specs.declared.ended.Ended.TheVariants.{Done}
