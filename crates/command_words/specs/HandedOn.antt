-- What crates above this one need of the crates below it.
pub use Rattle.spec_acceptance.specs.Acceptance.{Acceptance, IsAccepted, Asked, Founded, IsFounded, AcceptsText, FoundedBy, start_of}
pub use Rattle.spec_acceptance.specs.Acceptance.{Founds, StartsWithValues, accepted_with, founded_with}
pub use Rattle.spec_acceptance.specs.AcceptanceLaws.{DataAreWellFormed}
pub use Rattle.spec_acceptance.specs.AcceptanceOutcomes.{got_from, ComesOfPart, ComesOver}
pub use Rattle.spec_acceptance.specs.AcceptedView.{asked_acceptance, HoldsAccepted}
pub use Rattle.spec_acceptance.specs.Again.{HoldsWithText, IsOverSame, BeginsOver}
pub use Rattle.spec_acceptance.specs.Book.{Opens, OpensBook}
pub use Rattle.spec_acceptance.specs.Checks.{ComesToAgreement, FunctionalitiesAgree, Guarded, IsGuardedIn, KeepsSpecification, Disagree}
pub use Rattle.spec_acceptance.specs.Checks.{FunctionalityFault, differ_at}
pub use Rattle.spec_acceptance.specs.Doing.{AsksBehind, Did, FileIsNotGot, Failed}
pub use Rattle.spec_acceptance.specs.Ending.{with_spec}
pub use Rattle.spec_acceptance.specs.HandedOn.{GotFile, ShelfState, book_canon, book_chooses, book_is_canon, rules_in, precedence_in, Files}
pub use Rattle.spec_acceptance.specs.HandedOn.{TextNames, place_text, rules_of, NumberedRule, IsFileOf, Gives, GivesSome, calls_after, Book}
pub use Rattle.spec_acceptance.specs.HandedOn.{Refused, refused_of, refusal_text, names_of, AreRequirements, IsOpenedBy, item}
pub use Rattle.spec_acceptance.specs.HandedOn.{Chooses, Precedence, AreGotFrom, words_of, StartValuesAreGround, Gathered, GatheringOutcome}
pub use Rattle.spec_acceptance.specs.HandedOn.{all_gathered, faulty, without_file, memory_wanted, Becomes, nothing_yet, with_type, Waiting}
pub use Rattle.spec_acceptance.specs.HandedOn.{mention, MentionComesTo, read_before, one_too_many, in_place, not_read, no_file, a_type}
pub use Rattle.spec_acceptance.specs.HandedOn.{wanted_before_text, wanted_behind_text, goes_on as gathering_goes_on, nothing_waits, then}
pub use Rattle.spec_acceptance.specs.HandedOn.{stops as gathering_stops, mentions, ends, memory_ends, are_within, Refusal, AreStartValues}
pub use Rattle.spec_acceptance.specs.HandedOn.{IsStartFault, WordTerm, HaveValues, HaveTermFault, misread, miscounted, misfitting, Start}
pub use Rattle.spec_acceptance.specs.Known.{FoundsWith}
pub use Rattle.spec_acceptance.specs.Part.{Comes, goes_on, unread, stops, wants_memory, Part, Then, Has, Looks, Telling, ends_both, EndsSo}
pub use Rattle.spec_acceptance.specs.PartLaws.{Lacks, IsDetermined, IsDecided}
pub use Rattle.spec_acceptance.specs.Required.{HoldsRequired, HoldsWithRequirements}
pub use Rattle.spec_acceptance.specs.Scopes.{StandsFor, Breaks, scopes_told, Resolves}
pub use Rattle.spec_acceptance.specs.Texts.{GetsFile, is_got, is_lacking, is_wanting, Gathers, comes_of, ReadsSpecification, ReadsOrder}
pub use Rattle.spec_acceptance.specs.Texts.{Orders}
pub use Rattle.spec_acceptance.specs.Types.{HaveData, HaveFault, types_told, Flattens}
pub use Rattle.spec_acceptance.specs.declared.accepted.Accepted.{Accepted}
pub use Rattle.spec_acceptance.specs.declared.again.Begun.{Begun}
pub use Rattle.spec_acceptance.specs.declared.again.WithText.{WithText}
pub use Rattle.spec_acceptance.specs.declared.books.WithBook.{WithBook}
pub use Rattle.spec_acceptance.specs.declared.not_accepted.NotAccepted.{NotAccepted}
pub use Rattle.spec_acceptance.specs.declared.not_accepted.NotAccepted.TheVariants.{File, Spec, NoMemory}
pub use Rattle.spec_acceptance.specs.declared.required.Required.{Required}
pub use Rattle.spec_acceptance.specs.declared.required.WithRequirements.{WithRequirements}
