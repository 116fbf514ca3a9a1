-- What a specification comes to is one thing: by what is got under each name, and over a shelf that tells its texts.
use Rattle.std.specs.Prelude.{◌≡◌, ◌+◌, ℕ, List, Option, Some, take, Result, Ok, Err, MatchResult}
use Rattle.std.specs.Option.{option_map}
use Rattle.lotos_base.specs.Counts.{Rises}
use Rattle.lotos_base.specs.Limits.{text_limit}
use Rattle.lotos_base.specs.Outside.{Texts}
use Rattle.refusal_lines.specs.HandedOn.{GotFile, Files, AreGotFrom, ShelfState}
use Rattle.refusal_lines.specs.Refusal.{Refused}
use Rattle.refusal_lines.specs.RefusalView.{refused_of}
use Rattle.spec_acceptance.specs.Acceptance.{Asked, Acceptance, IsAccepted, Founded, IsFounded}
use Rattle.spec_acceptance.specs.Part.{Comes, goes_on, unread, stops, Part}
use Rattle.spec_acceptance.specs.PartLaws.{Lacks, IsDetermined, WantsBehindFirst}
use Rattle.spec_acceptance.specs.AcceptedView.{HoldsAccepted, AcceptsWith}
use Rattle.spec_acceptance.specs.Doing.{Failed}
use Rattle.spec_acceptance.specs.declared.accepted.Accepted.{Accepted}
use Rattle.spec_acceptance.specs.declared.not_accepted.NotAccepted.{NotAccepted}
use Rattle.spec_acceptance.specs.declared.not_accepted.NotAccepted.TheVariants.{File, Spec, NoMemory}

-- by what is got under each name there is one outcome at most where memory is there, and the same files are got for it in the
-- same order
abbrev pub AcceptanceHasOneOutcome : Type 0
AcceptanceHasOneOutcome = (asked : Asked) (got : Files) → IsDetermined got (IsAccepted asked)

-- and where memory is wanted, the first ones of these files were got
abbrev pub WantedFilesAreFirst : Type 0
WantedFilesAreFirst = (asked : Asked) (got : Files) → WantsBehindFirst got (IsAccepted asked)

-- ---- Over texts

-- what is got under each name where a shelf has these texts: no more than one byte past the limit
abbrev pub got_from : Texts → Files
got_from texts name = option_map (λ (text : List ℕ). take (text_limit + 1) text) (texts name)

-- This comes of a part over these texts, where memory is there.
pub record ComesOfPart {E B : Type 0} (texts : Texts) (part : Part E B) (comes : Comes E B) : Type 0 where
  pub files : List GotFile
  pub came : part files comes
  pub got_files : AreGotFrom (got_from texts) files
  pub lacks : Lacks (got_from texts) comes

-- this comes of accepting it over these texts
abbrev pub ComesOver : Texts → Asked → Comes Refused Acceptance → Type 0
ComesOver texts asked comes = ComesOfPart texts (IsAccepted asked) comes

-- and nothing else does
abbrev pub OutcomesOverTextsAreOne : Type 0
OutcomesOverTextsAreOne = (texts : Texts) (asked : Asked) (one other : Comes Refused Acceptance) → ComesOver texts asked one
    → ComesOver texts asked other → one ≡ other

-- What comes of a specification up to the book, whatever start values its parameters get, is one thing too.
abbrev pub FoundingsOverTextsAreOne : Type 0
FoundingsOverTextsAreOne = (texts : Texts) (spec : List ℕ) (order : Option (List ℕ)) (one other : Comes Refused Founded)
    → ComesOfPart texts (IsFounded spec order) one → ComesOfPart texts (IsFounded spec order) other → one ≡ other

-- ---- The answer of a call

-- The answer says so; or memory was wanted.
abbrev pub RefusesOver : Comes Refused Acceptance → NotAccepted → Type 0
RefusesOver comes (File kept) = comes ≡ unread kept.items
RefusesOver comes (Spec found) = (told : Refused) × (refused_of found ≡ Some told) × (comes ≡ stops told)
RefusesOver comes NoMemory = Unit {0}

abbrev pub AnswersOver : Comes Refused Acceptance → Result Accepted NotAccepted → Type 0
AnswersOver comes (Ok accepted) = (acceptance : Acceptance) × (comes ≡ goes_on acceptance) × HoldsAccepted acceptance accepted
AnswersOver comes (Err fault) = RefusesOver comes fault

-- Over a shelf that tells its texts, where no fault is counted, the answer of `Accepted::read` is what comes over them.
abbrev pub ReadsAreOne : Type 0
ReadsAreOne = (texts : Texts) (asked : Asked) (comes : Comes Refused Acceptance) → ComesOver texts asked comes
    → (before after : ShelfState) → before.texts ≡ Some texts → (¬ Rises before.faults after.faults)
    → (answer : Result Accepted NotAccepted)
    → MatchResult answer (AcceptsWith before after (IsAccepted asked)) (Failed before after (IsAccepted asked))
    → AnswersOver comes answer
