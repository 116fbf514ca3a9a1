-- What is made ready before anything is written.
use Rattle.std.specs.Prelude.{◌≡◌, [], Option, Some, Result, Ok, Err, MatchResult}
use Rattle.certificate_verbs.specs.HandedOn.{ShelfState, book_canon, Refused, refused_of, Did, Comes, goes_on, unread, stops, Part}
use Rattle.certificate_verbs.specs.HandedOn.{NotAccepted, File, Spec as Refuses, NoMemory, basis_of, reached, HistoryLines, basis_over}
use Rattle.certificate_verbs.specs.HandedOn.{progress_of, IsLawfulSession, Beginning, CommandLine}
use Rattle.sort_terms.specs.EquationView.{data_of}
use Rattle.menu_parts.specs.KeptMenus.{MakerSuits}
use Rattle.menu_parts.specs.declared.makers.PartMenus.{PartMenus}
use Rattle.certificate_verbs.specs.Finishing.{Print, Finish, serves}
use Rattle.certificate_verbs.specs.Printed.{print_in, printed_by}
use Rattle.certificate_verbs.specs.declared.printing.Alone.{Alone}
use Rattle.lotos_top.specs.Work.{work_of}
use Rattle.lotos_top.specs.declared.opening.Opened.{Opened}
use Rattle.lotos_top.specs.declared.opening.Ready.{Ready}
use Rattle.lotos_top.specs.declared.opening.Ready.TheVariants as ready

-- ---- Views

-- where the session begins
abbrev pub begun : Opened → Beginning
begun opened = record {
  basis = basis_over (data_of opened.book.flat) (book_canon opened.book) opened.session.spec;
  progress = progress_of opened.session.course;
}

-- and where lines stand that are served from there on
abbrev pub beginning_of : HistoryLines PartMenus → Beginning
beginning_of lines = record { basis = basis_of lines; progress = reached lines }

-- the session is lawful over the data of its book
abbrev pub IsLawfulAt : Opened → Type 0
IsLawfulAt opened = IsLawfulSession MakerSuits (data_of opened.book.flat) (book_canon opened.book) opened.session

-- ---- What came of the work

-- something came of it
abbrev pub CameTo : Option CommandLine → (before after : ShelfState) → Type 0
CameTo line before after = (comes : Comes Print Finish) × Did before after (work_of line) comes

-- and this is ready
abbrev pub IsReady : Option CommandLine → (before after : ShelfState) → Ready → Type 0
IsReady line before after (ready.Alone alone) =
    (comes : Comes Print Finish) × Did before after (work_of line) comes × (printed_by comes ≡ Some (print_in alone))
IsReady line before after (ready.Session opened) = Did before after (work_of line) (goes_on (serves (begun opened))) × IsLawfulAt opened

-- a text is made ready where it was made
abbrev pub IsMadeReady : {E : Type 0} → Result Alone E → Result Ready E → Type 0
IsMadeReady made given = MatchResult made (λ alone. given ≡ Ok (ready.Alone alone)) (λ fault. given ≡ Err fault)

-- ---- Faults of the code

-- no file is lacking
abbrev pub NamesNoFile : NotAccepted → Type 0
NamesNoFile (File name) = ⊥
NamesNoFile (Refuses found) = Unit {0}
NamesNoFile NoMemory = Unit {0}

-- this came of a part where no file is
abbrev pub FailsAlone : {B : Type 0} → Part Refused B → NotAccepted → Type 0
FailsAlone whole (File name) = whole [] (unread name.items)
FailsAlone whole (Refuses found) = (told : Refused) × (refused_of found ≡ Some told) × whole [] (stops told)
FailsAlone whole NoMemory = Unit {0}
