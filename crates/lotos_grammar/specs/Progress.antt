-- How far the reading of libraries came: what is gathered now leads to whatever becomes of the whole.
use Rattle.std.specs.Prelude.{◌≡◌, ℕ, ◌≤◌, List, [], ◌++◌, length, map, Some}
use Rattle.std.specs.String.{string_bytes}
use Rattle.lotos_base.specs.Name.{spelling}
use Rattle.lotos_base.specs.WrittenTerm.{PlacedName}
use Rattle.lotos_base.specs.WrittenView.{text_place_of}
use Rattle.syntax_trees.specs.WrittenItem.{WrittenItem}
use Rattle.lotos_grammar.specs.declared.faults.LibraryFault.{LibraryFault}
use Rattle.lotos_grammar.specs.declared.faults.LibraryFault.TheVariants.{TooMany, Misread, Unread, NoMemory}
use Rattle.lotos_grammar.specs.Gathering.{
  Gathered,
  nothing_yet,
  with_library,
  Waiting,
  GotFile,
  GatheringOutcome,
  all_gathered,
  faulty,
  without_file,
  memory_wanted,
  too_many,
  misread,
  GatheringStep,
  goes_on,
  stops,
  IsMisread,
  MentionComesTo,
  Becomes,
}
use Rattle.lotos_grammar.specs.TextFault.{TextFault, text_fault_of}
use Rattle.lotos_grammar.specs.ShelfUse.{ShelfState, Gives, GivesAndLacks, GivesSome}

-- whatever becomes of the rest from here becomes of the whole from there
abbrev pub GatheringLeads : Gathered → List Waiting → List GotFile → Gathered → Type 0
GatheringLeads start waiting files now =
    (rest : List Waiting) (later : List GotFile) (outcome : GatheringOutcome) →
    Becomes now rest later outcome → Becomes start (waiting ++ rest) (files ++ later) outcome

-- the whole ends here, whatever the rest is
abbrev pub Ends : Gathered → List Waiting → List GotFile → GatheringOutcome → Type 0
Ends start waiting files outcome = (rest : List Waiting) → Becomes start (waiting ++ rest) files outcome

-- another file is asked for behind these
abbrev pub AsksFrom : Gathered → List Waiting → List GotFile → Type 0
AsksFrom start waiting files = (read : List (List ℕ)) × (file : List ℕ) × Ends start waiting files (without_file read file)

-- all that waits was looked at
pub record IsDone (before after : ShelfState) (start : Gathered) (waiting : List Waiting) (now : Gathered) : Type 0 where
  pub files : List GotFile
  pub given : Gives before after files
  pub leads : GatheringLeads start waiting files now

-- what waits ends with the fault, where so much was gathered
abbrev pub GatheringEndsBy : ShelfState → ShelfState → Gathered → List Waiting → Gathered → LibraryFault → Type 0
GatheringEndsBy before after start waiting now (TooMany place name) =
    (files : List GotFile) × Gives before after files
    × Ends start waiting files (faulty now.read (too_many (text_place_of place) (spelling name)))
GatheringEndsBy before after start waiting now (Misread text fault) =
    (files : List GotFile) × Gives before after files
    × ((found : TextFault) × (text_fault_of fault ≡ Some found) × Ends start waiting files (faulty now.read (misread text found)))
GatheringEndsBy before after start waiting now (Unread file) =
    (files : List GotFile) × GivesAndLacks before after files (string_bytes file)
    × Ends start waiting files (without_file now.read (string_bytes file))
GatheringEndsBy before after start waiting now NoMemory =
    (files : List GotFile) × GivesSome before after files (AsksFrom start waiting files) × Ends start waiting files memory_wanted

-- a mention was looked at, and these items stand in its place
pub record IsMentionReplaced (before after : ShelfState) (start : Gathered) (at : PlacedName) (now : Gathered) (items : List WrittenItem)
    : Type 0 where
  pub files : List GotFile
  pub given : Gives before after files
  pub mentioned : MentionComesTo start at files (goes_on now items)

-- another file is asked for behind these
abbrev pub AsksAt : Gathered → PlacedName → List GotFile → Type 0
AsksAt start at files = (read : List (List ℕ)) × (file : List ℕ) × MentionComesTo start at files (stops (without_file read file))

-- a mention ends all with the fault
abbrev pub StopsBy : ShelfState → ShelfState → Gathered → PlacedName → Gathered → LibraryFault → Type 0
StopsBy before after start at now (TooMany place name) =
    (files : List GotFile) × Gives before after files
    × MentionComesTo start at files (stops (faulty now.read (too_many (text_place_of place) (spelling name))))
StopsBy before after start at now (Misread text fault) =
    (files : List GotFile) × Gives before after files
    × ((found : TextFault) × (text_fault_of fault ≡ Some found)
    × MentionComesTo start at files (stops (faulty now.read (misread text found))))
StopsBy before after start at now (Unread file) =
    (files : List GotFile) × GivesAndLacks before after files (string_bytes file)
    × MentionComesTo start at files (stops (without_file now.read (string_bytes file)))
StopsBy before after start at now NoMemory =
    (files : List GotFile) × GivesSome before after files (AsksAt start at files) × MentionComesTo start at files (stops memory_wanted)

-- the file of the name is not got
abbrev pub FileFails : ShelfState → ShelfState → List ℕ → LibraryFault → Type 0
FileFails before after name (TooMany place other) = ⊥
FileFails before after name (Misread text fault) = ⊥
FileFails before after name (Unread file) = (string_bytes file ≡ name) × GivesAndLacks before after [] name
FileFails before after name NoMemory = GivesSome before after [] (Unit {0})

-- the text with the number is not read
abbrev pub TextFails : ℕ → List ℕ → LibraryFault → Type 0
TextFails number text (TooMany place other) = ⊥
TextFails number text (Misread given fault) =
    (given ≡ number) × ((found : TextFault) × (text_fault_of fault ≡ Some found) × IsMisread number text found)
TextFails number text (Unread file) = ⊥
TextFails number text NoMemory = Unit {0}

-- all is gathered from the items of a text
pub record IsGathered (before after : ShelfState) (waiting : List Waiting) (now : Gathered) : Type 0 where
  pub files : List GotFile
  pub given : Gives before after files
  pub becomes : Becomes nothing_yet waiting files (all_gathered now)

-- another file is asked for behind these
abbrev pub AsksInAll : List Waiting → List GotFile → Type 0
AsksInAll waiting files = (read : List (List ℕ)) × (file : List ℕ) × Becomes nothing_yet waiting files (without_file read file)

-- the items of a text end with the fault
abbrev pub FailsBy : ShelfState → ShelfState → List Waiting → Gathered → LibraryFault → Type 0
FailsBy before after waiting now (TooMany place name) =
    (files : List GotFile) × Gives before after files
    × Becomes nothing_yet waiting files (faulty now.read (too_many (text_place_of place) (spelling name)))
FailsBy before after waiting now (Misread text fault) =
    (files : List GotFile) × Gives before after files
    × ((found : TextFault) × (text_fault_of fault ≡ Some found) × Becomes nothing_yet waiting files (faulty now.read (misread text found)))
FailsBy before after waiting now (Unread file) =
    (files : List GotFile) × GivesAndLacks before after files (string_bytes file)
    × Becomes nothing_yet waiting files (without_file now.read (string_bytes file))
FailsBy before after waiting now NoMemory =
    (files : List GotFile) × GivesSome before after files (AsksInAll waiting files) × Becomes nothing_yet waiting files memory_wanted
