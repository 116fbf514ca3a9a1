-- What the parts of the acceptance do to a shelf, and what the answers of the code say of them.
use Rattle.std.specs.Prelude.{◌≡◌, ℕ, List, [], None, Some, Vec}
use Rattle.std.specs.String.{string_bytes}
use Rattle.std.specs.declared.alloc.Global.{Global}
use Rattle.lotos_base.specs.declared.names.Name.{Name}
use Rattle.refusal_lines.specs.HandedOn.{GotFile, ShelfState, Gives, GivesAndLacks, GivesSome, LibraryFault, CodeGathered as Gathered}
use Rattle.refusal_lines.specs.RefusalView.{refused_of}
use Rattle.refusal_lines.specs.declared.refused.Refused.{Refused}
use Rattle.refusal_lines.specs.declared.spec_fault.SpecFault.{SpecFault}
use Rattle.refusal_lines.specs.HandedOn.library_faults as library
use Rattle.refusal_lines.specs.Refusal as plain
use Rattle.refusal_lines.specs.declared.spec_fault.SpecFault.TheVariants as fault
use Rattle.spec_acceptance.specs.Part.{Comes, goes_on, unread, stops, wants_memory, Part}
use Rattle.spec_acceptance.specs.declared.not_accepted.NotAccepted.{NotAccepted}
use Rattle.spec_acceptance.specs.declared.not_accepted.NotAccepted.TheVariants.{File, Spec, NoMemory}
use Rattle.spec_acceptance.specs.declared.stages.WithData.{WithData}
use Rattle.spec_acceptance.specs.declared.stages.WithSpec.{WithSpec}

-- ---- Over a shelf

-- the part asks for another file behind these
abbrev pub AsksBehind : {E B : Type 0} → Part E B → List GotFile → Type 0
AsksBehind part files = (name : List ℕ) × part files (unread name)

-- This came of the part: the shelf gave the files that it gets, once each and nothing else; or it gave those before a file
-- that it could not give; or those that the part gets until memory was wanted.
abbrev pub Did : {E B : Type 0} → ShelfState → ShelfState → Part E B → Comes E B → Type 0
Did before after part (goes_on b) = (files : List GotFile) × Gives before after files × part files (goes_on b)
Did before after part (unread name) = (files : List GotFile) × GivesAndLacks before after files name × part files (unread name)
Did before after part (stops e) = (files : List GotFile) × Gives before after files × part files (stops e)
Did before after part wants_memory =
    (files : List GotFile) × GivesSome before after files (AsksBehind part files) × part files wants_memory

-- it stopped so
abbrev pub Failed : {B : Type 0} → ShelfState → ShelfState → Part plain.Refused B → NotAccepted → Type 0
Failed before after part (File name) = Did before after part (unread name.items)
Failed before after part (Spec r) = (told : plain.Refused) × (refused_of r ≡ Some told) × Did before after part (stops told)
Failed before after part NoMemory = Did before after part wants_memory

-- the file of the name is not got; or memory was wanted
abbrev pub FileIsNotGot : ShelfState → ShelfState → List ℕ → NotAccepted → Type 0
FileIsNotGot before after name (File kept) = (kept.items ≡ name) × GivesAndLacks before after [] name
FileIsNotGot before after name (Spec r) = ⊥
FileIsNotGot before after name NoMemory = GivesSome before after [] (Unit {0})

-- a look that gets nothing has this fault, which is told so; or memory was wanted
abbrev pub Faulty : {F : Type 0} → (F → Type 0) → (F → plain.Refused) → NotAccepted → Type 0
Faulty IsFault tell (File name) = ⊥
Faulty {F} IsFault tell (Spec r) = (found : F) × IsFault found × (refused_of r ≡ Some (tell found))
Faulty IsFault tell NoMemory = Unit {0}

-- ---- Refusals of the code

-- this refusal, unless memory was wanted
abbrev pub RefusesAs : Type 0 → Refused → NotAccepted → Type 0
RefusesAs IsWanting r (File name) = ⊥
RefusesAs IsWanting r (Spec found) = (found ≡ r) × ¬ IsWanting
RefusesAs IsWanting r NoMemory = Unit {0}

abbrev pub with_libraries_refused : Vec Name Global → SpecFault → Refused
with_libraries_refused libraries found = record { fault = found; libraries = libraries; flat = None; spec = None }

abbrev pub with_data_refused : WithData → SpecFault → Refused
with_data_refused known found = record { fault = found; libraries = known.libraries; flat = Some known.flat; spec = None }

abbrev pub with_spec_refused : WithSpec → SpecFault → Refused
with_spec_refused known found =
    record { fault = found; libraries = known.libraries; flat = Some known.flat; spec = Some known.spec }

-- a fault of the libraries
abbrev pub IsLibraryRefusal : Gathered → LibraryFault → NotAccepted → Type 0
IsLibraryRefusal so_far (library.TooMany place name) answer =
    answer ≡ Spec (with_libraries_refused so_far.libraries (fault.Libraries place name))
IsLibraryRefusal so_far (library.Misread text found) answer =
    answer ≡ Spec (with_libraries_refused so_far.libraries (fault.Read text found))
IsLibraryRefusal so_far (library.Unread file) answer =
    (name : Vec ℕ Global) × (answer ≡ File name) × (name.items ≡ string_bytes file)
IsLibraryRefusal so_far library.NoMemory answer = answer ≡ NoMemory
