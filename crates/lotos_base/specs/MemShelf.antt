-- A shelf in memory as plain values: its texts by name, its counts and the calls that fail.
use Rattle.std.specs.Prelude.{◌≡◌, ℕ, ◌<◌, List, [], ◌∷◌, take, length, Some, None, Vec, String, if◌then◌else◌, string_bytes}
use Rattle.std.specs.Str.{bytes_eq}
use Rattle.std.specs.List.{HoldsAt}
use Rattle.std.specs.declared.alloc.Global.{Global}
use Rattle.lotos_base.specs.Outside.{Texts, ShelfState}
use Rattle.lotos_base.specs.declared.memory_shelf.MemShelf.{MemShelf}

-- a name with its text
abbrev pub File : Type 0
File = String Global × Vec ℕ Global

-- the text under a name: of two files with one name the first counts
abbrev pub text_under : List File → Texts
text_under [] name = None
text_under (file ∷ files) name = if bytes_eq (string_bytes file.0) name then Some file.1.items else text_under files name

-- the file at the index is the first one with the name
pub record IsFirstNamed (files : List File) (name : List ℕ) (index : ℕ) : Type 0 where
  pub within : index < length files
  pub named : HoldsAt (λ file. string_bytes file.0 ≡ name) files index
  pub none_before : text_under (take index files) name ≡ None

-- the texts of a shelf in memory
abbrev pub texts_of : MemShelf → Texts
texts_of shelf = text_under shelf.files.items

-- how many faults it has counted
abbrev pub faults_of : MemShelf → ℕ
faults_of shelf = shelf.faults

-- how many calls were made, up to the last value of the count
abbrev pub calls_of : MemShelf → ℕ
calls_of shelf = shelf.calls

-- the numbers of the calls that fail
abbrev pub failing_of : MemShelf → List ℕ
failing_of shelf = shelf.failing.items

-- what it tells of itself
abbrev pub shelf_state : MemShelf → ShelfState
shelf_state shelf = record { texts = Some (texts_of shelf); faults = faults_of shelf; calls = calls_of shelf }
