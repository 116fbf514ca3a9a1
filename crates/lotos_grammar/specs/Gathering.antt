-- What the mentions of libraries in a text come to: its types with those of the libraries in their place, or what is wrong.
use Rattle.std.specs.Prelude.{
  ◌≡◌,
  ℕ,
  ◌+◌,
  ◌<◌,
  ◌≤◌,
  Bool,
  true,
  false,
  ◌||◌,
  List,
  [],
  ◌∷◌,
  ◌++◌,
  length,
  map,
  codes,
  Option,
  None,
  Some,
}
use Rattle.std.specs.Str.{bytes_eq}
use Rattle.std.specs.Str.Lossy.{utf8_lossy}
use Rattle.lotos_base.specs.Names.{folded}
use Rattle.lotos_base.specs.Equation.{Place}
use Rattle.lotos_base.specs.WrittenTerm.{PlacedName}
use Rattle.lotos_library.specs.Library.{library_text}
use Rattle.syntax_trees.specs.WrittenItem.{WrittenItem, WrittenTypeBody, libraries, type_declared}
use Rattle.text_depth.specs.HandedOn.{IsTypesReading, IsTypesFault}
use Rattle.lotos_grammar.specs.TextFault.{TextFault, TextIsMisread}

-- so many texts of libraries are read at most
abbrev pub library_limit : ℕ
library_limit = 64

-- the number of the text that is read behind those of these libraries: 0 is the specification, 1 the order file
abbrev pub next_text : List (List ℕ) → ℕ
next_text read = 2 + length read

-- the name of the file of a library that is not shipped. The spelling of a name is UTF-8, and stays as it is
abbrev pub library_file : List ℕ → List ℕ
library_file name = utf8_lossy name ++ codes ".lib"

-- whether a library of the name is one of those that were read
abbrev pub is_read : List (List ℕ) → List ℕ → Bool
is_read [] name = false
is_read (other ∷ others) name = bytes_eq (folded name) (folded other) || is_read others name

-- what was gathered so far: the libraries that were read, in the order of reading, as they were spelled where each was
-- mentioned first; and the types, in the order in which they stand once each library is in place of its first mention
pub record Gathered : Type 0 where
  pub read : List (List ℕ)
  pub types : List WrittenItem

abbrev pub nothing_yet : Gathered
nothing_yet = record { read = []; types = [] }

abbrev pub with_library : List ℕ → Gathered → Gathered
with_library name so_far = record { read = so_far.read ++ name ∷ []; types = so_far.types }

abbrev pub with_type : WrittenItem → Gathered → Gathered
with_type item so_far = record { read = so_far.read; types = so_far.types ++ item ∷ [] }

-- what is still to be looked at: an item of a text, or a library at its mention
pub data Waiting : Type 0 where
  item : WrittenItem → Waiting
  mention : PlacedName → Waiting

-- a file that the shelf gave: its name there, and its bytes
pub record GotFile : Type 0 where
  pub name : List ℕ
  pub bytes : List ℕ

-- what is wrong: one text of a library too many is mentioned, or the text with the number is not read
pub data Problem : Type 0 where
  too_many : (place : Place) (name : List ℕ) → Problem
  misread : (text : ℕ) (fault : TextFault) → Problem

-- what becomes of a text: all is gathered; something is wrong, where these libraries were read; the file could not be got; or
-- memory was wanted
pub data GatheringOutcome : Type 0 where
  all_gathered : Gathered → GatheringOutcome
  faulty : (read : List (List ℕ)) (problem : Problem) → GatheringOutcome
  without_file : (read : List (List ℕ)) (file : List ℕ) → GatheringOutcome
  memory_wanted : GatheringOutcome

-- the text of a library, where the shelf gives these files: the shipped one, or that of its file
pub data TextOf (name : List ℕ) : List GotFile → List ℕ → Type 0 where
  shipped : {text : List ℕ} → library_text name ≡ Some text → TextOf name [] text
  in_file : {text : List ℕ} → library_text name ≡ None → TextOf name (record { name = library_file name; bytes = text } ∷ []) text

-- a library that is to be read: it was not read before, and another text may be read
pub record IsNextLibrary (read : List (List ℕ)) (name : List ℕ) : Type 0 where
  pub new : is_read read name ≡ false
  pub within : length read < library_limit

-- the text is not read, for a reason of its own
abbrev pub IsMisread : ℕ → List ℕ → TextFault → Type 0
IsMisread number text fault = TextIsMisread IsTypesFault number text fault

-- what a mention comes to: these items stand in its place, and so much is gathered before they are looked at; or all ends
pub data GatheringStep : Type 0 where
  goes_on : Gathered → List WrittenItem → GatheringStep
  stops : GatheringOutcome → GatheringStep

-- what a mention of a library comes to, where so much is gathered and the shelf gives these files. A library that was read
-- is passed over. Memory may be wanted before its text is there, and behind that
pub data MentionComesTo (so_far : Gathered) (at : PlacedName) : List GotFile → GatheringStep → Type 0 where
  read_before : is_read so_far.read at.name ≡ true → MentionComesTo so_far at [] (goes_on so_far [])
  one_too_many :
      is_read so_far.read at.name ≡ false → library_limit ≤ length so_far.read →
      MentionComesTo so_far at [] (stops (faulty so_far.read (too_many at.place at.name)))
  in_place :
      {files : List GotFile} {text : List ℕ} {items : List WrittenItem} →
      IsNextLibrary so_far.read at.name → TextOf at.name files text → IsTypesReading (next_text so_far.read) text items →
      MentionComesTo so_far at files (goes_on (with_library at.name so_far) items)
  not_read :
      {files : List GotFile} {text : List ℕ} {fault : TextFault} →
      IsNextLibrary so_far.read at.name → TextOf at.name files text → IsMisread (next_text so_far.read) text fault →
      MentionComesTo so_far at files (stops (faulty (with_library at.name so_far).read (misread (next_text so_far.read) fault)))
  no_file :
      IsNextLibrary so_far.read at.name → library_text at.name ≡ None →
      MentionComesTo so_far at [] (stops (without_file so_far.read (library_file at.name)))
  wanted_before_text : MentionComesTo so_far at [] (stops memory_wanted)
  wanted_behind_text :
      {files : List GotFile} {text : List ℕ} →
      IsNextLibrary so_far.read at.name → TextOf at.name files text → MentionComesTo so_far at files (stops memory_wanted)

-- What becomes of what waits, where so much is gathered and the shelf gives these files one after another. The libraries
-- are read in the order of mention, those that a library mentions before the rest of what mentions it. Memory may be wanted
-- anywhere: the files are those that were given until then.
pub data Becomes : Gathered → List Waiting → List GotFile → GatheringOutcome → Type 0 where
  nothing_waits : (so_far : Gathered) → Becomes so_far [] [] (all_gathered so_far)
  a_type :
      {so_far : Gathered} {place : Place} {name : List ℕ} {body : WrittenTypeBody} {rest : List Waiting} {files : List GotFile}
      {outcome : GatheringOutcome} →
      Becomes (with_type (type_declared place name body) so_far) rest files outcome →
      Becomes so_far (item (type_declared place name body) ∷ rest) files outcome
  mentions :
      {so_far : Gathered} {place : Place} {names : List PlacedName} {rest : List Waiting} {files : List GotFile}
      {outcome : GatheringOutcome} →
      Becomes so_far (map mention names ++ rest) files outcome →
      Becomes so_far (item (libraries place names) ∷ rest) files outcome
  then :
      {so_far next : Gathered} {at : PlacedName} {rest : List Waiting} {files later : List GotFile} {items : List WrittenItem}
      {outcome : GatheringOutcome} →
      MentionComesTo so_far at files (goes_on next items) →
      Becomes next (map item items ++ rest) later outcome →
      Becomes so_far (mention at ∷ rest) (files ++ later) outcome
  ends :
      {so_far : Gathered} {at : PlacedName} {rest : List Waiting} {files : List GotFile} {outcome : GatheringOutcome} →
      MentionComesTo so_far at files (stops outcome) →
      Becomes so_far (mention at ∷ rest) files outcome
  memory_ends : (so_far : Gathered) (waiting : List Waiting) → Becomes so_far waiting [] memory_wanted
