-- What the items of a text come to is one thing: by what is got under each name there is one outcome at most where memory is
-- there, and the same files are got for it in the same order. Where memory is wanted, the first ones of these files were got.
use Rattle.std.specs.Prelude.{◌≡◌, List, [], ◌∷◌, ◌++◌, ℕ, Option, None, Some}
use Rattle.lotos_grammar.specs.Gathering.{Gathered, Waiting, GotFile, GatheringOutcome, all_gathered, faulty, without_file, memory_wanted, Becomes}

-- what is got under each name, if anything is
abbrev pub Files : Type 0
Files = List ℕ → Option (List ℕ)

abbrev pub AreGotFrom : Files → List GotFile → Type 0
AreGotFrom got [] = Unit {0}
AreGotFrom got (file ∷ files) = (got file.name ≡ Some file.bytes) × AreGotFrom got files

-- a file that could not be got is one that nothing is got for, and memory was not wanted
abbrev pub LacksFrom : Files → GatheringOutcome → Type 0
LacksFrom got (all_gathered so_far) = Unit {0}
LacksFrom got (faulty read problem) = Unit {0}
LacksFrom got (without_file read file) = got file ≡ None
LacksFrom got memory_wanted = ⊥

-- what waits comes to the outcome, by what is got under each name, and these files are got for it
pub record ComesFrom (got : Files) (so_far : Gathered) (waiting : List Waiting) (files : List GotFile) (outcome : GatheringOutcome) : Type
    0 where
  pub becomes : Becomes so_far waiting files outcome
  pub got_files : AreGotFrom got files
  pub lacks : LacksFrom got outcome

abbrev pub OutcomesAreOne : Type 0
OutcomesAreOne = (got : Files) (so_far : Gathered) (waiting : List Waiting) (files others : List GotFile) (one other : GatheringOutcome)
    → ComesFrom got so_far waiting files one → ComesFrom got so_far waiting others other → (files ≡ others) × (one ≡ other)

abbrev pub WantedFilesComeFirst : Type 0
WantedFilesComeFirst = (got : Files) (so_far : Gathered) (waiting : List Waiting) (files others : List GotFile) (outcome : GatheringOutcome)
    → Becomes so_far waiting files memory_wanted → AreGotFrom got files → ComesFrom got so_far waiting others outcome
    → (rest : List GotFile) × (others ≡ files ++ rest)
