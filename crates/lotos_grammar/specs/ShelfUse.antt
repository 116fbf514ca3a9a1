-- What the reading of libraries does to a shelf.
use Rattle.std.specs.Prelude.{◌≡◌, ℕ, ◌+◌, ◌⊎◌, List, [], ◌∷◌, ◌++◌, All, Option, None, IfSome, IsSomeAnd}
use Rattle.lotos_base.specs.Counts.{Rises, next_count}
use Rattle.lotos_base.specs.Limits.{text_limit}
use Rattle.lotos_base.specs.Outside.{Texts, Gets}
pub use Rattle.lotos_base.specs.Outside.{ShelfState}
use Rattle.lotos_grammar.specs.Gathering.{GotFile}

-- the count of calls after one for each of the files
abbrev pub calls_after : List GotFile → ℕ → ℕ
calls_after [] calls = calls
calls_after (file ∷ files) calls = calls_after files (next_count calls)

-- the file is one of a shelf that tells these texts; no more than one byte past the limit is got
abbrev pub IsFileOf : Option Texts → GotFile → Type 0
IsFileOf told file = IfSome told (λ texts. Gets texts file.name (text_limit + 1) file.bytes)

-- the shelf gave the files, each in a call of its own, and counted no fault
pub record Gives (before after : ShelfState) (files : List GotFile) : Type 0 where
  pub texts : after.texts ≡ before.texts
  pub content : All (IsFileOf before.texts) files
  pub faults : after.faults ≡ before.faults
  pub calls : after.calls ≡ calls_after files before.calls

-- it gave the files, and then could not give the one of the name: its count of faults rose, or it tells its texts and has
-- none of the name
pub record GivesAndLacks (before after : ShelfState) (files : List GotFile) (name : List ℕ) : Type 0 where
  pub texts : after.texts ≡ before.texts
  pub content : All (IsFileOf before.texts) files
  pub cause :
      Rises before.faults after.faults ⊎ ((after.faults ≡ before.faults) × IsSomeAnd before.texts (λ texts. texts name ≡ None))
  pub calls : after.calls ≡ next_count (calls_after files before.calls)

-- Memory was wanted: the shelf gave the files, each in a call of its own, and counted no fault. It was called once more at most,
-- and only where another file is asked for behind these.
pub record GivesSome (before after : ShelfState) (files : List GotFile) (AsksMore : Type 0) : Type 0 where
  pub texts : after.texts ≡ before.texts
  pub content : All (IsFileOf before.texts) files
  pub faults : after.faults ≡ before.faults
  pub calls :
      (after.calls ≡ calls_after files before.calls)
      ⊎ (AsksMore × (after.calls ≡ next_count (calls_after files before.calls)))

-- it gave the file of the name in one call
pub record GivesFile (before after : ShelfState) (name bytes : List ℕ) : Type 0 where
  pub gives : Gives before after (record { name = name; bytes = bytes } ∷ [])
