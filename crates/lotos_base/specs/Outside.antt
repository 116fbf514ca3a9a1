-- What a call of the outside does to what is left or was written, to the texts, and to the counts of faults and of calls.
use Rattle.std.specs.Prelude.{◌≡◌, ◌≢◌, ℕ, ◌≤◌, ◌↔◌, List, [], take, drop, length, Option, Some, None, IfSome, IsSomeAnd, Result, Ok, Err}
use Rattle.lotos_base.specs.declared.faults.GetFault.{GetFault}
use Rattle.lotos_base.specs.declared.faults.GetFault.TheVariants as get_fault
use Rattle.lotos_base.specs.declared.faults.PutFault.{PutFault}
use Rattle.lotos_base.specs.declared.faults.PutFault.TheVariants as put_fault
use Rattle.lotos_base.specs.Counts.{Rises, next_count, raised_count}

-- What an input or an output tells of itself: the bytes that it has left, or has written, where it tells them; how many bytes its
-- calls moved; how many faults it counted; how many calls were made, how many of these moved no byte, and which was the last of
-- these. The counts go up to their last value.
pub record Stream : Type 0 where
  pub bytes : Option (List ℕ)
  pub moved : ℕ
  pub faults : ℕ
  pub calls : ℕ
  pub vain : ℕ
  pub last_vain : ℕ

-- no fault was counted, and no call moved no byte
pub record Stands (before after : Stream) : Type 0 where
  pub faults : after.faults ≡ before.faults
  pub vain : after.vain ≡ before.vain
  pub last_vain : after.last_vain ≡ before.last_vain

-- no fault was counted, and one call moved no byte, the last one
pub record FindsEnd (before after : Stream) : Type 0 where
  pub faults : after.faults ≡ before.faults
  pub vain : after.vain ≡ next_count before.vain
  pub last_vain : after.last_vain ≡ after.calls

-- a fault was counted, and one call moved no byte, the last one
pub record Fails (before after : Stream) : Type 0 where
  pub faults : Rises before.faults after.faults
  pub vain : after.vain ≡ next_count before.vain
  pub last_vain : after.last_vain ≡ after.calls

-- a call that moved so many bytes is one more
pub record IsCall (before after : Stream) (count : ℕ) : Type 0 where
  pub calls : after.calls ≡ next_count before.calls
  pub moved : after.moved ≡ raised_count before.moved count

-- a call moved so many bytes
pub record MovesInCall (before after : Stream) (count : ℕ) : Type 0 where
  pub call : IsCall before after count
  pub some : count ≢ 0 → Stands before after
  pub none : count ≡ 0 → FindsEnd before after

-- a call failed
pub record FailsInCall (before after : Stream) : Type 0 where
  pub calls : after.calls ≡ next_count before.calls
  pub moved : after.moved ≡ before.moved
  pub fails : Fails before after

-- the texts of a shelf by name
abbrev pub Texts : Type 0
Texts = List ℕ → Option (List ℕ)

-- what a shelf tells of itself: its texts, where it tells them, and its counts of faults and of calls
pub record ShelfState : Type 0 where
  pub texts : Option Texts
  pub faults : ℕ
  pub calls : ℕ

-- a read of `count` bytes moves the first of the bytes left into the buffer; it moves none exactly
-- where nothing is left
pub record MovesInto (left : List ℕ) (left_after : Option (List ℕ)) (buffer : List ℕ) (count : ℕ) : Type 0 where
  pub moved : take count buffer ≡ take count left
  pub rest : left_after ≡ Some (drop count left)
  pub within : count ≤ length left
  pub ended : (count ≡ 0) ↔ (left ≡ [])

-- a text that was got is the one under the name, cut at the limit
abbrev pub Gets : Texts → List ℕ → ℕ → List ℕ → Type 0
Gets texts name limit got = IsSomeAnd (texts name) (λ text. got ≡ take limit text)

-- no name but this one has another text than before
abbrev pub KeepsOthers : Texts → Texts → List ℕ → Type 0
KeepsOthers before after name = (other : List ℕ) → other ≢ name → after other ≡ before other

-- after a put the name has exactly the bytes, and the other names have what they had
pub record Puts (before after : Texts) (name bytes : List ℕ) : Type 0 where
  pub stored : after name ≡ Some bytes
  pub others : KeepsOthers before after name

-- what a `get` answers beside its text: `Missing` comes only where the shelf tells its texts and has
-- none under the name
abbrev pub GetAnswers : {T : Type 0} → Result T GetFault → Option Texts → List ℕ → ℕ → List ℕ → Type 0
GetAnswers (Ok _) told name limit got = IfSome told (λ texts. Gets texts name limit got)
GetAnswers (Err get_fault.Missing) told name limit got = IsSomeAnd told (λ texts. texts name ≡ None)
GetAnswers (Err get_fault.Failed) told name limit got = Unit {0}
GetAnswers (Err get_fault.NoMemory) told name limit got = Unit {0}

-- a `get` counts a fault exactly where it answers `Failed`
abbrev pub GetCounts : {T : Type 0} → Result T GetFault → ℕ → ℕ → Type 0
GetCounts (Ok _) before after = after ≡ before
GetCounts (Err get_fault.Missing) before after = after ≡ before
GetCounts (Err get_fault.Failed) before after = Rises before after
GetCounts (Err get_fault.NoMemory) before after = after ≡ before

-- what a `put` leaves: the text stored; after `Failed` any text under the name; after `NoMemory`
-- the texts as they were
abbrev pub PutLeaves : {T : Type 0} → Result T PutFault → Texts → Texts → List ℕ → List ℕ → Type 0
PutLeaves (Ok _) before after name bytes = Puts before after name bytes
PutLeaves (Err put_fault.Failed) before after name bytes = KeepsOthers before after name
PutLeaves (Err put_fault.NoMemory) before after name bytes = after ≡ before

-- a `put` counts a fault exactly where it answers `Failed`
abbrev pub PutCounts : {T : Type 0} → Result T PutFault → ℕ → ℕ → Type 0
PutCounts (Ok _) before after = after ≡ before
PutCounts (Err put_fault.Failed) before after = Rises before after
PutCounts (Err put_fault.NoMemory) before after = after ≡ before
