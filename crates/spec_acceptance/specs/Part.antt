-- A part of the work on a specification: which files it gets, and what comes of it. It is generic in what a fault is.
use Rattle.std.specs.Prelude.{◌≡◌, ◌⊎◌, ℕ, List, [], ◌++◌, Option, None, Some}
use Rattle.refusal_lines.specs.HandedOn.{GotFile}

-- what comes of it: something to go on with; a file that could not be got; a fault, which ends all; or memory was wanted
pub data Comes (E B : Type 0) : Type 0 where
  goes_on : B → Comes E B
  unread : (name : List ℕ) → Comes E B
  stops : E → Comes E B
  wants_memory : Comes E B

-- The files that it gets, in their order, and what comes of it. Where memory is wanted, these are the files that were got
-- until then: the first of those that the part gets.
abbrev pub Part : Type 0 → Type 0 → Type 1
Part E B = List GotFile → Comes E B → Type 0

-- what ends the first of two parts ends both
abbrev pub ends_both : {E A B : Type 0} → Comes E B → Option (Comes E A)
ends_both (goes_on b) = None
ends_both (unread name) = Some (unread name)
ends_both (stops e) = Some (stops e)
ends_both wants_memory = Some wants_memory

abbrev pub EndsSo : {E A : Type 0} → Part E A → List GotFile → Option (Comes E A) → Type 0
EndsSo First files None = ⊥
EndsSo First files (Some comes) = First files comes

-- First one part, and then the next one with what came of the first. Nothing later is looked at where the first one ends it.
abbrev pub Then : {E A B : Type 0} → Part E A → (A → Part E B) → Part E B
Then {E} {A} {B} First next files comes =
    EndsSo First files (ends_both {E = E} {A = A} {B = B} comes)
    ⊎ ((a : A) × (got : List GotFile) × (later : List GotFile)
    × First got (goes_on a) × next a later comes × (files ≡ got ++ later))

-- what is there already
abbrev pub Has : {E B : Type 0} → B → Part E B
Has b files (goes_on c) = (files ≡ []) × (c ≡ b)
Has b files (unread name) = ⊥
Has b files (stops e) = ⊥
Has b files wants_memory = files ≡ []

-- A look at what is there, which gets no file: it is fine, and gives this, or it has this fault, which is told so.
abbrev pub Looks : {E F B : Type 0} → (B → Type 0) → (F → Type 0) → (F → E) → Part E B
Looks IsFine IsFault tell files (goes_on b) = (files ≡ []) × IsFine b
Looks IsFine IsFault tell files (unread name) = ⊥
Looks {E} {F} {B} IsFine IsFault tell files (stops e) = (files ≡ []) × ((fault : F) × IsFault fault × (e ≡ tell fault))
Looks IsFine IsFault tell files wants_memory = files ≡ []

-- the same part, its faults told in another way
abbrev pub Telling : {E G B : Type 0} → (E → G) → Part E B → Part G B
Telling tell Whole files (goes_on b) = Whole files (goes_on b)
Telling tell Whole files (unread name) = Whole files (unread name)
Telling {E} {G} {B} tell Whole files (stops g) = (e : E) × Whole files (stops e) × (g ≡ tell e)
Telling tell Whole files wants_memory = Whole files wants_memory
