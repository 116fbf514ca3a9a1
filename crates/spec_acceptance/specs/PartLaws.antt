-- Laws of parts: what comes of them is one thing, and what was got where memory is wanted is the beginning of what is got.
use Rattle.std.specs.Prelude.{◌≡◌, List, ◌++◌, None}
use Rattle.refusal_lines.specs.HandedOn.{GotFile, Files, AreGotFrom}
use Rattle.spec_acceptance.specs.Part.{Comes, goes_on, unread, stops, wants_memory, Part}

-- A file that could not be got is one that nothing is got for, and memory was not wanted.
abbrev pub Lacks : {E B : Type 0} → Files → Comes E B → Type 0
Lacks got (goes_on b) = Unit {0}
Lacks got (unread name) = got name ≡ None
Lacks got (stops e) = Unit {0}
Lacks got wants_memory = ⊥

-- By what is got under each name one thing comes of the part where memory is there, and the same files are got for it in the
-- same order.
abbrev pub IsDetermined : {E B : Type 0} → Files → Part E B → Type 0
IsDetermined {E} {B} got part =
    (files others : List GotFile) (one other : Comes E B) → part files one → part others other → AreGotFrom got files
    → AreGotFrom got others → Lacks got one → Lacks got other → (files ≡ others) × (one ≡ other)

-- Where memory is wanted, the files that were got until then are the first ones of those that are got where it is there.
abbrev pub WantsBehindFirst : {E B : Type 0} → Files → Part E B → Type 0
WantsBehindFirst {E} {B} got part =
    (files others : List GotFile) (comes : Comes E B) → part files wants_memory → part others comes → AreGotFrom got files
    → AreGotFrom got others → Lacks got comes → (rest : List GotFile) × (others ≡ files ++ rest)

-- it is fine in one way at most, has one fault at most, and has none where it is fine
pub record IsDecided {F B : Type 0} (IsFine : B → Type 0) (IsFault : F → Type 0) : Type 0 where
  pub one_value : (b c : B) → IsFine b → IsFine c → b ≡ c
  pub not_both : (b : B) (fault : F) → IsFine b → IsFault fault → ⊥
  pub one_fault : (fault other : F) → IsFault fault → IsFault other → fault ≡ other
