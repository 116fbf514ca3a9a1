-- Lines that deal with what is left to be shown, and things that are right or wrong one after another. Both are said of any
-- lines and any things, since a tree of patterns and a proof by cases are written in one manner.
use Rattle.std.specs.Prelude.{◌≡◌, ℕ, zero, suc, ◌+◌, List, [], ◌∷◌, ◌++◌}

-- The lines deal with all that is left: each line deals with the first thing that is left, and what this comes to is left
-- in its place (so a tree is written in preorder).
pub data DealsWith {X L : Type 0} (ComesTo : X → L → List X → Type 0) : List X → List L → Type 0 where
  nothing_left : DealsWith ComesTo [] []
  line_then : {x : X} {xs parts : List X} {line : L} {lines : List L} → ComesTo x line parts
      → DealsWith ComesTo (parts ++ xs) lines → DealsWith ComesTo (x ∷ xs) (line ∷ lines)

-- The lines deal with some of what is left before them, one after another, and the rest is left behind them.
pub data LinesReach {X L : Type 0} (ComesTo : X → L → List X → Type 0) : List X → List L → List X → Type 0 where
  no_line : {xs : List X} → LinesReach ComesTo xs [] xs
  line_first : {x : X} {xs parts behind : List X} {line : L} {lines : List L} → ComesTo x line parts
      → LinesReach ComesTo (parts ++ xs) lines behind → LinesReach ComesTo (x ∷ xs) (line ∷ lines) behind

-- The line with this number, counted from 0, is the first wrong one. Where it is missing, or stands where nothing is left,
-- the fault is that of a misplaced line.
pub data FailsToDeal {X L F : Type 0} (ComesTo : X → L → List X → Type 0) (IsWrong : X → L → F → Type 0) (misplaced : F)
    : List X → List L → ℕ → F → Type 0 where
  line_missing : {x : X} {xs : List X} {fault : F} → fault ≡ misplaced → FailsToDeal ComesTo IsWrong misplaced (x ∷ xs) [] zero fault
  line_surplus : {line : L} {lines : List L} {fault : F} → fault ≡ misplaced
      → FailsToDeal ComesTo IsWrong misplaced [] (line ∷ lines) zero fault
  line_wrong : {x : X} {xs : List X} {line : L} {lines : List L} {fault : F} → IsWrong x line fault
      → FailsToDeal ComesTo IsWrong misplaced (x ∷ xs) (line ∷ lines) zero fault
  line_later : {x : X} {xs parts : List X} {line : L} {lines : List L} {k : ℕ} {fault : F} → ComesTo x line parts
      → FailsToDeal ComesTo IsWrong misplaced (parts ++ xs) lines k fault
      → FailsToDeal ComesTo IsWrong misplaced (x ∷ xs) (line ∷ lines) (suc k) fault

-- Each thing is right behind those before it.
pub data AreRightBehind {X : Type 0} (IsRight : List X → X → Type 0) : List X → List X → Type 0 where
  no_more : {earlier : List X} → AreRightBehind IsRight earlier []
  right_then : {earlier xs : List X} {x : X} → IsRight earlier x → AreRightBehind IsRight (earlier ++ x ∷ []) xs
      → AreRightBehind IsRight earlier (x ∷ xs)

-- The first thing that is not right is wrong at this line, where the first thing begins at the line that stands first and
-- each takes so many lines.
pub data FirstIsWrong {X F : Type 0} (IsRight : List X → X → Type 0) (IsWrong : List X → X → ℕ → F → Type 0) (length_of : X → ℕ)
    : ℕ → List X → List X → ℕ → F → Type 0 where
  wrong_here : {begin line : ℕ} {earlier xs : List X} {x : X} {fault : F} (k : ℕ) → IsWrong earlier x k fault → line ≡ begin + k
      → FirstIsWrong IsRight IsWrong length_of begin earlier (x ∷ xs) line fault
  wrong_later : {begin line : ℕ} {earlier xs : List X} {x : X} {fault : F} → IsRight earlier x
      → FirstIsWrong IsRight IsWrong length_of (begin + length_of x) (earlier ++ x ∷ []) xs line fault
      → FirstIsWrong IsRight IsWrong length_of begin earlier (x ∷ xs) line fault
