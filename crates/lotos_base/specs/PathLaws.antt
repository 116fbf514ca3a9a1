-- Laws of paths: subterm and replacement undo each other, a replacement leaves all else, paths compose.
use Rattle.std.specs.Prelude.{◌≡◌, ◌↔◌, ℕ, List, ◌++◌, Some}
use Rattle.lotos_base.specs.Signature.{Signature}
use Rattle.lotos_base.specs.Term.{Term}
use Rattle.lotos_base.specs.Sorting.{HasSort}
use Rattle.lotos_base.specs.Path.{subterm, put_at, AreParallel}

-- after a replacement the part stands at the path
abbrev pub ReplacedPartIsThere : Type 0
ReplacedPartIsThere = (path : List ℕ) (part t whole : Term) → put_at path part t ≡ Some whole
    → subterm path whole ≡ Some part

-- putting back what stands at the path changes nothing
abbrev pub PuttingBackChangesNothing : Type 0
PuttingBackChangesNothing = (path : List ℕ) (part t : Term) → subterm path t ≡ Some part
    → put_at path part t ≡ Some t

-- a second replacement at the path hides the first one
abbrev pub LaterReplacementCounts : Type 0
LaterReplacementCounts = (path : List ℕ) (part other t whole : Term) → put_at path part t ≡ Some whole
    → put_at path other whole ≡ put_at path other t

-- a part can be put exactly where a path leads to a subterm
abbrev pub ReplacementIsPossible : Type 0
ReplacementIsPossible = (path : List ℕ) (part t : Term)
    → ((whole : Term) × (put_at path part t ≡ Some whole)) ↔ ((old : Term) × (subterm path t ≡ Some old))

-- a replacement leaves what stands at each parallel path
abbrev pub ParallelPartsStay : Type 0
ParallelPartsStay = (path other : List ℕ) (part t whole : Term) → AreParallel path other
    → put_at path part t ≡ Some whole → subterm other whole ≡ subterm other t

-- a path after a path names the subterm of the subterm
abbrev pub SubtermsCompose : Type 0
SubtermsCompose = (path rest : List ℕ) (t part : Term) → subterm path t ≡ Some part
    → subterm (path ++ rest) t ≡ subterm rest part

-- and puts a part into the subterm
abbrev pub PathReplacementsCompose : Type 0
PathReplacementsCompose = (path rest : List ℕ) (part old new t whole : Term) → subterm path t ≡ Some old
    → put_at rest part old ≡ Some new → put_at path new t ≡ Some whole
    → put_at (path ++ rest) part t ≡ Some whole

-- a subterm of a sorted term has a sort
abbrev pub SubtermsHaveSorts : Type 0
SubtermsHaveSorts = (signature : Signature) (path : List ℕ) (t part : Term) (s : ℕ) → HasSort signature t s
    → subterm path t ≡ Some part → (r : ℕ) × HasSort signature part r

-- with a part of the same sort put at the path, a sorted term keeps its sort
abbrev pub ReplacementKeepsSorts : Type 0
ReplacementKeepsSorts = (signature : Signature) (path : List ℕ) (t old part whole : Term) (s r : ℕ)
    → HasSort signature t s → subterm path t ≡ Some old → HasSort signature old r → HasSort signature part r
    → put_at path part t ≡ Some whole → HasSort signature whole s
