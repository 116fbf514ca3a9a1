-- A list that some of another list was added to.
use Rattle.std.specs.Prelude.{◌≡◌, ℕ, List, ◌++◌, take}

-- so many of the first ones stand behind what was there
abbrev pub Grown : {A : Type 0} → List A → List A → List A → Type 0
Grown added old new = (k : ℕ) × (new ≡ old ++ take k added)
