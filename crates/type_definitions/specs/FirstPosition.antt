-- Where the first member with a property stands in a list.
use Rattle.std.specs.Prelude.{ℕ, suc, Bool, List, [], ◌∷◌, if◌then◌else◌}

-- the position of the first member with the property; the length where there is none
abbrev pub first_position : {A : Type 0} → (A → Bool) → List A → ℕ
first_position test [] = 0
first_position test (x ∷ xs) = if test x then 0 else suc (first_position test xs)
