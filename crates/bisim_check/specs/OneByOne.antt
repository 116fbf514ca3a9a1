-- Lists whose members are related one by one.
use Rattle.std.specs.Prelude.{List, [], ◌∷◌}

-- There are as many members on both sides, and those at one place are related.
abbrev pub OneByOne : {X : Type 0} → (X → X → Type 0) → List X → List X → Type 0
OneByOne R [] [] = Unit {0}
OneByOne R (x ∷ xs) (y ∷ ys) = R x y × OneByOne R xs ys
OneByOne R _ _ = ⊥
