-- Numbers by first appearance.
use Rattle.std.specs.Prelude.{ℕ, suc, List, [], ◌∷◌, ◌++◌, if◌then◌else◌}
use Rattle.lotos_base.specs.Term.{Term}
use Rattle.lotos_base.specs.Substitution.{is_listed}
use Rattle.rewriting_theory.specs.Numbering.{variable_numbers}

-- The numbers seen before, and after them each further number of the list at its first place.
abbrev pub noted : List ℕ → List ℕ → List ℕ
noted seen [] = seen
noted seen (n ∷ ns) = noted (if is_listed seen n then seen else seen ++ n ∷ []) ns

-- The numbers of the term's variables, each at its first place.
abbrev pub appearances : Term → List ℕ
appearances t = noted [] (variable_numbers t)

-- Each number of the list with its position, of which the first one is this number.
abbrev pub counted : ℕ → List ℕ → List (ℕ × ℕ)
counted k [] = []
counted k (n ∷ ns) = (n, k) ∷ counted (suc k) ns
