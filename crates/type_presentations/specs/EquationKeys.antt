-- Keys of equations: lists of numbers that are equal exactly where two equations stand at one place and have the same sides.
use Rattle.std.specs.Prelude.{◌≡◌, ◌↔◌, ℕ, true, List, [], ◌∷◌, ◌++◌}
use Rattle.lotos_base.specs.Term.{Term, Terms, variable, node, no_terms, term_then}
use Rattle.lotos_base.specs.Equation.{Equation}
use Rattle.type_definitions.specs.Presentation.{is_same_equation}

abbrev mutual
  -- a term, each node before its arguments
  pub term_key : Term → List ℕ
  term_key (variable number sort) = 0 ∷ number ∷ sort ∷ []
  term_key (node operation arguments) = 1 ∷ operation ∷ terms_key arguments

  -- terms, one by one, and their end
  pub terms_key : Terms → List ℕ
  terms_key no_terms = 0 ∷ []
  terms_key (term_then t ts) = 1 ∷ (term_key t ++ terms_key ts)

-- an equation by its place and its sides
abbrev pub equation_key : Equation → List ℕ
equation_key equation =
    equation.place.text ∷ equation.place.line ∷ equation.place.column
    ∷ (term_key equation.left ++ term_key equation.right)

-- What equal keys say.
pub record EquationKeysTell : Type 0 where
  pub equations : (one other : Equation) → (equation_key one ≡ equation_key other) ↔ (is_same_equation one other ≡ true)
