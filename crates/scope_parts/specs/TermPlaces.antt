-- The places of what a term and a premiss are written of.
use Rattle.std.specs.Prelude.{List, [], ◌∷◌, ◌++◌, map, Option, None, Some}
use Rattle.lotos_base.specs.Equation.{Place}
use Rattle.lotos_base.specs.WrittenTerm.{PlacedName, WrittenTerm, WrittenTerms, written, no_written, written_then}
use Rattle.syntax_trees.specs.WrittenEquation.{WrittenPremiss}

abbrev pub name_places : List PlacedName → List Place
name_places names = map (λ (name : PlacedName). name.place) names

-- of a term: its names and those behind its `of`
abbrev mutual
  pub term_places : WrittenTerm → List Place
  term_places (written head arguments) = head.place ∷ (terms_places arguments ++ name_places head.sorts)

  pub terms_places : WrittenTerms → List Place
  terms_places no_written = []
  terms_places (written_then w ws) = term_places w ++ terms_places ws

abbrev pub right_places : Option WrittenTerm → List Place
right_places None = []
right_places (Some right) = term_places right

-- of a premiss: that of its first token, and those of its terms
abbrev pub premiss_places : WrittenPremiss → List Place
premiss_places premiss = premiss.place ∷ (term_places premiss.left ++ right_places premiss.right)
