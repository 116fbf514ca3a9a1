-- The variables that the names of a term mean: what is read over these alone is what is read over all that is visible.
use Rattle.std.specs.Prelude.{ℕ, suc, List, [], ◌∷◌, ◌++◌, Option, None, Some, reverse, if◌then◌else◌}
use Rattle.std.specs.Option.{option_or}
use Rattle.lotos_base.specs.Names.{folded}
use Rattle.lotos_base.specs.Equation.{Variable}
use Rattle.lotos_base.specs.WrittenTerm.{WrittenTerm, WrittenTerms, written, no_written, written_then}
use Rattle.sort_terms.specs.ReadingOutcome.{one_name}
use Rattle.scope_parts.specs.Scope.{Binding}

-- the variable of a name, the last one of the list
abbrev pub visible_named : List Variable → List ℕ → Option Variable
visible_named [] name = None
visible_named (v ∷ variables) name = option_or (visible_named variables name) (if one_name v.name name then Some v else None)

-- it as a list
abbrev pub found_list : Option Variable → List Variable
found_list None = []
found_list (Some v) = v ∷ []

abbrev mutual
  -- the variables that the names in a term mean, one for each time that a name stands there
  pub seen_in : List Variable → WrittenTerm → List Variable
  seen_in variables (written head arguments) = found_list (visible_named variables head.name) ++ seen_in_each variables arguments

  pub seen_in_each : List Variable → WrittenTerms → List Variable
  seen_in_each variables no_written = []
  seen_in_each variables (written_then term terms) = seen_in variables term ++ seen_in_each variables terms

-- names bound to the positions of variables, counted from a number on
abbrev pub positioned : ℕ → List Variable → List Binding
positioned first [] = []
positioned first (v ∷ variables) = record { key = folded v.name; number = first } ∷ positioned (suc first) variables

-- the last variable innermost
abbrev pub positions_in : List Variable → List Binding
positions_in variables = reverse (positioned 0 variables)
