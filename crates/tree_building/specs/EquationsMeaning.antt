-- What the rows of equations mean, from what their parts mean.
use Rattle.std.specs.Prelude.{ℕ, List, [], ◌∷◌, ◌++◌, Option, Some, None, option_and_then}
use Rattle.lotos_base.specs.Equation.{Place}
use Rattle.lotos_base.specs.WrittenTerm.{WrittenTerm}
use Rattle.lotos_rows.specs.HandedOn.{Token}
use Rattle.syntax_trees.specs.WrittenEquation.{WrittenPremiss, WrittenEquation}
use Rattle.lotos_rows.specs.Names.{place_of}
use Rattle.tree_building.specs.Meaning.{PlainStartedTerm, PlainConclusion, PlainAfterTerm, Meaning, some_groups, some_equations, an_equation, a_conclusion, maybe_conclusion, after_term, a_premiss, maybe_term}
use Rattle.tree_building.specs.Parts.{with_next, meant_name, meant_variables, meant_term, meant_groups, meant_equations, meant_equation, meant_conclusion, meant_maybe_conclusion, meant_after_term, meant_premiss, meant_maybe_term}

abbrev pub no_groups : Option Meaning
no_groups = Some (some_groups [])

-- "ofsort" name variables_for_all equation_list equation_groups
abbrev pub group_before_groups : List Meaning → Option Meaning
group_before_groups parts =
    with_next meant_name parts
    (λ sort parts. with_next meant_variables parts (λ variables parts. with_next meant_equations parts (λ equations parts.
    with_next meant_groups parts (λ groups parts.
    Some (some_groups (record { place = sort.place; sort = sort.name; variables = variables; equations = equations } ∷ groups))))))

abbrev pub no_equations_listed : Option Meaning
no_equations_listed = Some (some_equations [])

abbrev pub same_equations : List Meaning → Option Meaning
same_equations parts = with_next meant_equations parts (λ equations parts. Some (some_equations equations))

-- equation after_equation
abbrev pub equation_before_equations : List Meaning → Option Meaning
equation_before_equations parts =
    with_next meant_equation parts
    (λ equation parts. with_next meant_equations parts (λ more parts. Some (some_equations (equation ∷ more))))

-- the premiss that a first term and its right side are
abbrev pub first_premiss : PlainStartedTerm → Option WrittenTerm → WrittenPremiss
first_premiss first right = record { place = first.start; left = first.term; right = right }

-- an equation whose first premiss is known
abbrev pub equation_with_premisses : PlainStartedTerm → Option WrittenTerm → PlainConclusion → WrittenEquation
equation_with_premisses first right conclusion = record {
  place = first.start;
  premisses = first_premiss first right ∷ conclusion.premisses;
  arrow = Some conclusion.arrow;
  left = conclusion.left;
  right = conclusion.right;
}

-- the equation of a first term and what stands behind it, where that is something
abbrev pub equation_from : PlainStartedTerm → Option WrittenTerm → Option PlainConclusion → Option Meaning
equation_from first right (Some conclusion) = Some (an_equation (equation_with_premisses first right conclusion))
equation_from first (Some right) None =
    Some (an_equation (record { place = first.start; premisses = []; arrow = None; left = first.term; right = right }))
equation_from first None None = None

-- term after_first_term
abbrev pub equation_of_term : List Meaning → Option Meaning
equation_of_term parts =
    with_next meant_term parts
    (λ first parts. with_next meant_after_term parts (λ after parts. equation_from first after.right after.conclusion))

-- "=" term after_first_pair
abbrev pub equals_after_term : List Meaning → Option Meaning
equals_after_term parts =
    with_next meant_term parts (λ right parts. with_next meant_maybe_conclusion parts (λ conclusion parts.
    Some (after_term (record { right = Some right.term; conclusion = conclusion }))))

abbrev pub conclusion_after_term : List Meaning → Option Meaning
conclusion_after_term parts =
    with_next meant_conclusion parts (λ conclusion parts. Some (after_term (record { right = None; conclusion = Some conclusion })))

abbrev pub no_conclusion : Option Meaning
no_conclusion = Some (maybe_conclusion None)

abbrev pub some_conclusion : List Meaning → Option Meaning
some_conclusion parts = with_next meant_conclusion parts (λ conclusion parts. Some (maybe_conclusion (Some conclusion)))

-- "," premiss conclusion
abbrev pub premiss_before_conclusion : List Meaning → Option Meaning
premiss_before_conclusion parts =
    with_next meant_premiss parts (λ premiss parts. with_next meant_conclusion parts (λ conclusion parts.
    Some (a_conclusion (record {
      premisses = premiss ∷ conclusion.premisses;
      arrow = conclusion.arrow;
      left = conclusion.left;
      right = conclusion.right;
    }))))

-- "=>" term "=" term
abbrev pub conclusion_of_terms : Option Token → List Meaning → Option Meaning
conclusion_of_terms token parts =
    option_and_then (λ arrow. with_next meant_term parts (λ left parts. with_next meant_term parts (λ right parts.
    Some (a_conclusion (record { premisses = []; arrow = place_of arrow; left = left.term; right = right.term }))))) token

-- term premiss_right
abbrev pub premiss_of_term : List Meaning → Option Meaning
premiss_of_term parts =
    with_next meant_term parts (λ left parts. with_next meant_maybe_term parts (λ right parts. Some (a_premiss (first_premiss left right))))

abbrev pub no_right_side : Option Meaning
no_right_side = Some (maybe_term None)

abbrev pub some_right_side : List Meaning → Option Meaning
some_right_side parts = with_next meant_term parts (λ right parts. Some (maybe_term (Some right.term)))
