-- What the rows of terms mean, from what their parts mean.
use Rattle.std.specs.Prelude.{ℕ, List, [], ◌∷◌, ◌++◌, Option, Some, None, option_and_then}
use Rattle.lotos_base.specs.WrittenTerm.{PlacedName, WrittenTerm, written}
use Rattle.lotos_rows.specs.HandedOn.{Token}
use Rattle.syntax_trees.specs.LeftGrouping.{grouped_left}
use Rattle.lotos_rows.specs.Names.{place_of}
use Rattle.lotos_rows.specs.Terms.{applied, infix_term}
use Rattle.tree_building.specs.Meaning.{Meaning, a_term, some_factors, some_terms}
use Rattle.tree_building.specs.Parts.{with_next, meant_name, meant_names, meant_term, meant_factors, meant_terms}

-- a term with the sorts of further `of`s put on it
abbrev pub with_written_sorts : List PlacedName → WrittenTerm → WrittenTerm
with_written_sorts sorts (written head arguments) =
    written (record { place = head.place; name = head.name; form = head.form; sorts = head.sorts ++ sorts }) arguments

-- factor more_factors
abbrev pub term_of_factors : List Meaning → Option Meaning
term_of_factors parts =
    with_next meant_term parts (λ first parts. with_next meant_factors parts (λ more parts.
    Some (a_term (record { start = first.start; term = grouped_left infix_term first.term more }))))

abbrev pub no_factors : Option Meaning
no_factors = Some (some_factors [])

-- operation_name factor more_factors
abbrev pub factor_before_factors : List Meaning → Option Meaning
factor_before_factors parts =
    with_next meant_name parts (λ operation parts. with_next meant_term parts (λ factor parts. with_next meant_factors parts (λ more parts.
    Some (some_factors ((operation, factor.term) ∷ more)))))

-- operation_name arguments sort_mark
abbrev pub applied_factor : List Meaning → Option Meaning
applied_factor parts =
    with_next meant_name parts (λ name parts. with_next meant_terms parts (λ arguments parts. with_next meant_names parts (λ mark parts.
    Some (a_term (record { start = name.place; term = with_written_sorts mark (applied name arguments) })))))

-- "(" term ")" sort_mark
abbrev pub bracketed_factor : Option Token → List Meaning → Option Meaning
bracketed_factor token parts =
    option_and_then (λ left. with_next meant_term parts (λ inside parts. with_next meant_names parts (λ mark parts.
    Some (a_term (record { start = place_of left; term = with_written_sorts mark inside.term }))))) token

abbrev pub no_terms : Option Meaning
no_terms = Some (some_terms [])

abbrev pub same_terms : List Meaning → Option Meaning
same_terms parts = with_next meant_terms parts (λ terms parts. Some (some_terms terms))

-- term more_terms
abbrev pub term_before_terms : List Meaning → Option Meaning
term_before_terms parts = with_next meant_term parts (λ first parts.
    with_next meant_terms parts (λ more parts. Some (some_terms (first.term ∷ more))))
