-- What the rows of names and lists of them mean, from what their parts mean.
use Rattle.std.specs.Prelude.{ℕ, List, [], ◌∷◌, ◌++◌, Option, Some, None, option_map, option_and_then}
use Rattle.lotos_base.specs.Signature.{prefix_form, infix_form}
use Rattle.lotos_base.specs.WrittenTerm.{PlacedName}
use Rattle.lotos_rows.specs.HandedOn.{Token}
use Rattle.lotos_rows.specs.Names.{named, variables_of_sort}
use Rattle.tree_building.specs.Meaning.{Meaning, a_name, some_names, some_variables, an_operation, a_profile}
use Rattle.tree_building.specs.Parts.{with_next, meant_name, meant_names, meant_variables}

-- the name that the row's token is
abbrev pub token_named : List ℕ → Option Token → Option Meaning
token_named text token = option_map (λ token. a_name (named text token)) token

abbrev pub same_name : List Meaning → Option Meaning
same_name parts = with_next meant_name parts (λ name parts. Some (a_name name))

abbrev pub no_names : Option Meaning
no_names = Some (some_names [])

abbrev pub same_names : List Meaning → Option Meaning
same_names parts = with_next meant_names parts (λ names parts. Some (some_names names))

-- a list of one name
abbrev pub name_alone : List Meaning → Option Meaning
name_alone parts = with_next meant_name parts (λ name parts. Some (some_names (name ∷ [])))

abbrev pub name_before_names : List Meaning → Option Meaning
name_before_names parts =
    with_next meant_name parts (λ name parts. with_next meant_names parts (λ names parts. Some (some_names (name ∷ names))))

abbrev pub no_variables : Option Meaning
no_variables = Some (some_variables [])

abbrev pub same_variables : List Meaning → Option Meaning
same_variables parts = with_next meant_variables parts (λ variables parts. Some (some_variables variables))

-- names ":" name more_variables
abbrev pub variables_before_variables : List Meaning → Option Meaning
variables_before_variables parts =
    with_next meant_names parts (λ names parts. with_next meant_name parts (λ sort parts. with_next meant_variables parts (λ more parts.
    Some (some_variables (variables_of_sort names sort ++ more)))))

abbrev pub prefix_operation : List Meaning → Option Meaning
prefix_operation parts = with_next meant_name parts (λ name parts. Some (an_operation (record { name = name; form = prefix_form })))

abbrev pub infix_operation : List Meaning → Option Meaning
infix_operation parts = with_next meant_name parts (λ name parts. Some (an_operation (record { name = name; form = infix_form })))

-- ":" optional_names "->" name
abbrev pub profile_of_names : List Meaning → Option Meaning
profile_of_names parts =
    with_next meant_names parts (λ arguments parts. with_next meant_name parts
    (λ result parts. Some (a_profile (record { arguments = arguments; result = result }))))
