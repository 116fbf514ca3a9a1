-- What the rows of processes and headings mean, from what their parts mean.
use Rattle.std.specs.Prelude.{ℕ, List, [], ◌∷◌, Option, Some, None, option_and_then}
use Rattle.syntax_trees.specs.WrittenDefinition.{inner_item, process, inners_of}
use Rattle.tree_building.specs.Meaning.{Meaning, a_heading, a_functionality, some_inner, a_process}
use Rattle.tree_building.specs.Parts.{with_next, meant_name, meant_names, meant_variables, meant_item, meant_operands, meant_heading, meant_functionality, meant_inner, meant_process}
use Rattle.tree_building.specs.BehavioursMeaning.{with_grouped}

-- name optional_gates parameters ":" functionality
abbrev pub heading_of_parts : List Meaning → Option Meaning
heading_of_parts parts =
    with_next meant_name parts
    (λ name parts. with_next meant_names parts (λ gates parts. with_next meant_variables parts (λ parameters parts.
    with_next meant_functionality parts (λ functionality parts.
    Some (a_heading (record {
      place = name.place;
      name = name.name;
      gates = gates;
      parameters = parameters;
      functionality = functionality;
    }))))))

abbrev pub no_exit : Option Meaning
no_exit = Some (a_functionality None)

-- "exit" exit_sorts
abbrev pub exit_of_sorts : List Meaning → Option Meaning
exit_of_sorts parts = with_next meant_names parts (λ sorts parts. Some (a_functionality (Some sorts)))

abbrev pub nothing_inner : Option Meaning
nothing_inner = Some (some_inner [])

abbrev pub same_inner : List Meaning → Option Meaning
same_inner parts = with_next meant_inner parts (λ inner parts. Some (some_inner inner))

-- item inner
abbrev pub item_before_inner : List Meaning → Option Meaning
item_before_inner parts = with_next meant_item parts (λ item parts.
    with_next meant_inner parts (λ more parts. Some (some_inner (inner_item item ∷ more))))

-- process inner
abbrev pub process_before_inner : List Meaning → Option Meaning
process_before_inner parts =
    with_next meant_process parts (λ definition parts. with_next meant_inner parts (λ more parts. Some (some_inner (definition ∷ more))))

-- "process" heading ":=" behaviour where "endproc"
abbrev pub process_of_parts : List Meaning → Option Meaning
process_of_parts parts =
    with_next meant_heading parts
    (λ heading parts. with_next meant_operands parts (λ flat parts. with_next meant_inner parts (λ inner parts.
    with_grouped flat (λ body. Some (a_process (process heading body (inners_of inner)))))))
