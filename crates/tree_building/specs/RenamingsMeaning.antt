-- What the rows of renamings mean, from what their parts mean.
use Rattle.std.specs.Prelude.{ℕ, List, [], ◌∷◌, Option, Some, None, option_and_then}
use Rattle.lotos_rows.specs.Renamings.{pair_of_names}
use Rattle.tree_building.specs.Meaning.{Meaning, some_pairs, both_pairs}
use Rattle.tree_building.specs.Parts.{with_next, meant_name, meant_operation, meant_pairs}

-- sort_renames operation_renames
abbrev pub pairs_of_both : List Meaning → Option Meaning
pairs_of_both parts =
    with_next meant_pairs parts (λ sorts parts. with_next meant_pairs parts (λ operations parts.
    Some (both_pairs (record { sort_pairs = sorts; operation_pairs = operations }))))

abbrev pub no_pairs : Option Meaning
no_pairs = Some (some_pairs [])

abbrev pub same_pairs : List Meaning → Option Meaning
same_pairs parts = with_next meant_pairs parts (λ pairs parts. Some (some_pairs pairs))

-- name "for" name more_sort_pairs
abbrev pub sort_pair_before_pairs : List Meaning → Option Meaning
sort_pair_before_pairs parts =
    with_next meant_name parts (λ given parts. with_next meant_name parts (λ replaced parts. with_next meant_pairs parts (λ more parts.
    Some (some_pairs (pair_of_names given replaced ∷ more)))))

-- operation "for" operation more_operation_pairs
abbrev pub operation_pair_before_pairs : List Meaning → Option Meaning
operation_pair_before_pairs parts =
    with_next meant_operation parts
    (λ given parts. with_next meant_operation parts (λ replaced parts. with_next meant_pairs parts (λ more parts.
    Some (some_pairs (pair_of_names given.name replaced.name ∷ more)))))
