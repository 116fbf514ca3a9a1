-- The names that the variables of an equation are given, so that no operation has one of them.
use Rattle.std.specs.Prelude.{ℕ, zero, suc, List, [], ◌∷◌, map, length, codes}
use Rattle.lotos_base.specs.Signature.{Signature, Operation}
use Rattle.lotos_base.specs.Equation.{Variable, Equation}
use Rattle.flat_text.specs.FreeNames.{with_number, least_free}

-- the names of the operations, in either form
abbrev pub operation_names : Signature → List (List ℕ)
operation_names signature = map (λ (o : Operation). o.name) signature.operations

-- so many of the names `v1`, `v2` and so on that are not taken, from a number on
abbrev pub free_names : List (List ℕ) → ℕ → ℕ → List (List ℕ)
free_names taken zero number = []
free_names taken (suc count) number =
    with_number (codes "v") (least_free taken (codes "v") number)
    ∷ free_names taken count (suc (least_free taken (codes "v") number))

-- so many of the names `v1`, `v2` and so on, without those that are the name of an operation
abbrev pub equation_names : Signature → ℕ → List (List ℕ)
equation_names signature count = free_names (operation_names signature) count 1

-- variables under these names
abbrev pub variables_under_names : List (List ℕ) → List Variable → List Variable
variables_under_names [] variables = []
variables_under_names (name ∷ names) [] = []
variables_under_names (name ∷ names) (x ∷ variables) =
    record { name = name; number = x.number; sort = x.sort } ∷ variables_under_names names variables

-- the variables of an equation, which stand in the order of their first appearance, under such names
abbrev pub renamed_variables : Signature → Equation → List Variable
renamed_variables signature equation = variables_under_names (equation_names signature (length equation.variables)) equation.variables
