-- The text of data: one type `Data` with all sorts, operations and equations, each operation and each equation on a line of its own.
use Rattle.std.specs.Prelude.{ℕ, List, [], ◌∷◌, ◌++◌, map, Option, None, Some, codes}
use Rattle.std.specs.List.{concat}
use Rattle.lotos_base.specs.Signature.{Signature, Sort, Operation, Form, prefix_form, infix_form}
use Rattle.lotos_base.specs.Sorting.{head_sort_of}
use Rattle.lotos_base.specs.Equation.{Variable, Equation, Data}
use Rattle.report_text.specs.HandedOn.{commas, sort_text, term_text}
use Rattle.flat_text.specs.EquationNames.{renamed_variables}

-- a line
abbrev pub line : List ℕ → List ℕ
line text = text ++ codes "\n"

-- the sorts
abbrev pub sorts_lines : List Sort → List ℕ
sorts_lines [] = []
sorts_lines (sort ∷ sorts) = line (codes "sorts " ++ commas (map (λ (s : Sort). s.name) (sort ∷ sorts)))

-- an operation: `f`, or `_f_` where it stands between its arguments
abbrev pub operator_name : Form → List ℕ → List ℕ
operator_name prefix_form name = name
operator_name infix_form name = codes "_" ++ name ++ codes "_"

-- the sorts of its arguments, which are none for a constant
abbrev pub argument_sorts : Signature → List ℕ → List ℕ
argument_sorts signature [] = []
argument_sorts signature (sort ∷ sorts) = commas (map (sort_text signature) (sort ∷ sorts)) ++ codes " "

abbrev pub operation_line : Signature → Operation → List ℕ
operation_line signature operation = line (
    operator_name operation.form operation.name ++ codes " : " ++ argument_sorts signature operation.arguments
    ++ codes "-> " ++ sort_text signature operation.result)

abbrev pub operations_lines : Signature → List Operation → List ℕ
operations_lines signature [] = []
operations_lines signature (operation ∷ operations) =
    line (codes "opns") ++ concat (map (operation_line signature) (operation ∷ operations))

-- a variable with its sort
abbrev pub sorted_variable : Signature → Variable → List ℕ
sorted_variable signature x = x.name ++ codes " : " ++ sort_text signature x.sort

-- the variables of an equation, if it has some
abbrev pub for_all : Signature → List Variable → List ℕ
for_all signature [] = []
for_all signature (x ∷ variables) = codes "forall " ++ commas (map (sorted_variable signature) (x ∷ variables)) ++ codes " "

-- the sort of the sides, that of the left one
abbrev pub sort_if_any : Signature → Option ℕ → List ℕ
sort_if_any signature None = []
sort_if_any signature (Some sort) = sort_text signature sort

abbrev pub equation_line : Signature → Equation → List ℕ
equation_line signature equation = let variables : List Variable = renamed_variables signature equation in line (
    codes "ofsort " ++ sort_if_any signature (head_sort_of signature equation.left) ++ codes " " ++ for_all signature variables
    ++ term_text signature variables equation.left ++ codes " = " ++ term_text signature variables equation.right ++ codes ";")

abbrev pub equations_lines : Signature → List Equation → List ℕ
equations_lines signature [] = []
equations_lines signature (equation ∷ equations) =
    line (codes "eqns") ++ concat (map (equation_line signature) (equation ∷ equations))

-- the type, if there are sorts
abbrev pub data_lines : Data → List Sort → List ℕ
data_lines data_ [] = []
data_lines data_ (sort ∷ sorts) =
    line (codes "type Data is") ++ sorts_lines (sort ∷ sorts) ++ operations_lines data_.signature data_.signature.operations
    ++ equations_lines data_.signature data_.equations ++ line (codes "endtype")

abbrev pub data_text : Data → List ℕ
data_text data_ = data_lines data_ data_.signature.sorts
