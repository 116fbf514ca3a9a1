-- The words of the lines of the type of a flat text, which declares all sorts, operations and equations.
use Rattle.std.specs.Prelude.{ℕ, List, [], ◌∷◌, ◌++◌, map, flat_map, None, codes}
use Rattle.lotos_lexer.specs.declared.kinds.TheConstants.{TYPE, IS, SORTS, OPNS, EQNS, OFSORT, FORALL, ENDTYPE, UNDERSCORE, COLON, ARROW, EQUALS, SEMICOLON}
use Rattle.lotos_base.specs.Signature.{Signature, Sort, Operation, Form, prefix_form, infix_form}
use Rattle.lotos_base.specs.Sorting.{head_sort_of}
use Rattle.lotos_base.specs.Equation.{Variable, Equation, Data}
use Rattle.printed_texts.specs.TermText.{sort_text}
use Rattle.printed_texts.specs.BehaviourText.{Naming}
use Rattle.flat_text.specs.DataText.{sort_if_any}
use Rattle.flat_text.specs.EquationNames.{renamed_variables}
use Rattle.session_laws.specs.PrintedWords.{Word, a_word, name_word, operation_word, commas_words, declarations_words, term_words}

-- ---- Sorts and operations

abbrev pub sort_list_words : List Sort → List Word
sort_list_words sorts = commas_words (map (λ (s : Sort). name_word s.name ∷ []) sorts)

-- an operation: its name, between underscores where it stands between its arguments
abbrev pub operator_words : Form → List ℕ → List Word
operator_words prefix_form name = operation_word name ∷ []
operator_words infix_form name = a_word UNDERSCORE (codes "_") ∷ operation_word name ∷ a_word UNDERSCORE (codes "_") ∷ []

abbrev pub argument_words : Signature → List ℕ → List Word
argument_words signature sorts = commas_words (map (λ (sort : ℕ). name_word (sort_text signature sort) ∷ []) sorts)

-- its sorts: those of its arguments, and that of its result
abbrev pub profile_words : Signature → List ℕ → ℕ → List Word
profile_words signature arguments result =
    a_word COLON (codes ":")
    ∷ (argument_words signature arguments ++ a_word ARROW (codes "->") ∷ name_word (sort_text signature result) ∷ [])

abbrev pub operation_line_words : Signature → Operation → List Word
operation_line_words signature operation =
    operator_words operation.form operation.name ++ profile_words signature operation.arguments operation.result

abbrev pub operations_words : Signature → List Operation → List Word
operations_words signature [] = []
operations_words signature (operation ∷ operations) =
    a_word OPNS (codes "opns") ∷ flat_map (operation_line_words signature) (operation ∷ operations)

-- ---- Equations

-- the names of data alone: no gates and no processes
abbrev pub data_naming : Signature → Naming
data_naming signature = record { signature = signature; gates = []; processes = []; truth = None }

-- the variables of an equation, if it has some
abbrev pub for_all_words : Signature → List Variable → List Word
for_all_words signature [] = []
for_all_words signature (x ∷ variables) =
    a_word FORALL (codes "forall") ∷ declarations_words (data_naming signature) (x ∷ variables)

abbrev pub sides_of_words : Signature → List Variable → Equation → List Word
sides_of_words signature variables equation =
    term_words signature variables equation.left ++ a_word EQUALS (codes "=") ∷ term_words signature variables equation.right

abbrev pub equation_line_words : Signature → Equation → List Word
equation_line_words signature equation = let variables : List Variable = renamed_variables signature equation in (
    a_word OFSORT (codes "ofsort") ∷ name_word (sort_if_any signature (head_sort_of signature equation.left))
    ∷ (for_all_words signature variables
    ++ (sides_of_words signature variables equation ++ a_word SEMICOLON (codes ";") ∷ [])))

abbrev pub equations_words : Signature → List Equation → List Word
equations_words signature [] = []
equations_words signature (equation ∷ equations) =
    a_word EQNS (codes "eqns") ∷ flat_map (equation_line_words signature) (equation ∷ equations)

-- ---- The type

abbrev pub sections_words : Data → List Sort → List Word
sections_words data_ sorts =
    a_word SORTS (codes "sorts")
    ∷ (sort_list_words sorts
    ++ (operations_words data_.signature data_.signature.operations ++ equations_words data_.signature data_.equations))

-- over these sorts: none without sorts
abbrev pub type_words_over : Data → List Sort → List Word
type_words_over data_ [] = []
type_words_over data_ (sort ∷ sorts) =
    a_word TYPE (codes "type") ∷ name_word (codes "Data") ∷ a_word IS (codes "is")
    ∷ (sections_words data_ (sort ∷ sorts) ++ a_word ENDTYPE (codes "endtype") ∷ [])

abbrev pub type_words : Data → List Word
type_words data_ = type_words_over data_ data_.signature.sorts
