-- What stands behind the place of a refusal, behind a blank, if anything does.
use Rattle.std.specs.Prelude.{ℕ, List, [], ◌∷◌, ◌++◌, map, Option, None, Some, slice_get, codes, decimal}
use Rattle.lotos_base.specs.Equation.{Place, Equation, Data}
use Rattle.lotos_base.specs.Signature.{Signature}
use Rattle.lotos_base.specs.Term.{Term}
use Rattle.behaviour_semantics.specs.Behaviour.{Process, Specification}
use Rattle.type_definitions.specs.MentionFaults.{MentionFault, double_type, unknown_type, type_cycle}
use Rattle.type_definitions.specs.TypeFault.{TypeFault, double_sort, unknown_sort, double_operation, unknown_operation as no_operation, not_formal, missing_actual, premised, unknown_name, no_reading, two_readings, too_large}
use Rattle.scope_parts.specs.ScopeFault as scope
use Rattle.printed_texts.specs.FunctionalityText.{functionality_text}
use Rattle.printed_texts.specs.TermText.{term_text}
use Rattle.refusal_lines.specs.Refusal.{Refusal, too_long, bad_byte, open_comment, wrong_syntax, too_deep, too_many_libraries, wrong_names, wrong_types, wrong_scopes, mismatch, unguarded, unknown_operation, twice_listed, bad_status, unorientable, unjoined, start_values, start_term}
use Rattle.refusal_lines.specs.TextNames.{TextNames, place_text}
use Rattle.refusal_lines.specs.RefusalPlace.{place_of_equation}

-- a name, and a name that may lack
abbrev pub behind_blank : List ℕ → List ℕ
behind_blank text = codes " " ++ text

abbrev pub name_detail : Option (List ℕ) → List ℕ
name_detail None = []
name_detail (Some name) = behind_blank name

-- two counts
abbrev pub counts_text : ℕ → ℕ → List ℕ
counts_text wanted given = codes " wanted " ++ decimal wanted ++ codes " given " ++ decimal given

-- of the names of types
abbrev pub detail_of_names : MentionFault → List ℕ
detail_of_names (double_type place name) = behind_blank name
detail_of_names (unknown_type place name) = behind_blank name
detail_of_names (type_cycle place name) = behind_blank name

-- of types
abbrev pub detail_of_types : TypeFault → List ℕ
detail_of_types (double_sort place name) = behind_blank name
detail_of_types (unknown_sort place name) = name_detail name
detail_of_types (double_operation place name) = behind_blank name
detail_of_types (no_operation place name) = behind_blank name
detail_of_types (not_formal place name) = behind_blank name
detail_of_types (missing_actual place name) = behind_blank name
detail_of_types (premised place) = []
detail_of_types (unknown_name place) = []
detail_of_types (no_reading place) = []
detail_of_types (two_readings place) = []
detail_of_types (too_large place name) = behind_blank name

-- of definitions and behaviours
abbrev pub detail_of_scopes : scope.ScopeFault → List ℕ
detail_of_scopes (scope.unknown_gate place name) = behind_blank name
detail_of_scopes (scope.unknown_process place name) = behind_blank name
detail_of_scopes (scope.unknown_sort place name) = behind_blank name
detail_of_scopes (scope.double_name place name) = behind_blank name
detail_of_scopes (scope.gate_count place wanted given) = counts_text wanted given
detail_of_scopes (scope.value_count place wanted given) = counts_text wanted given
detail_of_scopes (scope.no_bool place) = []
detail_of_scopes (scope.refused_term refusal) = []

-- two functionalities
abbrev pub mismatch_detail : Option Data → Option (List ℕ) → Option (List ℕ) → List ℕ
mismatch_detail None left right = []
mismatch_detail (Some data_) left right =
    codes " " ++ functionality_text data_.signature left ++ codes " and " ++ functionality_text data_.signature right

-- a cycle of processes: each with an arrow behind it, and the first one again
abbrev pub process_text : Option Process → List ℕ
process_text None = []
process_text (Some process) = process.name

abbrev pub process_text_at : Option Specification → ℕ → List ℕ
process_text_at None number = []
process_text_at (Some spec) number = process_text (slice_get spec.processes number)

abbrev pub process_steps_text : Option Specification → List ℕ → List ℕ
process_steps_text spec [] = []
process_steps_text spec (process ∷ processes) = process_text_at spec process ++ codes " -> " ++ process_steps_text spec processes

abbrev pub cycle_detail : Option Specification → List ℕ → List ℕ
cycle_detail spec [] = []
cycle_detail spec (process ∷ processes) = codes " " ++ process_steps_text spec (process ∷ processes) ++ process_text_at spec process

-- an equation, with its own names of variables
abbrev pub sides_text : Signature → Equation → List ℕ
sides_text signature equation =
    term_text signature equation.variables equation.left ++ codes " = " ++ term_text signature equation.variables equation.right

abbrev pub detailed_equation_text : Signature → Option Equation → List ℕ
detailed_equation_text signature None = []
detailed_equation_text signature (Some equation) = codes " " ++ sides_text signature equation

abbrev pub equation_detail : Option Data → ℕ → List ℕ
equation_detail None number = []
equation_detail (Some data_) number = detailed_equation_text data_.signature (slice_get data_.equations number)

-- a critical pair: the place of the equation of its second rule, its peak, and the two chosen forms of its sides
abbrev pub with_place : TextNames → Option Place → List ℕ
with_place names None = []
with_place names (Some place) = codes " with " ++ place_text names place ++ codes ":"

abbrev pub forms_text : Signature → Term → Term → Term → List ℕ
forms_text signature peak left right =
    codes " " ++ term_text signature [] peak ++ codes " gives " ++ term_text signature [] left ++ codes " and "
    ++ term_text signature [] right

abbrev pub pair_detail : TextNames → Option Data → ℕ → Term → Term → Term → List ℕ
pair_detail names None second peak left right = []
pair_detail names (Some data_) second peak left right =
    with_place names (place_of_equation (Some data_) second) ++ forms_text data_.signature peak left right

-- of all
abbrev pub detail_of : TextNames → Option Data → Option Specification → Refusal → List ℕ
detail_of names data_ spec (bad_byte place) = []
detail_of names data_ spec (open_comment place) = []
detail_of names data_ spec (too_long text) = []
detail_of names data_ spec (wrong_syntax place) = []
detail_of names data_ spec (too_deep place) = []
detail_of names data_ spec (too_many_libraries place name) = behind_blank name
detail_of names data_ spec (wrong_names fault) = detail_of_names fault
detail_of names data_ spec (wrong_types fault) = detail_of_types fault
detail_of names data_ spec (wrong_scopes fault) = detail_of_scopes fault
detail_of names data_ spec (mismatch place left right) = mismatch_detail data_ left right
detail_of names data_ spec (unguarded place process cycle) = cycle_detail spec cycle
detail_of names data_ spec (unknown_operation place name) = behind_blank name
detail_of names data_ spec (twice_listed place name) = behind_blank name
detail_of names data_ spec (bad_status place name) = behind_blank name
detail_of names data_ spec (unorientable equation) = equation_detail data_ equation
detail_of names data_ spec (unjoined first second peak left right) = pair_detail names data_ second peak left right
detail_of names data_ spec (start_values wanted given) = counts_text wanted given
detail_of names data_ spec (start_term refusal) = []
