-- Where each refusal stands: that of an equation that cannot be oriented at the equation, that of a critical pair at the
-- equation of its first rule, that of a number of start values nowhere.
use Rattle.std.specs.Prelude.{ℕ, Option, None, Some, option_map, slice_get}
use Rattle.lotos_base.specs.Equation.{Place, Equation, Data}
use Rattle.type_definitions.specs.MentionFaults.{MentionFault, double_type, unknown_type, type_cycle}
use Rattle.type_definitions.specs.TypeFault.{TypeFault, double_sort, unknown_sort, double_operation, unknown_operation as no_operation, not_formal, missing_actual, premised, unknown_name, no_reading, two_readings, too_large}
use Rattle.scope_parts.specs.ScopeFault.{fault_place, refusal_place}
use Rattle.refusal_lines.specs.Refusal.{Refusal, too_long, bad_byte, open_comment, wrong_syntax, too_deep, too_many_libraries, wrong_names, wrong_types, wrong_scopes, mismatch, unguarded, unknown_operation, twice_listed, bad_status, unorientable, unjoined, start_values, start_term}

-- where a text begins
abbrev pub beginning : ℕ → Place
beginning text = record { text = text; line = 1; column = 1 }

-- of the names of types
abbrev pub place_of_names : MentionFault → Place
place_of_names (double_type place name) = place
place_of_names (unknown_type place name) = place
place_of_names (type_cycle place name) = place

-- of types
abbrev pub place_of_types : TypeFault → Place
place_of_types (double_sort place name) = place
place_of_types (unknown_sort place name) = place
place_of_types (double_operation place name) = place
place_of_types (no_operation place name) = place
place_of_types (not_formal place name) = place
place_of_types (missing_actual place name) = place
place_of_types (premised place) = place
place_of_types (unknown_name place) = place
place_of_types (no_reading place) = place
place_of_types (two_readings place) = place
place_of_types (too_large place name) = place

-- of the equation with the number
abbrev pub place_in : Equation → Place
place_in equation = equation.place

abbrev pub place_of_equation : Option Data → ℕ → Option Place
place_of_equation None number = None
place_of_equation (Some data_) number = option_map place_in (slice_get data_.equations number)

-- of all
abbrev pub place_of_refusal : Option Data → Refusal → Option Place
place_of_refusal known (bad_byte place) = Some place
place_of_refusal known (open_comment place) = Some place
place_of_refusal known (too_long text) = Some (beginning text)
place_of_refusal known (wrong_syntax place) = Some place
place_of_refusal known (too_deep place) = Some place
place_of_refusal known (too_many_libraries place name) = Some place
place_of_refusal known (wrong_names fault) = Some (place_of_names fault)
place_of_refusal known (wrong_types fault) = Some (place_of_types fault)
place_of_refusal known (wrong_scopes fault) = Some (fault_place fault)
place_of_refusal known (mismatch place left right) = Some place
place_of_refusal known (unguarded place process cycle) = Some place
place_of_refusal known (unknown_operation place name) = Some place
place_of_refusal known (twice_listed place name) = Some place
place_of_refusal known (bad_status place name) = Some place
place_of_refusal known (unorientable equation) = place_of_equation known equation
place_of_refusal known (unjoined first second peak left right) = place_of_equation known first
place_of_refusal known (start_values wanted given) = None
place_of_refusal known (start_term refusal) = Some (refusal_place refusal)
