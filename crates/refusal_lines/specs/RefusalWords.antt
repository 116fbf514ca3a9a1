-- The number and the name of each refusal.
use Rattle.std.specs.Prelude.{ℕ, List, codes}
use Rattle.sort_terms.specs.ReadingOutcome as reading
use Rattle.type_definitions.specs.MentionFaults.{MentionFault, double_type, unknown_type, type_cycle}
use Rattle.type_definitions.specs.TypeFault.{TypeFault, double_sort, unknown_sort, double_operation, unknown_operation as no_operation, not_formal, missing_actual, premised, unknown_name, no_reading, two_readings, too_large}
use Rattle.scope_parts.specs.ScopeFault as scope
use Rattle.refusal_lines.specs.Refusal.{Refusal, too_long, bad_byte, open_comment, wrong_syntax, too_deep, too_many_libraries, wrong_names, wrong_types, wrong_scopes, mismatch, unguarded, unknown_operation, twice_listed, bad_status, unorientable, unjoined, start_values, start_term}

-- of the names of types
abbrev pub words_of_names : MentionFault → List ℕ
words_of_names (double_type place name) = codes "201 DoubleType"
words_of_names (unknown_type place name) = codes "202 UnknownType"
words_of_names (type_cycle place name) = codes "203 TypeCycle"

-- of types
abbrev pub words_of_types : TypeFault → List ℕ
words_of_types (double_sort place name) = codes "204 DoubleSort"
words_of_types (unknown_sort place name) = codes "205 UnknownSort"
words_of_types (double_operation place name) = codes "206 DoubleOperation"
words_of_types (no_operation place name) = codes "207 UnknownOperation"
words_of_types (not_formal place name) = codes "208 NotFormal"
words_of_types (missing_actual place name) = codes "209 MissingActual"
words_of_types (premised place) = codes "210 Premised"
words_of_types (unknown_name place) = codes "211 UnknownName"
words_of_types (no_reading place) = codes "212 NoReading"
words_of_types (two_readings place) = codes "213 TwoReadings"
words_of_types (too_large place name) = codes "214 TooLarge"

-- of a term
abbrev pub words_of_term_refusal : reading.ReadingRefusal → List ℕ
words_of_term_refusal (reading.unknown_name place) = codes "211 UnknownName"
words_of_term_refusal (reading.unknown_sort place) = codes "205 UnknownSort"
words_of_term_refusal (reading.no_reading place) = codes "212 NoReading"
words_of_term_refusal (reading.two_readings place) = codes "213 TwoReadings"

-- of definitions and behaviours
abbrev pub words_of_scopes : scope.ScopeFault → List ℕ
words_of_scopes (scope.unknown_gate place name) = codes "301 UnknownGate"
words_of_scopes (scope.unknown_process place name) = codes "302 UnknownProcess"
words_of_scopes (scope.unknown_sort place name) = codes "205 UnknownSort"
words_of_scopes (scope.double_name place name) = codes "303 DoubleName"
words_of_scopes (scope.gate_count place wanted given) = codes "304 GateCount"
words_of_scopes (scope.value_count place wanted given) = codes "305 ValueCount"
words_of_scopes (scope.no_bool place) = codes "306 NoBool"
words_of_scopes (scope.refused_term refusal) = words_of_term_refusal refusal

-- of all
abbrev pub words_of_refusal : Refusal → List ℕ
words_of_refusal (bad_byte place) = codes "101 BadByte"
words_of_refusal (open_comment place) = codes "102 OpenComment"
words_of_refusal (too_long text) = codes "103 TooLong"
words_of_refusal (wrong_syntax place) = codes "104 Syntax"
words_of_refusal (too_deep place) = codes "105 TooDeep"
words_of_refusal (too_many_libraries place name) = codes "106 Libraries"
words_of_refusal (wrong_names fault) = words_of_names fault
words_of_refusal (wrong_types fault) = words_of_types fault
words_of_refusal (wrong_scopes fault) = words_of_scopes fault
words_of_refusal (mismatch place left right) = codes "401 Mismatch"
words_of_refusal (unguarded place process cycle) = codes "402 Unguarded"
words_of_refusal (unknown_operation place name) = codes "501 OrderOperation"
words_of_refusal (twice_listed place name) = codes "502 TwiceListed"
words_of_refusal (bad_status place name) = codes "503 BadStatus"
words_of_refusal (unorientable equation) = codes "601 Unorientable"
words_of_refusal (unjoined first second peak left right) = codes "602 Unjoined"
words_of_refusal (start_values wanted given) = codes "701 StartValues"
words_of_refusal (start_term refusal) = words_of_term_refusal refusal
