-- The plain refusal that a fault of the code tells; None for want of memory, which no refusal holds.
use Rattle.std.specs.Prelude.{ℕ, map, Option, None, Some, option_map}
use Rattle.lotos_base.specs.Name.{spelling}
use Rattle.lotos_base.specs.WrittenView.{text_place_of}
use Rattle.sort_terms.specs.EquationView.{data_of}
use Rattle.sort_terms.specs.ReadingOutcome as reading
use Rattle.sort_terms.specs.SortedView.{term_in}
use Rattle.sort_terms.specs.declared.sort_faults.SortFault.{SortFault}
use Rattle.sort_terms.specs.declared.sort_faults.SortFault.TheVariants as sort
use Rattle.lotos_grammar.specs.HandedOn.{ReadFault}
use Rattle.lotos_grammar.specs.HandedOn.read_faults as read
use Rattle.type_definitions.specs.MentionFaults.{double_type, unknown_type, type_cycle}
use Rattle.type_definitions.specs.TypeFault as plain_type
use Rattle.type_definitions.specs.declared.type_faults.TypeFault.{TypeFault}
use Rattle.type_definitions.specs.declared.type_faults.TypeFault.TheVariants as type
use Rattle.scope_parts.specs.FaultView.{Told, nothing_told, never_told, told, told_by}
use Rattle.behaviour_tree.specs.DefinitionView.{functionality_of, specification_of}
use Rattle.process_checks.specs.declared.mismatches.ExitFault.{ExitFault}
use Rattle.process_checks.specs.declared.mismatches.ExitFault.TheVariants as exit
use Rattle.process_checks.specs.declared.rank_table.RankFault.{RankFault}
use Rattle.process_checks.specs.declared.rank_table.RankFault.TheVariants as rank
use Rattle.equation_book.specs.declared.book_fault.BookFault.{BookFault}
use Rattle.equation_book.specs.declared.book_fault.BookFault.TheVariants as book
use Rattle.refusal_lines.specs.Refusal as plain
use Rattle.refusal_lines.specs.Refusal.{Refusal, too_long, bad_byte, open_comment, wrong_syntax, too_deep, too_many_libraries, wrong_names, wrong_types, wrong_scopes, mismatch, unguarded, unknown_operation, twice_listed, bad_status, unorientable, unjoined, start_values, start_term}
use Rattle.refusal_lines.specs.declared.spec_fault.SpecFault.{SpecFault}
use Rattle.refusal_lines.specs.declared.spec_fault.SpecFault.TheVariants as fault
use Rattle.refusal_lines.specs.declared.refused.Refused.{Refused}

-- the text of the number is not read
abbrev pub told_of_text : ℕ → ReadFault → Option Refusal
told_of_text text read.TooLong = Some (too_long text)
told_of_text text (read.BadByte place) = Some (bad_byte (text_place_of place))
told_of_text text (read.OpenComment place) = Some (open_comment (text_place_of place))
told_of_text text (read.Syntax place) = Some (wrong_syntax (text_place_of place))
told_of_text text (read.TooDeep place) = Some (too_deep (text_place_of place))
told_of_text text read.NoMemory = None

-- the types are refused
abbrev pub told_of_type_term : SortFault → Option Refusal
told_of_type_term (sort.UnknownName place) = Some (wrong_types (plain_type.unknown_name (text_place_of place)))
told_of_type_term (sort.UnknownSort place) = Some (wrong_types (plain_type.unknown_sort (text_place_of place) None))
told_of_type_term (sort.NoReading place) = Some (wrong_types (plain_type.no_reading (text_place_of place)))
told_of_type_term (sort.TwoReadings place) = Some (wrong_types (plain_type.two_readings (text_place_of place)))
told_of_type_term sort.NoMemory = None

abbrev pub told_of_types : TypeFault → Option Refusal
told_of_types (type.DoubleType place name) = Some (wrong_names (double_type (text_place_of place) (spelling name)))
told_of_types (type.UnknownType place name) = Some (wrong_names (unknown_type (text_place_of place) (spelling name)))
told_of_types (type.TypeCycle place name) = Some (wrong_names (type_cycle (text_place_of place) (spelling name)))
told_of_types (type.DoubleSort place name) = Some (wrong_types (plain_type.double_sort (text_place_of place) (spelling name)))
told_of_types (type.UnknownSort place name) =
    Some (wrong_types (plain_type.unknown_sort (text_place_of place) (Some (spelling name))))
told_of_types (type.DoubleOperation place name) =
    Some (wrong_types (plain_type.double_operation (text_place_of place) (spelling name)))
told_of_types (type.UnknownOperation place name) =
    Some (wrong_types (plain_type.unknown_operation (text_place_of place) (spelling name)))
told_of_types (type.NotFormal place name) = Some (wrong_types (plain_type.not_formal (text_place_of place) (spelling name)))
told_of_types (type.MissingActual place name) = Some (wrong_types (plain_type.missing_actual (text_place_of place) (spelling name)))
told_of_types (type.TooLarge place name) = Some (wrong_types (plain_type.too_large (text_place_of place) (spelling name)))
told_of_types (type.Premised place) = Some (wrong_types (plain_type.premised (text_place_of place)))
told_of_types (type.Term term) = told_of_type_term term
told_of_types type.NoMemory = None

-- definitions and behaviours are refused
abbrev pub told_of_scopes : Told → Option Refusal
told_of_scopes nothing_told = None
told_of_scopes never_told = None
told_of_scopes (told found) = Some (wrong_scopes found)

-- functionalities disagree
abbrev pub told_of_exits : ExitFault → Option Refusal
told_of_exits (exit.Mismatch place left right) =
    Some (mismatch (text_place_of place) (functionality_of left) (functionality_of right))
told_of_exits exit.NoMemory = None

-- calls are unguarded
abbrev pub told_of_ranks : RankFault → Option Refusal
told_of_ranks (rank.Unguarded place process cycle) = Some (unguarded (text_place_of place) process cycle.items)
told_of_ranks rank.NoMemory = None

-- the data make no book
abbrev pub told_of_book : BookFault → Option Refusal
told_of_book (book.UnknownOperation place name) = Some (unknown_operation (text_place_of place) (spelling name))
told_of_book (book.TwiceListed place name) = Some (twice_listed (text_place_of place) (spelling name))
told_of_book (book.BadStatus place name) = Some (bad_status (text_place_of place) (spelling name))
told_of_book (book.Unorientable equation) = Some (unorientable equation)
told_of_book (book.Unjoined first second peak left right) =
    Some (unjoined first second (term_in peak) (term_in left) (term_in right))
told_of_book book.NoMemory = None

-- a start value is refused
abbrev pub told_of_start : SortFault → Option Refusal
told_of_start (sort.UnknownName place) = Some (start_term (reading.unknown_name (text_place_of place)))
told_of_start (sort.UnknownSort place) = Some (start_term (reading.unknown_sort (text_place_of place)))
told_of_start (sort.NoReading place) = Some (start_term (reading.no_reading (text_place_of place)))
told_of_start (sort.TwoReadings place) = Some (start_term (reading.two_readings (text_place_of place)))
told_of_start sort.NoMemory = None

-- all of them
abbrev pub refusal_of : SpecFault → Option Refusal
refusal_of (fault.Read text found) = told_of_text text found
refusal_of (fault.Libraries place name) = Some (too_many_libraries (text_place_of place) (spelling name))
refusal_of (fault.Types found) = told_of_types found
refusal_of (fault.Scope found) = told_of_scopes (told_by found)
refusal_of (fault.Exit found) = told_of_exits found
refusal_of (fault.Rank found) = told_of_ranks found
refusal_of (fault.Book found) = told_of_book found
refusal_of (fault.StartValues wanted given) = Some (start_values wanted given)
refusal_of (fault.StartTerm found) = told_of_start found

-- with what is known by then
abbrev pub with_known : Refused → Refusal → plain.Refused
with_known refused refusal = record {
  refusal = refusal;
  libraries = map spelling refused.libraries.items;
  data_ = option_map data_of refused.flat;
  spec = option_map specification_of refused.spec;
}

abbrev pub refused_of : Refused → Option plain.Refused
refused_of refused = option_map (with_known refused) (refusal_of refused.fault)
