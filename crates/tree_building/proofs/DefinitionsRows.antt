-- The rows of headings, processes and what a `where` declares keep what their parts are.
use Rattle.std.proofs.Common.{ℕ, List, [], ◌∷◌, refl}
use Rattle.std.proofs.lemmas.List.{append-nil}
use Rattle.ll_engine.specs.Values.{nothing, token, part}
use Rattle.lotos_lexer.specs.declared.kinds.TheConstants as kind
use Rattle.lotos_rows.specs.Row.{row_of}
use Rattle.lotos_rows.specs.declared.definitions.TheConstants as definitions
use Rattle.lotos_rows.specs.declared.names.TheConstants as names
use Rattle.lotos_rows.specs.declared.types.TheConstants as types
use Rattle.lotos_rows.specs.declared.behaviours.TheConstants as behaviours
use Rattle.lotos_rows.specs.declared.definitions.DefinitionsRow.TheVariants as row
use Rattle.lotos_rows.specs.declared.row_names.RowName.TheVariants.{Definitions}
use Rattle.ll_engine.specs.declared.symbol.Symbol.TheVariants.{Token as Tok, Part}
use Rattle.tree_building.specs.PartSentences.{as_one}
use Rattle.tree_building.specs.Sentences.{KeepsParts}
use Rattle.lotos_rows.specs.Words.{left_out, there, between}
use Rattle.lotos_rows.specs.Names as names_family
use Rattle.lotos_rows.specs.Definitions as family
use Rattle.lotos_rows.specs.DefinitionsRows.{definitions_rows}
use Rattle.lotos_base.proofs.Each.{Each}
use Rattle.tree_building.proofs.BehavioursRows.{with_inside}
use Rattle.tree_building.proofs.Lists.{is_of, shown}

module _ (text : List ℕ) where
  heading_row : KeepsParts text
      (row_of (Definitions row.Heading) definitions.HEADING
      (Part names.NAME ∷ Part names.OPTIONAL_GATES ∷ Part definitions.PARAMETERS ∷ Tok kind.COLON ∷ Part definitions.FUNCTIONALITY ∷ []))
  heading_row _ _ value
      (part (as_one (names_family.a_name i)) (part (as_one p2) (part (as_one p3) (token t1 i1 (part (as_one p4) nothing))))) given =
      shown _ _ given (family.heading i p2 p3 (is_of t1 i1) p4) (simp (append-nil) refl)

  no_parameters_row : KeepsParts text (row_of (Definitions row.NoParameters) definitions.PARAMETERS [])
  no_parameters_row _ _ value nothing given =
      shown _ _ given left_out refl

  parameters_row : KeepsParts text
      (row_of (Definitions row.Parameters) definitions.PARAMETERS
      (Tok kind.LEFT_PARENTHESIS ∷ Part names.VARIABLES ∷ Tok kind.RIGHT_PARENTHESIS ∷ []))
  parameters_row _ _ value (token t1 i1 (part (as_one p1) (token t2 i2 nothing))) given =
      shown _ _ given (there (between (is_of t1 i1) p1 (is_of t2 i2))) refl

  no_exit_row : KeepsParts text (row_of (Definitions row.NoExit) definitions.FUNCTIONALITY (Tok kind.NOEXIT ∷ []))
  no_exit_row _ _ value (token t1 i1 nothing) given =
      shown _ _ given (family.no_exit (is_of t1 i1)) refl

  exit_functionality_row : KeepsParts text
      (row_of (Definitions row.ExitFunctionality) definitions.FUNCTIONALITY (Tok kind.EXIT ∷ Part definitions.EXIT_SORTS ∷ []))
  exit_functionality_row _ _ value (token t1 i1 (part (as_one p1) nothing)) given =
      shown _ _ given (family.exit_of (is_of t1 i1) p1) (simp (append-nil) refl)

  no_exit_sorts_row : KeepsParts text (row_of (Definitions row.NoExitSorts) definitions.EXIT_SORTS [])
  no_exit_sorts_row _ _ value nothing given =
      shown _ _ given left_out refl

  exit_sorts_row : KeepsParts text
      (row_of (Definitions row.ExitSorts) definitions.EXIT_SORTS
      (Tok kind.LEFT_PARENTHESIS ∷ Part names.NAMES ∷ Tok kind.RIGHT_PARENTHESIS ∷ []))
  exit_sorts_row _ _ value (token t1 i1 (part (as_one p1) (token t2 i2 nothing))) given =
      shown _ _ given (there (between (is_of t1 i1) p1 (is_of t2 i2))) refl

  no_where_row : KeepsParts text (row_of (Definitions row.NoWhere) definitions.WHERE [])
  no_where_row _ _ value nothing given =
      shown _ _ given family.no_where refl

  where_row : KeepsParts text (row_of (Definitions row.Where) definitions.WHERE (Tok kind.WHERE ∷ Part definitions.INNER ∷ []))
  where_row _ _ value (token t1 i1 (part (as_one p1) nothing)) given =
      shown _ _ given (family.a_where (is_of t1 i1) p1) (simp (append-nil) refl)

  nothing_inner_row : KeepsParts text (row_of (Definitions row.NothingInner) definitions.INNER [])
  nothing_inner_row _ _ value nothing given =
      shown _ _ given family.no_more_inner refl

  inner_item_row : KeepsParts text (row_of (Definitions row.InnerItem) definitions.INNER (Part types.ITEM ∷ Part definitions.INNER ∷ []))
  inner_item_row _ _ value (part (as_one p1) (part (as_one p2) nothing)) given =
      shown _ _ given (family.item_then p1 p2) (simp (append-nil) refl)

  inner_process_row : KeepsParts text
      (row_of (Definitions row.InnerProcess) definitions.INNER (Part definitions.PROCESS ∷ Part definitions.INNER ∷ []))
  inner_process_row _ _ value (part (as_one p1) (part (as_one p2) nothing)) given =
      shown _ _ given (family.process_then p1 p2) (simp (append-nil) refl)

  process_row : KeepsParts text
      (row_of (Definitions row.Process) definitions.PROCESS
      (Tok kind.PROCESS ∷ Part definitions.HEADING ∷ Tok kind.DEFINITION ∷ Part behaviours.BEHAVIOUR ∷ Part definitions.WHERE ∷ Tok
      kind.ENDPROC ∷ []))
  process_row _ _ value (token t1 i1 (part (as_one p1) (token t2 i2 (part (as_one p2) (part (as_one p3) (token t3 i3 nothing)))))) given =
      with_inside text _ p2 given
      (λ inside is same. shown _ _ same (family.a_process (is_of t1 i1) p1 (is_of t2 i2) is p3 (is_of t3 i3)) refl)

  pub definitions_keep : Each (KeepsParts text) definitions_rows
  definitions_keep = (
    heading_row,
    (
      no_parameters_row,
      (
        parameters_row,
        (
          no_exit_row,
          (
            exit_functionality_row,
            (
              no_exit_sorts_row,
              (exit_sorts_row, (no_where_row, (where_row, (nothing_inner_row, (inner_item_row, (inner_process_row, (process_row, tt))))))),
            ),
          ),
        ),
      ),
    ),
  )
