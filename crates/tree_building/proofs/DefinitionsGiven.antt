-- Each row of this subject gives a meaning, where its parts have theirs: definitions.
use Rattle.std.proofs.Common.{ℕ, List, [], ◌∷◌, refl, ap}
use Rattle.std.specs.Prelude.{option_and_then}
use Rattle.ll_engine.specs.Values.{nothing, token, part}
use Rattle.lotos_lexer.specs.declared.kinds.TheConstants as kind
use Rattle.lotos_rows.specs.Row.{row_of}
use Rattle.lotos_rows.specs.DefinitionsRows.{definitions_rows}
use Rattle.lotos_rows.specs.declared.behaviours.TheConstants as behaviours
use Rattle.lotos_rows.specs.declared.definitions.TheConstants as definitions
use Rattle.lotos_rows.specs.declared.names.TheConstants as names
use Rattle.lotos_rows.specs.declared.types.TheConstants as types
use Rattle.lotos_rows.specs.declared.definitions.DefinitionsRow.TheVariants as row
use Rattle.lotos_rows.specs.declared.row_names.RowName.TheVariants.{Definitions}
use Rattle.ll_engine.specs.declared.symbol.Symbol.TheVariants.{Token as Tok, Part}
use Rattle.tree_building.specs.PartSentences.{as_one}
use Rattle.tree_building.specs.Sentences.{GivesMeaning}
use Rattle.lotos_base.proofs.Each.{Each}
use Rattle.tree_building.proofs.FlatLists.{inside_of}

module _ (text : List ℕ) where
  heading_gives : GivesMeaning text
      (row_of (Definitions row.Heading) definitions.HEADING
      (Part names.NAME ∷ Part names.OPTIONAL_GATES ∷ Part definitions.PARAMETERS ∷ Tok kind.COLON ∷ Part definitions.FUNCTIONALITY ∷ []))
  heading_gives _ _ (part (as_one _) (part (as_one _) (part (as_one _) (token _ _ (part (as_one _) nothing))))) = (_, refl)

  no_parameters_gives : GivesMeaning text (row_of (Definitions row.NoParameters) definitions.PARAMETERS [])
  no_parameters_gives _ _ nothing = (_, refl)

  parameters_gives : GivesMeaning text
      (row_of (Definitions row.Parameters) definitions.PARAMETERS
      (Tok kind.LEFT_PARENTHESIS ∷ Part names.VARIABLES ∷ Tok kind.RIGHT_PARENTHESIS ∷ []))
  parameters_gives _ _ (token _ _ (part (as_one _) (token _ _ nothing))) = (_, refl)

  no_exit_gives : GivesMeaning text (row_of (Definitions row.NoExit) definitions.FUNCTIONALITY (Tok kind.NOEXIT ∷ []))
  no_exit_gives _ _ (token _ _ nothing) = (_, refl)

  exit_functionality_gives : GivesMeaning text
      (row_of (Definitions row.ExitFunctionality) definitions.FUNCTIONALITY (Tok kind.EXIT ∷ Part definitions.EXIT_SORTS ∷ []))
  exit_functionality_gives _ _ (token _ _ (part (as_one _) nothing)) = (_, refl)

  no_exit_sorts_gives : GivesMeaning text (row_of (Definitions row.NoExitSorts) definitions.EXIT_SORTS [])
  no_exit_sorts_gives _ _ nothing = (_, refl)

  exit_sorts_gives : GivesMeaning text
      (row_of (Definitions row.ExitSorts) definitions.EXIT_SORTS
      (Tok kind.LEFT_PARENTHESIS ∷ Part names.NAMES ∷ Tok kind.RIGHT_PARENTHESIS ∷ []))
  exit_sorts_gives _ _ (token _ _ (part (as_one _) (token _ _ nothing))) = (_, refl)

  no_where_gives : GivesMeaning text (row_of (Definitions row.NoWhere) definitions.WHERE [])
  no_where_gives _ _ nothing = (_, refl)

  where_gives : GivesMeaning text (row_of (Definitions row.Where) definitions.WHERE (Tok kind.WHERE ∷ Part definitions.INNER ∷ []))
  where_gives _ _ (token _ _ (part (as_one _) nothing)) = (_, refl)

  nothing_inner_gives : GivesMeaning text (row_of (Definitions row.NothingInner) definitions.INNER [])
  nothing_inner_gives _ _ nothing = (_, refl)

  inner_item_gives : GivesMeaning text
      (row_of (Definitions row.InnerItem) definitions.INNER (Part types.ITEM ∷ Part definitions.INNER ∷ []))
  inner_item_gives _ _ (part (as_one _) (part (as_one _) nothing)) = (_, refl)

  inner_process_gives : GivesMeaning text
      (row_of (Definitions row.InnerProcess) definitions.INNER (Part definitions.PROCESS ∷ Part definitions.INNER ∷ []))
  inner_process_gives _ _ (part (as_one _) (part (as_one _) nothing)) = (_, refl)

  process_gives : GivesMeaning text
      (row_of (Definitions row.Process) definitions.PROCESS
      (Tok kind.PROCESS ∷ Part definitions.HEADING ∷ Tok kind.DEFINITION ∷ Part behaviours.BEHAVIOUR ∷ Part definitions.WHERE ∷ Tok
      kind.ENDPROC ∷ []))
  process_gives _ _ (token _ _ (part (as_one _) (token _ _ (part (as_one p) (part (as_one _) (token _ _ nothing)))))) =
      (_, ap (option_and_then _) (inside_of text p).1)

  pub definitions_give : Each (GivesMeaning text) definitions_rows
  definitions_give = (
    heading_gives,
    (
      no_parameters_gives,
      (
        parameters_gives,
        (
          no_exit_gives,
          (
            exit_functionality_gives,
            (
              no_exit_sorts_gives,
              (
                exit_sorts_gives,
                (no_where_gives, (where_gives, (nothing_inner_gives, (inner_item_gives, (inner_process_gives, (process_gives, tt)))))),
              ),
            ),
          ),
        ),
      ),
    ),
  )
