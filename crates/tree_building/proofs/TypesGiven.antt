-- Each row of this subject gives a meaning, where its parts have theirs: types.
use Rattle.std.proofs.Common.{ℕ, List, [], ◌∷◌, refl}
use Rattle.ll_engine.specs.Values.{nothing, token, part}
use Rattle.lotos_lexer.specs.declared.kinds.TheConstants as kind
use Rattle.lotos_rows.specs.Row.{row_of}
use Rattle.lotos_rows.specs.TypesRows.{types_rows}
use Rattle.lotos_rows.specs.declared.equations.TheConstants as equations
use Rattle.lotos_rows.specs.declared.names.TheConstants as names
use Rattle.lotos_rows.specs.declared.renamings.TheConstants as renamings
use Rattle.lotos_rows.specs.declared.types.TheConstants as types
use Rattle.lotos_rows.specs.declared.types.TypesRow.TheVariants as row
use Rattle.lotos_rows.specs.declared.row_names.RowName.TheVariants.{Types}
use Rattle.ll_engine.specs.declared.symbol.Symbol.TheVariants.{Token as Tok, Part}
use Rattle.tree_building.specs.PartSentences.{as_one}
use Rattle.tree_building.specs.Sentences.{GivesMeaning}
use Rattle.lotos_base.proofs.Each.{Each}

module _ (text : List ℕ) where
  library_item_gives : GivesMeaning text
      (row_of (Types row.LibraryItem) types.ITEM (Tok kind.LIBRARY ∷ Part names.NAMES ∷ Tok kind.ENDLIB ∷ []))
  library_item_gives _ _ (token _ _ (part (as_one _) (token _ _ nothing))) = (_, refl)

  type_item_gives : GivesMeaning text
      (row_of (Types row.TypeItem) types.ITEM (Tok kind.TYPE ∷ Part names.NAME ∷ Tok kind.IS ∷ Part types.BODY ∷ Tok kind.ENDTYPE ∷ []))
  type_item_gives _ _ (token _ _ (part (as_one _) (token _ _ (part (as_one _) (token _ _ nothing))))) = (_, refl)

  named_body_gives : GivesMeaning text (row_of (Types row.NamedBody) types.BODY (Part names.NAME ∷ Part types.AFTER_BASE ∷ []))
  named_body_gives _ _ (part (as_one _) (part (as_one _) nothing)) = (_, refl)

  sections_body_gives : GivesMeaning text (row_of (Types row.SectionsBody) types.BODY (Part types.SECTIONS ∷ []))
  sections_body_gives _ _ (part (as_one _) nothing) = (_, refl)

  renaming_gives : GivesMeaning text (row_of (Types row.Renaming) types.AFTER_BASE (Tok kind.RENAMEDBY ∷ Part renamings.RENAMES ∷ []))
  renaming_gives _ _ (token _ _ (part (as_one _) nothing)) = (_, refl)

  actualisation_gives : GivesMeaning text
      (row_of (Types row.Actualisation) types.AFTER_BASE
      (Tok kind.ACTUALIZEDBY ∷ Part names.NAMES ∷ Tok kind.USING ∷ Part renamings.RENAMES ∷ []))
  actualisation_gives _ _ (token _ _ (part (as_one _) (token _ _ (part (as_one _) nothing)))) = (_, refl)

  extension_gives : GivesMeaning text (row_of (Types row.Extension) types.AFTER_BASE (Part names.MORE_NAMES ∷ Part types.SECTIONS ∷ []))
  extension_gives _ _ (part (as_one _) (part (as_one _) nothing)) = (_, refl)

  sections_gives : GivesMeaning text
      (row_of (Types row.Sections) types.SECTIONS
      (Part types.FORMAL_SORTS ∷ Part types.FORMAL_OPERATIONS ∷ Part types.FORMAL_EQUATIONS ∷ Part types.SORTS ∷ Part types.OPERATIONS ∷
      Part types.EQUATIONS ∷ []))
  sections_gives _ _
      (part (as_one _) (part (as_one _) (part (as_one _) (part (as_one _) (part (as_one _) (part (as_one _) nothing)))))) = (_, refl)

  no_formal_sorts_gives : GivesMeaning text (row_of (Types row.NoFormalSorts) types.FORMAL_SORTS [])
  no_formal_sorts_gives _ _ nothing = (_, refl)

  formal_sorts_gives : GivesMeaning text
      (row_of (Types row.FormalSorts) types.FORMAL_SORTS (Tok kind.FORMALSORTS ∷ Part names.LOOSE_NAMES ∷ []))
  formal_sorts_gives _ _ (token _ _ (part (as_one _) nothing)) = (_, refl)

  no_formal_operations_gives : GivesMeaning text (row_of (Types row.NoFormalOperations) types.FORMAL_OPERATIONS [])
  no_formal_operations_gives _ _ nothing = (_, refl)

  formal_operations_gives : GivesMeaning text
      (row_of (Types row.FormalOperations) types.FORMAL_OPERATIONS (Tok kind.FORMALOPNS ∷ Part types.OPERATION_LINES ∷ []))
  formal_operations_gives _ _ (token _ _ (part (as_one _) nothing)) = (_, refl)

  no_formal_equations_gives : GivesMeaning text (row_of (Types row.NoFormalEquations) types.FORMAL_EQUATIONS [])
  no_formal_equations_gives _ _ nothing = (_, refl)

  formal_equations_gives : GivesMeaning text
      (row_of (Types row.FormalEquations) types.FORMAL_EQUATIONS
      (Tok kind.FORMALEQNS ∷ Part equations.VARIABLES_FOR_ALL ∷ Part equations.EQUATION_GROUPS ∷ []))
  formal_equations_gives _ _ (token _ _ (part (as_one _) (part (as_one _) nothing))) = (_, refl)

  no_sorts_gives : GivesMeaning text (row_of (Types row.NoSorts) types.SORTS [])
  no_sorts_gives _ _ nothing = (_, refl)

  sorts_gives : GivesMeaning text (row_of (Types row.Sorts) types.SORTS (Tok kind.SORTS ∷ Part names.LOOSE_NAMES ∷ []))
  sorts_gives _ _ (token _ _ (part (as_one _) nothing)) = (_, refl)

  no_operations_gives : GivesMeaning text (row_of (Types row.NoOperations) types.OPERATIONS [])
  no_operations_gives _ _ nothing = (_, refl)

  operations_gives : GivesMeaning text (row_of (Types row.Operations) types.OPERATIONS (Tok kind.OPNS ∷ Part types.OPERATION_LINES ∷ []))
  operations_gives _ _ (token _ _ (part (as_one _) nothing)) = (_, refl)

  no_equations_gives : GivesMeaning text (row_of (Types row.NoEquations) types.EQUATIONS [])
  no_equations_gives _ _ nothing = (_, refl)

  equations_gives : GivesMeaning text
      (row_of (Types row.Equations) types.EQUATIONS
      (Tok kind.EQNS ∷ Part equations.VARIABLES_FOR_ALL ∷ Part equations.EQUATION_GROUPS ∷ []))
  equations_gives _ _ (token _ _ (part (as_one _) (part (as_one _) nothing))) = (_, refl)

  no_operation_lines_gives : GivesMeaning text (row_of (Types row.NoOperationLines) types.OPERATION_LINES [])
  no_operation_lines_gives _ _ nothing = (_, refl)

  operation_lines_gives : GivesMeaning text
      (row_of (Types row.OperationLines) types.OPERATION_LINES
      (Part names.OPERATION ∷ Part types.MORE_OPERATIONS ∷ Part names.PROFILE ∷ Part types.OPERATION_LINES ∷ []))
  operation_lines_gives _ _ (part (as_one _) (part (as_one _) (part (as_one _) (part (as_one _) nothing)))) = (_, refl)

  no_more_operations_gives : GivesMeaning text (row_of (Types row.NoMoreOperations) types.MORE_OPERATIONS [])
  no_more_operations_gives _ _ nothing = (_, refl)

  more_operations_gives : GivesMeaning text
      (row_of (Types row.MoreOperations) types.MORE_OPERATIONS (Tok kind.COMMA ∷ Part names.OPERATION ∷ Part types.MORE_OPERATIONS ∷ []))
  more_operations_gives _ _ (token _ _ (part (as_one _) (part (as_one _) nothing))) = (_, refl)

  pub types_give : Each (GivesMeaning text) types_rows
  types_give = (
    library_item_gives,
    (
      type_item_gives,
      (
        named_body_gives,
        (
          sections_body_gives,
          (
            renaming_gives,
            (
              actualisation_gives,
              (
                extension_gives,
                (
                  sections_gives,
                  (
                    no_formal_sorts_gives,
                    (
                      formal_sorts_gives,
                      (
                        no_formal_operations_gives,
                        (
                          formal_operations_gives,
                          (
                            no_formal_equations_gives,
                            (
                              formal_equations_gives,
                              (
                                no_sorts_gives,
                                (
                                  sorts_gives,
                                  (
                                    no_operations_gives,
                                    (
                                      operations_gives,
                                      (
                                        no_equations_gives,
                                        (
                                          equations_gives,
                                          (
                                            no_operation_lines_gives,
                                            (operation_lines_gives, (no_more_operations_gives, (more_operations_gives, tt))),
                                          ),
                                        ),
                                      ),
                                    ),
                                  ),
                                ),
                              ),
                            ),
                          ),
                        ),
                      ),
                    ),
                  ),
                ),
              ),
            ),
          ),
        ),
      ),
    ),
  )
