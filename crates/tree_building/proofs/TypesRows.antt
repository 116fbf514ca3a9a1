-- The rows of types keep what their parts are.
use Rattle.std.proofs.Common.{ℕ, List, [], ◌∷◌, ◌++◌, refl, append_assoc}
use Rattle.std.proofs.lemmas.List.{append-nil}
use Rattle.ll_engine.specs.Values.{nothing, token, part}
use Rattle.lotos_lexer.specs.declared.tokens.Token.{Token}
use Rattle.lotos_lexer.specs.declared.kinds.TheConstants as kind
use Rattle.lotos_rows.specs.Row.{row_of}
use Rattle.lotos_rows.specs.declared.types.TheConstants as types
use Rattle.lotos_rows.specs.declared.names.TheConstants as names
use Rattle.lotos_rows.specs.declared.equations.TheConstants as equations
use Rattle.lotos_rows.specs.declared.renamings.TheConstants as renamings
use Rattle.lotos_rows.specs.declared.types.TypesRow.TheVariants as row
use Rattle.lotos_rows.specs.declared.row_names.RowName.TheVariants.{Types}
use Rattle.ll_engine.specs.declared.symbol.Symbol.TheVariants.{Token as Tok, Part}
use Rattle.tree_building.specs.PartSentences.{as_one}
use Rattle.tree_building.specs.Sentences.{KeepsParts}
use Rattle.syntax_trees.specs.WrittenItem.{WrittenOperation}
use Rattle.lotos_rows.specs.Words.{IsOfKind, left_out, there, no_more, and_then, behind}
use Rattle.lotos_rows.specs.Names.{named, NamedOperation, IsWrittenOperation, PlacedProfile, IsProfile}
use Rattle.lotos_rows.specs.Names as names_family
use Rattle.lotos_rows.specs.Equations as equations_family
use Rattle.lotos_rows.specs.Types.{operations_of_profile, AreOperations, IsTypeBody}
use Rattle.lotos_rows.specs.Types as family
use Rattle.lotos_rows.specs.TypesRows.{types_rows}
use Rattle.tree_building.specs.Meaning.{PlainAfterBase}
use Rattle.tree_building.specs.TypesMeaning.{body_from}
use Rattle.tree_building.specs.NamesSentences.{Further}
use Rattle.tree_building.specs.TypesSentences.{IsAfterBase, renaming_behind, actualising_behind, extending_behind}
use Rattle.lotos_base.proofs.Each.{Each}
use Rattle.tree_building.proofs.Lists.{is_of, shown, joined}

module _ (text : List ℕ) where
  body_named : {base : Token} {tokens : List Token} {after : PlainAfterBase} → IsOfKind kind.NAME base → IsAfterBase text tokens after →
      IsTypeBody text (base ∷ tokens) (body_from (named text base) after)
  body_named base (renaming_behind word pairs) = family.renaming base word pairs
  body_named base (actualising_behind word actuals using pairs) = family.actualising base word actuals using pairs
  body_named base (extending_behind imports them) = family.extending (joined _ _ (names_family.a_name base) imports) them

  lines_joined : {own more_tokens profile_tokens rest : List Token} (operation : NamedOperation) (more : List NamedOperation)
      {profile : PlacedProfile} {others : List WrittenOperation} →
      IsWrittenOperation text own operation → Further kind.COMMA (IsWrittenOperation text) more_tokens more
      → IsProfile text profile_tokens profile →
      AreOperations text rest others →
      AreOperations text (((own ++ more_tokens) ++ profile_tokens) ++ rest) (operations_of_profile (operation ∷ more) profile ++ others)
  lines_joined operation more first others has_profile (family.operations lines) =
      family.operations (and_then (family.operations_line (joined _ _ first others) has_profile) lines)

  library_item_row : KeepsParts text
      (row_of (Types row.LibraryItem) types.ITEM (Tok kind.LIBRARY ∷ Part names.NAMES ∷ Tok kind.ENDLIB ∷ []))
  library_item_row _ _ value (token t1 i1 (part (as_one p1) (token t2 i2 nothing))) given =
      shown _ _ given (family.a_library (is_of t1 i1) p1 (is_of t2 i2)) refl

  type_item_row : KeepsParts text
      (row_of (Types row.TypeItem) types.ITEM (Tok kind.TYPE ∷ Part names.NAME ∷ Tok kind.IS ∷ Part types.BODY ∷ Tok kind.ENDTYPE ∷ []))
  type_item_row _ _ value (token t1 i1 (part (as_one (names_family.a_name i)) (token t2 i2 (part (as_one p2) (token t3 i3 nothing)))))
      given =
      shown _ _ given (family.a_type (is_of t1 i1) i (is_of t2 i2) p2 (is_of t3 i3)) refl

  named_body_row : KeepsParts text (row_of (Types row.NamedBody) types.BODY (Part names.NAME ∷ Part types.AFTER_BASE ∷ []))
  named_body_row _ _ value (part (as_one (names_family.a_name i)) (part (as_one p2) nothing)) given =
      shown _ _ given (body_named i p2) (simp (append-nil) refl)

  sections_body_row : KeepsParts text (row_of (Types row.SectionsBody) types.BODY (Part types.SECTIONS ∷ []))
  sections_body_row _ _ value (part (as_one p1) nothing) given = shown _ _ given (family.extending_nothing p1) (simp (append-nil) refl)

  renaming_row : KeepsParts text (row_of (Types row.Renaming) types.AFTER_BASE (Tok kind.RENAMEDBY ∷ Part renamings.RENAMES ∷ []))
  renaming_row _ _ value (token t1 i1 (part (as_one p1) nothing)) given =
      shown _ _ given (renaming_behind (is_of t1 i1) p1) (simp (append-nil) refl)

  actualisation_row : KeepsParts text
      (row_of (Types row.Actualisation) types.AFTER_BASE
      (Tok kind.ACTUALIZEDBY ∷ Part names.NAMES ∷ Tok kind.USING ∷ Part renamings.RENAMES ∷ []))
  actualisation_row _ _ value (token t1 i1 (part (as_one p1) (token t2 i2 (part (as_one p2) nothing)))) given =
      shown _ _ given (actualising_behind (is_of t1 i1) p1 (is_of t2 i2) p2) (simp (append-nil) refl)

  extension_row : KeepsParts text (row_of (Types row.Extension) types.AFTER_BASE (Part names.MORE_NAMES ∷ Part types.SECTIONS ∷ []))
  extension_row _ _ value (part (as_one p1) (part (as_one p2) nothing)) given =
      shown _ _ given (extending_behind p1 p2) (simp (append-nil) refl)

  sections_row : KeepsParts text
      (row_of (Types row.Sections) types.SECTIONS
      (Part types.FORMAL_SORTS ∷ Part types.FORMAL_OPERATIONS ∷ Part types.FORMAL_EQUATIONS ∷ Part types.SORTS ∷ Part types.OPERATIONS ∷
      Part types.EQUATIONS ∷ []))
  sections_row _ _ value
      (part (as_one p1) (part (as_one p2) (part (as_one p3) (part (as_one p4) (part (as_one p5) (part (as_one p6) nothing)))))) given =
      shown _ _ given (family.sections p1 p2 p3 p4 p5 p6) (simp (append-nil) refl)

  no_formal_sorts_row : KeepsParts text (row_of (Types row.NoFormalSorts) types.FORMAL_SORTS [])
  no_formal_sorts_row _ _ value nothing given = shown _ _ given left_out refl

  formal_sorts_row : KeepsParts text
      (row_of (Types row.FormalSorts) types.FORMAL_SORTS (Tok kind.FORMALSORTS ∷ Part names.LOOSE_NAMES ∷ []))
  formal_sorts_row _ _ value (token t1 i1 (part (as_one p1) nothing)) given =
      shown _ _ given (there (behind (is_of t1 i1) p1)) (simp (append-nil) refl)

  no_formal_operations_row : KeepsParts text (row_of (Types row.NoFormalOperations) types.FORMAL_OPERATIONS [])
  no_formal_operations_row _ _ value nothing given = shown _ _ given left_out refl

  formal_operations_row : KeepsParts text
      (row_of (Types row.FormalOperations) types.FORMAL_OPERATIONS (Tok kind.FORMALOPNS ∷ Part types.OPERATION_LINES ∷ []))
  formal_operations_row _ _ value (token t1 i1 (part (as_one p1) nothing)) given =
      shown _ _ given (there (behind (is_of t1 i1) p1)) (simp (append-nil) refl)

  no_formal_equations_row : KeepsParts text (row_of (Types row.NoFormalEquations) types.FORMAL_EQUATIONS [])
  no_formal_equations_row _ _ value nothing given = shown _ _ given left_out refl

  formal_equations_row : KeepsParts text
      (row_of (Types row.FormalEquations) types.FORMAL_EQUATIONS
      (Tok kind.FORMALEQNS ∷ Part equations.VARIABLES_FOR_ALL ∷ Part equations.EQUATION_GROUPS ∷ []))
  formal_equations_row _ _ value (token t1 i1 (part (as_one p1) (part (as_one p2) nothing))) given =
      shown _ _ given (there (behind (is_of t1 i1) (equations_family.equations p1 p2))) (simp (append-nil) refl)

  no_sorts_row : KeepsParts text (row_of (Types row.NoSorts) types.SORTS [])
  no_sorts_row _ _ value nothing given = shown _ _ given left_out refl

  sorts_row : KeepsParts text (row_of (Types row.Sorts) types.SORTS (Tok kind.SORTS ∷ Part names.LOOSE_NAMES ∷ []))
  sorts_row _ _ value (token t1 i1 (part (as_one p1) nothing)) given =
      shown _ _ given (there (behind (is_of t1 i1) p1)) (simp (append-nil) refl)

  no_operations_row : KeepsParts text (row_of (Types row.NoOperations) types.OPERATIONS [])
  no_operations_row _ _ value nothing given = shown _ _ given left_out refl

  operations_row : KeepsParts text (row_of (Types row.Operations) types.OPERATIONS (Tok kind.OPNS ∷ Part types.OPERATION_LINES ∷ []))
  operations_row _ _ value (token t1 i1 (part (as_one p1) nothing)) given =
      shown _ _ given (there (behind (is_of t1 i1) p1)) (simp (append-nil) refl)

  no_equations_row : KeepsParts text (row_of (Types row.NoEquations) types.EQUATIONS [])
  no_equations_row _ _ value nothing given = shown _ _ given left_out refl

  equations_row : KeepsParts text
      (row_of (Types row.Equations) types.EQUATIONS
      (Tok kind.EQNS ∷ Part equations.VARIABLES_FOR_ALL ∷ Part equations.EQUATION_GROUPS ∷ []))
  equations_row _ _ value (token t1 i1 (part (as_one p1) (part (as_one p2) nothing))) given =
      shown _ _ given (there (behind (is_of t1 i1) (equations_family.equations p1 p2))) (simp (append-nil) refl)

  no_operation_lines_row : KeepsParts text (row_of (Types row.NoOperationLines) types.OPERATION_LINES [])
  no_operation_lines_row _ _ value nothing given = shown _ _ given (family.operations no_more) refl

  operation_lines_row : KeepsParts text
      (row_of (Types row.OperationLines) types.OPERATION_LINES
      (Part names.OPERATION ∷ Part types.MORE_OPERATIONS ∷ Part names.PROFILE ∷ Part types.OPERATION_LINES ∷ []))
  operation_lines_row _ _ value (part (as_one p1) (part (as_one p2) (part (as_one p3) (part (as_one p4) nothing)))) given =
      shown _ _ given (lines_joined _ _ p1 p2 p3 p4) (simp (append-nil, append_assoc) refl)

  no_more_operations_row : KeepsParts text (row_of (Types row.NoMoreOperations) types.MORE_OPERATIONS [])
  no_more_operations_row _ _ value nothing given = shown _ _ given left_out refl

  more_operations_row : KeepsParts text
      (row_of (Types row.MoreOperations) types.MORE_OPERATIONS (Tok kind.COMMA ∷ Part names.OPERATION ∷ Part types.MORE_OPERATIONS ∷ []))
  more_operations_row _ _ value (token t1 i1 (part (as_one p1) (part (as_one p2) nothing))) given =
      shown _ _ given (there (behind (is_of t1 i1) (joined _ _ p1 p2))) (simp (append-nil) refl)

  pub types_keep : Each (KeepsParts text) types_rows
  types_keep = (
    library_item_row,
    (
      type_item_row,
      (
        named_body_row,
        (
          sections_body_row,
          (
            renaming_row,
            (
              actualisation_row,
              (
                extension_row,
                (
                  sections_row,
                  (
                    no_formal_sorts_row,
                    (
                      formal_sorts_row,
                      (
                        no_formal_operations_row,
                        (
                          formal_operations_row,
                          (
                            no_formal_equations_row,
                            (
                              formal_equations_row,
                              (
                                no_sorts_row,
                                (
                                  sorts_row,
                                  (
                                    no_operations_row,
                                    (
                                      operations_row,
                                      (
                                        no_equations_row,
                                        (
                                          equations_row,
                                          (
                                            no_operation_lines_row,
                                            (operation_lines_row, (no_more_operations_row, (more_operations_row, tt))),
                                          ),
                                        ),
                                      ),
                                    ),
                                  ),
                                ),
                              ),
                            ),
                          ),
                        ),
                      ),
                    ),
                  ),
                ),
              ),
            ),
          ),
        ),
      ),
    ),
  )
