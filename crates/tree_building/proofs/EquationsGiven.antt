-- Each row of this subject gives a meaning, where its parts have theirs: equations.
use Rattle.std.proofs.Common.{ℕ, List, [], ◌∷◌, refl}
use Rattle.ll_engine.specs.Values.{nothing, token, part}
use Rattle.lotos_lexer.specs.declared.kinds.TheConstants as kind
use Rattle.lotos_rows.specs.Row.{row_of}
use Rattle.lotos_rows.specs.EquationsRows.{equations_rows}
use Rattle.lotos_rows.specs.declared.equations.TheConstants as equations
use Rattle.lotos_rows.specs.declared.names.TheConstants as names
use Rattle.lotos_rows.specs.declared.terms.TheConstants as terms
use Rattle.lotos_rows.specs.declared.equations.EquationsRow.TheVariants as row
use Rattle.lotos_rows.specs.declared.row_names.RowName.TheVariants.{Equations}
use Rattle.ll_engine.specs.declared.symbol.Symbol.TheVariants.{Token as Tok, Part}
use Rattle.tree_building.specs.TermsSentences.{started}
use Rattle.tree_building.specs.EquationsSentences.{not_there, is_there, right_side, only_conclusion}
use Rattle.tree_building.specs.PartSentences.{as_one}
use Rattle.tree_building.specs.Sentences.{GivesMeaning}
use Rattle.lotos_base.proofs.Each.{Each}

module _ (text : List ℕ) where
  no_variables_for_all_gives : GivesMeaning text (row_of (Equations row.NoVariablesForAll) equations.VARIABLES_FOR_ALL [])
  no_variables_for_all_gives _ _ nothing = (_, refl)

  variables_for_all_gives : GivesMeaning text
      (row_of (Equations row.VariablesForAll) equations.VARIABLES_FOR_ALL (Tok kind.FORALL ∷ Part names.VARIABLES ∷ []))
  variables_for_all_gives _ _ (token _ _ (part (as_one _) nothing)) = (_, refl)

  no_equation_groups_gives : GivesMeaning text (row_of (Equations row.NoEquationGroups) equations.EQUATION_GROUPS [])
  no_equation_groups_gives _ _ nothing = (_, refl)

  equation_groups_gives : GivesMeaning text
      (row_of (Equations row.EquationGroups) equations.EQUATION_GROUPS
      (Tok kind.OFSORT ∷ Part names.NAME ∷ Part equations.VARIABLES_FOR_ALL ∷ Part equations.EQUATION_LIST ∷ Part
      equations.EQUATION_GROUPS ∷ []))
  equation_groups_gives _ _ (token _ _ (part (as_one _) (part (as_one _) (part (as_one _) (part (as_one _) nothing))))) = (_, refl)

  no_equation_list_gives : GivesMeaning text (row_of (Equations row.NoEquationList) equations.EQUATION_LIST [])
  no_equation_list_gives _ _ nothing = (_, refl)

  equation_list_gives : GivesMeaning text
      (row_of (Equations row.EquationList) equations.EQUATION_LIST (Part equations.EQUATION ∷ Part equations.AFTER_EQUATION ∷ []))
  equation_list_gives _ _ (part (as_one _) (part (as_one _) nothing)) = (_, refl)

  no_after_equation_gives : GivesMeaning text (row_of (Equations row.NoAfterEquation) equations.AFTER_EQUATION [])
  no_after_equation_gives _ _ nothing = (_, refl)

  after_equation_gives : GivesMeaning text
      (row_of (Equations row.AfterEquation) equations.AFTER_EQUATION (Tok kind.SEMICOLON ∷ Part equations.EQUATION_LIST ∷ []))
  after_equation_gives _ _ (token _ _ (part (as_one _) nothing)) = (_, refl)

  equation_gives : GivesMeaning text
      (row_of (Equations row.Equation) equations.EQUATION (Part terms.TERM ∷ Part equations.AFTER_FIRST_TERM ∷ []))
  equation_gives _ _ (part (as_one (started _)) (part (as_one (right_side _ _ not_there)) nothing)) = (_, refl)
  equation_gives _ _ (part (as_one (started _)) (part (as_one (right_side _ _ (is_there _))) nothing)) = (_, refl)
  equation_gives _ _ (part (as_one (started _)) (part (as_one (only_conclusion _)) nothing)) = (_, refl)

  equals_after_term_gives : GivesMeaning text
      (row_of (Equations row.EqualsAfterTerm) equations.AFTER_FIRST_TERM
      (Tok kind.EQUALS ∷ Part terms.TERM ∷ Part equations.AFTER_FIRST_PAIR ∷ []))
  equals_after_term_gives _ _ (token _ _ (part (as_one _) (part (as_one _) nothing))) = (_, refl)

  conclusion_after_term_gives : GivesMeaning text
      (row_of (Equations row.ConclusionAfterTerm) equations.AFTER_FIRST_TERM (Part equations.CONCLUSION ∷ []))
  conclusion_after_term_gives _ _ (part (as_one _) nothing) = (_, refl)

  no_after_first_pair_gives : GivesMeaning text (row_of (Equations row.NoAfterFirstPair) equations.AFTER_FIRST_PAIR [])
  no_after_first_pair_gives _ _ nothing = (_, refl)

  after_first_pair_gives : GivesMeaning text
      (row_of (Equations row.AfterFirstPair) equations.AFTER_FIRST_PAIR (Part equations.CONCLUSION ∷ []))
  after_first_pair_gives _ _ (part (as_one _) nothing) = (_, refl)

  premiss_and_conclusion_gives : GivesMeaning text
      (row_of (Equations row.PremissAndConclusion) equations.CONCLUSION
      (Tok kind.COMMA ∷ Part equations.PREMISS ∷ Part equations.CONCLUSION ∷ []))
  premiss_and_conclusion_gives _ _ (token _ _ (part (as_one _) (part (as_one _) nothing))) = (_, refl)

  conclusion_gives : GivesMeaning text
      (row_of (Equations row.Conclusion) equations.CONCLUSION (Tok kind.IMPLIES ∷ Part terms.TERM ∷ Tok kind.EQUALS ∷ Part terms.TERM ∷ []))
  conclusion_gives _ _ (token _ _ (part (as_one _) (token _ _ (part (as_one _) nothing)))) = (_, refl)

  premiss_gives : GivesMeaning text (row_of (Equations row.Premiss) equations.PREMISS (Part terms.TERM ∷ Part equations.PREMISS_RIGHT ∷ []))
  premiss_gives _ _ (part (as_one _) (part (as_one _) nothing)) = (_, refl)

  no_premiss_right_gives : GivesMeaning text (row_of (Equations row.NoPremissRight) equations.PREMISS_RIGHT [])
  no_premiss_right_gives _ _ nothing = (_, refl)

  premiss_right_gives : GivesMeaning text
      (row_of (Equations row.PremissRight) equations.PREMISS_RIGHT (Tok kind.EQUALS ∷ Part terms.TERM ∷ []))
  premiss_right_gives _ _ (token _ _ (part (as_one _) nothing)) = (_, refl)

  pub equations_give : Each (GivesMeaning text) equations_rows
  equations_give = (
    no_variables_for_all_gives,
    (
      variables_for_all_gives,
      (
        no_equation_groups_gives,
        (
          equation_groups_gives,
          (
            no_equation_list_gives,
            (
              equation_list_gives,
              (
                no_after_equation_gives,
                (
                  after_equation_gives,
                  (
                    equation_gives,
                    (
                      equals_after_term_gives,
                      (
                        conclusion_after_term_gives,
                        (
                          no_after_first_pair_gives,
                          (
                            after_first_pair_gives,
                            (
                              premiss_and_conclusion_gives,
                              (conclusion_gives, (premiss_gives, (no_premiss_right_gives, (premiss_right_gives, tt)))),
                            ),
                          ),
                        ),
                      ),
                    ),
                  ),
                ),
              ),
            ),
          ),
        ),
      ),
    ),
  )
