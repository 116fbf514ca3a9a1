-- Each row of this subject gives a meaning, where its parts have theirs: terms.
use Rattle.std.proofs.Common.{ℕ, List, [], ◌∷◌, refl}
use Rattle.ll_engine.specs.Values.{nothing, token, part}
use Rattle.lotos_lexer.specs.declared.kinds.TheConstants as kind
use Rattle.lotos_rows.specs.Row.{row_of}
use Rattle.lotos_rows.specs.TermsRows.{terms_rows}
use Rattle.lotos_rows.specs.declared.names.TheConstants as names
use Rattle.lotos_rows.specs.declared.terms.TheConstants as terms
use Rattle.lotos_rows.specs.declared.terms.TermsRow.TheVariants as row
use Rattle.lotos_rows.specs.declared.row_names.RowName.TheVariants.{Terms}
use Rattle.ll_engine.specs.declared.symbol.Symbol.TheVariants.{Token as Tok, Part}
use Rattle.tree_building.specs.PartSentences.{as_one}
use Rattle.tree_building.specs.Sentences.{GivesMeaning}
use Rattle.lotos_base.proofs.Each.{Each}

module _ (text : List ℕ) where
  term_gives : GivesMeaning text (row_of (Terms row.Term) terms.TERM (Part terms.FACTOR ∷ Part terms.MORE_FACTORS ∷ []))
  term_gives _ _ (part (as_one _) (part (as_one _) nothing)) = (_, refl)

  no_more_factors_gives : GivesMeaning text (row_of (Terms row.NoMoreFactors) terms.MORE_FACTORS [])
  no_more_factors_gives _ _ nothing = (_, refl)

  more_factors_gives : GivesMeaning text
      (row_of (Terms row.MoreFactors) terms.MORE_FACTORS (Part names.OPERATION_NAME ∷ Part terms.FACTOR ∷ Part terms.MORE_FACTORS ∷ []))
  more_factors_gives _ _ (part (as_one _) (part (as_one _) (part (as_one _) nothing))) = (_, refl)

  applied_factor_gives : GivesMeaning text
      (row_of (Terms row.AppliedFactor) terms.FACTOR (Part names.OPERATION_NAME ∷ Part terms.ARGUMENTS ∷ Part terms.SORT_MARK ∷ []))
  applied_factor_gives _ _ (part (as_one _) (part (as_one _) (part (as_one _) nothing))) = (_, refl)

  bracketed_factor_gives : GivesMeaning text
      (row_of (Terms row.BracketedFactor) terms.FACTOR
      (Tok kind.LEFT_PARENTHESIS ∷ Part terms.TERM ∷ Tok kind.RIGHT_PARENTHESIS ∷ Part terms.SORT_MARK ∷ []))
  bracketed_factor_gives _ _ (token _ _ (part (as_one _) (token _ _ (part (as_one _) nothing)))) = (_, refl)

  no_arguments_gives : GivesMeaning text (row_of (Terms row.NoArguments) terms.ARGUMENTS [])
  no_arguments_gives _ _ nothing = (_, refl)

  arguments_gives : GivesMeaning text
      (row_of (Terms row.Arguments) terms.ARGUMENTS (Tok kind.LEFT_PARENTHESIS ∷ Part terms.TERM_LIST ∷ Tok kind.RIGHT_PARENTHESIS ∷ []))
  arguments_gives _ _ (token _ _ (part (as_one _) (token _ _ nothing))) = (_, refl)

  no_sort_mark_gives : GivesMeaning text (row_of (Terms row.NoSortMark) terms.SORT_MARK [])
  no_sort_mark_gives _ _ nothing = (_, refl)

  sort_mark_gives : GivesMeaning text (row_of (Terms row.SortMark) terms.SORT_MARK (Tok kind.OF ∷ Part names.NAME ∷ []))
  sort_mark_gives _ _ (token _ _ (part (as_one _) nothing)) = (_, refl)

  term_list_gives : GivesMeaning text (row_of (Terms row.TermList) terms.TERM_LIST (Part terms.TERM ∷ Part terms.MORE_TERMS ∷ []))
  term_list_gives _ _ (part (as_one _) (part (as_one _) nothing)) = (_, refl)

  no_more_terms_gives : GivesMeaning text (row_of (Terms row.NoMoreTerms) terms.MORE_TERMS [])
  no_more_terms_gives _ _ nothing = (_, refl)

  more_terms_gives : GivesMeaning text (row_of (Terms row.MoreTerms) terms.MORE_TERMS (Tok kind.COMMA ∷ Part terms.TERM_LIST ∷ []))
  more_terms_gives _ _ (token _ _ (part (as_one _) nothing)) = (_, refl)

  pub terms_give : Each (GivesMeaning text) terms_rows
  terms_give = (
    term_gives,
    (
      no_more_factors_gives,
      (
        more_factors_gives,
        (
          applied_factor_gives,
          (
            bracketed_factor_gives,
            (
              no_arguments_gives,
              (arguments_gives, (no_sort_mark_gives, (sort_mark_gives, (term_list_gives, (no_more_terms_gives, (more_terms_gives, tt)))))),
            ),
          ),
        ),
      ),
    ),
  )
