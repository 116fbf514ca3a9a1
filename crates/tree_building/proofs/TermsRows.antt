-- The rows of terms keep what their parts are.
use Rattle.std.proofs.Common.{◌∙◌, ℕ, List, [], ◌∷◌, ◌++◌, refl, ap, sym, subst, append_assoc}
use Rattle.std.specs.Prelude.{map}
use Rattle.std.proofs.lemmas.List.{append-nil}
use Rattle.ll_engine.specs.Values.{nothing, token, part}
use Rattle.lotos_lexer.specs.declared.tokens.Token.{Token}
use Rattle.lotos_lexer.specs.declared.kinds.TheConstants as kind
use Rattle.lotos_rows.specs.Row.{row_of}
use Rattle.lotos_rows.specs.declared.terms.TheConstants as terms
use Rattle.lotos_rows.specs.declared.names.TheConstants as names
use Rattle.lotos_rows.specs.declared.terms.TermsRow.TheVariants as row
use Rattle.lotos_rows.specs.declared.row_names.RowName.TheVariants.{Terms}
use Rattle.ll_engine.specs.declared.symbol.Symbol.TheVariants.{Token as Tok, Part}
use Rattle.tree_building.specs.PartSentences.{as_one}
use Rattle.tree_building.specs.Sentences.{KeepsParts}
use Rattle.lotos_base.specs.WrittenTerm.{PlacedName, WrittenTerm}
use Rattle.syntax_trees.specs.LeftGrouping.{grouped_left}
use Rattle.lotos_rows.specs.Words.{Optional, left_out, there, Many, no_more, and_then, Behind, behind}
use Rattle.lotos_rows.specs.Names.{named, IsOperationName}
use Rattle.lotos_rows.specs.Names as names_family
use Rattle.lotos_rows.specs.Terms.{applied, infix_term, of_sort, IsTerm, AreFactors, IsFactor, IsBase, AreTerms, AreArguments}
use Rattle.lotos_rows.specs.Terms as family
use Rattle.tree_building.specs.TermsMeaning.{with_written_sorts}
use Rattle.lotos_rows.specs.TermsRows.{terms_rows}
use Rattle.tree_building.specs.TermsSentences.{Started, started, IsOperationAndFactor, operation_and_factor, IsSortMark, no_sort_mark, a_sort_mark}
use Rattle.lotos_base.proofs.Each.{Each}
use Rattle.tree_building.proofs.Grouping.{grouped_is, with_no_sorts, with_one_sort}
use Rattle.tree_building.proofs.Lists.{is_of, shown}

module _ (text : List ℕ) where
  marked_factor : {own mark : List Token} {term : WrittenTerm} {sorts : List PlacedName} → IsBase text own term →
      IsSortMark text mark sorts → IsFactor text (own ++ mark) (with_written_sorts sorts term)
  marked_factor {own = own} {term = term} base no_sort_mark =
      subst (λ (l : List Token). IsFactor text l (with_written_sorts [] term)) (sym (append-nil own))
      (subst (IsFactor text own) (sym (with_no_sorts term)) (family.without_sort base))
  marked_factor {own = own} {term = term} base (a_sort_mark {word = word} {sort = sort} is_word is_sort) =
      subst (IsFactor text (own ++ word ∷ sort ∷ [])) (with_one_sort (named text sort) term) (family.with_sort base is_word is_sort)

  applied_base : {own arguments : List Token} {name : PlacedName} {terms : List WrittenTerm} → IsOperationName text own name →
      AreArguments text arguments terms → IsBase text (own ++ arguments) (applied name terms)
  applied_base {own = own} {name = name} it family.no_arguments =
      subst (λ (l : List Token). IsBase text l (applied name [])) (sym (append-nil own)) (family.without_arguments it)
  applied_base it (family.some_arguments left terms right) = family.with_arguments it left terms right

  applied_started : {own arguments mark : List Token} {name : PlacedName} {terms : List WrittenTerm} {sorts : List PlacedName} →
      IsOperationName text own name → AreArguments text arguments terms → IsSortMark text mark sorts →
      Started (IsFactor text) ((own ++ arguments) ++ mark)
      (record { start = name.place; term = with_written_sorts sorts (applied name terms) })
  applied_started (names_family.word_name is) terms mark = started (marked_factor (applied_base (names_family.word_name is) terms) mark)
  applied_started (names_family.digit_name is) terms mark = started (marked_factor (applied_base (names_family.digit_name is) terms) mark)
  applied_started (names_family.sign_name is) terms mark = started (marked_factor (applied_base (names_family.sign_name is) terms) mark)

  terms_joined : {own tokens : List Token} {term : WrittenTerm} {more : List WrittenTerm} → IsTerm text own term →
      Optional [] (Behind kind.COMMA (AreTerms text)) tokens more →
      AreTerms text (own ++ tokens) (term ∷ more)
  terms_joined {own = own} {term = term} it left_out =
      subst (λ (l : List Token). AreTerms text l (term ∷ [])) (sym (append-nil own)) (family.one_term it)
  terms_joined it (there (behind comma more)) = family.more_terms it comma more

  factors_joined : {own tokens : List Token} {factor : WrittenTerm} {more : List (PlacedName × WrittenTerm)} → IsFactor text own factor →
      Many (IsOperationAndFactor text) tokens more →
      AreFactors text (own ++ tokens) (factor ∷ map (λ pair. pair.1) more) (map (λ pair. pair.0) more)
  factors_joined {own = own} {factor = factor} it no_more =
      subst (λ (l : List Token). AreFactors text l (factor ∷ []) []) (sym (append-nil own)) (family.one_factor it)
  factors_joined {own = own} {factor = factor} it
      (and_then {rest = rest} {values = others}
      (operation_and_factor {tokens = name_tokens} {rest = factor_tokens} {name = name} {factor = next} is_name is_factor) more) =
      subst (λ (l : List Token). AreFactors text l (factor ∷ next ∷ map (λ pair. pair.1) others) (name ∷ map (λ pair. pair.0) others))
      (append_assoc own name_tokens (factor_tokens ++ rest) ∙ ap (λ l. own ++ l) (sym (append_assoc name_tokens factor_tokens rest)))
      (family.more_factors it is_name (factors_joined is_factor more))

  grouped_term : {own tokens : List Token} {factor : WrittenTerm} {more : List (PlacedName × WrittenTerm)} → IsFactor text own factor →
      Many (IsOperationAndFactor text) tokens more →
      IsTerm text (own ++ tokens) (grouped_left infix_term factor more)
  grouped_term {factor = factor} {more = more} it others =
      family.grouped_factors (factors_joined it others) (grouped_is infix_term factor more)

  term_row : KeepsParts text (row_of (Terms row.Term) terms.TERM (Part terms.FACTOR ∷ Part terms.MORE_FACTORS ∷ []))
  term_row _ _ value (part (as_one (started it)) (part (as_one p2) nothing)) given =
      shown _ _ given (started (grouped_term it p2)) (simp (append-nil) refl)

  no_more_factors_row : KeepsParts text (row_of (Terms row.NoMoreFactors) terms.MORE_FACTORS [])
  no_more_factors_row _ _ value nothing given = shown _ _ given no_more refl

  more_factors_row : KeepsParts text
      (row_of (Terms row.MoreFactors) terms.MORE_FACTORS (Part names.OPERATION_NAME ∷ Part terms.FACTOR ∷ Part terms.MORE_FACTORS ∷ []))
  more_factors_row _ _ value (part (as_one p1) (part (as_one (started it)) (part (as_one p3) nothing))) given =
      shown _ _ given (and_then (operation_and_factor p1 it) p3) (simp (append-nil, append_assoc) refl)

  applied_factor_row : KeepsParts text
      (row_of (Terms row.AppliedFactor) terms.FACTOR (Part names.OPERATION_NAME ∷ Part terms.ARGUMENTS ∷ Part terms.SORT_MARK ∷ []))
  applied_factor_row _ _ value (part (as_one p1) (part (as_one p2) (part (as_one p3) nothing))) given =
      shown _ _ given (applied_started p1 p2 p3) (simp (append-nil, append_assoc) refl)

  bracketed_factor_row : KeepsParts text
      (row_of (Terms row.BracketedFactor) terms.FACTOR
      (Tok kind.LEFT_PARENTHESIS ∷ Part terms.TERM ∷ Tok kind.RIGHT_PARENTHESIS ∷ Part terms.SORT_MARK ∷ []))
  bracketed_factor_row _ _ value (token t1 i1 (part (as_one (started it)) (token t2 i2 (part (as_one p2) nothing)))) given =
      shown _ _ given (started (marked_factor (family.bracketed (is_of t1 i1) it (is_of t2 i2)) p2)) (simp (append-nil, append_assoc) refl)

  no_arguments_row : KeepsParts text (row_of (Terms row.NoArguments) terms.ARGUMENTS [])
  no_arguments_row _ _ value nothing given = shown _ _ given family.no_arguments refl

  arguments_row : KeepsParts text
      (row_of (Terms row.Arguments) terms.ARGUMENTS (Tok kind.LEFT_PARENTHESIS ∷ Part terms.TERM_LIST ∷ Tok kind.RIGHT_PARENTHESIS ∷ []))
  arguments_row _ _ value (token t1 i1 (part (as_one p1) (token t2 i2 nothing))) given =
      shown _ _ given (family.some_arguments (is_of t1 i1) p1 (is_of t2 i2)) refl

  no_sort_mark_row : KeepsParts text (row_of (Terms row.NoSortMark) terms.SORT_MARK [])
  no_sort_mark_row _ _ value nothing given = shown _ _ given no_sort_mark refl

  sort_mark_row : KeepsParts text (row_of (Terms row.SortMark) terms.SORT_MARK (Tok kind.OF ∷ Part names.NAME ∷ []))
  sort_mark_row _ _ value (token t1 i1 (part (as_one (names_family.a_name i)) nothing)) given =
      shown _ _ given (a_sort_mark (is_of t1 i1) i) refl

  term_list_row : KeepsParts text (row_of (Terms row.TermList) terms.TERM_LIST (Part terms.TERM ∷ Part terms.MORE_TERMS ∷ []))
  term_list_row _ _ value (part (as_one (started it)) (part (as_one p2) nothing)) given =
      shown _ _ given (terms_joined it p2) (simp (append-nil) refl)

  no_more_terms_row : KeepsParts text (row_of (Terms row.NoMoreTerms) terms.MORE_TERMS [])
  no_more_terms_row _ _ value nothing given = shown _ _ given left_out refl

  more_terms_row : KeepsParts text (row_of (Terms row.MoreTerms) terms.MORE_TERMS (Tok kind.COMMA ∷ Part terms.TERM_LIST ∷ []))
  more_terms_row _ _ value (token t1 i1 (part (as_one p1) nothing)) given =
      shown _ _ given (there (behind (is_of t1 i1) p1)) (simp (append-nil) refl)

  pub terms_keep : Each (KeepsParts text) terms_rows
  terms_keep = (
    term_row,
    (
      no_more_factors_row,
      (
        more_factors_row,
        (
          applied_factor_row,
          (
            bracketed_factor_row,
            (
              no_arguments_row,
              (arguments_row, (no_sort_mark_row, (sort_mark_row, (term_list_row, (no_more_terms_row, (more_terms_row, tt)))))),
            ),
          ),
        ),
      ),
    ),
  )
