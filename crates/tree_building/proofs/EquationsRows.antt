-- The rows of equations keep what their parts are.
use Rattle.std.proofs.Common.{◌≡◌, ◌∙◌, ℕ, List, [], ◌∷◌, ◌++◌, refl, ap, sym, subst, append_assoc}
use Rattle.std.specs.Prelude.{Option, Some, None}
use Rattle.std.proofs.lemmas.List.{append-nil}
use Rattle.ll_engine.specs.Values.{nothing, token, part}
use Rattle.lotos_lexer.specs.declared.tokens.Token.{Token}
use Rattle.lotos_lexer.specs.declared.kinds.TheConstants as kind
use Rattle.lotos_rows.specs.Row.{row_of}
use Rattle.lotos_rows.specs.declared.equations.TheConstants as equations
use Rattle.lotos_rows.specs.declared.names.TheConstants as names
use Rattle.lotos_rows.specs.declared.terms.TheConstants as terms
use Rattle.lotos_rows.specs.declared.equations.EquationsRow.TheVariants as row
use Rattle.lotos_rows.specs.declared.row_names.RowName.TheVariants.{Equations}
use Rattle.ll_engine.specs.declared.symbol.Symbol.TheVariants.{Token as Tok, Part}
use Rattle.tree_building.specs.PartSentences.{As, as_one}
use Rattle.tree_building.specs.Sentences.{KeepsParts}
use Rattle.lotos_base.specs.WrittenTerm.{WrittenTerm}
use Rattle.lotos_base.specs.Equation.{Place}
use Rattle.syntax_trees.specs.WrittenEquation.{WrittenPremiss, WrittenEquation}
use Rattle.lotos_rows.specs.Words.{IsOfKind, left_out, there, no_more, and_then, Separated, last, before_more, Behind, behind}
use Rattle.lotos_rows.specs.Names.{place_of}
use Rattle.lotos_rows.specs.Names as names_family
use Rattle.lotos_rows.specs.Terms.{IsTerm}
use Rattle.lotos_rows.specs.Equations.{IsPremiss, IsWrittenEquation, IsEquationList}
use Rattle.lotos_rows.specs.Equations as family
use Rattle.lotos_rows.specs.EquationsRows.{equations_rows}
use Rattle.tree_building.specs.Meaning.{PlainConclusion, PlainAfterTerm, an_equation, Meaning}
use Rattle.tree_building.specs.EquationsMeaning.{first_premiss, equation_from}
use Rattle.tree_building.specs.TermsSentences.{started}
use Rattle.tree_building.specs.EquationsSentences.{Perhaps, not_there, is_there, IsEquationEnd, ends_without, ends_with_semicolon, IsConclusion, implied, behind_premiss, IsAfterTerm, right_side, only_conclusion}
use Rattle.lotos_base.proofs.Each.{Each}
use Rattle.tree_building.proofs.Lists.{is_of, shown}

module _ (text : List ℕ) where
  equations_joined : {own tokens : List Token} {equation : WrittenEquation} {more : List WrittenEquation}
      → IsWrittenEquation text own equation →
      IsEquationEnd text tokens more →
      IsEquationList text (own ++ tokens) (equation ∷ more)
  equations_joined {own = own} {equation = equation} it ends_without =
      subst (λ (l : List Token). IsEquationList text l (equation ∷ [])) (sym (append-nil own)) (family.last_equation it)
  equations_joined it (ends_with_semicolon semicolon left_out) = family.ended_equation it semicolon
  equations_joined it (ends_with_semicolon semicolon (there more)) = family.more_equations it semicolon more

  premiss_ended : {first : Token} {rest tokens : List Token} {left : WrittenTerm} {right : Option WrittenTerm} →
      IsTerm text (first ∷ rest) left → Perhaps (Behind kind.EQUALS (IsTerm text)) tokens right →
      IsPremiss text ((first ∷ rest) ++ tokens) (first_premiss (record { start = place_of first; term = left }) right)
  premiss_ended {first = first} {rest = rest} {left = left} it not_there =
      subst (λ (l : List Token). IsPremiss text (first ∷ l) (first_premiss (record { start = place_of first; term = left }) None))
      (sym (append-nil rest)) (family.true_term it)
  premiss_ended it (is_there (behind equals right)) = family.equal_terms it equals right

  -- premisses, the first of them known, and the equation behind the arrow
  record Premissed (own : List Token) (premiss : WrittenPremiss) (conclusion : PlainConclusion) : Type 0 where
    premiss_tokens : List Token
    left_tokens : List Token
    right_tokens : List Token
    arrow : Token
    equals : Token
    tokens_are : own ≡ premiss_tokens ++ arrow ∷ (left_tokens ++ equals ∷ right_tokens)
    premisses : Separated kind.COMMA (IsPremiss text) premiss_tokens (premiss ∷ conclusion.premisses)
    is_arrow : IsOfKind kind.IMPLIES arrow
    arrow_is : conclusion.arrow ≡ place_of arrow
    left_is : IsTerm text left_tokens conclusion.left
    is_equals : IsOfKind kind.EQUALS equals
    right_is : IsTerm text right_tokens conclusion.right

  premissed : {own tokens : List Token} {premiss : WrittenPremiss} {conclusion : PlainConclusion} → IsPremiss text own premiss →
      IsConclusion text tokens conclusion → Premissed (own ++ tokens) premiss conclusion
  premissed {own = own} it
      (implied {arrow = arrow} {equals = equals} {left_tokens = left_tokens} {tokens = tokens} is_arrow left is_equals right) = record {
        premiss_tokens = own;
        left_tokens = left_tokens;
        right_tokens = tokens;
        arrow = arrow;
        equals = equals;
        tokens_are = refl;
        premisses = last it;
        is_arrow = is_arrow;
        arrow_is = refl;
        left_is = left;
        is_equals = is_equals;
        right_is = right;
      }
  premissed {own = own} it (behind_premiss {comma = comma} is_comma next more) =
      let others = premissed next more in
      record {
        premiss_tokens = own ++ comma ∷ others.premiss_tokens;
        left_tokens = others.left_tokens;
        right_tokens = others.right_tokens;
        arrow = others.arrow;
        equals = others.equals;
        tokens_are =
            ap (λ l. own ++ comma ∷ l) others.tokens_are ∙ sym
            (append_assoc own (comma ∷ others.premiss_tokens) (others.arrow ∷ (others.left_tokens ++ others.equals ∷ others.right_tokens)));
        premisses = before_more it is_comma others.premisses;
        is_arrow = others.is_arrow;
        arrow_is = others.arrow_is;
        left_is = others.left_is;
        is_equals = others.is_equals;
        right_is = others.right_is;
      }

  premisses_begin : {tokens : List Token} {premisses : List WrittenPremiss} → Separated kind.COMMA (IsPremiss text) tokens premisses →
      (first : Token) × (rest : List Token) × (tokens ≡ first ∷ rest)
  premisses_begin (last (family.true_term {first = first} {rest = rest} it)) = (first, rest, refl)
  premisses_begin (last (family.equal_terms {first = first} {equals = equals} {rest = rest} {tokens = tokens} left is right)) =
      (first, rest ++ equals ∷ tokens, refl)
  premisses_begin (before_more {rest = others} {token = comma} (family.true_term {first = first} {rest = rest} it) is more) =
      (first, rest ++ comma ∷ others, refl)
  premisses_begin
      (before_more {rest = others} {token = comma}
      (family.equal_terms {first = first} {equals = equals} {rest = rest} {tokens = tokens} left is_equals right) is more) =
      (first, (rest ++ equals ∷ tokens) ++ comma ∷ others, refl)

  -- an equation whose premisses begin with this token
  premissed_equation : {first : Token} {rest : List Token} {premiss : WrittenPremiss} {conclusion : PlainConclusion} →
      Premissed (first ∷ rest) premiss conclusion →
      IsWrittenEquation text (first ∷ rest)
      (record {
        place = place_of first;
        premisses = premiss ∷ conclusion.premisses;
        arrow = Some conclusion.arrow;
        left =
            conclusion.left;
        right = conclusion.right;
      })
  premissed_equation {first} {rest} {premiss} {conclusion} it =
      let made : Token → Place → WrittenEquation =
      λ place arrow. record {
        place = place_of place;
        premisses = premiss ∷ conclusion.premisses;
        arrow = Some arrow;
        left = conclusion.left;
        right =
            conclusion.right;
      } in
      let begin = premisses_begin it.premisses in
      let tail = it.arrow ∷ (it.left_tokens ++ it.equals ∷ it.right_tokens) in
      let whole : first ∷ rest ≡ begin.0 ∷ (begin.1 ++ tail) = it.tokens_are ∙ ap (λ (l : List Token). l ++ tail) begin.2 in
      let same : begin.0 ≡ first = cc in
      let equation =
      family.with_premisses
      (subst (λ (l : List Token). Separated kind.COMMA (IsPremiss text) l (premiss ∷ conclusion.premisses)) begin.2 it.premisses)
      it.is_arrow it.left_is it.is_equals it.right_is in
      subst (λ (place : Token). IsWrittenEquation text (first ∷ rest) (made place conclusion.arrow)) same
      (subst (λ (arrow : Place). IsWrittenEquation text (first ∷ rest) (made begin.0 arrow)) (sym it.arrow_is)
      (subst (λ (l : List Token). IsWrittenEquation text l (made begin.0 (place_of it.arrow))) (sym whole) equation))

  -- the meaning of a first term and what stands behind it
  equation_meant : {first : Token} {rest tokens : List Token} {term : WrittenTerm} {after : PlainAfterTerm} {value : Meaning} →
      IsTerm text (first ∷ rest) term → IsAfterTerm text tokens after →
      equation_from (record { start = place_of first; term = term }) after.right after.conclusion ≡ Some value →
      As an_equation (IsWrittenEquation text) ((first ∷ rest) ++ (tokens ++ [])) value
  equation_meant {first = first} {rest = rest} it (right_side {equals = word} {tokens = right_tokens} equals right not_there) given =
      shown _ _ given (family.without_premisses it equals right)
      (ap (λ (l : List Token). first ∷ (rest ++ word ∷ l)) (sym (append-nil right_tokens) ∙ sym (append-nil (right_tokens ++ []))))
  equation_meant it (right_side equals right (is_there conclusion)) given =
      shown _ _ given (premissed_equation (premissed (family.equal_terms it equals right) conclusion))
      (simp (append-nil, append_assoc) refl)
  equation_meant it (only_conclusion conclusion) given =
      shown _ _ given (premissed_equation (premissed (family.true_term it) conclusion)) (simp (append-nil) refl)

  no_variables_for_all_row : KeepsParts text (row_of (Equations row.NoVariablesForAll) equations.VARIABLES_FOR_ALL [])
  no_variables_for_all_row _ _ value nothing given = shown _ _ given left_out refl

  variables_for_all_row : KeepsParts text
      (row_of (Equations row.VariablesForAll) equations.VARIABLES_FOR_ALL (Tok kind.FORALL ∷ Part names.VARIABLES ∷ []))
  variables_for_all_row _ _ value (token t1 i1 (part (as_one p1) nothing)) given =
      shown _ _ given (there (behind (is_of t1 i1) p1)) (simp (append-nil) refl)

  no_equation_groups_row : KeepsParts text (row_of (Equations row.NoEquationGroups) equations.EQUATION_GROUPS [])
  no_equation_groups_row _ _ value nothing given = shown _ _ given no_more refl

  equation_groups_row : KeepsParts text
      (row_of (Equations row.EquationGroups) equations.EQUATION_GROUPS
      (Tok kind.OFSORT ∷ Part names.NAME ∷ Part equations.VARIABLES_FOR_ALL ∷ Part equations.EQUATION_LIST ∷ Part
      equations.EQUATION_GROUPS ∷ []))
  equation_groups_row _ _ value
      (token t1 i1 (part (as_one (names_family.a_name i)) (part (as_one p2) (part (as_one p3) (part (as_one p4) nothing))))) given =
      shown _ _ given (and_then (family.group_of_sort (is_of t1 i1) i p2 p3) p4) (simp (append-nil, append_assoc) refl)

  no_equation_list_row : KeepsParts text (row_of (Equations row.NoEquationList) equations.EQUATION_LIST [])
  no_equation_list_row _ _ value nothing given = shown _ _ given left_out refl

  equation_list_row : KeepsParts text
      (row_of (Equations row.EquationList) equations.EQUATION_LIST (Part equations.EQUATION ∷ Part equations.AFTER_EQUATION ∷ []))
  equation_list_row _ _ value (part (as_one p1) (part (as_one p2) nothing)) given =
      shown _ _ given (there (equations_joined p1 p2)) (simp (append-nil) refl)

  no_after_equation_row : KeepsParts text (row_of (Equations row.NoAfterEquation) equations.AFTER_EQUATION [])
  no_after_equation_row _ _ value nothing given = shown _ _ given ends_without refl

  after_equation_row : KeepsParts text
      (row_of (Equations row.AfterEquation) equations.AFTER_EQUATION (Tok kind.SEMICOLON ∷ Part equations.EQUATION_LIST ∷ []))
  after_equation_row _ _ value (token t1 i1 (part (as_one p1) nothing)) given =
      shown _ _ given (ends_with_semicolon (is_of t1 i1) p1) (simp (append-nil) refl)

  equation_row : KeepsParts text
      (row_of (Equations row.Equation) equations.EQUATION (Part terms.TERM ∷ Part equations.AFTER_FIRST_TERM ∷ []))
  equation_row _ _ value (part (as_one (started it)) (part (as_one p2) nothing)) given = equation_meant it p2 given

  equals_after_term_row : KeepsParts text
      (row_of (Equations row.EqualsAfterTerm) equations.AFTER_FIRST_TERM
      (Tok kind.EQUALS ∷ Part terms.TERM ∷ Part equations.AFTER_FIRST_PAIR ∷ []))
  equals_after_term_row _ _ value (token t1 i1 (part (as_one (started it)) (part (as_one p2) nothing))) given =
      shown _ _ given (right_side (is_of t1 i1) it p2) (simp (append-nil) refl)

  conclusion_after_term_row : KeepsParts text
      (row_of (Equations row.ConclusionAfterTerm) equations.AFTER_FIRST_TERM (Part equations.CONCLUSION ∷ []))
  conclusion_after_term_row _ _ value (part (as_one p1) nothing) given = shown _ _ given (only_conclusion p1) (simp (append-nil) refl)

  no_after_first_pair_row : KeepsParts text (row_of (Equations row.NoAfterFirstPair) equations.AFTER_FIRST_PAIR [])
  no_after_first_pair_row _ _ value nothing given = shown _ _ given not_there refl

  after_first_pair_row : KeepsParts text (row_of (Equations row.AfterFirstPair) equations.AFTER_FIRST_PAIR (Part equations.CONCLUSION ∷ []))
  after_first_pair_row _ _ value (part (as_one p1) nothing) given = shown _ _ given (is_there p1) (simp (append-nil) refl)

  premiss_and_conclusion_row : KeepsParts text
      (row_of (Equations row.PremissAndConclusion) equations.CONCLUSION
      (Tok kind.COMMA ∷ Part equations.PREMISS ∷ Part equations.CONCLUSION ∷ []))
  premiss_and_conclusion_row _ _ value (token t1 i1 (part (as_one p1) (part (as_one p2) nothing))) given =
      shown _ _ given (behind_premiss (is_of t1 i1) p1 p2) (simp (append-nil) refl)

  conclusion_row : KeepsParts text
      (row_of (Equations row.Conclusion) equations.CONCLUSION (Tok kind.IMPLIES ∷ Part terms.TERM ∷ Tok kind.EQUALS ∷ Part terms.TERM ∷ []))
  conclusion_row _ _ value (token t1 i1 (part (as_one (started it)) (token t2 i2 (part (as_one (started other)) nothing)))) given =
      shown _ _ given (implied (is_of t1 i1) it (is_of t2 i2) other) (simp (append-nil) refl)

  premiss_row : KeepsParts text (row_of (Equations row.Premiss) equations.PREMISS (Part terms.TERM ∷ Part equations.PREMISS_RIGHT ∷ []))
  premiss_row _ _ value (part (as_one (started it)) (part (as_one p2) nothing)) given =
      shown _ _ given (premiss_ended it p2) (simp (append-nil) refl)

  no_premiss_right_row : KeepsParts text (row_of (Equations row.NoPremissRight) equations.PREMISS_RIGHT [])
  no_premiss_right_row _ _ value nothing given = shown _ _ given not_there refl

  premiss_right_row : KeepsParts text (row_of (Equations row.PremissRight) equations.PREMISS_RIGHT (Tok kind.EQUALS ∷ Part terms.TERM ∷ []))
  premiss_right_row _ _ value (token t1 i1 (part (as_one (started it)) nothing)) given =
      shown _ _ given (is_there (behind (is_of t1 i1) it)) (simp (append-nil) refl)

  pub equations_keep : Each (KeepsParts text) equations_rows
  equations_keep = (
    no_variables_for_all_row,
    (
      variables_for_all_row,
      (
        no_equation_groups_row,
        (
          equation_groups_row,
          (
            no_equation_list_row,
            (
              equation_list_row,
              (
                no_after_equation_row,
                (
                  after_equation_row,
                  (
                    equation_row,
                    (
                      equals_after_term_row,
                      (
                        conclusion_after_term_row,
                        (
                          no_after_first_pair_row,
                          (
                            after_first_pair_row,
                            (premiss_and_conclusion_row, (conclusion_row, (premiss_row, (no_premiss_right_row, (premiss_right_row, tt))))),
                          ),
                        ),
                      ),
                    ),
                  ),
                ),
              ),
            ),
          ),
        ),
      ),
    ),
  )
