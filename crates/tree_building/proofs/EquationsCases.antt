-- What the definition of equations says is derived by their rows.
use Rattle.std.proofs.Common.{◌≡◌, ◌∙◌, ℕ, List, [], ◌∷◌, ◌++◌, refl, ap, sym, subst, append_assoc}
use Rattle.std.specs.Prelude.{Some, None}
use Rattle.std.proofs.lemmas.List.{append-nil}
use Rattle.lotos_base.specs.Equation.{Place}
use Rattle.lotos_base.specs.WrittenTerm.{WrittenTerm}
use Rattle.lotos_lexer.specs.declared.tokens.Token.{Token}
use Rattle.lotos_lexer.specs.declared.kinds.TheConstants as kind
use Rattle.lotos_rows.specs.declared.terms.TheConstants as terms
use Rattle.lotos_rows.specs.declared.equations.TheConstants as equations
use Rattle.syntax_trees.specs.WrittenVariable.{WrittenVariable}
use Rattle.syntax_trees.specs.WrittenEquation.{WrittenPremiss, WrittenEquation, WrittenGroup}
use Rattle.lotos_rows.specs.Words.{IsOfKind, Optional, left_out, there, Many, no_more, and_then, Separated, last, before_more, behind}
use Rattle.lotos_rows.specs.Names.{place_of, spelled}
use Rattle.lotos_rows.specs.Terms.{IsTerm}
use Rattle.lotos_rows.specs.Equations.{IsPremiss, IsWrittenEquation, IsEquationList, AreForAll, IsEquationGroup}
use Rattle.lotos_rows.specs.Equations as family
use Rattle.tree_building.specs.Meaning.{Meaning, PlainConclusion, a_term, some_variables, some_groups, some_equations, an_equation, a_conclusion, a_premiss}
use Rattle.tree_building.specs.Sentences.{Derived}
use Rattle.tree_building.proofs.NamesDerived.{by_name}
use Rattle.tree_building.proofs.NamesCases.{variables_derived}
use Rattle.tree_building.proofs.TermsCases.{term_derived}
use Rattle.tree_building.proofs.EquationsDerived.{by_no_variables_for_all, by_variables_for_all, by_no_equation_groups, by_equation_groups, by_no_equation_list, by_equation_list, by_no_after_equation, by_after_equation, by_equation, by_equals_after_term, by_conclusion_after_term, by_no_after_first_pair, by_after_first_pair, by_premiss_and_conclusion, by_conclusion, by_premiss, by_no_premiss_right, by_premiss_right}

module _ (text : List ℕ) where
  abbrev D : ℕ → List Token → Meaning → Type 0
  D = Derived text

  -- a term, with the token that it is known to begin with
  begun : {first : Token} {rest : List Token} {term : WrittenTerm} → IsTerm text (first ∷ rest) term →
      D terms.TERM (first ∷ rest) (a_term (record { start = place_of first; term = term }))
  begun {first} {rest} {term} it =
      let found = term_derived text it in
      let same : found.first ≡ first = let e = found.tokens_are in cc in
      subst (λ (t : Token). D terms.TERM (first ∷ rest) (a_term (record { start = place_of t; term = term }))) same found.derived

  pub for_all_derived : {tokens : List Token} {xs : List WrittenVariable} → AreForAll text tokens xs →
      D equations.VARIABLES_FOR_ALL tokens (some_variables xs)
  for_all_derived left_out = by_no_variables_for_all text refl
  for_all_derived (there (behind word xs)) = by_variables_for_all text word (variables_derived text xs) refl

  pub premiss_derived : {tokens : List Token} {premiss : WrittenPremiss} → IsPremiss text tokens premiss →
      D equations.PREMISS tokens (a_premiss premiss)
  premiss_derived (family.true_term {first = first} {rest = rest} {term = term} it) =
      subst (λ (l : List Token). D equations.PREMISS (first ∷ l)
      (a_premiss (record { place = place_of first; left = term; right = None }))) (append-nil rest)
      (by_premiss text (begun it) (by_no_premiss_right text refl) refl)
  premiss_derived (family.equal_terms left equals right) =
      by_premiss text (begun left) (by_premiss_right text equals (term_derived text right).derived refl) refl

  -- the end of an equation behind its first premiss
  abbrev conclusion_of : List WrittenPremiss → Place → WrittenTerm → WrittenTerm → PlainConclusion
  conclusion_of premisses arrow left right = record { premisses = premisses; arrow = arrow; left = left; right = right }

  implied_derived : {arrow equals : Token} {left_tokens right_tokens : List Token} {left right : WrittenTerm}
      → IsOfKind kind.IMPLIES arrow →
      IsTerm text left_tokens left → IsOfKind kind.EQUALS equals →
      IsTerm text right_tokens right → D equations.CONCLUSION (arrow ∷ (left_tokens ++ equals ∷ right_tokens))
      (a_conclusion (conclusion_of [] (place_of arrow) left right))
  implied_derived arrow left equals right =
      by_conclusion text arrow (term_derived text left).derived equals (term_derived text right).derived refl

  conclusion_derived : {comma arrow equals : Token} {tokens left_tokens right_tokens : List Token} {premisses : List WrittenPremiss}
      {left right : WrittenTerm} → IsOfKind kind.COMMA comma →
      Separated kind.COMMA (IsPremiss text) tokens premisses → IsOfKind kind.IMPLIES arrow → IsTerm text left_tokens left →
      IsOfKind kind.EQUALS equals → IsTerm text right_tokens right →
      D equations.CONCLUSION (comma ∷ (tokens ++ arrow ∷ (left_tokens ++ equals ∷ right_tokens)))
      (a_conclusion (conclusion_of premisses (place_of arrow) left right))
  conclusion_derived comma (last it) arrow left equals right =
      by_premiss_and_conclusion text comma (premiss_derived it) (implied_derived arrow left equals right) refl
  conclusion_derived {comma = first} {arrow = word} {equals = sign} {left_tokens = left_tokens} {right_tokens = right_tokens}
      {left = left_term} {right = right_term} comma
      (before_more {tokens = own} {rest = others} {token = next} {value = premiss} {values = premisses} it is_comma more) arrow left
      equals right =
      subst (λ (l : List Token). D equations.CONCLUSION (first ∷ l)
      (a_conclusion (conclusion_of (premiss ∷ premisses) (place_of word) left_term right_term)))
      (sym (append_assoc own (next ∷ others) (word ∷ (left_tokens ++ sign ∷ right_tokens))))
      (by_premiss_and_conclusion text comma (premiss_derived it) (conclusion_derived is_comma more arrow left equals right) refl)

  -- an equation with its first premiss and the end behind it
  premissed_derived : {first : Token} {rest tokens : List Token} {premiss : WrittenPremiss} {conclusion : PlainConclusion} →
      IsPremiss text (first ∷ rest) premiss →
      D equations.CONCLUSION tokens (a_conclusion conclusion) →
      D equations.EQUATION ((first ∷ rest) ++ tokens)
      (an_equation
      (record {
        place = place_of first;
        premisses = premiss ∷ conclusion.premisses;
        arrow = Some conclusion.arrow;
        left =
            conclusion.left;
        right = conclusion.right;
      }))
  premissed_derived (family.true_term it) conclusion = by_equation text (begun it) (by_conclusion_after_term text conclusion refl) refl
  premissed_derived {tokens = tokens} {conclusion = found}
      (family.equal_terms {first = first} {equals = word} {rest = rest} {tokens = right_tokens} {left = left_term} {right = right_term}
      left equals right) conclusion =
      subst (λ (l : List Token). D equations.EQUATION (first ∷ l)
      (an_equation (record {
        place = place_of first;
        premisses = record { place = place_of first; left = left_term; right = Some right_term } ∷ found.premisses;
        arrow = Some found.arrow;
        left = found.left;
        right = found.right;
      })))
      (sym (append_assoc rest (word ∷ right_tokens) tokens))
      (by_equation text (begun left)
      (by_equals_after_term text equals (term_derived text right).derived (by_after_first_pair text conclusion refl) refl) refl)

  -- premisses that begin with a token
  record BegunPremisses (tokens : List Token) (premisses : List WrittenPremiss) : Type 0 where
    first : Token
    rest : List Token
    begins : tokens ≡ first ∷ rest

  with_premisses_derived : {first arrow equals : Token} {rest left_tokens right_tokens : List Token} {premisses : List WrittenPremiss}
      {left right : WrittenTerm} →
      Separated kind.COMMA (IsPremiss text) (first ∷ rest) premisses → IsOfKind kind.IMPLIES arrow → IsTerm text left_tokens left →
      IsOfKind kind.EQUALS equals → IsTerm text right_tokens right →
      D equations.EQUATION ((first ∷ rest) ++ arrow ∷ (left_tokens ++ equals ∷ right_tokens))
      (an_equation (record { place = place_of first; premisses = premisses; arrow = Some (place_of arrow); left = left; right = right }))
  with_premisses_derived {first} {arrow} {equals} {rest} {left_tokens} {right_tokens} {premisses} {left} {right} them is_arrow is_left
      is_equals is_right = by_tokens (first ∷ rest) premisses them refl
    where
      tail : List Token
      tail = arrow ∷ (left_tokens ++ equals ∷ right_tokens)

      made : List WrittenPremiss → Meaning
      made found =
          an_equation (record { place = place_of first; premisses = found; arrow = Some (place_of arrow); left = left; right = right })

      by_first : (tokens : List Token) (premiss : WrittenPremiss) (others : List Token) (more : List WrittenPremiss) →
          IsPremiss text tokens premiss → (begin : Token) (behind_it : List Token) →
          tokens ≡ begin ∷ behind_it → begin ≡ first → D equations.CONCLUSION others
          (a_conclusion (conclusion_of more (place_of arrow) left right)) →
          D equations.EQUATION (tokens ++ others) (made (premiss ∷ more))
      by_first tokens premiss others more it begin behind_it is same conclusion =
          subst (λ (l : List Token). D equations.EQUATION (l ++ others) (made (premiss ∷ more)))
          (sym (is ∙ ap (λ (t : Token). t ∷ behind_it) same))
          (premissed_derived (subst (λ (l : List Token). IsPremiss text l premiss) (is ∙ ap (λ (t : Token). t ∷ behind_it) same) it)
          conclusion)

      begins_with : (tokens : List Token) (premiss : WrittenPremiss) → IsPremiss text tokens premiss →
          (begin : Token) × (behind_it : List Token) × (tokens ≡ begin ∷ behind_it)
      begins_with _ premiss (family.true_term {first = begin} {rest = behind_it} it) = (begin, behind_it, refl)
      begins_with _ premiss
          (family.equal_terms {first = begin} {equals = word} {rest = behind_it} {tokens = others} is_first is_word is_second) =
          (begin, behind_it ++ word ∷ others, refl)

      by_tokens : (tokens : List Token) (found : List WrittenPremiss) → Separated kind.COMMA (IsPremiss text) tokens found →
          tokens ≡ first ∷ rest →
          D equations.EQUATION ((first ∷ rest) ++ tail) (made found)
      by_tokens tokens _ (last {value = premiss} it) same =
          let begin = begins_with tokens premiss it in
          let head : begin.0 ≡ first = let e = sym begin.2 ∙ same in cc in
          subst (λ (l : List Token). D equations.EQUATION (l ++ tail) (made (premiss ∷ []))) same
          (by_first tokens premiss tail [] it begin.0 begin.1 begin.2 head (implied_derived is_arrow is_left is_equals is_right))
      by_tokens _ _ (before_more {tokens = own} {rest = others} {token = comma} {value = premiss} {values = more} it is_comma them_more)
          same =
          let begin = begins_with own premiss it in
          let whole : begin.0 ∷ (begin.1 ++ comma ∷ others) ≡ first ∷ rest =
          sym (ap (λ (l : List Token). l ++ comma ∷ others) begin.2) ∙ same in
          let head : begin.0 ≡ first = cc in
          subst (λ (l : List Token). D equations.EQUATION (l ++ tail) (made (premiss ∷ more))) same
          (subst (λ (l : List Token). D equations.EQUATION l (made (premiss ∷ more))) (sym (append_assoc own (comma ∷ others) tail))
          (by_first own premiss (comma ∷ (others ++ tail)) more it begin.0 begin.1 begin.2 head
          (conclusion_derived is_comma them_more is_arrow is_left is_equals is_right)))

  equation_derived : {tokens : List Token} {equation : WrittenEquation} → IsWrittenEquation text tokens equation →
      D equations.EQUATION tokens (an_equation equation)
  equation_derived
      (family.without_premisses {first = first} {equals = word} {rest = rest} {tokens = right_tokens} {left = left_term}
      {right = right_term} left equals right) =
      subst (λ (l : List Token). D equations.EQUATION (first ∷ (rest ++ word ∷ l))
      (an_equation (record { place = place_of first; premisses = []; arrow = None; left = left_term; right = right_term })))
      (append-nil right_tokens)
      (by_equation text (begun left)
      (by_equals_after_term text equals (term_derived text right).derived (by_no_after_first_pair text refl) refl) refl)
  equation_derived (family.with_premisses premisses arrow left equals right) = with_premisses_derived premisses arrow left equals right

  equations_derived : {tokens : List Token} {found : List WrittenEquation} → IsEquationList text tokens found →
      D equations.EQUATION_LIST tokens (some_equations found)
  equations_derived (family.last_equation {tokens = own} {equation = equation} it) =
      subst (λ (l : List Token). D equations.EQUATION_LIST l (some_equations (equation ∷ []))) (append-nil own)
      (by_equation_list text (equation_derived it) (by_no_after_equation text refl) refl)
  equations_derived (family.ended_equation it semicolon) =
      by_equation_list text (equation_derived it) (by_after_equation text semicolon (by_no_equation_list text refl) refl) refl
  equations_derived (family.more_equations it semicolon more) =
      by_equation_list text (equation_derived it) (by_after_equation text semicolon (equations_derived more) refl) refl

  optional_equations_derived : {tokens : List Token} {found : List WrittenEquation} → Optional [] (IsEquationList text) tokens found →
      D equations.EQUATION_LIST tokens (some_equations found)
  optional_equations_derived left_out = by_no_equation_list text refl
  optional_equations_derived (there it) = equations_derived it

  pub groups_derived : {tokens : List Token} {found : List WrittenGroup} → Many (IsEquationGroup text) tokens found →
      D equations.EQUATION_GROUPS tokens (some_groups found)
  groups_derived no_more = by_no_equation_groups text refl
  groups_derived
      (and_then {rest = others} {values = more}
      (family.group_of_sort {word = word} {sort = name} {variable_tokens = variable_tokens} {tokens = own} {variables = xs}
      {equations = found} is_word sort variables them) groups) =
      subst (λ (l : List Token). D equations.EQUATION_GROUPS (word ∷ name ∷ l)
      (some_groups (record { place = place_of name; sort = spelled text name; variables = xs; equations = found } ∷ more)))
      (sym (append_assoc variable_tokens own others))
      (by_equation_groups text is_word (by_name text sort refl) (for_all_derived variables) (optional_equations_derived them)
      (groups_derived groups) refl)
