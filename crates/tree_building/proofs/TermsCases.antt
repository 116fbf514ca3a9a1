-- What the definition of terms says is derived by their rows.
use Rattle.std.proofs.Common.{◌≡◌, ◌∙◌, ℕ, List, [], ◌∷◌, ◌++◌, map, refl, ap, sym, subst, append_assoc}
use Rattle.std.proofs.lemmas.List.{append-nil}
use Rattle.lotos_base.specs.WrittenTerm.{PlacedName, WrittenTerm}
use Rattle.lotos_lexer.specs.declared.tokens.Token.{Token}
use Rattle.lotos_lexer.specs.declared.kinds.TheConstants as kind
use Rattle.lotos_rows.specs.declared.terms.TheConstants as terms
use Rattle.syntax_trees.specs.LeftGrouping.{IsGroupedLeft, grouped_left}
use Rattle.lotos_rows.specs.Words.{IsOfKind}
use Rattle.lotos_rows.specs.Names.{named, place_of, IsOperationName}
use Rattle.lotos_rows.specs.Names as names_family
use Rattle.lotos_rows.specs.Terms.{applied, infix_term, of_sort, IsTerm, AreFactors, IsFactor, IsBase, AreTerms, AreArguments}
use Rattle.lotos_rows.specs.Terms as family
use Rattle.tree_building.specs.Meaning.{Meaning, a_term, some_names, some_factors, some_terms}
use Rattle.tree_building.specs.TermsMeaning.{with_written_sorts}
use Rattle.tree_building.specs.Sentences.{Derived}
use Rattle.tree_building.proofs.Grouping.{with_no_sorts, with_one_sort, grouped_one}
use Rattle.tree_building.proofs.NamesDerived.{by_name}
use Rattle.tree_building.proofs.NamesCases.{operation_name_derived}
use Rattle.tree_building.proofs.TermsDerived.{by_term, by_no_more_factors, by_more_factors, by_applied_factor, by_bracketed_factor, by_no_arguments, by_arguments, by_no_sort_mark, by_sort_mark, by_term_list, by_no_more_terms, by_more_terms}

module _ (text : List ℕ) where
  abbrev D : ℕ → List Token → Meaning → Type 0
  D = Derived text

  -- a term that is derived, with the token that it begins with
  pub record TermDerived (p : ℕ) (tokens : List Token) (term : WrittenTerm) : Type 0 where
    pub first : Token
    pub rest : List Token
    pub tokens_are : tokens ≡ first ∷ rest
    pub derived : D p tokens (a_term (record { start = place_of first; term = term }))

  -- the first factor of a term, and those behind it with their operations
  record FactorsDerived (tokens : List Token) (factors : List WrittenTerm) (operations : List PlacedName) : Type 0 where
    own : List Token
    others : List Token
    factor : WrittenTerm
    more : List (PlacedName × WrittenTerm)
    tokens_are : tokens ≡ own ++ others
    factors_are : factors ≡ factor ∷ map (λ pair. pair.1) more
    operations_are : operations ≡ map (λ pair. pair.0) more
    factor_derived : TermDerived terms.FACTOR own factor
    more_derived : D terms.MORE_FACTORS others (some_factors more)

  first_factor : {tokens : List Token} {factor : WrittenTerm} → TermDerived terms.FACTOR tokens factor →
      FactorsDerived tokens (factor ∷ []) []
  first_factor {tokens} {factor} it = record {
    own = tokens;
    others = [];
    factor = factor;
    more = [];
    tokens_are = sym (append-nil tokens);
    factors_are = refl;
    operations_are = refl;
    factor_derived = it;
    more_derived = by_no_more_factors text refl;
  }

  factor_before : {tokens name_tokens rest : List Token} {factor : WrittenTerm} {name : PlacedName} {factors : List WrittenTerm}
      {operations : List PlacedName} →
      TermDerived terms.FACTOR tokens factor → IsOperationName text name_tokens name → FactorsDerived rest factors operations →
      FactorsDerived ((tokens ++ name_tokens) ++ rest) (factor ∷ factors) (name ∷ operations)
  factor_before {tokens} {name_tokens} {rest} {factor} {name} it is_name behind = record {
    own = tokens;
    others = name_tokens ++ (behind.own ++ behind.others);
    factor = factor;
    more = (name, behind.factor) ∷ behind.more;
    tokens_are = append_assoc tokens name_tokens rest ∙ ap (λ l. tokens ++ (name_tokens ++ l)) behind.tokens_are;
    factors_are = ap (λ l. factor ∷ l) behind.factors_are;
    operations_are = ap (λ l. name ∷ l) behind.operations_are;
    factor_derived = it;
    more_derived = by_more_factors text (operation_name_derived text is_name) behind.factor_derived.derived behind.more_derived refl;
  }

  whole_term : {tokens : List Token} {factors : List WrittenTerm} {operations : List PlacedName} {term : WrittenTerm} →
      FactorsDerived tokens factors operations →
      IsGroupedLeft infix_term factors operations term → TermDerived terms.TERM tokens term
  whole_term {tokens} {factors} {operations} {term} it grouped =
      let factor = it.factor_derived in
      let term_is : term ≡ grouped_left infix_term it.factor it.more = grouped_one infix_term it.factor it.more term
      (subst (λ (l : List PlacedName). IsGroupedLeft infix_term (it.factor ∷ map (λ pair. pair.1) it.more) l term) it.operations_are
      (subst (λ (l : List WrittenTerm). IsGroupedLeft infix_term l operations term) it.factors_are grouped)) in
      record {
        first = factor.first;
        rest = factor.rest ++ it.others;
        tokens_are = it.tokens_are ∙ ap (λ l. l ++ it.others) factor.tokens_are;
        derived =
            subst (λ (t : WrittenTerm). D terms.TERM tokens (a_term (record { start = place_of factor.first; term = t }))) (sym term_is)
            (subst (λ (l : List Token). D terms.TERM l
            (a_term (record { start = place_of factor.first; term = grouped_left infix_term it.factor it.more }))) (sym it.tokens_are)
            (by_term text factor.derived it.more_derived refl));
      }

  applied_from : {own arguments mark : List Token} {name : PlacedName} {found : List WrittenTerm} {sorts : List PlacedName} →
      IsOperationName text own name →
      D terms.ARGUMENTS arguments (some_terms found) → D terms.SORT_MARK mark (some_names sorts) →
      TermDerived terms.FACTOR (own ++ (arguments ++ mark)) (with_written_sorts sorts (applied name found))
  applied_from {arguments = arguments} {mark = mark} (names_family.word_name {name = name} is) found sorts =
      record {
        first = name;
        rest = arguments ++ mark;
        tokens_are = refl;
        derived = by_applied_factor text
            (operation_name_derived text (names_family.word_name is)) found sorts refl;
      }
  applied_from {arguments = arguments} {mark = mark} (names_family.digit_name {name = name} is) found sorts =
      record {
        first = name;
        rest = arguments ++ mark;
        tokens_are = refl;
        derived = by_applied_factor text
            (operation_name_derived text (names_family.digit_name is)) found sorts refl;
      }
  applied_from {arguments = arguments} {mark = mark} (names_family.sign_name {name = name} is) found sorts =
      record {
        first = name;
        rest = arguments ++ mark;
        tokens_are = refl;
        derived = by_applied_factor text
            (operation_name_derived text (names_family.sign_name is)) found sorts refl;
      }

  bracketed_from : {own mark : List Token} {left right : Token} {term : WrittenTerm} {sorts : List PlacedName} →
      IsOfKind kind.LEFT_PARENTHESIS left → TermDerived terms.TERM own term →
      IsOfKind kind.RIGHT_PARENTHESIS right → D terms.SORT_MARK mark (some_names sorts) →
      TermDerived terms.FACTOR (left ∷ (own ++ right ∷ mark)) (with_written_sorts sorts term)
  bracketed_from {own = own} {mark = mark} {left = left} {right = right} is_left it is_right sorts =
      record {
        first = left;
        rest = own ++ right ∷ mark;
        tokens_are = refl;
        derived = by_bracketed_factor text is_left it.derived is_right
            sorts refl;
      }

  at_tokens : {p : ℕ} {tokens other : List Token} {term : WrittenTerm} → other ≡ tokens → TermDerived p other term →
      TermDerived p tokens term
  at_tokens {p} {tokens} {other} {term} same it = subst (λ (l : List Token). TermDerived p l term) same it

  at_term : {p : ℕ} {tokens : List Token} {term other : WrittenTerm} → other ≡ term → TermDerived p tokens other → TermDerived p tokens term
  at_term {p} {tokens} {term} {other} same it = subst (TermDerived p tokens) same it

  mutual
    pub term_derived : {tokens : List Token} {term : WrittenTerm} → IsTerm text tokens term → TermDerived terms.TERM tokens term
    term_derived (family.grouped_factors factors grouped) = whole_term (factors_derived factors) grouped

    factors_derived : {tokens : List Token} {factors : List WrittenTerm} {operations : List PlacedName} →
        AreFactors text tokens factors operations → FactorsDerived tokens factors operations
    factors_derived (family.one_factor it) = first_factor (factor_derived it)
    factors_derived (family.more_factors it name more) = factor_before (factor_derived it) name (factors_derived more)

    factor_derived : {tokens : List Token} {factor : WrittenTerm} → IsFactor text tokens factor → TermDerived terms.FACTOR tokens factor
    factor_derived (family.without_sort {tokens = own} {term = term} base) =
        at_term (with_no_sorts term) (at_tokens (append-nil own) (base_derived base (by_no_sort_mark text refl)))
    factor_derived (family.with_sort {sort = sort} {term = term} base is_of is_sort) =
        at_term (sym (with_one_sort (named text sort) term)) (base_derived base (by_sort_mark text is_of (by_name text is_sort refl) refl))

    base_derived : {own mark : List Token} {term : WrittenTerm} {sorts : List PlacedName} → IsBase text own term →
        D terms.SORT_MARK mark (some_names sorts) →
        TermDerived terms.FACTOR (own ++ mark) (with_written_sorts sorts term)
    base_derived (family.without_arguments name) sorts = applied_from name (by_no_arguments text refl) sorts
    base_derived {mark = mark}
        (family.with_arguments {tokens = own} {argument_tokens = found} {left = left} {right = right} name is_left arguments is_right)
        sorts =
        at_tokens (sym (append_assoc own (left ∷ (found ++ right ∷ [])) mark))
        (applied_from name (by_arguments text is_left (terms_derived arguments) is_right refl) sorts)
    base_derived {mark = mark} (family.bracketed {tokens = own} {left = left} {right = right} is_left it is_right) sorts =
        at_tokens (ap (λ l. left ∷ l) (sym (append_assoc own (right ∷ []) mark))) (bracketed_from is_left (term_derived it) is_right sorts)

    pub terms_derived : {tokens : List Token} {found : List WrittenTerm} → AreTerms text tokens found →
        D terms.TERM_LIST tokens (some_terms found)
    terms_derived (family.one_term {tokens = own} {term = term} it) =
        subst (λ (l : List Token). D terms.TERM_LIST l (some_terms (term ∷ []))) (append-nil own)
        (by_term_list text (term_derived it).derived (by_no_more_terms text refl) refl)
    terms_derived (family.more_terms it comma more) =
        by_term_list text (term_derived it).derived (by_more_terms text comma (terms_derived more) refl) refl
