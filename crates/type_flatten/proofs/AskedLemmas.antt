-- Faults of what is asked of equations, one question after the other.
use Rattle.std.proofs.Common.{◌≡◌, inl, inr, ℕ, Bool, true, false, List, [], ◌∷◌, ◌++◌, length, None, Some, refl, ap, sym, ◌∙◌, subst}
use Rattle.std.proofs.lemmas.Bool.{both_ways, not-true, not_from_false}
use Rattle.lotos_base.proofs.Options.{none_unless_some, none_and_some}
use Rattle.lotos_base.specs.Equation.{Equation}
use Rattle.sort_terms.specs.ReadingOutcome.{is_sort_name}
use Rattle.type_definitions.specs.TypeFault.{TypeFault, unknown_sort, premised, too_large}
use Rattle.type_definitions.specs.Presentation.{Presentation, is_too_large}
use Rattle.type_definitions.specs.DeclaredEquations.{AskedEquation, EquationQuestion, sort_asked, formal_asked, own_asked, scope_of, equation_of_sides, with_sides, GivesPresentation, sort_is_there, formal_is_read, own_is_read, QuestionHasFault, sort_is_unknown, formal_side, formal_premiss, own_has_premisses, own_side, one_too_many, GiveAll, none_asked, next_gives, HasFirstFault, at_once as faulty_now, further_on as faulty_later}
use Rattle.type_definitions.proofs.NumberLists.{not_true}
use Rattle.type_flatten.specs.FirstCause.{IsNowhere, FirstAlong, at_once, further_on, stays}
use Rattle.type_flatten.specs.FaultCauses.{Cause}
use Rattle.type_flatten.specs.EquationCauses.{PremissOf, HasPremisses, OneEquationTooMany, AskedBrings, counted_on}
use Rattle.type_flatten.specs.EquationCauseLaws.{EquationsAreFaultyWhereCaused}
use Rattle.type_flatten.proofs.CauseLemmas.{unknown_decided}
use Rattle.type_flatten.proofs.EquationLemmas.{holding, premisses_told, told_premisses, premisses_read, no_premisses_fault, long, too_much, sides_told, later_told, SidesOrLater, told_sides, sides_none, none_sides}

module _ (type_name : List ℕ) (p : Presentation) where
  abbrev Brings : ℕ → EquationQuestion → Cause
  Brings = AskedBrings type_name p

  no_arrow : (asked : AskedEquation) → asked.equation.arrow ≡ None → IsNowhere (HasPremisses asked)
  no_arrow asked none fault is = none_and_some asked.equation.arrow is.0 none is.1

  arrow_none : (asked : AskedEquation) → IsNowhere (HasPremisses asked) → asked.equation.arrow ≡ None
  arrow_none asked none = none_unless_some asked.equation.arrow (λ arrow e. none (premised arrow) (arrow, e, refl))

  module _ (es : List Equation) where
    -- ---- One question

    asked_told : (a : EquationQuestion) (fault : TypeFault) → QuestionHasFault (holding p es) type_name a fault → Brings (length es) a fault
    asked_told _ _ (sort_is_unknown place name not_there) =
        (refl, (unknown_decided p.signature name).0 (not_from_false (is_sort_name p.signature name) not_there))
    asked_told _ _ (formal_side asked fault is) =
        sides_told p es asked (FirstAlong (PremissOf p) stays asked asked.equation.premisses) fault is
    asked_told _ _ (formal_premiss asked left right fault is also first) =
        later_told p es asked (FirstAlong (PremissOf p) stays asked asked.equation.premisses) fault left right is also
        (premisses_told p es asked asked.equation.premisses fault first)
    asked_told _ _ (own_has_premisses asked arrow e) = inl (arrow, e, refl)
    asked_told _ _ (own_side asked fault none is) =
        inr (no_arrow asked none, sides_told p es asked (OneEquationTooMany type_name p (length es) asked) fault is)
    asked_told _ _ (one_too_many asked left right none is also large) =
        inr (
          no_arrow asked none,
          later_told p es asked (OneEquationTooMany type_name p (length es) asked) (too_large asked.equation.place type_name) left right is
              also (refl, (too_much p es asked left right).0 large),
        )

    told_asked : (a : EquationQuestion) (fault : TypeFault) → Brings (length es) a fault → QuestionHasFault (holding p es) type_name a fault
    told_asked (sort_asked place name) fault is =
        subst (QuestionHasFault (holding p es) type_name (sort_asked place name)) (sym is.0)
        (sort_is_unknown place name
        (not-true (is_sort_name p.signature name) ((unknown_decided p.signature name).1 is.1)))
    told_asked (formal_asked asked) fault is =
        by (told_sides p es asked (FirstAlong (PremissOf p) stays asked asked.equation.premisses) fault is)
      where
        by : SidesOrLater p es asked (FirstAlong (PremissOf p) stays asked asked.equation.premisses) fault
            → QuestionHasFault (holding p es) type_name (formal_asked asked) fault
        by (inl sides) = formal_side asked fault sides
        by (inr (left, right, one, other, along)) =
            formal_premiss asked left right fault one other (told_premisses p es asked asked.equation.premisses fault along)
    told_asked (own_asked asked) fault (inl is) =
        subst (QuestionHasFault (holding p es) type_name (own_asked asked)) (sym is.2) (own_has_premisses asked is.0 is.1)
    told_asked (own_asked asked) fault (inr (none, is)) =
        by (told_sides p es asked (OneEquationTooMany type_name p (length es) asked) fault is)
      where
        by : SidesOrLater p es asked (OneEquationTooMany type_name p (length es) asked) fault
            → QuestionHasFault (holding p es) type_name (own_asked asked) fault
        by (inl sides) = own_side asked fault (arrow_none asked none) sides
        by (inr (left, right, one, other, large)) =
            subst (QuestionHasFault (holding p es) type_name (own_asked asked)) (sym large.0)
            (one_too_many asked left right (arrow_none asked none) one other ((too_much p es asked left right).1 large.1))

    -- what a question gives that no cause meets
    record Gives (a : EquationQuestion) (q : Presentation) : Type 0 where
      pub equations : List Equation
      pub same : q ≡ holding p equations
      pub many : length equations ≡ counted_on (length es) a
      pub none : IsNowhere (Brings (length es) a)

    gives : (a : EquationQuestion) (q : Presentation) → GivesPresentation (holding p es) a q → Gives a q
    gives _ _ (sort_is_there place name there) = record {
      equations = es;
      same = refl;
      many = refl;
      none = λ fault is.
          both_ways (is_sort_name p.signature name)
          (not-true (is_sort_name p.signature name) ((unknown_decided p.signature name).1 is.1)) there;
    }
    gives _ _ (formal_is_read asked left right is also are) = record {
      equations = es;
      same = refl;
      many = refl;
      none =
          sides_none p es asked (FirstAlong (PremissOf p) stays asked asked.equation.premisses) left right is also
          (no_premisses_fault p es asked asked.equation.premisses are);
    }
    gives _ _ (own_is_read asked left right none is also small) = record {
      equations = es ++ equation_of_sides asked.equation.place (scope_of (holding p es) asked) left right ∷ [];
      same = refl;
      many = long p es asked (equation_of_sides asked.equation.place (scope_of (holding p es) asked) left right);
      none = all;
    }
      where
        fits : IsNowhere (OneEquationTooMany type_name p (length es) asked)
        fits fault is =
            both_ways (is_too_large (with_sides (holding p es) asked left right)) small ((too_much p es asked left right).1 is.1)

        all : IsNowhere (Brings (length es) (own_asked asked))
        all fault (inl is) = no_arrow asked none fault is
        all fault (inr (no_one, sides)) =
            sides_none p es asked (OneEquationTooMany type_name p (length es) asked) left right is also fits fault sides

    given : (a : EquationQuestion) → IsNowhere (Brings (length es) a)
        → (fs : List Equation) × GivesPresentation (holding p es) a (holding p fs) × (length fs ≡ counted_on (length es) a)
    given (sort_asked place name) none =
        (es, sort_is_there place name (by (is_sort_name p.signature name) refl), refl)
      where
        by : (test : Bool) → is_sort_name p.signature name ≡ test → test ≡ true
        by true e = refl
        by false e =
            absurd (none (unknown_sort place (Some name))
            (refl, (unknown_decided p.signature name).0 (not_from_false (is_sort_name p.signature name) e)))
    given (formal_asked asked) none =
        let sides = none_sides p es asked (FirstAlong (PremissOf p) stays asked asked.equation.premisses) none in
        (es, formal_is_read asked sides.0 sides.1 sides.2 sides.3 (premisses_read p es asked asked.equation.premisses sides.4), refl)
    given (own_asked asked) none =
        let no_premiss : IsNowhere (HasPremisses asked) = (λ fault is. none fault (inl is)) in
        let sides = none_sides p es asked (OneEquationTooMany type_name p (length es) asked)
        (λ fault is. none fault (inr (no_premiss, is))) in (
          es ++ equation_of_sides asked.equation.place (scope_of (holding p es) asked) sides.0 sides.1 ∷ [],
          own_is_read asked sides.0 sides.1 (arrow_none asked no_premiss) sides.2 sides.3
              (not_true (is_too_large (with_sides (holding p es) asked sides.0 sides.1))
              (λ e. sides.4 (too_large asked.equation.place type_name) (refl, (too_much p es asked sides.0 sides.1).0 e))),
          long p es asked (equation_of_sides asked.equation.place (scope_of (holding p es) asked) sides.0 sides.1),
        )

  -- ---- All questions

  abbrev Along : ℕ → List EquationQuestion → Cause
  Along many asked = FirstAlong Brings counted_on many asked

  first_told : (q : Presentation) (asked : List EquationQuestion) (fault : TypeFault) (es : List Equation) → q ≡ holding p es
      → HasFirstFault type_name q asked fault → Along (length es) asked fault
  first_told _ _ _ es same (faulty_now q a asked fault bad) =
      at_once (asked_told es a fault (subst (λ (r : Presentation). QuestionHasFault r type_name a fault) same bad))
  first_told _ _ _ es same (faulty_later q r a asked fault is later) =
      let next = gives es a r (subst (λ (s : Presentation). GivesPresentation s a r) same is) in
      further_on next.none
      (subst (λ (many : ℕ). Along many asked fault) next.many (first_told r asked fault next.equations next.same later))

  told_first : (asked : List EquationQuestion) (fault : TypeFault) (es : List Equation) (many : ℕ) → length es ≡ many
      → Along many asked fault → HasFirstFault type_name (holding p es) asked fault
  told_first [] fault es many e along = elim along [ ]
  told_first (a ∷ asked) fault es many e (at_once is) =
      faulty_now (holding p es) a asked fault (told_asked es a fault (subst (λ (n : ℕ). Brings n a fault) (sym e) is))
  told_first (a ∷ asked) fault es many e (further_on none more) =
      let next = given es a (subst (λ (n : ℕ). IsNowhere (Brings n a)) (sym e) none) in
      faulty_later (holding p es) (holding p next.0) a asked fault next.1
      (told_first asked fault next.0 (counted_on many a) (next.2 ∙ ap (λ (n : ℕ). counted_on n a) e) more)

  all_given : (asked : List EquationQuestion) (es : List Equation) → IsNowhere (Along (length es) asked)
      → (q : Presentation) × GiveAll (holding p es) asked q
  all_given [] es none = (holding p es, none_asked (holding p es))
  all_given (a ∷ asked) es none =
      let first : IsNowhere (Brings (length es) a) = (λ fault is. none fault (at_once is)) in
      let next = given es a first in
      let rest : IsNowhere (Along (length next.0) asked) =
      (λ fault along. none fault (further_on first (subst (λ (n : ℕ). Along n asked fault) next.2 along))) in
      let all = all_given asked next.0 rest in
      (all.0, next_gives (holding p es) (holding p next.0) all.0 a asked next.1 all.1)

  given_all : (q r : Presentation) (asked : List EquationQuestion) (es : List Equation) → q ≡ holding p es → GiveAll q asked r
      → IsNowhere (Along (length es) asked)
  given_all _ _ _ es same (none_asked q) fault along = elim along [ ]
  given_all _ _ _ es same (next_gives q s r a asked first rest) fault along =
      by (gives es a s (subst (λ (t : Presentation). GivesPresentation t a s) same first))
      (λ fs is. given_all s r asked fs is rest fault) along
    where
      by : Gives es a s → ((fs : List Equation) → s ≡ holding p fs → Along (length fs) asked fault → ⊥)
          → Along (length es) (a ∷ asked) fault → ⊥
      by next later (at_once is) = next.none fault is
      by next later (further_on none more) =
          later next.equations next.same (subst (λ (n : ℕ). Along n asked fault) (sym next.many) more)

pub equations_faulty : EquationsAreFaultyWhereCaused
equations_faulty = record {
  faulty = λ type_name p asked fault.
      (first_told type_name p p asked fault p.equations refl, told_first type_name p asked fault p.equations (length p.equations) refl);
  given = λ type_name p asked. (
    λ none. all_given type_name p asked p.equations none,
    λ given. given_all type_name p p given.0 asked p.equations refl given.1,
  );
}
