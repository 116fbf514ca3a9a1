-- Equations that are read come to one thing.
use Rattle.std.proofs.Common.{refl, ap, sym, ◌∙◌, ◌≡◌, inl, inr, subst, ℕ, List, [], ◌∷◌, true, false, Option, None, Some}
use Rattle.std.proofs.lemmas.Option.{same_Some}
use Rattle.std.proofs.lemmas.Bool.{both_ways}
use Rattle.lotos_base.proofs.Options.{none_and_some}
use Rattle.lotos_base.specs.WrittenTerm.{WrittenTerm}
use Rattle.lotos_base.specs.Equation.{Place}
use Rattle.lotos_base.specs.Term.{Term}
use Rattle.syntax_trees.specs.WrittenEquation.{WrittenPremiss}
use Rattle.sort_terms.specs.ReadingOutcome.{ReadingRefusal, ReadingOutcome, answered, refused, SortedTerm, SortedPair, ReadingIs, PairReadingIs}
use Rattle.sort_terms.proofs.ReadsLemmas.{comes_once}
use Rattle.sort_terms.proofs.OutcomeLemmas.{not_answered_and_refused}
use Rattle.type_definitions.specs.TypeFault.{TypeFault, premised}
use Rattle.type_definitions.specs.Presentation.{Presentation, is_too_large}
use Rattle.type_definitions.specs.Declarations.{sort_numbered}
use Rattle.type_definitions.specs.DeclaredEquations.{AskedEquation, EquationQuestion, scope_of, type_fault_of, bool_sort, IsSide, IsSideFault, has_truth, IsReadPremiss, IsPremissFault, AreReadPremisses, IsFirstPremissFault, with_sides, GivesPresentation, sort_is_there, formal_is_read, own_is_read, IsFaultOfSides, QuestionHasFault, sort_is_unknown, formal_side, formal_premiss, own_has_premisses, own_side, one_too_many, GiveAll, none_asked, next_gives, HasFirstFault, at_once, further_on}
use Rattle.type_flatten.specs.FlatteningOutcomes.{EquationsAreDecided}

-- ---- A reading

abbrev answer_in : {A : Type 0} → A → ReadingOutcome A → A
answer_in other (answered x) = x
answer_in other (refused refusal) = other

abbrev refusal_in : {A : Type 0} → ReadingRefusal → ReadingOutcome A → ReadingRefusal
refusal_in other (answered x) = other
refusal_in other (refused refusal) = refusal

refusals_once : {A : Type 0} (one other : ReadingRefusal) → ◌≡◌ {A = ReadingOutcome A} (refused one) (refused other)
    → type_fault_of one ≡ type_fault_of other
refusals_once {A} one other same = ap (λ (o : ReadingOutcome A). type_fault_of (refusal_in one o)) same

module _ (p : Presentation) (asked : AskedEquation) where
  read_once : (w : WrittenTerm) (expected : Option ℕ) (one other : ReadingOutcome SortedTerm)
      → ReadingIs p.signature (scope_of p asked) w expected one → ReadingIs p.signature (scope_of p asked) w expected other → one ≡ other
  read_once w expected one other is also = comes_once _ _ _ one other is also

  pair_read_once : (v w : WrittenTerm) (one other : ReadingOutcome SortedPair) → PairReadingIs p.signature (scope_of p asked) v w one
      → PairReadingIs p.signature (scope_of p asked) v w other → one ≡ other
  pair_read_once v w one other is also = comes_once _ _ _ one other is also

  -- ---- A side

  pub side_once : (w : WrittenTerm) (t u : Term) → IsSide p asked w t → IsSide p asked w u → t ≡ u
  side_once w t u is also =
      sym is.2
      ∙ ap (λ (o : ReadingOutcome SortedTerm). (answer_in is.0 o).term)
      (read_once w (Some (sort_numbered p asked.sort)) (answered is.0) (answered also.0) is.1 also.1)
      ∙ also.2

  not_side : (w : WrittenTerm) (t : Term) (fault : TypeFault) → IsSide p asked w t → IsSideFault p asked w fault → ⊥
  not_side w t fault is not =
      not_answered_and_refused is.0 not.0 (read_once w (Some (sort_numbered p asked.sort)) (answered is.0) (refused not.0) is.1 not.1)

  side_fault_once : (w : WrittenTerm) (fault other : TypeFault) → IsSideFault p asked w fault → IsSideFault p asked w other
      → fault ≡ other
  side_fault_once w fault other is also =
      sym is.2 ∙ refusals_once is.0 also.0 (read_once w (Some (sort_numbered p asked.sort)) (refused is.0) (refused also.0) is.1 also.1)
      ∙ also.2

  -- ---- Both sides

  not_sides : (left right : Term) (fault : TypeFault) → IsSide p asked asked.equation.left left
      → IsSide p asked asked.equation.right right → IsFaultOfSides p asked fault → ⊥
  not_sides left right fault one other (inl not) = not_side asked.equation.left left fault one not
  not_sides left right fault one other (inr not) = not_side asked.equation.right right fault other not.2

  sides_fault_once : (fault other : TypeFault) → IsFaultOfSides p asked fault → IsFaultOfSides p asked other → fault ≡ other
  sides_fault_once fault other (inl is) (inl also) = side_fault_once asked.equation.left fault other is also
  sides_fault_once fault other (inl is) (inr also) = absurd (not_side asked.equation.left also.0 fault also.1 is)
  sides_fault_once fault other (inr is) (inl also) = absurd (not_side asked.equation.left is.0 other is.1 also)
  sides_fault_once fault other (inr is) (inr also) = side_fault_once asked.equation.right fault other is.2 also.2

  -- ---- Premisses

  not_premiss : (left : WrittenTerm) (right : Option WrittenTerm) (fault : TypeFault) → IsReadPremiss p asked left right
      → IsPremissFault p asked left right fault → ⊥
  not_premiss left (Some right) fault is not =
      not_answered_and_refused is.0 not.0 (pair_read_once left right (answered is.0) (refused not.0) is.1 not.1)
  not_premiss left None fault is (inl not) = both_ways (has_truth p) not.0 is.0
  not_premiss left None fault is (inr not) =
      not_answered_and_refused is.1.0 not.1.0 (read_once left (Some (bool_sort p)) (answered is.1.0) (refused not.1.0) is.1.1 not.1.1)

  premiss_fault_once : (left : WrittenTerm) (right : Option WrittenTerm) (fault other : TypeFault)
      → IsPremissFault p asked left right fault → IsPremissFault p asked left right other → fault ≡ other
  premiss_fault_once left (Some right) fault other is also =
      sym is.2 ∙ refusals_once is.0 also.0 (pair_read_once left right (refused is.0) (refused also.0) is.1 also.1) ∙ also.2
  premiss_fault_once left None fault other (inl is) (inl also) = is.1 ∙ sym also.1
  premiss_fault_once left None fault other (inl is) (inr also) = absurd (both_ways (has_truth p) is.0 also.0)
  premiss_fault_once left None fault other (inr is) (inl also) = absurd (both_ways (has_truth p) also.0 is.0)
  premiss_fault_once left None fault other (inr is) (inr also) =
      sym is.1.2 ∙ refusals_once is.1.0 also.1.0 (read_once left (Some (bool_sort p)) (refused is.1.0) (refused also.1.0) is.1.1 also.1.1)
      ∙ also.1.2

  not_premisses : (ws : List WrittenPremiss) (fault : TypeFault) → AreReadPremisses p asked ws → IsFirstPremissFault p asked ws fault → ⊥
  not_premisses [] fault are not = absurd not
  not_premisses (w ∷ ws) fault are (inl not) = not_premiss w.left w.right fault are.0 not
  not_premisses (w ∷ ws) fault are (inr not) = not_premisses ws fault are.1 not.1

  premisses_fault_once : (ws : List WrittenPremiss) (fault other : TypeFault) → IsFirstPremissFault p asked ws fault
      → IsFirstPremissFault p asked ws other → fault ≡ other
  premisses_fault_once [] fault other is also = absurd is
  premisses_fault_once (w ∷ ws) fault other (inl is) (inl also) = premiss_fault_once w.left w.right fault other is also
  premisses_fault_once (w ∷ ws) fault other (inl is) (inr also) = absurd (not_premiss w.left w.right fault also.0 is)
  premisses_fault_once (w ∷ ws) fault other (inr is) (inl also) = absurd (not_premiss w.left w.right other is.0 also)
  premisses_fault_once (w ∷ ws) fault other (inr is) (inr also) = premisses_fault_once ws fault other is.1 also.1

  -- ---- The presentation with one more equation

  sides_once : (left right one two : Term) → IsSide p asked asked.equation.left left → IsSide p asked asked.equation.right right
      → IsSide p asked asked.equation.left one → IsSide p asked asked.equation.right two
      → with_sides p asked left right ≡ with_sides p asked one two
  sides_once left right one two is also is_one is_two =
      let lefts : left ≡ one = side_once asked.equation.left left one is is_one in
      let rights : right ≡ two = side_once asked.equation.right right two also is_two in
      (λ i. with_sides p asked (lefts i) (rights i))

  small_and_large : (left right one two : Term) → IsSide p asked asked.equation.left left
      → IsSide p asked asked.equation.right right → IsSide p asked asked.equation.left one → IsSide p asked asked.equation.right two
      → is_too_large (with_sides p asked left right) ≡ false → is_too_large (with_sides p asked one two) ≡ true → ⊥
  small_and_large left right one two is also is_one is_two small large =
      both_ways (is_too_large (with_sides p asked one two))
      (ap (λ (q : Presentation). is_too_large q) (sym (sides_once left right one two is also is_one is_two)) ∙ small) large

-- ---- A question

gives_once : {p q r : Presentation} {a : EquationQuestion} → GivesPresentation p a q → GivesPresentation p a r → q ≡ r
gives_once (sort_is_there place name there) (sort_is_there _ _ also) = refl
gives_once (formal_is_read asked left right is also are) (formal_is_read _ _ _ _ _ _) = refl
gives_once {p = p} (own_is_read asked left right none is also small) (own_is_read _ one two _ is_one is_two _) =
    sides_once p asked left right one two is also is_one is_two

not_faulty : {p q : Presentation} {type_name : List ℕ} {a : EquationQuestion} {fault : TypeFault} → GivesPresentation p a q
    → QuestionHasFault p type_name a fault → ⊥
not_faulty (sort_is_there place name there) (sort_is_unknown _ _ not) = both_ways _ not there
not_faulty {p = p} (formal_is_read asked left right is also are) (formal_side _ fault not) = not_sides p asked left right fault is also not
not_faulty {p = p} (formal_is_read asked left right is also are) (formal_premiss _ one two fault is_one is_two not) =
    not_premisses p asked asked.equation.premisses fault are not
not_faulty (own_is_read asked left right none is also small) (own_has_premisses _ arrow some) = none_and_some _ arrow none some
not_faulty {p = p} (own_is_read asked left right none is also small) (own_side _ fault _ not) =
    not_sides p asked left right fault is also not
not_faulty {p = p} (own_is_read asked left right none is also small) (one_too_many _ one two _ is_one is_two large) =
    small_and_large p asked left right one two is also is_one is_two small large

fault_once : {p : Presentation} {type_name : List ℕ} {a : EquationQuestion} {fault other : TypeFault} → QuestionHasFault p type_name a fault
    → QuestionHasFault p type_name a other → fault ≡ other
fault_once (sort_is_unknown place name not) (sort_is_unknown _ _ also) = refl
fault_once {p = p} (formal_side asked f is) (formal_side _ g also) = sides_fault_once p asked f g is also
fault_once {p = p} (formal_side asked f is) (formal_premiss _ left right g one two also) =
    absurd (not_sides p asked left right f one two is)
fault_once {p = p} (formal_premiss asked left right f one two is) (formal_side _ g also) =
    absurd (not_sides p asked left right g one two also)
fault_once {p = p} (formal_premiss asked left right f one two is) (formal_premiss _ _ _ g _ _ also) =
    premisses_fault_once p asked asked.equation.premisses f g is also
fault_once (own_has_premisses asked arrow some) (own_has_premisses _ other also) =
    ap (λ (place : Place). premised place) (same_Some arrow other (sym some ∙ also))
fault_once (own_has_premisses asked arrow some) (own_side _ g none also) = absurd (none_and_some _ arrow none some)
fault_once (own_has_premisses asked arrow some) (one_too_many _ left right none one two large) =
    absurd (none_and_some _ arrow none some)
fault_once (own_side asked f none is) (own_has_premisses _ arrow some) = absurd (none_and_some _ arrow none some)
fault_once {p = p} (own_side asked f none is) (own_side _ g _ also) = sides_fault_once p asked f g is also
fault_once {p = p} (own_side asked f none is) (one_too_many _ left right _ one two large) =
    absurd (not_sides p asked left right f one two is)
fault_once (one_too_many asked left right none one two large) (own_has_premisses _ arrow some) =
    absurd (none_and_some _ arrow none some)
fault_once {p = p} (one_too_many asked left right none one two large) (own_side _ g _ also) =
    absurd (not_sides p asked left right g one two also)
fault_once (one_too_many asked left right none one two large) (one_too_many _ _ _ _ _ _ _) = refl

-- ---- All questions

all_give_once : {p q r : Presentation} {asked : List EquationQuestion} → GiveAll p asked q → GiveAll p asked r → q ≡ r
all_give_once (none_asked p) (none_asked _) = refl
all_give_once {r = last} (next_gives p q r a asked first rest) (next_gives _ other _ _ _ also more) =
    all_give_once rest (subst (λ (s : Presentation). GiveAll s asked last) (gives_once also first) more)

none_faulty : {type_name : List ℕ} {p q : Presentation} {asked : List EquationQuestion} {fault : TypeFault} → GiveAll p asked q
    → HasFirstFault type_name p asked fault → ⊥
none_faulty (none_asked p) bad = elim bad [ ]
none_faulty (next_gives p q r a asked first rest) (at_once _ _ _ fault bad) = not_faulty first bad
none_faulty {type_name = name} (next_gives p q r a asked first rest) (further_on _ other _ _ fault also bad) =
    none_faulty rest (subst (λ (s : Presentation). HasFirstFault name s asked fault) (gives_once also first) bad)

first_fault_once : {type_name : List ℕ} {p : Presentation} {asked : List EquationQuestion} {fault other : TypeFault}
    → HasFirstFault type_name p asked fault → HasFirstFault type_name p asked other → fault ≡ other
first_fault_once (at_once p a asked f bad) (at_once _ _ _ g also) = fault_once bad also
first_fault_once (at_once p a asked f bad) (further_on _ q _ _ g is later) = absurd (not_faulty is bad)
first_fault_once (further_on p q a asked f is later) (at_once _ _ _ g bad) = absurd (not_faulty is bad)
first_fault_once {type_name = name} (further_on p q a asked f is bad) (further_on _ r _ _ g also too) =
    first_fault_once bad (subst (λ (s : Presentation). HasFirstFault name s asked g) (gives_once also is) too)

pub equations_are_decided : EquationsAreDecided
equations_are_decided type_name p asked = record {
  one_presentation = λ q r is also. all_give_once is also;
  not_both = λ q fault is bad. none_faulty is bad;
  one_fault = λ fault other is also. first_fault_once is also;
}
