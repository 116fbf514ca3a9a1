-- Variables of an equation are numbered by first appearance.
use Rattle.std.proofs.Common.{◌≡◌, ◌||◌, inl, inr, ℕ, suc, ◌<◌, Bool, true, false, nat_eq, if◌then◌else◌, List, [], ◌∷◌, ◌++◌, map, length, slice_get, refl, ap, sym, ◌∙◌, subst, arith, append_assoc, length-append}
use Rattle.std.proofs.lemmas.Option.{same_Some}
use Rattle.std.proofs.lemmas.List.{map-append, append-nil}
use Rattle.std.proofs.lemmas.Bool.Decides.{Decides-eqb}
use Rattle.lotos_base.specs.Term.{Term, variable, node, Terms, no_terms, term_then}
use Rattle.lotos_base.specs.Substitution.{substituted, all_substituted, renaming}
use Rattle.rewriting_theory.specs.Numbering.{IsByAppearance}
use Rattle.rewriting_theory.specs.Numbering as theory
use Rattle.rewriting_theory.specs.Unification.{OccursInEither}
use Rattle.rewriting_theory.proofs.NumberLemmas.{go_on_by_appearance, GoOn}
use Rattle.type_definitions.specs.TypeGraph.{is_among}
use Rattle.type_definitions.specs.Presentation.{with_new, first_position}
use Rattle.type_definitions.specs.DeclaredEquations.{numbers_in_term, variable_numbers_among, appearing, renumbered, renumbered_among}
use Rattle.type_definitions.proofs.NumberLists.{among_left, among_right}
use Rattle.type_actualisation.proofs.HandedOn.{numbers_have, stands_there, comes}
use Rattle.type_flatten.specs.EquationVariables.{EquationsNumberByAppearance}

-- ---- Positions in the list of first appearances

abbrev position : List ℕ → ℕ → ℕ
position order n = first_position (nat_eq n) order

-- a number that is there stands there, whatever comes behind
position_seen : (seen more : List ℕ) (n : ℕ) → is_among seen n ≡ true → first_position (nat_eq n) (seen ++ more) < length seen
position_seen [] more n there = absurd (cc there)
position_seen (m ∷ seen) more n there = by (nat_eq n m) there (λ h. position_seen seen more n h)
  where
    by : (b : Bool) → (b || is_among seen n) ≡ true
        → (is_among seen n ≡ true → first_position (nat_eq n) (seen ++ more) < length seen)
        → (if b then 0 else suc (first_position (nat_eq n) (seen ++ more))) < suc (length seen)
    by true there rest = omega arith
    by false there rest = let less = rest there in omega (arith, less)

-- a new one that comes behind has the next position
position_next : (seen more : List ℕ) (n : ℕ) → is_among seen n ≡ false → first_position (nat_eq n) (seen ++ n ∷ more) ≡ length seen
position_next [] more n new = by (nat_eq n n) ((Decides-eqb n n).1 refl)
  where
    by : (b : Bool) → b ≡ true → (if b then 0 else suc (first_position (nat_eq n) more)) ≡ 0
    by true is = refl
    by false is = absurd (cc is)
position_next (m ∷ seen) more n new = by (nat_eq n m) new (λ h. position_next seen more n h)
  where
    by : (b : Bool) → (b || is_among seen n) ≡ false
        → (is_among seen n ≡ false → first_position (nat_eq n) (seen ++ n ∷ more) ≡ length seen)
        → (if b then 0 else suc (first_position (nat_eq n) (seen ++ n ∷ more))) ≡ suc (length seen)
    by true new rest = absurd (cc new)
    by false new rest = ap suc (rest new)

-- what is kept stands in front of what is new
extends : (kept xs : List ℕ) → (more : List ℕ) × (with_new nat_eq kept xs ≡ kept ++ more)
extends kept [] = ([], sym (append-nil kept))
extends kept (x ∷ xs) = by (is_among kept x) (extends kept xs) (extends (kept ++ x ∷ []) xs)
  where
    by : (b : Bool) → (more : List ℕ) × (with_new nat_eq kept xs ≡ kept ++ more)
        → (more : List ℕ) × (with_new nat_eq (kept ++ x ∷ []) xs ≡ (kept ++ x ∷ []) ++ more)
        → (more : List ℕ) × (with_new nat_eq (if b then kept else kept ++ x ∷ []) xs ≡ kept ++ more)
    by true old new = old
    by false old new = (x ∷ new.0, new.1 ∙ append_assoc kept (x ∷ []) new.0)

positions_go_on : (ns kept : List ℕ) → GoOn (length kept) (map (position (with_new nat_eq kept ns)) ns)
positions_go_on [] kept = tt
positions_go_on (n ∷ ns) kept = by (is_among kept n) refl (positions_go_on ns kept) (positions_go_on ns (kept ++ n ∷ []))
  where
    by : (b : Bool) → is_among kept n ≡ b → GoOn (length kept) (map (position (with_new nat_eq kept ns)) ns)
        → GoOn (length (kept ++ n ∷ [])) (map (position (with_new nat_eq (kept ++ n ∷ []) ns)) ns)
        → GoOn (length kept) (map (position (with_new nat_eq (if b then kept else kept ++ n ∷ []) ns)) (n ∷ ns))
    by true test old new =
        let more = extends kept ns in
        let small = position_seen kept more.0 n test in
        let same = ap (λ (ms : List ℕ). position ms n) more.1 in
        inl (omega (arith, small, same), old)
    by false test old new =
        let more = extends (kept ++ n ∷ []) ns in
        let is = position_next kept more.0 n test in
        let same = ap (λ (ms : List ℕ). position ms n) (more.1 ∙ append_assoc kept (n ∷ []) more.0) in
        let long : length (kept ++ n ∷ []) ≡ suc (length kept) = length-append kept (n ∷ []) ∙ omega arith in
        inr (same ∙ is, subst (λ (k : ℕ). GoOn k (map (position (with_new nat_eq (kept ++ n ∷ []) ns)) ns)) long new)

-- ---- Renumbered terms

mutual
  renumbered_is : (order : List ℕ) (t : Term) → renumbered order t ≡ substituted (renaming (λ n s. position order n)) t
  renumbered_is order (variable n s) = refl
  renumbered_is order (node f ts) = ap (λ (us : Terms). node f us) (all_renumbered_is order ts)

  all_renumbered_is : (order : List ℕ) (ts : Terms) → renumbered_among order ts ≡ all_substituted (renaming (λ n s. position order n)) ts
  all_renumbered_is order no_terms = refl
  all_renumbered_is order (term_then t ts) =
      ap (λ (u : Term). term_then u (renumbered_among order ts)) (renumbered_is order t)
      ∙ ap (λ (us : Terms). term_then (substituted (renaming (λ n s. position order n)) t) us) (all_renumbered_is order ts)

mutual
  new_numbers : (order : List ℕ) (t : Term) → theory.variable_numbers (renumbered order t) ≡ map (position order) (numbers_in_term t)
  new_numbers order (variable n s) = refl
  new_numbers order (node f ts) = all_new_numbers order ts

  all_new_numbers : (order : List ℕ) (ts : Terms)
      → theory.all_variable_numbers (renumbered_among order ts) ≡ map (position order) (variable_numbers_among ts)
  all_new_numbers order no_terms = refl
  all_new_numbers order (term_then t ts) =
      ap (λ (ns : List ℕ). ns ++ theory.all_variable_numbers (renumbered_among order ts)) (new_numbers order t)
      ∙ (ap (λ (ns : List ℕ). map (position order) (numbers_in_term t) ++ ns) (all_new_numbers order ts)
      ∙ sym (map-append (position order) (numbers_in_term t) (variable_numbers_among ts)))

-- ---- The law

module _ (left right : Term) where
  abbrev order : List ℕ
  order = appearing left right

  there : (n r : ℕ) → OccursInEither left right n r → is_among order n ≡ true
  there n r (inl occurs) =
      comes [] (numbers_in_term left ++ numbers_in_term right) n
      (among_left (numbers_in_term left) (numbers_in_term right) n (numbers_have left n r occurs))
  there n r (inr occurs) =
      comes [] (numbers_in_term left ++ numbers_in_term right) n
      (among_right (numbers_in_term left) (numbers_in_term right) n (numbers_have right n r occurs))

  apart : (n m r s : ℕ) → OccursInEither left right n r → OccursInEither left right m s → position order n ≡ position order m → n ≡ m
  apart n m r s one other same =
      let here = stands_there order n (there n r one) in
      let also = stands_there order m (there m s other) in
      same_Some n m (sym here ∙ (ap (slice_get order) same ∙ also))

pub equations_number_by_appearance : EquationsNumberByAppearance
equations_number_by_appearance place scope left right = record {
  number = λ n s. position (appearing left right) n;
  left_is = renumbered_is (appearing left right) left;
  right_is = renumbered_is (appearing left right) right;
  apart = apart left right;
  by_appearance = subst IsByAppearance (sym numbers)
      (go_on_by_appearance (map (position (appearing left right)) (numbers_in_term left ++ numbers_in_term right))
      (positions_go_on (numbers_in_term left ++ numbers_in_term right) []));
}
  where
    numbers : theory.variable_numbers (renumbered (appearing left right) left)
        ++ theory.variable_numbers (renumbered (appearing left right) right)
        ≡ map (position (appearing left right)) (numbers_in_term left ++ numbers_in_term right)
    numbers =
        ap (λ (ns : List ℕ). ns ++ theory.variable_numbers (renumbered (appearing left right) right))
        (new_numbers (appearing left right) left)
        ∙ (ap (λ (ns : List ℕ). map (position (appearing left right)) (numbers_in_term left) ++ ns)
        (new_numbers (appearing left right) right)
        ∙ sym (map-append (position (appearing left right)) (numbers_in_term left) (numbers_in_term right)))
