-- Positions in the list of first appearances number the variables of a term by first appearance.
use Rattle.std.proofs.Common.{◌≡◌, ◌<◌, ◌+◌, ℕ, zero, suc, List, [], ◌∷◌, ◌++◌, length, map, Bool, true, false, nat_eq, refl, ap, sym, ◌∙◌, subst, inl, inr, arith, append_assoc, length-append}
use Rattle.std.specs.Prelude.{if◌then◌else◌, Some, None, slice_get}
use Rattle.std.proofs.lemmas.Option.{same_Some}
use Rattle.std.proofs.lemmas.List.{map-append}
use Rattle.std.proofs.lemmas.Bool.Decides.{Decides-eqb}
use Rattle.lotos_base.specs.Term.{Term, variable, node, Terms, no_terms, term_then}
use Rattle.lotos_base.specs.Sorting.{Occurs}
use Rattle.lotos_base.specs.Substitution.{substituted, all_substituted, renaming, is_listed}
use Rattle.lotos_base.proofs.SubstitutionLemmas.{substituted_occurs}
use Rattle.rewriting_theory.specs.Numbering.{variable_numbers, all_variable_numbers, IsByAppearance}
use Rattle.rewriting_theory.proofs.PlaceListLemmas.{IsIn}
use Rattle.rewriting_theory.proofs.NumberLemmas.{go_on_by_appearance, GoOn}
use Rattle.term_match.specs.Numbers.{AreDistinctNumbers}
use Rattle.term_match.specs.Appearance.{noted, appearances, counted}
use Rattle.term_match.specs.Renumbering.{new_number, old_numbers, new_numbers}
use Rattle.term_match.specs.NewNumbers.{IsByFirstAppearance}
use Rattle.term_match.proofs.NumberLemmas.{noted_extends, distinct_tells, appears}

-- ---- Positions

counted_olds : (k : ℕ) (ns : List ℕ) → old_numbers (counted k ns) ≡ ns
counted_olds k [] = refl
counted_olds k (n ∷ ns) = ap (λ ms. n ∷ ms) (counted_olds (suc k) ns)

counted_news : (k : ℕ) (ns : List ℕ) (i v : ℕ) → slice_get (new_numbers (counted k ns)) i ≡ Some v → v ≡ k + i
counted_news k [] i v e = let none : None ≡ Some v = e in cc
counted_news k (n ∷ ns) zero v e = let same : k ≡ v = same_Some k v e in omega (arith, same)
counted_news k (n ∷ ns) (suc i) v e = let rest = counted_news (suc k) ns i v e in omega (arith, rest)

counted_distinct : (ns : List ℕ) → AreDistinctNumbers (new_numbers (counted 0 ns))
counted_distinct ns i j n e d =
    let one = counted_news 0 ns i n e in
    let two = counted_news 0 ns j n d in
    omega (arith, one, two)

-- a number seen before keeps its position
number_seen : (k : ℕ) (seen more : List ℕ) (n s : ℕ) → is_listed seen n ≡ true → new_number (counted k (seen ++ more)) n s < k + length seen
number_seen k [] more n s e = cc
number_seen k (m ∷ seen) more n s e = go (nat_eq m n) e (λ h. number_seen (suc k) seen more n s h)
  where
    go : (b : Bool) → (if b then true else is_listed seen n) ≡ true
        → (is_listed seen n ≡ true → new_number (counted (suc k) (seen ++ more)) n s < suc k + length seen)
        → (if b then k else new_number (counted (suc k) (seen ++ more)) n s) < k + suc (length seen)
    go true h rest = omega arith
    go false h rest = let less = rest h in omega (arith, less)

-- a new one has the next position
number_next : (k : ℕ) (seen more : List ℕ) (n s : ℕ) → is_listed seen n ≡ false
    → new_number (counted k (seen ++ n ∷ more)) n s ≡ k + length seen
number_next k [] more n s e = go (nat_eq n n) ((Decides-eqb n n).1 refl)
  where
    go : (b : Bool) → b ≡ true → (if b then k else new_number (counted (suc k) more) n s) ≡ k + 0
    go true h = omega arith
    go false h = cc
number_next k (m ∷ seen) more n s e = go (nat_eq m n) e (λ h. number_next (suc k) seen more n s h)
  where
    go : (b : Bool) → (if b then true else is_listed seen n) ≡ false
        → (is_listed seen n ≡ false → new_number (counted (suc k) (seen ++ n ∷ more)) n s ≡ suc k + length seen)
        → (if b then k else new_number (counted (suc k) (seen ++ n ∷ more)) n s) ≡ k + suc (length seen)
    go true h rest = cc
    go false h rest = let same = rest h in omega (arith, same)

-- the positions of numbers in the list of their first appearances
abbrev positions_in : List ℕ → List ℕ → List ℕ
positions_in seen ns = map (λ (n : ℕ). new_number (counted 0 seen) n 0) ns

positions_go_on : (ns seen : List ℕ) → GoOn (length seen) (positions_in (noted seen ns) ns)
positions_go_on [] seen = tt
positions_go_on (n ∷ ns) seen = go (is_listed seen n) refl (positions_go_on ns seen) (positions_go_on ns (seen ++ n ∷ []))
  where
    go : (b : Bool) → is_listed seen n ≡ b → GoOn (length seen) (positions_in (noted seen ns) ns)
        → GoOn (length (seen ++ n ∷ [])) (positions_in (noted (seen ++ n ∷ []) ns) ns)
        → GoOn (length seen) (positions_in (noted (if b then seen else seen ++ n ∷ []) ns) (n ∷ ns))
    go true test old new =
        let more = noted_extends seen ns in
        let small : new_number (counted 0 (seen ++ more.0)) n 0 < 0 + length seen = number_seen 0 seen more.0 n 0 test in
        let same : new_number (counted 0 (noted seen ns)) n 0 ≡ new_number (counted 0 (seen ++ more.0)) n 0 =
        ap (λ (ms : List ℕ). new_number (counted 0 ms) n 0) more.1 in
        inl (omega (arith, small, same), old)
    go false test old new =
        let more = noted_extends (seen ++ n ∷ []) ns in
        let is : new_number (counted 0 (seen ++ n ∷ more.0)) n 0 ≡ 0 + length seen = number_next 0 seen more.0 n 0 test in
        let same : new_number (counted 0 (noted (seen ++ n ∷ []) ns)) n 0 ≡ new_number (counted 0 (seen ++ n ∷ more.0)) n 0 =
        ap (λ (ms : List ℕ). new_number (counted 0 ms) n 0) (more.1 ∙ append_assoc seen (n ∷ []) more.0) in
        let longer : length (seen ++ n ∷ []) ≡ suc (length seen) = length-append seen (n ∷ []) ∙ omega arith in
        inr (
          omega (arith, is, same),
          subst (λ (k : ℕ). GoOn k (positions_in (noted (seen ++ n ∷ []) ns) ns)) longer new,
        )

-- ---- Renumbered terms

-- the sort does not matter
no_sort : (pairs : List (ℕ × ℕ)) (n s r : ℕ) → new_number pairs n s ≡ new_number pairs n r
no_sort [] n s r = refl
no_sort (pair ∷ pairs) n s r = ap (λ (k : ℕ). if nat_eq pair.0 n then pair.1 else k) (no_sort pairs n s r)

mutual
  numbers_renumbered : (pairs : List (ℕ × ℕ)) (t : Term)
      → variable_numbers (substituted (renaming (new_number pairs)) t) ≡ map (λ (n : ℕ). new_number pairs n 0) (variable_numbers t)
  numbers_renumbered pairs (variable n s) = ap (λ (k : ℕ). k ∷ []) (no_sort pairs n s 0)
  numbers_renumbered pairs (node f ts) = all_numbers_renumbered pairs ts

  all_numbers_renumbered : (pairs : List (ℕ × ℕ)) (ts : Terms)
      → all_variable_numbers (all_substituted (renaming (new_number pairs)) ts)
      ≡ map (λ (n : ℕ). new_number pairs n 0) (all_variable_numbers ts)
  all_numbers_renumbered pairs no_terms = refl
  all_numbers_renumbered pairs (term_then t ts) =
      (λ i. numbers_renumbered pairs t i ++ all_numbers_renumbered pairs ts i)
      ∙ sym (map-append (λ (n : ℕ). new_number pairs n 0) (variable_numbers t) (all_variable_numbers ts))

pub positions_number : (t : Term) → IsByFirstAppearance (new_number (counted 0 (appearances t))) t
positions_number t = record {
  tells_apart = λ n r m s o p e. tell n r m s o p e;
  numbered = λ single. record {
    by_appearance = subst (λ ns. IsByAppearance ns) (sym (numbers_renumbered (counted 0 (appearances t)) t))
        (go_on_by_appearance (positions_in (appearances t) (variable_numbers t)) (positions_go_on (variable_numbers t) []));
    one_sort = λ n r s o p.
        let one = substituted_occurs n r (renaming (new_number (counted 0 (appearances t)))) t o in
        let two = substituted_occurs n s (renaming (new_number (counted 0 (appearances t)))) t p in
        let numbers = tell one.number one.sort two.number two.sort one.occurs two.occurs (one.inside.0 ∙ sym two.inside.0) in
        sym one.inside.1
        ∙ single two.number one.sort two.sort (subst (λ (k : ℕ). Occurs k one.sort t) numbers one.occurs) two.occurs
        ∙ two.inside.1;
  };
}
  where
    own : (n r : ℕ) → Occurs n r t → IsIn n (old_numbers (counted 0 (appearances t)))
    own n r o = subst (λ (ns : List ℕ). IsIn n ns) (sym (counted_olds 0 (appearances t))) (appears n r t o)

    tell : (n r m s : ℕ) → Occurs n r t → Occurs m s t
        → new_number (counted 0 (appearances t)) n r ≡ new_number (counted 0 (appearances t)) m s → n ≡ m
    tell n r m s o p e = distinct_tells (counted 0 (appearances t)) (counted_distinct (appearances t)) n r m s (own n r o) (own m s p) e
