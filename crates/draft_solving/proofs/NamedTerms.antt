-- Terms whose variables are named, where different variables have different names.
use Rattle.std.proofs.Common.{◌≡◌, ◌<◌, ◌≤◌, ◌⊎◌, inl, inr, ℕ, List, Option, None, Some, Bool, true, false, ◌&&◌, nat_eq, if◌then◌else◌, refl, ap, ◌∙◌, subst, arith, eqb-true, eq-eqb, lt-ltb}
use Rattle.std.proofs.lemmas.Bool.{cases_order, le-ltb}
use Rattle.lotos_base.proofs.Truth.{same_truth}
use Rattle.lotos_base.specs.Term.{Term, variable, node, Terms, no_terms, term_then}
use Rattle.lotos_base.specs.Tests.{term_eq, is_ground, are_ground, occurs}
use Rattle.lotos_base.specs.Sorting.{Occurs}
use Rattle.lotos_base.specs.Substitution.{all_substituted}
use Rattle.lotos_base.proofs.SubstitutionLemmas.{ComesFrom, substituted_occurs, occurs_substituted, renamed_same}
use Rattle.lotos_base.proofs.TestLemmas.{Decides-term_eq, Decides-occurs}
use Rattle.behaviour_semantics.specs.Solving.{one_side, either_side, replacement_of}
use Rattle.draft_solving.specs.Naming.{name_for, naming, with_names}

mutual
  pub ground_named : (names : List ℕ) (t : Term) → is_ground (with_names names t) ≡ is_ground t
  ground_named names (variable n s) = refl
  ground_named names (node f ts) = all_ground_named names ts

  all_ground_named : (names : List ℕ) (ts : Terms) → are_ground (all_substituted (naming names) ts) ≡ are_ground ts
  all_ground_named names no_terms = refl
  all_ground_named names (term_then t ts) = λ i. ground_named names t i && all_ground_named names ts i

module _ (V : ℕ → ℕ → Type 0) (names : List ℕ)
    (apart : (n m r s : ℕ) → V n r → V m s → name_for names n ≡ name_for names m → n ≡ m) where
  -- the term's variables are of the set
  abbrev pub Over : Term → Type 0
  Over t = (n s : ℕ) → Occurs n s t → V n s

  pub name_eq : (n m r s : ℕ) → V n r → V m s → nat_eq (name_for names n) (name_for names m) ≡ nat_eq n m
  name_eq n m r s v w = same_truth (nat_eq (name_for names n) (name_for names m)) (nat_eq n m)
      (λ e. eq-eqb n m (apart n m r s v w (eqb-true (name_for names n) (name_for names m) e)))
      (λ e. eq-eqb (name_for names n) (name_for names m) (ap (name_for names) (eqb-true n m e)))

  pub unnamed : (t u : Term) → Over t → Over u → with_names names t ≡ with_names names u → t ≡ u
  unnamed t u v w e = renamed_same (λ n s. name_for names n) t u (λ n m s o p same. apart n m s s (v n s o) (w m s p) same) e

  pub same_named : (t u : Term) → Over t → Over u → term_eq (with_names names t) (with_names names u) ≡ term_eq t u
  same_named t u v w = same_truth (term_eq (with_names names t) (with_names names u)) (term_eq t u)
      (λ e. (Decides-term_eq t u).1 (unnamed t u v w ((Decides-term_eq (with_names names t) (with_names names u)).0 e)))
      (λ e. (Decides-term_eq (with_names names t) (with_names names u)).1 (ap (with_names names) ((Decides-term_eq t u).0 e)))

  pub occurs_named : (n s : ℕ) (t : Term) → V n s → Over t → occurs (name_for names n) s (with_names names t) ≡ occurs n s t
  occurs_named n s t v w = same_truth (occurs (name_for names n) s (with_names names t)) (occurs n s t)
      (λ e. (Decides-occurs n s t).1 (back (substituted_occurs (name_for names n) s (naming names) t
      ((Decides-occurs (name_for names n) s (with_names names t)).0 e))))
      (λ e. (Decides-occurs (name_for names n) s (with_names names t)).1
      (occurs_substituted (name_for names n) s n s (naming names) t ((Decides-occurs n s t).0 e) (refl, refl)))
    where
      back : ComesFrom (name_for names n) s (naming names) t → Occurs n s t
      back from =
          let same : from.number ≡ n = apart from.number n from.sort s (w from.number from.sort from.occurs) v from.inside.0 in
          subst (λ (k : ℕ). Occurs k s t) same (subst (λ (q : ℕ). Occurs from.number q t) from.inside.1 from.occurs)

  one_side_named : (n s : ℕ) (other : Term) → V n s → Over other → one_side (variable n s) other ≡ None
      → one_side (variable (name_for names n) s) (with_names names other) ≡ None
  one_side_named n s other v w e =
      ap (λ (b : Bool). if b then None else Some (name_for names n, with_names names other)) (occurs_named n s other v w)
      ∙ by (occurs n s other) (n, other) (name_for names n, with_names names other) e
    where
      by : (b : Bool) (x y : ℕ × Term) → (if b then None else Some x) ≡ None → (if b then None else Some y) ≡ None
      by true x y h = refl
      by false x y h = absurd (cc h)

  pub none_named : (t u : Term) → Over t → Over u → replacement_of t u ≡ None
      → replacement_of (with_names names t) (with_names names u) ≡ None
  none_named (variable n p) (variable m q) v w e = by (cases_order n m)
    where
      by : (n ≡ m) ⊎ ((n < m) ⊎ (m < n)) → replacement_of (variable (name_for names n) p) (variable (name_for names m) q) ≡ None
      by (inl same) =
          let one : name_for names n ≡ name_for names m = ap (name_for names) same in
          let le : name_for names m ≤ name_for names n = omega (arith, one) in
          let ge : name_for names n ≤ name_for names m = omega (arith, one) in
          rw (le-ltb (name_for names n) (name_for names m) le, le-ltb (name_for names m) (name_for names n) ge) refl
      by (inr (inl lt)) = absurd (let made : Some (m, variable n p) ≡ None = rw (lt-ltb n m lt) at e in cc made)
      by (inr (inr lt)) =
          let le : m ≤ n = omega arith in
          absurd (let made : Some (n, variable m q) ≡ None = rw (le-ltb n m le, lt-ltb m n lt) at e in cc made)
  none_named (variable n p) (node g us) v w e = by (one_side (variable n p) (node g us)) refl e
    where
      by : (o : Option (ℕ × Term)) → one_side (variable n p) (node g us) ≡ o → either_side (variable n p) (node g us) o ≡ None
          → replacement_of (variable (name_for names n) p) (with_names names (node g us)) ≡ None
      by None h h' = ap (λ (o : Option (ℕ × Term)). either_side (variable (name_for names n) p) (with_names names (node g us)) o)
          (one_side_named n p (node g us) (v n p (refl, refl)) w h)
      by (Some found) h h' = absurd (cc h')
  none_named (node f ts) (variable m q) v w e = one_side_named m q (node f ts) (w m q (refl, refl)) v e
  none_named (node f ts) (node g us) v w e = refl
