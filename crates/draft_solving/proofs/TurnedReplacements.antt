-- A replacement under other numbers is one of the named terms.
use Rattle.std.proofs.Common.{◌≡◌, ◌<◌, ◌≤◌, ◌⊎◌, inl, inr, ℕ, zero, suc, List, [], ◌∷◌, length, slice_get, slice_set, Option, None, Some, Bool, true, false, nat_eq, if◌then◌else◌, refl, ap, sym, ◌∙◌, subst, arith, eqb-true, eq-eqb, lt-ltb}
use Rattle.std.specs.Prelude.{unwrap_or}
use Rattle.std.proofs.lemmas.Bool.{cases_order, le-ltb}
use Rattle.lotos_base.specs.Signature.{Signature, IsSort}
use Rattle.lotos_base.specs.Term.{Term, Terms, variable, node}
use Rattle.lotos_base.specs.Tests.{occurs}
use Rattle.lotos_base.specs.Sorting.{HasSort, IsTermOf, Occurs}
use Rattle.lotos_base.specs.Equation.{Data}
use Rattle.lotos_base.specs.Substitution.{substituted, all_substituted, followed_by}
use Rattle.lotos_base.specs.Canon.{IsCanon}
use Rattle.lotos_base.proofs.SubstitutionLemmas.{ComesFrom, substituted_occurs, substituted_twice, substituted_agree}
use Rattle.lotos_base.proofs.TestLemmas.{Decides-occurs}
use Rattle.behaviour_semantics.specs.Solving.{one_side, either_side, replacement_of}
use Rattle.behaviour_semantics.proofs.OptionLemmas.{some_value}
use Rattle.behaviour_semantics.proofs.ReplacementsInOrder.{put_for, put_for-same, put_for-other}
use Rattle.draft_solving.specs.Naming.{name_for, naming, with_names, smaller, TurnsRound, operation_put, first_replaced, second_replaced}
use Rattle.draft_solving.proofs.NamedTerms.{Over, name_eq, occurs_named}

-- ---- A table with one name set.
set_here : (names : List ℕ) (a b n : ℕ) → a < length names → a ≡ n → slice_get (slice_set names a b) n ≡ Some b
set_here [] a b n lt e = absurd (omega arith)
set_here (x ∷ names) zero b zero lt e = refl
set_here (x ∷ names) zero b (suc n) lt e = absurd (omega arith)
set_here (x ∷ names) (suc a) b zero lt e = absurd (omega arith)
set_here (x ∷ names) (suc a) b (suc n) lt e = set_here names a b n (omega arith) (omega arith)

set_other : (names : List ℕ) (a b n : ℕ) → (a ≡ n → ⊥) → slice_get (slice_set names a b) n ≡ slice_get names n
set_other [] a b n apart = refl
set_other (x ∷ names) zero b zero apart = absurd (apart refl)
set_other (x ∷ names) zero b (suc n) apart = refl
set_other (x ∷ names) (suc a) b zero apart = refl
set_other (x ∷ names) (suc a) b (suc n) apart = set_other names a b n (λ e. apart (ap suc e))

set_size : (names : List ℕ) (a b : ℕ) → length (slice_set names a b) ≡ length names
set_size [] a b = refl
set_size (x ∷ names) zero b = refl
set_size (x ∷ names) (suc a) b = ap suc (set_size names a b)

name_here : (names : List ℕ) (a b n : ℕ) → a < length names → a ≡ n → name_for (slice_set names a b) n ≡ b
name_here names a b n lt e = ap (λ (o : Option ℕ). unwrap_or o n) (set_here names a b n lt e)

name_other : (names : List ℕ) (a b n : ℕ) → (a ≡ n → ⊥) → name_for (slice_set names a b) n ≡ name_for names n
name_other names a b n apart = ap (λ (o : Option ℕ). unwrap_or o n) (set_other names a b n apart)

not_same : (n m : ℕ) → nat_eq n m ≡ false → n ≡ m → ⊥
not_same n m h e = cc (h, eq-eqb n m e)

differ : (n m : ℕ) → (n ≡ m → ⊥) → nat_eq n m ≡ false
differ n m apart = by (nat_eq n m) refl
  where
    by : (b : Bool) → nat_eq n m ≡ b → nat_eq n m ≡ false
    by true e = absurd (apart (eqb-true n m e))
    by false e = e

-- ---- Two variables.
smaller_less : (n m : ℕ) → n < m → smaller n m ≡ n
smaller_less n m lt = rw (lt-ltb n m lt) refl

smaller_more : (n m : ℕ) → m ≤ n → smaller n m ≡ m
smaller_more n m le = rw (le-ltb n m le) refl

-- which one is replaced by which
first_later : (n m p q : ℕ) → m < n → replacement_of (variable n p) (variable m q) ≡ Some (n, variable m q)
first_later n m p q lt = let le : m ≤ n = omega arith in rw (le-ltb n m le, lt-ltb m n lt) refl

second_later : (n m p q : ℕ) → n < m → replacement_of (variable n p) (variable m q) ≡ Some (m, variable n p)
second_later n m p q lt = rw (lt-ltb n m lt) refl

neither_later : (n m p q : ℕ) → n ≡ m → replacement_of (variable n p) (variable m q) ≡ None
neither_later n m p q e =
    let le : m ≤ n = omega arith in
    let ge : n ≤ m = omega arith in
    rw (le-ltb n m le, le-ltb m n ge) refl

-- the sides may be turned
sides_turned : (n m r : ℕ) → replacement_of (variable n r) (variable m r) ≡ replacement_of (variable m r) (variable n r)
sides_turned n m r = by (cases_order n m)
  where
    by : (n ≡ m) ⊎ ((n < m) ⊎ (m < n)) → replacement_of (variable n r) (variable m r) ≡ replacement_of (variable m r) (variable n r)
    by (inl e) = neither_later n m r r e ∙ sym (neither_later m n r r (sym e))
    by (inr (inl lt)) = second_later n m r r lt ∙ sym (first_later m n r r lt)
    by (inr (inr lt)) = first_later n m r r lt ∙ sym (second_later m n r r lt)

smaller_turned : (n m : ℕ) → smaller n m ≡ smaller m n
smaller_turned n m = by (cases_order n m)
  where
    by : (n ≡ m) ⊎ ((n < m) ⊎ (m < n)) → smaller n m ≡ smaller m n
    by (inl e) = smaller_more n m (omega arith) ∙ (sym e ∙ sym (smaller_more m n (omega arith)))
    by (inr (inl lt)) = smaller_less n m lt ∙ sym (smaller_more m n (omega arith))
    by (inr (inr lt)) = smaller_more n m (omega arith) ∙ sym (smaller_less m n lt)

-- What is put for two names, by either name: the smaller one stands for both.
record IsSmallerPut (x y r : ℕ) (given : ℕ × Term) : Type 0 where
  gives : replacement_of (variable x r) (variable y r) ≡ Some given
  first : substituted (put_for given) (variable x r) ≡ variable (smaller x y) r
  second : substituted (put_for given) (variable y r) ≡ variable (smaller x y) r
  other : (z s : ℕ) → (x ≡ z → ⊥) → (y ≡ z → ⊥) → substituted (put_for given) (variable z s) ≡ variable z s
  either : (smaller x y ≡ x) ⊎ (smaller x y ≡ y)

smaller_put : (x y r : ℕ) → (x ≡ y → ⊥) → (given : ℕ × Term) × IsSmallerPut x y r given
smaller_put x y r apart = by (cases_order x y)
  where
    by : (x ≡ y) ⊎ ((x < y) ⊎ (y < x)) → (given : ℕ × Term) × IsSmallerPut x y r given
    by (inl e) = absurd (apart e)
    by (inr (inl lt)) = (
      (y, variable x r),
      record {
        gives = second_later x y r r lt;
        first = put_for-other (y, variable x r) x r (differ y x (λ e. apart (sym e)))
            ∙ ap (λ (n : ℕ). variable n r) (sym (smaller_less x y lt));
        second = put_for-same (y, variable x r) y r refl ∙ ap (λ (n : ℕ). variable n r) (sym (smaller_less x y lt));
        other = λ z s f g. put_for-other (y, variable x r) z s (differ y z g);
        either = inl (smaller_less x y lt);
      },
    )
    by (inr (inr lt)) =
        let is : smaller x y ≡ y = smaller_more x y (omega arith) in (
          (x, variable y r),
          record {
            gives = first_later x y r r lt;
            first = put_for-same (x, variable y r) x r refl ∙ ap (λ (n : ℕ). variable n r) (sym is);
            second = put_for-other (x, variable y r) y r (differ x y apart) ∙ ap (λ (n : ℕ). variable n r) (sym is);
            other = λ z s f g. put_for-other (x, variable y r) z s (differ x z f);
            either = inr is;
          },
        )

module _ (V : ℕ → ℕ → Type 0) (names : List ℕ)
    (apart : (n m r s : ℕ) → V n r → V m s → name_for names n ≡ name_for names m → n ≡ m)
    (one_sort : (n r s : ℕ) → V n r → V n s → r ≡ s) (within : (n s : ℕ) → V n s → n < length names) where
  -- What is put outside, where `found` is put for it under other numbers and the names become `others`.
  pub record IsOutside (t u : Term) (others : List ℕ) (found : ℕ × Term) : Type 0 where
    pub given : ℕ × Term
    pub gives : replacement_of (with_names names t) (with_names names u) ≡ Some given
    pub agrees : (n s : ℕ) → V n s
        → substituted (put_for given) (variable (name_for names n) s) ≡ with_names others (put_for found n s)
    pub sort : ℕ
    pub is_variable : V found.0 sort
    pub over : Over V names apart found.1
    pub lacks : (r : ℕ) → Occurs found.0 r found.1 → ⊥
    pub apart_after : (n m r s : ℕ) → V n r → V m s → (found.0 ≡ n → ⊥) → (found.0 ≡ m → ⊥)
        → name_for others n ≡ name_for others m → n ≡ m
    pub as_long : length others ≡ length names

  -- Of two variables one is left out, and the other one is named by the smaller name.
  outside_two : (t u : Term) (others : List ℕ) (out kept r : ℕ) → V out r → V kept r → (out ≡ kept → ⊥)
      → others ≡ slice_set names kept (smaller (name_for names out) (name_for names kept))
      → replacement_of (with_names names t) (with_names names u)
      ≡ replacement_of (variable (name_for names out) r) (variable (name_for names kept) r)
      → IsOutside t u others (out, variable kept r)
  outside_two t u others out kept r v w two is e =
      let put = smaller_put x y r (λ same. two (apart out kept r r v w same)) in
      record {
        given = put.0;
        gives = e ∙ put.1.gives;
        agrees = λ n s k. agrees put.0 put.1 n s k (nat_eq out n) (nat_eq kept n) refl refl;
        sort = r;
        is_variable = v;
        over = λ n s o. subst (V n) o.1 (subst (λ (m : ℕ). V m r) o.0 w);
        lacks = λ s o. two (sym o.0);
        apart_after = λ n m p q k l f g same. after put.0 put.1 n m p q k l f g same (nat_eq kept n) (nat_eq kept m) refl refl;
        as_long = ap (length {A = ℕ}) is ∙ set_size names kept (smaller x y);
      }
    where
      x : ℕ
      x = name_for names out

      y : ℕ
      y = name_for names kept

      kept_name : name_for others kept ≡ smaller x y
      kept_name = ap (λ (list : List ℕ). name_for list kept) is ∙ name_here names kept (smaller x y) kept (within kept r w) refl

      other_name : (n : ℕ) → nat_eq kept n ≡ false → name_for others n ≡ name_for names n
      other_name n h = ap (λ (list : List ℕ). name_for list n) is ∙ name_other names kept (smaller x y) n (not_same kept n h)

      agrees : (given : ℕ × Term) → IsSmallerPut x y r given → (n s : ℕ) → V n s → (a b : Bool) → nat_eq out n ≡ a
          → nat_eq kept n ≡ b
          → substituted (put_for given) (variable (name_for names n) s) ≡ with_names others (put_for (out, variable kept r) n s)
      agrees given p n s k true b f g =
          let same : out ≡ n = eqb-true out n f in
          let sorts : r ≡ s = one_sort n r s (subst (λ (m : ℕ). V m r) same v) k in
          (λ i. substituted (put_for given) (variable (name_for names (sym same i)) (sym sorts i)))
          ∙ (p.first ∙ (ap (λ (m : ℕ). variable m r) (sym kept_name)
          ∙ ap (with_names others) (sym (put_for-same (out, variable kept r) n s same))))
      agrees given p n s k false true f g =
          let same : kept ≡ n = eqb-true kept n g in
          let sorts : r ≡ s = one_sort n r s (subst (λ (m : ℕ). V m r) same w) k in
          (λ i. substituted (put_for given) (variable (name_for names (sym same i)) (sym sorts i)))
          ∙ (p.second ∙ (ap (λ (m : ℕ). variable m r) (sym kept_name)
          ∙ ((λ i. variable (name_for others (same i)) (sorts i))
          ∙ ap (with_names others) (sym (put_for-other (out, variable kept r) n s f)))))
      agrees given p n s k false false f g =
          p.other (name_for names n) s (λ e. not_same out n f (apart out n r s v k e)) (λ e. not_same kept n g (apart kept n r s w k e))
          ∙ (ap (λ (m : ℕ). variable m s) (sym (other_name n g))
          ∙ ap (with_names others) (sym (put_for-other (out, variable kept r) n s f)))

      -- the one that is kept against another one
      against : (given : ℕ × Term) → IsSmallerPut x y r given → (m q : ℕ) → V m q → (out ≡ m → ⊥) → smaller x y ≡ name_for names m
          → kept ≡ m
      against given p m q l g same = by p.either
        where
          by : (smaller x y ≡ x) ⊎ (smaller x y ≡ y) → kept ≡ m
          by (inl first) = absurd (g (apart out m r q v l (sym first ∙ same)))
          by (inr second) = apart kept m r q w l (sym second ∙ same)

      after : (given : ℕ × Term) → IsSmallerPut x y r given → (n m p q : ℕ) → V n p → V m q → (out ≡ n → ⊥) → (out ≡ m → ⊥)
          → name_for others n ≡ name_for others m → (a b : Bool) → nat_eq kept n ≡ a → nat_eq kept m ≡ b → n ≡ m
      after given put n m p q k l f g same true true h j = sym (eqb-true kept n h) ∙ eqb-true kept m j
      after given put n m p q k l f g same true false h j =
          let one : kept ≡ n = eqb-true kept n h in
          sym one ∙ against given put m q l g (sym kept_name ∙ (ap (name_for others) one ∙ (same ∙ other_name m j)))
      after given put n m p q k l f g same false true h j =
          let one : kept ≡ m = eqb-true kept m j in
          sym (against given put n p k f (sym kept_name ∙ (ap (name_for others) one ∙ (sym same ∙ other_name n h)))) ∙ one
      after given put n m p q k l f g same false false h j =
          apart n m p q k l (sym (other_name n h) ∙ (same ∙ other_name m j))

  -- ---- What a condition gives.
  -- a variable for another one
  record IsBarePut (signature : Signature) (t u : Term) (a b r : ℕ) : Type 0 where
    first : V a r
    second : V b r
    two : a ≡ b → ⊥
    is_sort : IsSort signature r
    gives : replacement_of (with_names names t) (with_names names u)
        ≡ replacement_of (variable (name_for names a) r) (variable (name_for names b) r)

  -- a term with operations
  record IsNodePut (signature : Signature) (t u : Term) (a : ℕ) (value : Term) : Type 0 where
    sort : ℕ
    is_variable : V a sort
    over : Over V names apart value
    lacks : occurs a sort value ≡ false
    sorted : HasSort signature value sort
    gives : replacement_of (with_names names t) (with_names names u) ≡ Some (name_for names a, with_names names value)

  abbrev IsPut : Signature → Term → Term → ℕ → Term → Type 0
  IsPut signature t u a (variable b r) = IsBarePut signature t u a b r
  IsPut signature t u a (node f ts) = IsNodePut signature t u a (node f ts)

  put_two : (signature : Signature) (s n p m q : ℕ) (found : ℕ × Term) → V n p → V m q → HasSort signature (variable n p) s
      → HasSort signature (variable m q) s → replacement_of (variable n p) (variable m q) ≡ Some found
      → IsPut signature (variable n p) (variable m q) found.0 found.1
  put_two signature s n p m q found v w h k e = by (cases_order n m)
    where
      sorts : p ≡ q
      sorts = h.0 ∙ sym k.0

      by : (n ≡ m) ⊎ ((n < m) ⊎ (m < n)) → IsPut signature (variable n p) (variable m q) found.0 found.1
      by (inl same) = absurd (let none : None ≡ Some found = sym (neither_later n m p q same) ∙ e in cc none)
      by (inr (inl lt)) =
          subst (λ (z : ℕ × Term). IsPut signature (variable n p) (variable m q) z.0 z.1)
          (some_value (sym (second_later n m p q lt) ∙ e)) (record {
            first = subst (V m) (sym sorts) w;
            second = v;
            two = λ same. omega arith;
            is_sort = h.1;
            gives = (λ i. replacement_of (variable (name_for names n) p) (variable (name_for names m) (sym sorts i)))
                ∙ sides_turned (name_for names n) (name_for names m) p;
          })
      by (inr (inr lt)) =
          subst (λ (z : ℕ × Term). IsPut signature (variable n p) (variable m q) z.0 z.1)
          (some_value (sym (first_later n m p q lt) ∙ e)) (record {
            first = subst (V n) sorts v;
            second = w;
            two = λ same. omega arith;
            is_sort = k.1;
            gives = λ i. replacement_of (variable (name_for names n) (sorts i)) (variable (name_for names m) q);
          })

  put_node : (signature : Signature) (s n p : ℕ) (t u : Term) (f : ℕ) (ts : Terms) (found : ℕ × Term) → V n p
      → Over V names apart (node f ts) → HasSort signature (variable n p) s → HasSort signature (node f ts) s
      → replacement_of (with_names names t) (with_names names u)
      ≡ one_side (variable (name_for names n) p) (with_names names (node f ts))
      → one_side (variable n p) (node f ts) ≡ Some found → IsPut signature t u found.0 found.1
  put_node signature s n p t u f ts found v w h k e is = by (occurs n p (node f ts)) refl is
    where
      by : (b : Bool) → occurs n p (node f ts) ≡ b → (if b then None else Some (n, node f ts)) ≡ Some found
          → IsPut signature t u found.0 found.1
      by true c e' = absurd (cc e')
      by false c e' = subst (λ (z : ℕ × Term). IsPut signature t u z.0 z.1) (some_value e') (record {
        sort = p;
        is_variable = v;
        over = w;
        lacks = c;
        sorted = subst (HasSort signature (node f ts)) (sym h.0) k;
        gives = e ∙ ap (λ (b : Bool). if b then None else Some (name_for names n, with_names names (node f ts)))
            (occurs_named V names apart n p (node f ts) v w ∙ c);
      })

  put_by : (signature : Signature) (s : ℕ) (t u : Term) (found : ℕ × Term) → Over V names apart t → Over V names apart u
      → HasSort signature t s → HasSort signature u s → replacement_of t u ≡ Some found → IsPut signature t u found.0 found.1
  put_by signature s (variable n p) (variable m q) found v w h k e =
      put_two signature s n p m q found (v n p (refl, refl)) (w m q (refl, refl)) h k e
  put_by signature s (variable n p) (node g us) found v w h k e =
      put_node signature s n p (variable n p) (node g us) g us found (v n p (refl, refl)) w h k
      (bare (name_for names n) (all_substituted (naming names) us)
      (one_side (variable (name_for names n) p) (with_names names (node g us))))
      (sym (bare n us (one_side (variable n p) (node g us))) ∙ e)
    where
      bare : (left : ℕ) (us : Terms) (o : Option (ℕ × Term)) → either_side (variable left p) (node g us) o ≡ o
      bare left ts None = refl
      bare left ts (Some z) = refl
  put_by signature s (node f ts) (variable m q) found v w h k e =
      put_node signature s m q (node f ts) (variable m q) f ts found (w m q (refl, refl)) v k h refl e
  put_by signature s (node f ts) (node g us) found v w h k e = absurd (cc e)

  -- ---- What is put outside.
  outside_node : (signature : Signature) (t u : Term) (a : ℕ) (value : Term) → IsNodePut signature t u a value
      → IsOutside t u names (a, value)
  outside_node signature t u a value p = record {
    given = (name_for names a, with_names names value);
    gives = p.gives;
    agrees = λ n s k. ap (λ (b : Bool). if b then with_names names value else variable (name_for names n) s)
        (name_eq V names apart a n p.sort s p.is_variable k) ∙ chosen n s (nat_eq a n);
    sort = p.sort;
    is_variable = p.is_variable;
    over = p.over;
    lacks = λ r o.
        let sorts : r ≡ p.sort = one_sort a r p.sort (p.over a r o) p.is_variable in
        absurd (cc (p.lacks, (Decides-occurs a p.sort value).1 (subst (λ (m : ℕ). Occurs a m value) sorts o)));
    apart_after = λ n m r s k l f g same. apart n m r s k l same;
    as_long = refl;
  }
    where
      chosen : (n s : ℕ) (b : Bool) → (if b then with_names names value else variable (name_for names n) s)
          ≡ with_names names (if b then value else variable n s)
      chosen n s true = refl
      chosen n s false = refl

  outside_put : (signature : Signature) (t u : Term) (found : ℕ × Term) (others : List ℕ) (chosen : ℕ × Term)
      → TurnsRound names found others chosen → IsPut signature t u found.0 found.1 → IsOutside t u others chosen
  outside_put signature t u found others chosen (operation_put a f ts) p = outside_node signature t u a (node f ts) p
  outside_put signature t u found others chosen (first_replaced a b r) p =
      outside_two t u _ a b r p.first p.second p.two refl p.gives
  outside_put signature t u found others chosen (second_replaced a b r) p =
      outside_two t u _ b a r p.second p.first (λ e. p.two (sym e))
      (ap (slice_set names a) (smaller_turned (name_for names a) (name_for names b)))
      (p.gives ∙ sides_turned (name_for names a) (name_for names b) r)

  pub outside : (signature : Signature) (s : ℕ) (t u : Term) (found : ℕ × Term) (others : List ℕ) (chosen : ℕ × Term)
      → Over V names apart t → Over V names apart u → HasSort signature t s → HasSort signature u s
      → replacement_of t u ≡ Some found → TurnsRound names found others chosen → IsOutside t u others chosen
  outside signature s t u found others chosen v w h k e turns =
      outside_put signature t u found others chosen turns (put_by signature s t u found v w h k e)

  sorted_put : (signature : Signature) (t u : Term) (found : ℕ × Term) (others : List ℕ) (chosen : ℕ × Term) (r : ℕ)
      → TurnsRound names found others chosen → IsPut signature t u found.0 found.1 → V chosen.0 r → HasSort signature chosen.1 r
  sorted_put signature t u found others chosen r (operation_put a f ts) p v =
      subst (HasSort signature (node f ts)) (one_sort a p.sort r p.is_variable v) p.sorted
  sorted_put signature t u found others chosen r (first_replaced a b q) p v = (one_sort a q r p.first v, p.is_sort)
  sorted_put signature t u found others chosen r (second_replaced a b q) p v = (one_sort b q r p.second v, p.is_sort)

  -- what is put has the sort of the variable
  pub outside_sorted : (signature : Signature) (s : ℕ) (t u : Term) (found : ℕ × Term) (others : List ℕ) (chosen : ℕ × Term)
      → Over V names apart t → Over V names apart u → HasSort signature t s → HasSort signature u s
      → replacement_of t u ≡ Some found → TurnsRound names found others chosen → (r : ℕ) → V chosen.0 r → HasSort signature chosen.1 r
  outside_sorted signature s t u found others chosen v w h k e turns r here =
      sorted_put signature t u found others chosen r turns (put_by signature s t u found v w h k e) here

  -- ---- A replacement before or after the naming.
  changed_variable : (found : ℕ × Term) (t : Term) → Over V names apart t → Over V names apart found.1
      → ((r : ℕ) → Occurs found.0 r found.1 → ⊥) → (n q : ℕ) → Occurs n q (substituted (put_for found) t)
      → V n q × (found.0 ≡ n → ⊥)
  changed_variable found t v w lacks n q o =
      let from : ComesFrom n q (put_for found) t = substituted_occurs n q (put_for found) t o in
      by from.number from.sort from.occurs from.inside (nat_eq found.0 from.number) refl
    where
      by : (m p : ℕ) → Occurs m p t → Occurs n q (put_for found m p) → (same : Bool) → nat_eq found.0 m ≡ same
          → V n q × (found.0 ≡ n → ⊥)
      by m p here inside true e =
          let same : found.0 ≡ m = eqb-true found.0 m e in
          let value : Occurs n q found.1 = subst (Occurs n q) (put_for-same found m p same) inside in
          (w n q value, λ is. lacks q (subst (λ (k : ℕ). Occurs k q found.1) (sym is) value))
      by m p here inside false e =
          let is : (m ≡ n) × (p ≡ q) = subst (Occurs n q) (put_for-other found m p e) inside in
          (subst (V n) is.1 (subst (λ (k : ℕ). V k p) is.0 (v m p here)), λ one. not_same found.0 m e (one ∙ sym is.0))

  pub changed_over : (data_ : Data) (canon : Term → Term) → IsCanon data_ canon → (found : ℕ × Term) (t : Term)
      → Over V names apart t → Over V names apart found.1 → ((r : ℕ) → Occurs found.0 r found.1 → ⊥)
      → IsTermOf data_.signature (substituted (put_for found) t)
      → Over V names apart (canon (substituted (put_for found) t))
      × ((r : ℕ) → Occurs found.0 r (canon (substituted (put_for found) t)) → ⊥)
  changed_over data_ canon c found t v w lacks sorted = (
    λ n s o. (changed_variable found t v w lacks n s (c.occurring (substituted (put_for found) t) n s sorted o)).0,
    λ r o. (changed_variable found t v w lacks found.0 r (c.occurring (substituted (put_for found) t) found.0 r sorted o)).1 refl,
  )

  pub named_change : (data_ : Data) (canon : Term → Term) → IsCanon data_ canon → (others : List ℕ) (given found : ℕ × Term)
      (t : Term) → Over V names apart t → Over V names apart found.1
      → ((n s : ℕ) → V n s → substituted (put_for given) (variable (name_for names n) s) ≡ with_names others (put_for found n s))
      → ((n m r s : ℕ) → V n r → V m s → (found.0 ≡ n → ⊥) → (found.0 ≡ m → ⊥) → name_for others n ≡ name_for others m → n ≡ m)
      → ((r : ℕ) → Occurs found.0 r found.1 → ⊥) → IsTermOf data_.signature (substituted (put_for found) t)
      → canon (substituted (put_for given) (with_names names t)) ≡ with_names others (canon (substituted (put_for found) t))
  named_change data_ canon c others given found t v w agrees apart_after lacks sorted =
      ap canon
      (substituted_twice (naming names) (put_for given) t
      ∙ (substituted_agree (followed_by (naming names) (put_for given)) (followed_by (put_for found) (naming others)) t
      (λ n s o. agrees n s (v n s o))
      ∙ sym (substituted_twice (put_for found) (naming others) t)))
      ∙ c.renames (substituted (put_for found) t) (λ n s. name_for others n) sorted
      (λ n m s o p same.
      let first : V n s × (found.0 ≡ n → ⊥) = changed_variable found t v w lacks n s o in
      let second : V m s × (found.0 ≡ m → ⊥) = changed_variable found t v w lacks m s p in
      apart_after n m s s first.0 second.0 first.1 second.1 same)
