-- Solving looks at the order of variables alone: a renaming that keeps their order leaves the outcome as it is.
use Rattle.std.proofs.Common.{◌≡◌, ◌<◌, ◌≤◌, ◌⊎◌, inl, inr, ℕ, zero, suc, List, [], ◌∷◌, length, map, slice_get, Option, None, Some, option_map, Bool, true, false, ◌&&◌, ◌||◌, not, cond, nat_eq, nat_lt, if◌then◌else◌, refl, ap, sym, ◌∙◌, subst, arith, eqb-true, eq-eqb, lt-ltb}
use Rattle.std.proofs.lemmas.Bool.{cases_order, le-ltb}
use Rattle.std.proofs.lemmas.List.{length-map}
use Rattle.lotos_base.proofs.Truth.{same_truth}
use Rattle.lotos_base.proofs.Members.{at_map, from_map}
use Rattle.lotos_base.specs.Term.{Term, variable, node, Terms, no_terms, term_then}
use Rattle.lotos_base.specs.Tests.{term_eq, is_ground, are_ground, occurs}
use Rattle.lotos_base.specs.Sorting.{IsTermOf, Occurs}
use Rattle.lotos_base.specs.Equation.{Data}
use Rattle.lotos_base.specs.Substitution.{Substitution, substituted, all_substituted, followed_by, renaming}
use Rattle.lotos_base.specs.Canon.{IsCanon}
use Rattle.lotos_base.proofs.SubstitutionLemmas.{ComesFrom, substituted_occurs, occurs_substituted, substituted_twice, substituted_agree, renamed_same}
use Rattle.lotos_base.proofs.TestLemmas.{Decides-term_eq, Decides-occurs}
use Rattle.behaviour_semantics.specs.Behaviour.{Test}
use Rattle.behaviour_semantics.specs.Rule.{label_values}
use Rattle.behaviour_semantics.specs.Draft.{Draft, draft_with}
use Rattle.behaviour_semantics.specs.Solving.{Entry, variables_left, place_of_number, entry_of, test_in, canonical, differing, has_closed, tidied, one_side, either_side, replacement_of, first_found, first_replacement, replaced, SolvesTo, unsolvable, settled, replacing}
use Rattle.behaviour_semantics.specs.WellFormed.{Every}
use Rattle.behaviour_semantics.specs.DraftOrder.{IsLeaf, IsDraftTerm, IsDraftTest, IsInOrder}
use Rattle.behaviour_semantics.proofs.OptionLemmas.{some_value}
use Rattle.behaviour_semantics.proofs.DraftsInOrder.{came_from, canon_changes, tidied_in_order, draft_with-in}
use Rattle.behaviour_semantics.proofs.LeftVariables.{RisesFrom, left_rises, placed, is_leaf, one_place}
use Rattle.behaviour_semantics.proofs.ReplacementsInOrder.{put_for, replacement_changes, rests_on, replaced_in_order, was_leaf}
use Rattle.behaviour_semantics.proofs.SettledEntries.{renumbered}
use Rattle.behaviour_semantics.proofs.Outcomes.{has_outcome}
use Rattle.behaviour_semantics.proofs.SolvingLemmas.{determined}
use Rattle.behaviour_semantics.proofs.SolvingSteps.{SameOutcomes}
use Rattle.behaviour_semantics.proofs.JoinedSides.{EachTerm, after, canonical_twice, canonical_same, each_weaker, dropped}

-- The variables stay as they are, but for their numbers.
abbrev pub by_number : (ℕ → ℕ) → Substitution
by_number number = renaming (λ n s. number n)

mutual
  ground_renamed : (number : ℕ → ℕ) (t : Term) → is_ground (substituted (by_number number) t) ≡ is_ground t
  ground_renamed number (variable n s) = refl
  ground_renamed number (node f ts) = all_ground_renamed number ts

  all_ground_renamed : (number : ℕ → ℕ) (ts : Terms) → are_ground (all_substituted (by_number number) ts) ≡ are_ground ts
  all_ground_renamed number no_terms = refl
  all_ground_renamed number (term_then t ts) = λ i. ground_renamed number t i && all_ground_renamed number ts i

pub closed_renamed : (number : ℕ → ℕ) (tests : List Test) → has_closed (map (test_in (substituted (by_number number))) tests)
    ≡ has_closed tests
closed_renamed number [] = refl
closed_renamed number (test ∷ tests) = λ i. (ground_renamed number test.left i && ground_renamed number test.right i) || closed_renamed
    number tests i

-- A set of variables on which the numbers keep their order.
module _ (V : ℕ → ℕ → Type 0) (number : ℕ → ℕ) (rises : (n m r s : ℕ) → V n r → V m s → n < m → number n < number m) where
  pub apart : (n m r s : ℕ) → V n r → V m s → number n ≡ number m → n ≡ m
  apart n m r s v w e = by (cases_order n m)
    where
      by : (n ≡ m) ⊎ ((n < m) ⊎ (m < n)) → n ≡ m
      by (inl same) = same
      by (inr (inl lt)) = let less : number n < number m = rises n m r s v w lt in absurd (omega arith)
      by (inr (inr lt)) = let less : number m < number n = rises m n s r w v lt in absurd (omega arith)

  number_eq : (n m r s : ℕ) → V n r → V m s → nat_eq (number n) (number m) ≡ nat_eq n m
  number_eq n m r s v w = same_truth (nat_eq (number n) (number m)) (nat_eq n m)
      (λ e. eq-eqb n m (apart n m r s v w (eqb-true (number n) (number m) e)))
      (λ e. eq-eqb (number n) (number m) (ap number (eqb-true n m e)))

  number_lt : (n m r s : ℕ) → V n r → V m s → nat_lt (number n) (number m) ≡ nat_lt n m
  number_lt n m r s v w = by (cases_order n m)
    where
      by : (n ≡ m) ⊎ ((n < m) ⊎ (m < n)) → nat_lt (number n) (number m) ≡ nat_lt n m
      by (inl same) = le-ltb (number n) (number m) (let le : number m ≤ number n = omega (arith, ap number same) in le)
          ∙ sym (le-ltb n m (let le : m ≤ n = omega arith in le))
      by (inr (inl lt)) = lt-ltb (number n) (number m) (rises n m r s v w lt) ∙ sym (lt-ltb n m lt)
      by (inr (inr lt)) =
          let less : number m < number n = rises m n s r w v lt in
          le-ltb (number n) (number m) (let le : number m ≤ number n = omega arith in le)
          ∙ sym (le-ltb n m (let le : m ≤ n = omega arith in le))

  -- the term's variables are of the set
  abbrev pub Over : Term → Type 0
  Over t = (n s : ℕ) → Occurs n s t → V n s

  term_eq_renamed : (t u : Term) → Over t → Over u → term_eq (substituted (by_number number) t) (substituted (by_number number) u)
      ≡ term_eq t u
  term_eq_renamed t u v w = same_truth (term_eq (substituted (by_number number) t) (substituted (by_number number) u)) (term_eq t u)
      (λ e. (Decides-term_eq t u).1 (renamed_same (λ n s. number n) t u (λ n m s o p same. apart n m s s (v n s o) (w m s p) same)
      ((Decides-term_eq (substituted (by_number number) t) (substituted (by_number number) u)).0 e)))
      (λ e. (Decides-term_eq (substituted (by_number number) t) (substituted (by_number number) u)).1
      (ap (substituted (by_number number)) ((Decides-term_eq t u).0 e)))

  abbrev OverTests : List Test → Type 0
  OverTests tests = Every (λ (test : Test). Over test.left × Over test.right) tests

  pub differing_renamed : (tests : List Test) → OverTests tests → differing (map (test_in (substituted (by_number number))) tests) ≡ map
      (test_in (substituted (by_number number))) (differing tests)
  differing_renamed [] h = refl
  differing_renamed (test ∷ tests) h =
      (λ i. cond (not (term_eq_renamed test.left test.right h.0.0 h.0.1 i))
      (test_in (substituted (by_number number)) test ∷ differing_renamed tests h.1 i) (differing_renamed tests h.1 i))
      ∙ by (term_eq test.left test.right)
    where
      by : (same : Bool) → cond (not same) (test_in (substituted (by_number number)) test ∷ map
          (test_in (substituted (by_number number))) (differing tests))
          (map (test_in (substituted (by_number number))) (differing tests))
          ≡ map (test_in (substituted (by_number number))) (cond (not same) (test ∷ differing tests) (differing tests))
      by true = refl
      by false = refl

  occurs_renamed : (n s : ℕ) (t : Term) → V n s → Over t → occurs (number n) s (substituted (by_number number) t) ≡ occurs n s t
  occurs_renamed n s t v w = same_truth (occurs (number n) s (substituted (by_number number) t)) (occurs n s t)
      (λ e. (Decides-occurs n s t).1 (back (substituted_occurs (number n) s (by_number number) t
      ((Decides-occurs (number n) s (substituted (by_number number) t)).0 e))))
      (λ e. (Decides-occurs (number n) s (substituted (by_number number) t)).1
      (occurs_substituted (number n) s n s (by_number number) t ((Decides-occurs n s t).0 e) (refl, refl)))
    where
      back : ComesFrom (number n) s (by_number number) t → Occurs n s t
      back from =
          let same : from.number ≡ n = apart from.number n from.sort s (w from.number from.sort from.occurs) v from.inside.0 in
          subst (λ (k : ℕ). Occurs k s t) same (subst (λ (q : ℕ). Occurs from.number q t) from.inside.1 from.occurs)

  -- the replacement renamed
  abbrev pub renamed_found : ℕ × Term → ℕ × Term
  renamed_found found = (number found.0, substituted (by_number number) found.1)

  one_side_renamed : (n s : ℕ) (other : Term) → V n s → Over other → one_side (variable (number n) s)
      (substituted (by_number number) other) ≡ option_map renamed_found (one_side (variable n s) other)
  one_side_renamed n s other v w =
      ap (λ (b : Bool). if b then None else Some (number n, substituted (by_number number) other)) (occurs_renamed n s other v w)
      ∙ by (occurs n s other)
    where
      by : (b : Bool) → (if b then None else Some (number n, substituted (by_number number) other)) ≡ option_map renamed_found
          (if b then None else Some (n, other))
      by true = refl
      by false = refl

  replacement_renamed : (t u : Term) → Over t → Over u → replacement_of (substituted (by_number number) t)
      (substituted (by_number number) u) ≡ option_map renamed_found (replacement_of t u)
  replacement_renamed (variable n p) (variable m q) v w =
      let left : V n p = v n p (refl, refl) in
      let right : V m q = w m q (refl, refl) in
      (λ i. if number_lt n m p q left right i then Some (number m, variable (number n) p) else
      (if number_lt m n q p right left i then Some (number n, variable (number m) q) else None))
      ∙ by (nat_lt n m) (nat_lt m n)
    where
      by : (a b : Bool) → (if a then Some (number m, variable (number n) p) else
          (if b then Some (number n, variable (number m) q) else None))
          ≡ option_map renamed_found (if a then Some (m, variable n p) else (if b then Some (n, variable m q) else None))
      by true b = refl
      by false true = refl
      by false false = refl
  replacement_renamed (variable n p) (node g us) v w =
      ap (λ (o : Option (ℕ × Term)). either_side (variable (number n) p) (substituted (by_number number) (node g us)) o)
      (one_side_renamed n p (node g us) (v n p (refl, refl)) w)
      ∙ by (one_side (variable n p) (node g us))
    where
      by : (o : Option (ℕ × Term)) → either_side (variable (number n) p) (substituted (by_number number) (node g us))
          (option_map renamed_found o) ≡ option_map renamed_found (either_side (variable n p) (node g us) o)
      by None = refl
      by (Some found) = refl
  replacement_renamed (node f ts) (variable m q) v w = one_side_renamed m q (node f ts) (w m q (refl, refl)) v
  replacement_renamed (node f ts) (node g us) v w = refl

  pub first_renamed : (tests : List Test) → OverTests tests → first_replacement (map (test_in (substituted (by_number number))) tests)
      ≡ option_map renamed_found (first_replacement tests)
  first_renamed [] h = refl
  first_renamed (test ∷ tests) h =
      (λ i. first_found (replacement_renamed test.left test.right h.0.0 h.0.1 i) (first_renamed tests h.1 i))
      ∙ by (replacement_of test.left test.right)
    where
      by : (o : Option (ℕ × Term)) → first_found (option_map renamed_found o) (option_map renamed_found (first_replacement tests))
          ≡ option_map renamed_found (first_found o (first_replacement tests))
      by (Some found) = refl
      by None = refl

  -- a replacement before or after the renaming
  put_renamed : (found : ℕ × Term) (r : ℕ) (t : Term) → V found.0 r → Over t
      → substituted (by_number number) (substituted (put_for found) t) ≡ substituted (put_for (renamed_found found))
      (substituted (by_number number) t)
  put_renamed found r t v w =
      substituted_twice (put_for found) (by_number number) t
      ∙ (substituted_agree (followed_by (put_for found) (by_number number))
      (followed_by (by_number number) (put_for (renamed_found found))) t (λ n s o. at n s (w n s o))
      ∙ sym (substituted_twice (by_number number) (put_for (renamed_found found)) t))
    where
      at : (n s : ℕ) → V n s → substituted (by_number number) (put_for found n s) ≡ put_for (renamed_found found) (number n) s
      at n s x = by (nat_eq found.0 n) ∙ ap (λ (b : Bool). if b then substituted (by_number number) found.1 else variable (number n) s)
          (sym (number_eq found.0 n r s v x))
        where
          by : (b : Bool) → substituted (by_number number) (if b then found.1 else variable n s) ≡ (if b then
              substituted (by_number number) found.1 else variable (number n) s)
          by true = refl
          by false = refl

  pub put_renamed_draft : (found : ℕ × Term) (r : ℕ) (draft : Draft) → V found.0 r → EachTerm Over draft
      → canonical (substituted (by_number number)) (canonical (substituted (put_for found)) draft) ≡ canonical
      (substituted (put_for (renamed_found found))) (canonical (substituted (by_number number)) draft)
  put_renamed_draft found r draft v h =
      canonical_twice (substituted (by_number number)) (substituted (put_for found)) draft
      ∙ (canonical_same (after (substituted (by_number number)) (substituted (put_for found)))
      (after (substituted (put_for (renamed_found found))) (substituted (by_number number))) draft
      (each_weaker Over (λ t. substituted (by_number number) (substituted (put_for found) t) ≡ substituted
      (put_for (renamed_found found)) (substituted (by_number number) t)) (λ t w. put_renamed found r t v w) draft h)
      ∙ sym (canonical_twice (substituted (put_for (renamed_found found))) (substituted (by_number number)) draft))

  -- ---- Tidying
  module _ (data_ : Data) (canon : Term → Term) (is_canon : IsCanon data_ canon) where
    -- a term of the signature over the set
    abbrev pub TermOver : Term → Type 0
    TermOver t = IsTermOf data_.signature t × Over t

    over_canon : (t : Term) → TermOver t → Over (canon t)
    over_canon t h n s o = h.1 n s (is_canon.occurring t n s h.0 o)

    map_over : (tests : List Test) → Every (λ (test : Test). TermOver test.left × TermOver test.right) tests
        → OverTests (map (test_in canon) tests)
    map_over [] h = tt
    map_over (test ∷ tests) h = ((over_canon test.left h.0.0, over_canon test.right h.0.1), map_over tests h.1)

    pub tidied_renamed : (draft : Draft) → EachTerm TermOver draft → tidied canon (canonical (substituted (by_number number)) draft)
        ≡ canonical (substituted (by_number number)) (tidied canon draft)
    tidied_renamed draft h =
        ap dropped (canonical_twice canon (substituted (by_number number)) draft
        ∙ (canonical_same (after canon (substituted (by_number number))) (after (substituted (by_number number)) canon) draft
        (each_weaker TermOver (λ t. canon (substituted (by_number number) t) ≡ substituted (by_number number) (canon t))
        (λ t k. is_canon.renames t (λ n s. number n) k.0 (λ n m s o p same. apart n m s s (k.1 n s o) (k.1 m s p) same)) draft h)
        ∙ sym (canonical_twice (substituted (by_number number)) canon draft)))
        ∙ ap (λ (tests : List Test). record (canonical (substituted (by_number number)) (canonical canon draft)) { conditions = tests })
        (differing_renamed (map (test_in canon) draft.conditions) (map_over draft.conditions h.conditions))

-- ---- Lists of variables that rise and have the same members
abbrev Within : List (ℕ × ℕ) → List (ℕ × ℕ) → Type 0
Within xs ys = (i : ℕ) (v : ℕ × ℕ) → slice_get xs i ≡ Some v → (j : ℕ) × (slice_get ys j ≡ Some v)

above : (k : ℕ) (xs : List (ℕ × ℕ)) (i : ℕ) (v : ℕ × ℕ) → RisesFrom k xs → slice_get xs i ≡ Some v → k ≤ v.0
above k [] i v h at = absurd (cc at)
above k (x ∷ xs) zero v h at = subst (λ (w : ℕ × ℕ). k ≤ w.0) (some_value at) h.0
above k (x ∷ xs) (suc i) v h at = let later : suc x.0 ≤ v.0 = above (suc x.0) xs i v h.1 at in omega (arith, h.0)

same_rising : (k l : ℕ) (xs ys : List (ℕ × ℕ)) → RisesFrom k xs → RisesFrom l ys → Within xs ys → Within ys xs → xs ≡ ys
same_rising k l [] [] h g w u = refl
same_rising k l [] (y ∷ ys) h g w u = absurd (cc (u 0 y refl).1)
same_rising k l (x ∷ xs) [] h g w u = absurd (cc (w 0 x refl).1)
same_rising k l (x ∷ xs) (y ∷ ys) h g w u =
    let heads : x ≡ y = first (w 0 x refl) (u 0 y refl) in
    let rest : xs ≡ ys = same_rising (suc x.0) (suc y.0) xs ys h.1 g.1 (tail xs x y ys heads h.1 w) (tail ys y x xs (sym heads) g.1 u) in
    λ i. heads i ∷ rest i
  where
    first : (j : ℕ) × (slice_get (y ∷ ys) j ≡ Some x) → (j : ℕ) × (slice_get (x ∷ xs) j ≡ Some y) → x ≡ y
    first (zero, at) other = sym (some_value at)
    first (suc j, at) (zero, at') = some_value at'
    first (suc j, at) (suc j', at') =
        let more : suc y.0 ≤ x.0 = above (suc y.0) ys j x g.1 at in
        let less : suc x.0 ≤ y.0 = above (suc x.0) xs j' y h.1 at' in
        absurd (omega arith)

    tail : (xs : List (ℕ × ℕ)) (x y : ℕ × ℕ) (ys : List (ℕ × ℕ)) → x ≡ y → RisesFrom (suc x.0) xs → Within (x ∷ xs) (y ∷ ys) → Within xs ys
    tail xs x y ys same rises w i v at = by (w (suc i) v at)
      where
        by : (j : ℕ) × (slice_get (y ∷ ys) j ≡ Some v) → (j : ℕ) × (slice_get ys j ≡ Some v)
        by (zero, at') =
            let here : x ≡ v = same ∙ some_value at' in
            let more : suc x.0 ≤ v.0 = above (suc x.0) xs i v rises at in
            let number : x.0 ≡ v.0 = ap (λ (w : ℕ × ℕ). w.0) here in
            absurd (omega arith)
        by (suc j, at') = (j, at')

-- ---- The entry of a renamed draft
module _ (number : ℕ → ℕ) (leaves : List Term) (below : (n s : ℕ) → IsLeaf leaves n s → n < length leaves) (one_sort : (n r s : ℕ)
    → IsLeaf leaves n r → IsLeaf leaves n s → r ≡ s)
    (rises : (n m r s : ℕ) → IsLeaf leaves n r → IsLeaf leaves m s → n < m → number n < number m) (within : (n s : ℕ)
    → IsLeaf leaves n s → number n < length leaves) where
  abbrev renamed : List Term
  renamed = map (substituted (by_number number)) leaves

  -- a leaf of the renamed draft and the variable that it was
  was_variable : (k s : ℕ) (t : Term) → substituted (by_number number) t ≡ variable k s → (n : ℕ) × (t ≡ variable n s) × (number n ≡ k)
  was_variable k s (node f ts) e = absurd (cc e)
  was_variable k s (variable n q) e = let numbers : number n ≡ k = cc e in let sorts : q ≡ s = cc e in (n, ap (variable n) sorts, numbers)

  was_leaf_of : (k s : ℕ) → IsLeaf (map (substituted (by_number number)) leaves) k s → (n : ℕ) × IsLeaf leaves n s × (number n ≡ k)
  was_leaf_of k s (i, at) =
      let from : (t : Term) × (slice_get leaves i ≡ Some t) × (substituted (by_number number) t ≡ variable k s) =
      from_map (substituted (by_number number)) leaves i (variable k s) at in
      let was : (n : ℕ) × (from.0 ≡ variable n s) × (number n ≡ k) = was_variable k s from.0 from.2 in
      (was.0, (i, from.1 ∙ ap (λ (t : Term). Some t) was.1), was.2)

  is_leaf_of : (n s : ℕ) → IsLeaf leaves n s → IsLeaf (map (substituted (by_number number)) leaves) (number n) s
  is_leaf_of n s (i, at) = (i, at_map (substituted (by_number number)) leaves i (variable n s) at)

  below' : (k s : ℕ) → IsLeaf (map (substituted (by_number number)) leaves) k s → k < length (map (substituted (by_number number)) leaves)
  below' k s leaf =
      let was = was_leaf_of k s leaf in
      let lt : number was.0 < length leaves = within was.0 s was.1 in
      omega (arith, lt, was.2, length-map leaves (substituted (by_number number)))

  one_sort' : (k r s : ℕ) → IsLeaf (map (substituted (by_number number)) leaves) k r
      → IsLeaf (map (substituted (by_number number)) leaves) k s → r ≡ s
  one_sort' k r s leaf other =
      let was = was_leaf_of k r leaf in
      let and_ = was_leaf_of k s other in
      let same : was.0 ≡ and_.0 = apart (IsLeaf leaves) number rises was.0 and_.0 r s was.1 and_.1 (was.2 ∙ sym and_.2) in
      one_sort was.0 r s was.1 (subst (λ (n : ℕ). IsLeaf leaves n s) (sym same) and_.1)

  abbrev image : List (ℕ × ℕ) → List (ℕ × ℕ)
  image vs = map (λ (v : ℕ × ℕ). (number v.0, v.1)) vs

  abbrev AreLeaves : List (ℕ × ℕ) → Type 0
  AreLeaves vs = (i : ℕ) (v : ℕ × ℕ) → slice_get vs i ≡ Some v → IsLeaf leaves v.0 v.1

  image_rises : (k l : ℕ) (vs : List (ℕ × ℕ)) → RisesFrom k vs → AreLeaves vs
      → ((i : ℕ) (v : ℕ × ℕ) → slice_get vs i ≡ Some v → l ≤ number v.0) → RisesFrom l (image vs)
  image_rises k l [] h leaf least = tt
  image_rises k l (v ∷ vs) h leaf least = (
    least 0 v refl,
    image_rises (suc v.0) (suc (number v.0)) vs h.1 (λ i w at. leaf (suc i) w at)
        (λ i w at.
        let later : suc v.0 ≤ w.0 = above (suc v.0) vs i w h.1 at in
        let less : number v.0 < number w.0 = rises v.0 w.0 v.1 w.1 (leaf 0 v refl) (leaf (suc i) w at) (omega arith) in
        omega arith),
  )

  same_left : variables_left 0 (map (substituted (by_number number)) leaves) (map (substituted (by_number number)) leaves) ≡ image
      (variables_left 0 leaves leaves)
  same_left =
      same_rising 0 0 (variables_left 0 (map (substituted (by_number number)) leaves) (map (substituted (by_number number)) leaves))
      (image (variables_left 0 leaves leaves))
      (left_rises 0 (map (substituted (by_number number)) leaves) (map (substituted (by_number number)) leaves))
      (image_rises 0 0 (variables_left 0 leaves leaves) (left_rises 0 leaves leaves) (is_leaf leaves below one_sort)
      (λ i v at. omega arith))
      (λ i v at.
      let was = was_leaf_of v.0 v.1 (is_leaf (map (substituted (by_number number)) leaves) below' one_sort' i v at) in
      let here : slice_get (variables_left 0 leaves leaves) (place_of_number 0 (variables_left 0 leaves leaves) was.0) ≡ Some (was.0, v.1) =
      placed leaves below one_sort was.0 v.1 was.1 in (
        place_of_number 0 (variables_left 0 leaves leaves) was.0,
        at_map (λ (w : ℕ × ℕ). (number w.0, w.1)) (variables_left 0 leaves leaves)
            (place_of_number 0 (variables_left 0 leaves leaves) was.0) (was.0, v.1) here ∙ ap (λ (k : ℕ). Some (k, v.1)) was.2,
      ))
      (λ i v at.
      let from : (w : ℕ × ℕ) × (slice_get (variables_left 0 leaves leaves) i ≡ Some w) × ((number w.0, w.1) ≡ v) =
      from_map (λ (w : ℕ × ℕ). (number w.0, w.1)) (variables_left 0 leaves leaves) i v at in
      let leaf : IsLeaf (map (substituted (by_number number)) leaves) (number from.0.0) from.0.1 =
      is_leaf_of from.0.0 from.0.1 (is_leaf leaves below one_sort i from.0 from.1) in (
        place_of_number 0 (variables_left 0 (map (substituted (by_number number)) leaves) (map (substituted (by_number number)) leaves))
            (number from.0.0),
        placed (map (substituted (by_number number)) leaves) below' one_sort' (number from.0.0) from.0.1 leaf
            ∙ ap (λ (w : ℕ × ℕ). Some w) from.2,
      ))

  -- a variable gets the same number before and after
  same_place : (n s : ℕ) → IsLeaf leaves n s → place_of_number 0 (variables_left 0 (map (substituted (by_number number)) leaves)
      (map (substituted (by_number number)) leaves)) (number n) ≡ place_of_number 0 (variables_left 0 leaves leaves) n
  same_place n s leaf =
      let there : slice_get (image (variables_left 0 leaves leaves)) (place_of_number 0
      (variables_left 0 (map (substituted (by_number number)) leaves) (map (substituted (by_number number)) leaves)) (number n))
      ≡ Some (number n, s) =
      sym (ap (λ (vs : List (ℕ × ℕ)). slice_get vs (place_of_number 0 (variables_left 0 (map (substituted (by_number number)) leaves)
      (map (substituted (by_number number)) leaves)) (number n))) same_left)
      ∙ placed (map (substituted (by_number number)) leaves) below' one_sort' (number n) s (is_leaf_of n s leaf) in
      let here : slice_get (image (variables_left 0 leaves leaves)) (place_of_number 0 (variables_left 0 leaves leaves) n)
      ≡ Some (number n, s) =
      at_map (λ (w : ℕ × ℕ). (number w.0, w.1)) (variables_left 0 leaves leaves)
      (place_of_number 0 (variables_left 0 leaves leaves) n) (n, s)
      (placed leaves below one_sort n s leaf) in
      one_place 0 (image (variables_left 0 leaves leaves)) (image_rises 0 0 (variables_left 0 leaves leaves)
      (left_rises 0 leaves leaves) (is_leaf leaves below one_sort) (λ i v at. omega arith))
      (place_of_number 0 (variables_left 0 (map (substituted (by_number number)) leaves) (map (substituted (by_number number)) leaves))
      (number n)) (place_of_number 0 (variables_left 0 leaves leaves) n) (number n)
      (at_map (λ (w : ℕ × ℕ). w.0) (image (variables_left 0 leaves leaves))
      (place_of_number 0 (variables_left 0 (map (substituted (by_number number)) leaves) (map (substituted (by_number number)) leaves))
      (number n)) (number n, s) there)
      (at_map (λ (w : ℕ × ℕ). w.0) (image (variables_left 0 leaves leaves)) (place_of_number 0 (variables_left 0 leaves leaves) n) (
        number n,
        s,
      ) here)

  same_sorts : map (λ (v : ℕ × ℕ). v.1) (variables_left 0 (map (substituted (by_number number)) leaves)
      (map (substituted (by_number number)) leaves)) ≡ map (λ (v : ℕ × ℕ). v.1) (variables_left 0 leaves leaves)
  same_sorts = ap (map (λ (v : ℕ × ℕ). v.1)) same_left ∙ of_image (variables_left 0 leaves leaves)
    where
      of_image : (vs : List (ℕ × ℕ)) → map (λ (v : ℕ × ℕ). v.1) (map (λ (v : ℕ × ℕ). (number v.0, v.1)) vs) ≡ map (λ (v : ℕ × ℕ). v.1) vs
      of_image [] = refl
      of_image (v ∷ vs) = ap (λ (ss : List ℕ). v.1 ∷ ss) (of_image vs)

-- the entry by the numbered draft and the sorts of its variables
abbrev entry_from : Draft → List ℕ → Entry
entry_from draft sorts = record {
  shape = draft.shape;
  label = draft.label;
  variables = sorts;
  leaves = draft.leaves;
  conditions =
      draft.conditions;
}

each_of_order : (data_ : Data) (draft : Draft) (P : Term → Type 0) → ((t : Term) → IsDraftTerm data_.signature draft.leaves t → P t)
    → IsInOrder data_.signature draft → EachTerm P draft
each_of_order data_ draft P w order = record {
  values = terms (label_values draft.label) order.values;
  leaves =
      terms draft.leaves order.leaves;
  conditions = tests draft.conditions order.conditions;
}
  where
    terms : (ts : List Term) → Every (IsDraftTerm data_.signature draft.leaves) ts → Every P ts
    terms [] h = tt
    terms (t ∷ ts) h = (w t h.0, terms ts h.1)

    tests : (tests : List Test) → Every (IsDraftTest data_.signature draft.leaves) tests
        → Every (λ (test : Test). P test.left × P test.right) tests
    tests [] h = tt
    tests (test ∷ more) h = ((w test.left (h.0.0, h.0.1), w test.right (h.0.0, h.0.2)), tests more h.1)

pub terms_in_order : (data_ : Data) (draft : Draft) (P : Term → Type 0)
    → ((t : Term) → IsDraftTerm data_.signature draft.leaves t → P t) → IsInOrder data_.signature draft → EachTerm P draft
terms_in_order = each_of_order

entry_renamed : (data_ : Data) (number : ℕ → ℕ) (draft : Draft) (order : IsInOrder data_.signature draft)
    → ((n m r s : ℕ) → IsLeaf draft.leaves n r → IsLeaf draft.leaves m s → n < m → number n < number m)
    → ((n s : ℕ) → IsLeaf draft.leaves n s → number n < length draft.leaves)
    → entry_of (canonical (substituted (by_number number)) draft) ≡ entry_of draft
entry_renamed data_ number draft order rises within =
    ap (λ (d : Draft). entry_from d (map (λ (v : ℕ × ℕ). v.1) (variables_left 0 (map (substituted (by_number number)) draft.leaves)
    (map (substituted (by_number number)) draft.leaves)))) numbered
    ∙ ap (entry_from (draft_with (renumbered draft.leaves) draft)) (same_sorts number draft.leaves order.below order.one_sort rises within)
  where
    others : Substitution
    others = renumbered (map (substituted (by_number number)) draft.leaves)

    numbered : draft_with (renumbered (map (substituted (by_number number)) draft.leaves))
        (canonical (substituted (by_number number)) draft) ≡ draft_with (renumbered draft.leaves) draft
    numbered =
        sym (draft_with-in (renumbered (map (substituted (by_number number)) draft.leaves))
        (canonical (substituted (by_number number)) draft))
        ∙ (canonical_twice (substituted (renumbered (map (substituted (by_number number)) draft.leaves)))
        (substituted (by_number number)) draft
        ∙ (canonical_same (after (substituted (renumbered (map (substituted (by_number number)) draft.leaves)))
        (substituted (by_number number))) (substituted (renumbered draft.leaves)) draft
        (each_of_order data_ draft (λ t. substituted (renumbered (map (substituted (by_number number)) draft.leaves))
        (substituted (by_number number) t) ≡ substituted (renumbered draft.leaves) t)
        (λ t h.
        substituted_twice (by_number number) (renumbered (map (substituted (by_number number)) draft.leaves)) t
        ∙ substituted_agree (followed_by (by_number number) (renumbered (map (substituted (by_number number)) draft.leaves)))
        (renumbered draft.leaves) t
        (λ n s o. ap (λ (k : ℕ). variable k s) (same_place number draft.leaves order.below order.one_sort rises within n s
        (h.1.own n s o))))
        order)
        ∙ draft_with-in (renumbered draft.leaves) draft))

-- ---- Solving a renamed draft
module _ (data_ : Data) (canon : Term → Term) (is_canon : IsCanon data_ canon) (V : ℕ → ℕ → Type 0) (number : ℕ → ℕ)
    (rises : (n m r s : ℕ) → V n r → V m s → n < m → number n < number m) where
  abbrev pub Fits : Draft → Type 0
  Fits draft = IsInOrder data_.signature draft × ((n s : ℕ) → IsLeaf draft.leaves n s → V n s)

  over_terms : (draft : Draft) → Fits draft → EachTerm (TermOver V number rises data_ canon is_canon) draft
  over_terms draft fits = each_of_order data_ draft (TermOver V number rises data_ canon is_canon)
      (λ t h. ((h.0, h.1.sorted), λ n s o. fits.1 n s (h.1.own n s o))) fits.0

  pub renamed_tidied : (draft : Draft) → Fits draft → tidied canon (canonical (substituted (by_number number)) draft) ≡ canonical
      (substituted (by_number number)) (tidied canon draft)
  renamed_tidied draft fits = tidied_renamed V number rises data_ canon is_canon draft (over_terms draft fits)

  pub tidied_fits : (draft : Draft) → Fits draft → Fits (tidied canon draft)
  tidied_fits draft fits = (
    tidied_in_order data_ canon is_canon draft fits.0,
    (λ n s leaf. fits.1 n s (came_from data_.signature draft.leaves canon
        (canon_changes data_ canon is_canon draft.leaves) fits.0.leaves n s leaf)),
  )

  pub replaced_fits : (draft : Draft) (found : ℕ × Term) → Fits draft → first_replacement draft.conditions ≡ Some found
      → Fits (replaced found draft)
  replaced_fits draft found fits gives = (
    replaced_in_order data_ draft found fits.0 gives,
    (λ n s leaf. fits.1 n s (came_from data_.signature draft.leaves (substituted (put_for found))
        (replacement_changes data_ draft.leaves fits.0.one_sort draft.conditions found (rests_on data_ draft found fits.0 gives))
        fits.0.leaves n s leaf)),
  )

  over_tests : (draft : Draft) → Fits draft → Every (λ (test : Test). Over V number rises test.left
      × Over V number rises test.right) draft.conditions
  over_tests draft fits = (each_weaker (TermOver V number rises data_ canon is_canon) (Over V number rises) (λ t h. h.1) draft
      (over_terms draft fits)).conditions

  -- the conditions of the renamed draft once tidied, and the replacement that they give
  pub renamed_conditions : (draft : Draft) → Fits draft → (tidied canon (canonical (substituted (by_number number)) draft)).conditions
      ≡ map (test_in (substituted (by_number number))) (tidied canon draft).conditions
  renamed_conditions draft fits = ap (λ (d : Draft). d.conditions) (renamed_tidied draft fits)

  pub renamed_gives : (draft : Draft) → Fits draft → first_replacement
      (tidied canon (canonical (substituted (by_number number)) draft)).conditions ≡ option_map (renamed_found V number rises)
      (first_replacement (tidied canon draft).conditions)
  renamed_gives draft fits =
      ap first_replacement (renamed_conditions draft fits) ∙ first_renamed V number rises (tidied canon draft).conditions
      (over_tests (tidied canon draft) (tidied_fits draft fits))

  pub renamed_closed : (draft : Draft) → Fits draft → has_closed (tidied canon
      (canonical (substituted (by_number number)) draft)).conditions ≡ has_closed (tidied canon draft).conditions
  renamed_closed draft fits = ap has_closed (renamed_conditions draft fits) ∙ closed_renamed number (tidied canon draft).conditions

  -- a replacement in the renamed draft
  pub renamed_replaced : (draft : Draft) (found : ℕ × Term) → Fits draft
      → first_replacement (tidied canon draft).conditions ≡ Some found
      → canonical (substituted (put_for (renamed_found V number rises found)))
      (tidied canon (canonical (substituted (by_number number)) draft)) ≡ canonical (substituted (by_number number))
      (replaced found (tidied canon draft))
  renamed_replaced draft found fits gives =
      let fits' : Fits (tidied canon draft) = tidied_fits draft fits in
      let leaf : IsLeaf (tidied canon draft).leaves found.0 (rests_on data_ (tidied canon draft) found fits'.0 gives).sort =
      was_leaf data_ (tidied canon draft) found fits'.0 gives in
      ap (canonical (substituted (put_for (renamed_found V number rises found)))) (renamed_tidied draft fits)
      ∙ (sym (put_renamed_draft V number rises found (rests_on data_ (tidied canon draft) found fits'.0 gives).sort (tidied canon draft)
      (fits'.1 found.0 (rests_on data_ (tidied canon draft) found fits'.0 gives).sort leaf)
      (each_weaker (TermOver V number rises data_ canon is_canon) (Over V number rises) (λ t h. h.1) (tidied canon draft)
      (over_terms (tidied canon draft) fits')))
      ∙ ap (canonical (substituted (by_number number))) (draft_with-in (put_for found) (tidied canon draft)))

  module _ (count : ℕ) (within : (n s : ℕ) → V n s → number n < count) where
    renamed_solves : {draft : Draft} {outcome : Option Entry} → SolvesTo canon draft outcome → Fits draft → length draft.leaves ≡ count
        → SolvesTo canon (canonical (substituted (by_number number)) draft) outcome
    renamed_solves (unsolvable draft closed) fits long = unsolvable (canonical (substituted (by_number number)) draft)
        (renamed_closed draft fits ∙ closed)
    renamed_solves (settled draft not_closed none) fits long =
        let fits' : Fits (tidied canon draft) = tidied_fits draft fits in
        let entry : entry_of (tidied canon (canonical (substituted (by_number number)) draft)) ≡ entry_of (tidied canon draft) =
        ap entry_of (renamed_tidied draft fits)
        ∙ entry_renamed data_ number (tidied canon draft) fits'.0 (λ n m r s leaf other lt. rises n m r s (fits'.1 n r leaf)
        (fits'.1 m s other) lt)
        (λ n s leaf. subst (λ (k : ℕ). number n < k) (sym (length-map draft.leaves canon ∙ long)) (within n s (fits'.1 n s leaf))) in
        subst (λ (e : Entry). SolvesTo canon (canonical (substituted (by_number number)) draft) (Some e)) entry
        (settled (canonical (substituted (by_number number)) draft) (renamed_closed draft fits ∙ not_closed) (renamed_gives draft fits
        ∙ ap (option_map (renamed_found V number rises)) none))
    renamed_solves (replacing draft found outcome not_closed gives rest) fits long =
        replacing (canonical (substituted (by_number number)) draft) (renamed_found V number rises found) outcome
        (renamed_closed draft fits ∙ not_closed) (renamed_gives draft fits ∙ ap (option_map (renamed_found V number rises)) gives)
        (subst (λ (d : Draft). SolvesTo canon d outcome)
        (sym (renamed_replaced draft found fits gives) ∙ draft_with-in (put_for (renamed_found V number rises found))
        (tidied canon (canonical (substituted (by_number number)) draft)))
        (renamed_solves rest (replaced_fits (tidied canon draft) found (tidied_fits draft fits) gives)
        (length-map (map canon draft.leaves) (substituted (put_for found)) ∙ (length-map draft.leaves canon ∙ long))))

    pub same_renamed : (draft : Draft) → Fits draft → length draft.leaves ≡ count
        → SameOutcomes canon draft (canonical (substituted (by_number number)) draft)
    same_renamed draft fits long outcome = (
      (λ s. renamed_solves s fits long),
      (λ s.
          let o : (outcome : Option Entry) × SolvesTo canon draft outcome = has_outcome data_ canon is_canon draft fits.0 in
          subst (SolvesTo canon draft) (determined (renamed_solves o.1 fits long) s) o.1),
    )
