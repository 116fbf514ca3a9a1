-- Where no mention lies on a cycle, there is an order of flattening.
use Rattle.std.proofs.Common.{◌≡◌, ◌⊎◌, inl, inr, ◌<◌, ◌≤◌, ◌+◌, ℕ, zero, suc, Bool, true, false, nat_eq, List, [], ◌∷◌, ◌++◌, length, refl, sym, subst, arith, eqb-true}
use Rattle.std.specs.List.{AllByRecursion, IsDistinct}
use Rattle.std.proofs.Math.Dec.{eqb}
use Rattle.std.proofs.lemmas.Bool.{eq-eqb, or_cases, or_left, or_right}
use Rattle.std.proofs.lemmas.Map.Steps.{length-le_from_distinct_below}
use Rattle.type_definitions.specs.TypeGraph.{mentioned_by, is_among, Mentions, MentionsLead, leads_at_once, leads_on, IsWithin, IsAcyclic}
use Rattle.type_definitions.specs.FlatteningOrder.{FlatteningComesTo, flattened_already, flattened_now, ComesToEach, none_left, next_come_to, counted_from, IsFlatteningOrder}
use Rattle.type_definitions.proofs.NumberLists.{among_none}

none_equal : (q : ℕ) (xs : List ℕ) → (is_among xs q ≡ true → ⊥) → AllByRecursion (λ y. eqb q y ≡ false) xs
none_equal q [] none = tt
none_equal q (x ∷ xs) none = (by (eqb q x) refl, none_equal q xs (λ h. none (or_right (nat_eq q x) (is_among xs q) h)))
  where
    by : (b : Bool) → eqb q x ≡ b → eqb q x ≡ false
    by true same = absurd (none (or_left (nat_eq q x) (is_among xs q) same))
    by false differ = differ

pub numbers_below : (first count j : ℕ) → is_among (counted_from first count) j ≡ true → j < first + count
numbers_below first zero j h = among_none j h
numbers_below first (suc count) j h =
    by (or_cases (nat_eq j first) (is_among (counted_from (suc first) count) j) h) (λ more. numbers_below (suc first) count j more)
  where
    by : (nat_eq j first ≡ true) ⊎ (is_among (counted_from (suc first) count) j ≡ true)
        → (is_among (counted_from (suc first) count) j ≡ true → j < suc first + count) → j < first + suc count
    by (inl same) later = let e = eqb-true j first same in omega (arith, e)
    by (inr more) later = let less = later more in omega (arith, less)

module _ (graph : List (List ℕ)) (within : IsWithin graph) (acyclic : IsAcyclic graph) where
  no_back : (i j : ℕ) → MentionsLead graph i j → j ≡ i → ⊥
  no_back i j (leads_at_once m) same = acyclic i j m (inl same)
  no_back i j (leads_on {j = k} m rest) same = acyclic i k m (inr (subst (MentionsLead graph k) same rest))

  lead_then : (root i j : ℕ) → MentionsLead graph root i → Mentions graph i j → MentionsLead graph root j
  lead_then root i j (leads_at_once first) m = leads_on first (leads_at_once m)
  lead_then root i j (leads_on {j = k} first further) m = leads_on first (lead_then k i j further m)

  -- the types that wait for this one: each leads to it, and they are different ones
  record IsPath (path : List ℕ) (i : ℕ) : Type 0 where
    pub leads : (a : ℕ) → is_among path a ≡ true → MentionsLead graph a i
    pub below : (a : ℕ) → is_among path a ≡ true → a < length graph
    pub distinct : IsDistinct eqb path

  more_distinct : (path : List ℕ) (i : ℕ) → IsPath path i → IsDistinct eqb (i ∷ path)
  unfolding IsDistinct
  more_distinct path i is = (none_equal i path (λ h. no_back i i (is.leads i h) refl), is.distinct)

  more_below : (path : List ℕ) (i : ℕ) → IsPath path i → i < length graph → (a : ℕ) → is_among (i ∷ path) a ≡ true → a < length graph
  more_below path i is less a h = by (or_cases (nat_eq a i) (is_among path a) h)
    where
      by : (nat_eq a i ≡ true) ⊎ (is_among path a ≡ true) → a < length graph
      by (inl same) = subst (λ (n : ℕ). n < length graph) (sym (eqb-true a i same)) less
      by (inr there) = is.below a there

  path_on : (path : List ℕ) (i j : ℕ) → IsPath path i → i < length graph → Mentions graph i j → IsPath (i ∷ path) j
  path_on path i j is less m = record {
    leads = λ a h. by a (or_cases (nat_eq a i) (is_among path a) h);
    below = more_below path i is less;
    distinct = more_distinct path i is;
  }
    where
      by : (a : ℕ) → (nat_eq a i ≡ true) ⊎ (is_among path a ≡ true) → MentionsLead graph a j
      by a (inl same) = leads_at_once (subst (λ (n : ℕ). Mentions graph n j) (sym (eqb-true a i same)) m)
      by a (inr there) = lead_then a i j (is.leads a there) m

  -- not all types wait
  full : (path : List ℕ) (i : ℕ) → IsPath path i → i < length graph → length graph ≤ length path → ⊥
  full path i is less many =
      let most : length (i ∷ path) ≤ length graph =
      length-le_from_distinct_below (i ∷ path) (length graph) (more_distinct path i is) (more_below path i is less) in
      let more : suc (length path) ≤ length graph = most in
      absurd (omega (arith, many, more))

  each_comes : (numbers done : List ℕ)
      → ((j : ℕ) (before : List ℕ) → is_among numbers j ≡ true → (all : List ℕ) × FlatteningComesTo graph before j all)
      → (all : List ℕ) × ComesToEach graph done numbers all
  each_comes [] done come = (done, none_left done)
  each_comes (j ∷ js) done come =
      let first = come j done (or_left (nat_eq j j) (is_among js j) (eq-eqb j j refl)) in
      let rest = each_comes js first.0 (λ k before h. come k before (or_right (nat_eq k j) (is_among js k) h)) in
      (rest.0, next_come_to done first.0 rest.0 j js first.1 rest.1)

  comes : (steps : ℕ) (path : List ℕ) (i : ℕ) (done : List ℕ) → length graph ≤ length path + steps → IsPath path i → i < length graph
      → (all : List ℕ) × FlatteningComesTo graph done i all
  comes zero path i done enough is less = absurd (full path i is less (omega (arith, enough)))
  comes (suc steps) path i done enough is less =
      by (is_among done i) refl
      (each_comes (mentioned_by graph i) done
      (λ j before m.
      comes steps (i ∷ path) j before (let more : length graph ≤ suc (length path) + steps = omega (arith, enough) in more)
      (path_on path i j is less m) (within i j m)))
    where
      by : (told : Bool) → is_among done i ≡ told → ((more : List ℕ) × ComesToEach graph done (mentioned_by graph i) more)
          → (all : List ℕ) × FlatteningComesTo graph done i all
      by true e rest = (done, flattened_already done i e)
      by false e rest = (rest.0 ++ i ∷ [], flattened_now done rest.0 i e rest.1)

  no_path : (i : ℕ) → IsPath [] i
  unfolding IsDistinct
  no_path i = record { leads = λ a h. among_none a h; below = λ a h. among_none a h; distinct = tt }

  pub order_there : (order : List ℕ) × IsFlatteningOrder graph order
  order_there =
      each_comes (counted_from 0 (length graph)) []
      (λ j before h.
      comes (length graph) [] j before (let enough : length graph ≤ 0 + length graph = omega arith in enough) (no_path j)
      (let less : j < 0 + length graph = numbers_below 0 (length graph) j h in omega (arith, less)))
