-- The first call on a cycle, and the way that is kept of it, are one thing.
use Rattle.std.proofs.Common.{arith, refl, ap, sym, ◌∙◌, ◌≡◌, ◌<◌, ◌≤◌, ◌⊎◌, inl, inr, subst, ℕ, List, [], ◌∷◌, length}
use Rattle.std.proofs.lemmas.Option.{same_Some}
use Rattle.std.proofs.lemmas.Bool.{cases_lt}
use Rattle.refusal_lines.specs.HandedOn.{IsCallAt, CallsLead, CallStandsBefore, IsFirstOnCycle, ComeNoLater, IsKeptWay, IsKeptCycle}

-- ---- The first call

one_before : (p q i j : ℕ) → (p ≡ q) × (i ≡ j) ⊎ (CallStandsBefore p i q j ⊎ CallStandsBefore q j p i)
one_before p q i j = by (cases_lt p q) (cases_lt q p) (cases_lt i j) (cases_lt j i)
  where
    by : (p < q) ⊎ (q ≤ p) → (q < p) ⊎ (p ≤ q) → (i < j) ⊎ (j ≤ i) → (j < i) ⊎ (i ≤ j)
        → (p ≡ q) × (i ≡ j) ⊎ (CallStandsBefore p i q j ⊎ CallStandsBefore q j p i)
    by (inl less) other before after = inr (inl (inl less))
    by (inr most) (inl more) before after = inr (inr (inl more))
    by (inr most) (inr least) (inl less) after = inr (inl (inr (omega (arith, most, least), less)))
    by (inr most) (inr least) (inr past) (inl more) = inr (inr (inr (omega (arith, most, least), more)))
    by (inr most) (inr least) (inr past) (inr short) = inl (omega (arith, most, least), omega (arith, past, short))

pub first_is_one : (graph : List (List ℕ)) (p q i j : ℕ) → IsFirstOnCycle graph p i → IsFirstOnCycle graph q j → (p ≡ q) × (i ≡ j)
first_is_one graph p q i j one other = by (one_before p q i j)
  where
    by : (p ≡ q) × (i ≡ j) ⊎ (CallStandsBefore p i q j ⊎ CallStandsBefore q j p i) → (p ≡ q) × (i ≡ j)
    by (inl same) = same
    by (inr (inl before)) = absurd (other.first p i before one.on_cycle)
    by (inr (inr before)) = absurd (one.first q j before other.on_cycle)

-- ---- The way

no_later_both : (is js : List ℕ) → length is ≡ length js → ComeNoLater is js → ComeNoLater js is → is ≡ js
no_later_both [] [] same one other = refl
no_later_both [] (j ∷ js) same one other = absurd (cc same)
no_later_both (i ∷ is) [] same one other = absurd (cc same)
no_later_both (i ∷ is) (j ∷ js) same (inl less) (inl more) = absurd (omega (arith, less, more))
no_later_both (i ∷ is) (j ∷ js) same (inl less) (inr more) = let equal : j ≡ i = more.0 in absurd (omega (arith, less, equal))
no_later_both (i ∷ is) (j ∷ js) same (inr less) (inl more) = let equal : i ≡ j = less.0 in absurd (omega (arith, more, equal))
no_later_both (i ∷ is) (j ∷ js) same (inr less) (inr more) =
    ap (λ (k : ℕ). k ∷ is) less.0 ∙ ap (λ (ks : List ℕ). j ∷ ks) (no_later_both is js (cc same) less.1 more.1)

same_call : (graph : List (List ℕ)) (p i m n : ℕ) → IsCallAt graph p i m → IsCallAt graph p i n → m ≡ n
same_call graph p i m n one other = same_Some m n (sym one ∙ other)

way_is_one : (graph : List (List ℕ)) (from to : ℕ) (positions way other : List ℕ) → CallsLead graph from positions way to
    → CallsLead graph from positions other to → way ≡ other
way_is_one graph from to [] [] [] one also = refl
way_is_one graph from to [] [] (q ∷ other) one also = absurd also
way_is_one graph from to [] (p ∷ way) other one also = absurd one
way_is_one graph from to (i ∷ positions) [] other one also = absurd one
way_is_one graph from to (i ∷ positions) (p ∷ way) [] one also = absurd also
way_is_one graph from to (i ∷ positions) (p ∷ way) (q ∷ other) one also =
    ap (λ (k : ℕ). k ∷ way) (one.0 ∙ sym also.0)
    ∙ ap (λ (rest : List ℕ). q ∷ rest) (way_is_one graph one.1.0 to positions way other one.1.1.1
    (subst (λ (n : ℕ). CallsLead graph n positions other to) (same_call graph from i also.1.0 one.1.0 also.1.1.0 one.1.1.0) also.1.1.1))

kept_way_is_one : (graph : List (List ℕ)) (from to : ℕ) (way other : List ℕ) → IsKeptWay graph from way to → IsKeptWay graph from other to
    → way ≡ other
kept_way_is_one graph from to way other one also =
    way_is_one graph from to one.positions way other one.leads
    (subst (λ (is : List ℕ). CallsLead graph from is other to) (sym positions) also.leads)
  where
    less : length one.positions ≤ length also.positions
    less = one.shortest also.positions other also.leads

    more : length also.positions ≤ length one.positions
    more = also.shortest one.positions way one.leads

    as_long : length one.positions ≡ length also.positions
    as_long = omega (arith, less, more)

    positions : one.positions ≡ also.positions
    positions =
        no_later_both one.positions also.positions as_long (one.earliest also.positions other also.leads (sym as_long))
        (also.earliest one.positions way one.leads as_long)

pub kept_cycle_is_one : (graph : List (List ℕ)) (p i : ℕ) (cycle other : List ℕ) → IsKeptCycle graph p i cycle → IsKeptCycle graph p i other
    → cycle ≡ other
kept_cycle_is_one graph p i [] other one also = absurd one
kept_cycle_is_one graph p i (m ∷ way) [] one also = absurd also
kept_cycle_is_one graph p i (m ∷ way) (n ∷ other) one also =
    ap (λ (k : ℕ). k ∷ way) (one.0 ∙ sym also.0)
    ∙ ap (λ (rest : List ℕ). n ∷ rest) (kept_way_is_one graph one.1.0 p way other one.1.1.1
    (subst (λ (k : ℕ). IsKeptWay graph k other p) (same_call graph p i also.1.0 one.1.0 also.1.1.0 one.1.1.0) also.1.1.1))
