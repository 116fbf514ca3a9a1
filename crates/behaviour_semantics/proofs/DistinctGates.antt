-- Relabellings stay well formed: composed ones, and those of calls.
use Rattle.std.proofs.Common.{◌≡◌, ◌<◌, ◌⊎◌, inl, inr, ℕ, zero, suc, List, [], ◌∷◌, ◌++◌, map, zip, filter, length, nat_eq, slice_get, Bool, true, false, not, if◌then◌else◌, cond, Some, refl, ap, sym, subst, arith}
use Rattle.std.proofs.lemmas.Bool.Decides.{nat_tests}
use Rattle.lotos_base.proofs.Truth.{not_both}
use Rattle.lotos_base.specs.Substitution.{is_listed}
use Rattle.behaviour_semantics.specs.Behaviour.{Relabelling}
use Rattle.behaviour_semantics.specs.Label.{gate_under, formals_of, then_relabelling}
use Rattle.behaviour_semantics.specs.Listing.{IsAmong}
use Rattle.behaviour_semantics.specs.WellFormed.{Every, AreDistinct, AreGates, IsRelabelling}
use Rattle.behaviour_semantics.proofs.OptionLemmas.{some_value}
use Rattle.behaviour_semantics.proofs.ListLemmas.{Every-append}

-- No number stands in the list again.
abbrev Apart : List ℕ → Type 0
Apart [] = Unit {0}
Apart (n ∷ numbers) = (IsAmong n numbers → ⊥) × Apart numbers

among_at : (numbers : List ℕ) (n : ℕ) → IsAmong n numbers → (k : ℕ) × (slice_get numbers k ≡ Some n)
among_at [] n a = absurd a
among_at (m ∷ numbers) n (inl same) = (0, ap (λ (k : ℕ). Some k) same)
among_at (m ∷ numbers) n (inr a) = let p : _ = among_at numbers n a in (suc p.0, p.1)

at_among : (numbers : List ℕ) (k n : ℕ) → slice_get numbers k ≡ Some n → IsAmong n numbers
at_among [] k n at = absurd (cc at)
at_among (m ∷ numbers) zero n at = inl (some_value at)
at_among (m ∷ numbers) (suc k) n at = inr (at_among numbers k n at)

apart_of : (numbers : List ℕ) → AreDistinct numbers → Apart numbers
apart_of [] d = tt
apart_of (n ∷ numbers) d = (
  λ a. let p : _ = among_at numbers n a in let same : zero ≡ suc p.0 = d zero (suc p.0) n refl p.1 in omega arith,
  apart_of numbers (λ i j m at at'. let same : suc i ≡ suc j = d (suc i) (suc j) m at at' in omega arith),
)

distinct_of : (numbers : List ℕ) → Apart numbers → AreDistinct numbers
distinct_of [] a i j n at at' = absurd (cc at)
distinct_of (m ∷ numbers) a zero zero n at at' = refl
distinct_of (m ∷ numbers) a zero (suc j) n at at' = absurd
    (a.0 (subst (λ (k : ℕ). IsAmong k numbers) (sym (some_value at)) (at_among numbers j n at')))
distinct_of (m ∷ numbers) a (suc i) zero n at at' = absurd
    (a.0 (subst (λ (k : ℕ). IsAmong k numbers) (sym (some_value at')) (at_among numbers i n at)))
distinct_of (m ∷ numbers) a (suc i) (suc j) n at at' = ap suc (distinct_of numbers a.1 i j n at at')

among_cases : (xs ys : List ℕ) (n : ℕ) → IsAmong n (xs ++ ys) → IsAmong n xs ⊎ IsAmong n ys
among_cases [] ys n a = inr a
among_cases (x ∷ xs) ys n (inl same) = inl (inl same)
among_cases (x ∷ xs) ys n (inr a) = more (among_cases xs ys n a)
  where
    more : IsAmong n xs ⊎ IsAmong n ys → ((x ≡ n) ⊎ IsAmong n xs) ⊎ IsAmong n ys
    more (inl b) = inl (inr b)
    more (inr b) = inr b

Apart-append : (xs ys : List ℕ) → Apart xs → Apart ys → ((n : ℕ) → IsAmong n xs → IsAmong n ys → ⊥) → Apart (xs ++ ys)
Apart-append [] ys a b h = b
Apart-append (x ∷ xs) ys a b h = (λ c. here (among_cases xs ys x c), Apart-append xs ys a.1 b (λ n c d. h n (inr c) d))
  where
    here : IsAmong x xs ⊎ IsAmong x ys → ⊥
    here (inl c) = a.0 c
    here (inr c) = h x (inl refl) c

-- the formal gates of what is kept of a relabelling
module _ (keep : ℕ × ℕ → Bool) where
  among_kept : (pairs : Relabelling) (n : ℕ) → IsAmong n (formals_of (filter keep pairs)) → (pair : ℕ × ℕ) × IsAmong n (formals_of pairs)
      × (keep pair ≡ true) × (pair.0 ≡ n)
  among_kept [] n a = absurd a
  among_kept (pair ∷ pairs) n a = by (keep pair) refl (among_kept pairs n) a
    where
      by : (b : Bool) → keep pair ≡ b → (IsAmong n (formals_of (filter keep pairs)) → (p : ℕ × ℕ) × IsAmong n (formals_of pairs)
          × (keep p ≡ true) × (p.0 ≡ n)) → IsAmong n (formals_of (cond b (pair ∷ filter keep pairs) (filter keep pairs))) → (p : ℕ × ℕ)
          × IsAmong n (formals_of (pair ∷ pairs)) × (keep p ≡ true) × (p.0 ≡ n)
      by true e rest (inl same) = (pair, inl same, e, same)
      by true e rest (inr a) = let p : _ = rest a in (p.0, inr p.1, p.2, p.3)
      by false e rest a = let p : _ = rest a in (p.0, inr p.1, p.2, p.3)

  Apart-kept : (pairs : Relabelling) → Apart (formals_of pairs) → Apart (formals_of (filter keep pairs))
  Apart-kept [] a = tt
  Apart-kept (pair ∷ pairs) a = by (keep pair) (Apart-kept pairs a.1)
    where
      by : (b : Bool) → Apart (formals_of (filter keep pairs)) → Apart (formals_of (cond b (pair ∷ filter keep pairs) (filter keep pairs)))
      by true rest = (λ c. a.0 (among_kept pairs pair.0 c).1, rest)
      by false rest = rest

  Every-kept : (P : ℕ × ℕ → Type 0) (pairs : Relabelling) → Every P pairs → Every P (filter keep pairs)
  Every-kept P [] h = tt
  Every-kept P (pair ∷ pairs) h = by (keep pair) (Every-kept P pairs h.1)
    where
      by : (b : Bool) → Every P (filter keep pairs) → Every P (cond b (pair ∷ filter keep pairs) (filter keep pairs))
      by true rest = (h.0, rest)
      by false rest = rest

formals-append : (first second : Relabelling) → formals_of (first ++ second) ≡ formals_of first ++ formals_of second
formals-append [] second = refl
formals-append (pair ∷ first) second = ap (λ (gates : List ℕ). pair.0 ∷ gates) (formals-append first second)

formals-map : (second first : Relabelling) → formals_of (map (λ (pair : ℕ × ℕ). (pair.0, gate_under second pair.1)) first)
    ≡ formals_of first
formals-map second [] = refl
formals-map second (pair ∷ first) = ap (λ (gates : List ℕ). pair.0 ∷ gates) (formals-map second first)

among_listed : (numbers : List ℕ) (n : ℕ) → IsAmong n numbers → is_listed numbers n ≡ true
among_listed [] n a = absurd a
among_listed (m ∷ numbers) n (inl same) = here (nat_eq m n) (let e : nat_eq m n ≡ true = grind (arith, nat_tests) in e)
  where
    here : (b : Bool) → b ≡ true → (if b then true else is_listed numbers n) ≡ true
    here true e = refl
    here false e = absurd (cc e)
among_listed (m ∷ numbers) n (inr a) = there (nat_eq m n) (among_listed numbers n a)
  where
    there : (b : Bool) → is_listed numbers n ≡ true → (if b then true else is_listed numbers n) ≡ true
    there true e = refl
    there false e = e

module _ (names : ℕ) where
  abbrev Named : ℕ × ℕ → Type 0
  Named pair = (pair.0 < names) × (pair.1 < names)

  pub gate_named : (pairs : Relabelling) (g : ℕ) → Every Named pairs → g < names → gate_under pairs g < names
  gate_named [] g h lt = lt
  gate_named (pair ∷ pairs) g h lt = by (nat_eq pair.0 g) (gate_named pairs g h.1 lt)
    where
      by : (b : Bool) → gate_under pairs g < names → (if b then pair.1 else gate_under pairs g) < names
      by true rest = h.0.1
      by false rest = rest

  pub gates_named : (pairs : Relabelling) (gates : List ℕ) → Every Named pairs → AreGates names gates
      → AreGates names (map (gate_under pairs) gates)
  gates_named pairs [] h gates = tt
  gates_named pairs (g ∷ gates) h k = (gate_named pairs g h k.0, gates_named pairs gates h k.1)

  first_named : (second first : Relabelling) → Every Named second → Every Named first
      → Every Named (map (λ (pair : ℕ × ℕ). (pair.0, gate_under second pair.1)) first)
  first_named second [] h k = tt
  first_named second (pair ∷ first) h k = ((k.0.0, gate_named second pair.1 h k.0.1), first_named second first h k.1)

  -- The composition of two relabellings is one.
  pub composed : (first second : Relabelling) → IsRelabelling names first → IsRelabelling names second
      → IsRelabelling names (then_relabelling first second)
  composed first second h k =
      let kept : ℕ × ℕ → Bool = λ (pair : ℕ × ℕ). not (is_listed (formals_of first) pair.0) in
      let renamed : Relabelling = map (λ (pair : ℕ × ℕ). (pair.0, gate_under second pair.1)) first in (
        distinct_of (formals_of (renamed ++ filter kept second))
            (subst Apart (sym (formals-append renamed (filter kept second)))
            (Apart-append (formals_of renamed) (formals_of (filter kept second))
            (subst Apart (sym (formals-map second first)) (apart_of (formals_of first) h.0))
            (Apart-kept kept second (apart_of (formals_of second) k.0))
            (λ n a b.
            let p : (pair : ℕ × ℕ) × IsAmong n (formals_of second) × (kept pair ≡ true) × (pair.0 ≡ n) = among_kept kept second n b in
            let inside : IsAmong n (formals_of first) = subst (IsAmong n) (formals-map second first) a in
            not_both (is_listed (formals_of first) p.0.0) p.2 (among_listed (formals_of first) p.0.0
            (subst (λ (m : ℕ). IsAmong m (formals_of first)) (sym p.3) inside))))),
        Every-append Named renamed (filter kept second) (first_named second first k.1 h.1) (Every-kept kept Named second k.1),
      )

  formals-zip : (formals actuals : List ℕ) → length actuals ≡ length formals → formals_of (zip formals actuals) ≡ formals
  formals-zip [] actuals e = refl
  formals-zip (f ∷ formals) [] e = absurd (omega arith)
  formals-zip (f ∷ formals) (a ∷ actuals) e = ap (λ (gates : List ℕ). f ∷ gates) (formals-zip formals actuals (omega arith))

  zip_named : (formals actuals : List ℕ) → AreGates names formals → AreGates names actuals → Every Named (zip formals actuals)
  zip_named [] actuals h k = tt
  zip_named (f ∷ formals) [] h k = tt
  zip_named (f ∷ formals) (a ∷ actuals) h k = ((h.0, k.0), zip_named formals actuals h.1 k.1)

  -- A call's formal gates with its actual ones are a relabelling.
  pub of_call : (formals actuals : List ℕ) → AreDistinct formals → AreGates names formals → AreGates names actuals
      → length actuals ≡ length formals → IsRelabelling names (zip formals actuals)
  of_call formals actuals distinct h k e = (subst AreDistinct (sym (formals-zip formals actuals e)) distinct, zip_named formals actuals h k)

  -- So is a gate with another one.
  pub of_gate : (g a : ℕ) → g < names → a < names → IsRelabelling names ((g, a) ∷ [])
  of_gate g a lt lt' = (distinct_of (g ∷ []) ((λ c. c), tt), ((lt, lt'), tt))
