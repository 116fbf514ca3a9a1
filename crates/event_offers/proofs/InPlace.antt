-- Lists whose members are changed one by one from the front, where they stand.
use Rattle.std.proofs.Common.{◌≡◌, ◌<◌, ◌≤◌, ℕ, zero, suc, ◌+◌, List, [], ◌∷◌, map, length, set, get_or, refl, ap, sym, subst, arith}
use Rattle.behaviour_semantics.specs.WellFormed.{Every}

-- Each of the first members, so many, is related to the one that stands now at its place, and the others stand as they
-- were.
abbrev pub AreChangedUpTo : {X : Type 0} → (X → X → Type 0) → ℕ → List X → List X → Type 0
AreChangedUpTo R zero old now = now ≡ old
AreChangedUpTo R (suc i) [] now = now ≡ []
AreChangedUpTo R (suc i) (x ∷ old) [] = ⊥
AreChangedUpTo R (suc i) (x ∷ old) (y ∷ now) = R x y × AreChangedUpTo R i old now

module _ {X : Type 0} (R : X → X → Type 0) where
  pub changed_length : (i : ℕ) (old now : List X) → AreChangedUpTo R i old now → length now ≡ length old
  changed_length zero old now h = ap length h
  changed_length (suc i) [] now h = ap length h
  changed_length (suc i) (x ∷ old) [] h = absurd h
  changed_length (suc i) (x ∷ old) (y ∷ now) h = ap suc (changed_length i old now h.1)

  -- the next member has what all had
  pub had_next : {A : Type 0} (view : X → A) (P : A → Type 0) (i : ℕ) (old now : List X) (x : X) → i < length now → x ≡ get_or now i x
      → AreChangedUpTo R i old now → Every P (map view old) → P (view x)
  had_next view P zero old [] x within is h k = absurd (omega arith)
  had_next view P zero [] (y ∷ now) x within is h k = absurd (omega (arith, ap length h))
  had_next view P zero (z ∷ old) (y ∷ now) x within is h k =
      let all : Every P (map view (y ∷ now)) = subst (λ (zs : List X). Every P (map view zs)) (sym h) k in
      subst (λ (w : X). P (view w)) (sym is) all.0
  had_next view P (suc i) [] now x within is h k = absurd (omega (arith, ap length h))
  had_next view P (suc i) (z ∷ old) [] x within is h k = absurd h
  had_next view P (suc i) (z ∷ old) (y ∷ now) x within is h k = had_next view P i old now x (omega arith) is h.1 k.1

  changed_next : (i : ℕ) (old now : List X) (x y : X) → i < length now → x ≡ get_or now i x → R x y
      → AreChangedUpTo R i old now → AreChangedUpTo R (suc i) old (set now i y)
  changed_next zero old [] x y within is one h = absurd (omega arith)
  changed_next zero old (z ∷ now) x y within is one h =
      subst (λ (zs : List X). AreChangedUpTo R 1 zs (y ∷ now)) h (subst (λ (w : X). R w y) is one, refl)
  changed_next (suc i) [] now x y within is one h = absurd (omega (arith, ap length h))
  changed_next (suc i) (z ∷ old) [] x y within is one h = absurd h
  changed_next (suc i) (z ∷ old) (w ∷ now) x y within is one h = (h.0, changed_next i old now x y (omega arith) is one h.1)

  -- the next member is changed
  pub changed_more : (i : ℕ) (old now next : List X) (x y : X) → i < length now → x ≡ get_or now i x → next ≡ set now i y → R x y
      → AreChangedUpTo R i old now → AreChangedUpTo R (i + 1) old next
  changed_more i old now next x y within is made one h =
      let count : suc i ≡ i + 1 = omega arith in
      subst (λ (zs : List X). AreChangedUpTo R (i + 1) old zs) (sym made)
      (subst (λ (j : ℕ). AreChangedUpTo R j old (set now i y)) count (changed_next i old now x y within is one h))

  -- all members are changed
  pub changed_views : {A : Type 0} (view : X → A) (f : A → A) → ((x y : X) → R x y → view y ≡ f (view x)) → (i : ℕ) (old now : List X)
      → length now ≤ i → AreChangedUpTo R i old now → map view now ≡ map f (map view old)
  changed_views view f e zero [] now past h = ap (map view) h
  changed_views view f e zero (x ∷ old) now past h = absurd (omega (arith, past, ap length h))
  changed_views view f e (suc i) [] now past h = ap (map view) h
  changed_views view f e (suc i) (x ∷ old) [] past h = absurd h
  changed_views view f e (suc i) (x ∷ old) (y ∷ now) past h =
      λ j. e x y h.0 j ∷ changed_views view f e i old now (omega (arith, past)) h.1 j

  pub changed_have : {A : Type 0} (view : X → A) (P : A → Type 0) → ((x y : X) → R x y → P (view y)) → (i : ℕ) (old now : List X)
      → length now ≤ i → AreChangedUpTo R i old now → Every P (map view now)
  changed_have view P e i old [] past h = tt
  changed_have view P e zero old (y ∷ now) past h = absurd (omega (arith, past))
  changed_have view P e (suc i) [] (y ∷ now) past h = absurd (omega (arith, ap length h))
  changed_have view P e (suc i) (x ∷ old) (y ∷ now) past h = (e x y h.0, changed_have view P e i old now (omega (arith, past)) h.1)
