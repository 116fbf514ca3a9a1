-- Going through the tuples by their numbers, and keeping those that pass.
use Rattle.std.proofs.Common.{◌≡◌, ℕ, zero, suc, ◌+◌, ◌<◌, ◌≤◌, List, [], ◌∷◌, ◌++◌, refl, ap, sym, ◌∙◌, subst, inl, inr, arith}
use Rattle.std.specs.Prelude.{◌⊎◌}
use Rattle.value_lists.proofs.RisingLists.{Among, Rises, among_left, among_right, among_either, rises_joined}

module _ {X : Type 0} (Told : Type 0) (Passes : X → Type 0) (item : ℕ → X) where
  -- The list has those of the first so many items that pass, in their order. That it has all of them is told under a fact.
  abbrev pub Sifted : ℕ → List X → Type 0
  Sifted zero found = found ≡ []
  Sifted (suc n) found =
      (before : List X) × Sifted n before
      × ((Passes (item n) × (found ≡ before ++ item n ∷ [])) ⊎ ((Told → Passes (item n) → ⊥) × (found ≡ before)))

  pub sifted_sound : (n : ℕ) (found : List X) → Sifted n found → (x : X) → Among x found
      → (k : ℕ) × (k < n) × (item k ≡ x) × Passes x
  sifted_sound zero found h x among = absurd (subst (λ (xs : List X). Among x xs) h among)
  sifted_sound (suc n) found h x among = go (λ k. sifted_sound n h.0 h.1 x k) h.2
    where
      earlier : (k : ℕ) × (k < n) × (item k ≡ x) × Passes x → (k : ℕ) × (k < suc n) × (item k ≡ x) × Passes x
      earlier (k, less, is, passes) = (k, omega (arith, less), is, passes)

      last : Passes (item n) → (Among x h.0 → (k : ℕ) × (k < n) × (item k ≡ x) × Passes x)
          → Among x h.0 ⊎ Among x (item n ∷ []) → (k : ℕ) × (k < suc n) × (item k ≡ x) × Passes x
      last passes rest (inl k) = earlier (rest k)
      last passes rest (inr (inl e)) = (n, omega arith, e, subst Passes e passes)
      last passes rest (inr (inr k)) = absurd k

      go : (Among x h.0 → (k : ℕ) × (k < n) × (item k ≡ x) × Passes x)
          → ((Passes (item n) × (found ≡ h.0 ++ item n ∷ [])) ⊎ ((Told → Passes (item n) → ⊥) × (found ≡ h.0)))
          → (k : ℕ) × (k < suc n) × (item k ≡ x) × Passes x
      go rest (inl (passes, is)) =
          last passes rest (among_either h.0 (item n ∷ []) x (subst (λ (xs : List X). Among x xs) is among))
      go rest (inr (fails, is)) = earlier (rest (subst (λ (xs : List X). Among x xs) is among))

  pub sifted_complete : Told → (n : ℕ) (found : List X) → Sifted n found → (k : ℕ) → k < n → Passes (item k) → Among (item k) found
  sifted_complete told zero found h k less passes = absurd (omega (arith, less))
  sifted_complete told (suc n) found h k less passes = go (λ small. sifted_complete told n h.0 h.1 k small passes) (split less) h.2
    where
      split : k < suc n → (k < n) ⊎ (k ≡ n)
      split less = grind (arith, less)

      go : (k < n → Among (item k) h.0) → (k < n) ⊎ (k ≡ n)
          → ((Passes (item n) × (found ≡ h.0 ++ item n ∷ [])) ⊎ ((Told → Passes (item n) → ⊥) × (found ≡ h.0)))
          → Among (item k) found
      go rest (inl small) (inl (last, is)) =
          subst (λ (xs : List X). Among (item k) xs) (sym is) (among_left h.0 (item n ∷ []) (item k) (rest small))
      go rest (inl small) (inr (fails, is)) = subst (λ (xs : List X). Among (item k) xs) (sym is) (rest small)
      go rest (inr same) (inl (last, is)) =
          subst (λ (xs : List X). Among (item k) xs) (sym is)
          (among_right h.0 (item n ∷ []) (item k) (inl (ap item (sym same))))
      go rest (inr same) (inr (fails, is)) = absurd (fails told (subst (λ (m : ℕ). Passes (item m)) same passes))

  pub sifted_rises : (R : X → X → Type 0) (count : ℕ) → ((i j : ℕ) → i < j → j < count → R (item i) (item j)) → (n : ℕ) → n ≤ count
      → (found : List X) → Sifted n found → Rises R found
  sifted_rises R count rise zero within found h = subst (λ (xs : List X). Rises R xs) (sym h) tt
  sifted_rises R count rise (suc n) within found h = go (sifted_rises R count rise n (omega (arith, within)) h.0 h.1) h.2
    where
      last : (x y : X) → Among x h.0 → Among y (item n ∷ []) → R x y
      last x y among (inl e) =
          let early = sifted_sound n h.0 h.1 x among in
          subst (λ (z : X). R z y) early.2
          (subst (λ (z : X). R (item early.0) z) e (rise early.0 n early.1 (omega (arith, within))))
      last x y among (inr k) = absurd k

      go : Rises R h.0 → ((Passes (item n) × (found ≡ h.0 ++ item n ∷ [])) ⊎ ((Told → Passes (item n) → ⊥) × (found ≡ h.0)))
          → Rises R found
      go before (inl (passes, is)) =
          subst (λ (xs : List X). Rises R xs) (sym is)
          (rises_joined R h.0 (item n ∷ []) before ((λ y k. absurd k), tt) last)
      go before (inr (fails, is)) = subst (λ (xs : List X). Rises R xs) (sym is) before
