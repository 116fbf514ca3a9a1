-- In a graph without a cycle no walk has more edges than there are processes.
use Rattle.std.proofs.Common.{◌≡◌, ◌<◌, ◌≤◌, ◌⊎◌, inl, inr, ℕ, suc, List, [], ◌∷◌, length, Bool, ◌||◌, true, false, refl, ap, sym, subst, eqb-true}
use Rattle.std.specs.List.{AllByRecursion, IsDistinct, list_any}
use Rattle.std.proofs.Math.Dec.{eqb}
use Rattle.std.proofs.lemmas.Map.Steps.{length-le_from_distinct_below}
use Rattle.std.proofs.lemmas.Option.{slice_get_within}
use Rattle.behaviour_semantics.specs.Behaviour.{Process}
use Rattle.behaviour_semantics.specs.Guardedness.{IsWalk, end_of, IsGuarded}
use Rattle.behaviour_semantics.specs.Listing.{IsAmong}

-- The processes from which the edges of a walk lead.
abbrev sources : ℕ → List ℕ → List ℕ
sources from [] = []
sources from (to ∷ rest) = from ∷ sources to rest

length-sources : (from : ℕ) (walk : List ℕ) → length (sources from walk) ≡ length walk
length-sources from [] = refl
length-sources from (to ∷ rest) = ap suc (length-sources to rest)

-- A number that is equal to one of the list.
among_any : (q : ℕ) (xs : List ℕ) → list_any (eqb q) xs ≡ true → IsAmong q xs
among_any q [] e = absurd (cc e)
among_any q (x ∷ xs) e = by_test (eqb q x) refl (among_any q xs) e
  where
    by_test : (b : Bool) → eqb q x ≡ b → (list_any (eqb q) xs ≡ true → IsAmong q xs) → (b || list_any (eqb q) xs) ≡ true
        → (x ≡ q) ⊎ IsAmong q xs
    by_test true same rest h = inl (sym (eqb-true q x same))
    by_test false differ rest h = inr (rest h)

none_equal : (q : ℕ) (xs : List ℕ) → (IsAmong q xs → ⊥) → AllByRecursion (λ y. eqb q y ≡ false) xs
none_equal q [] h = tt
none_equal q (x ∷ xs) h = (by_test (eqb q x) refl, none_equal q xs (λ a. h (inr a)))
  where
    by_test : (b : Bool) → eqb q x ≡ b → eqb q x ≡ false
    by_test true same = absurd (h (inl (sym (eqb-true q x same))))
    by_test false differ = differ

module _ (processes : List Process) (guarded : IsGuarded processes) where
  -- A source of a walk is the end of a walk that the walk begins with.
  reached : (from : ℕ) (walk : List ℕ) (q : ℕ) → IsWalk processes from walk → IsAmong q (sources from walk) → (first : List ℕ)
      × IsWalk processes from first × (end_of from first ≡ q)
  reached from [] q w a = absurd a
  reached from (to ∷ rest) q w (inl same) = ([], tt, same)
  reached from (to ∷ rest) q w (inr a) =
      let p : _ = reached to rest q w.1 a in
      (to ∷ p.0, (w.0, p.1), p.2)

  -- no source comes back
  not_again : (from to : ℕ) (rest : List ℕ) → IsWalk processes from (to ∷ rest) → IsAmong from (sources to rest) → ⊥
  not_again from to rest w a =
      let p : _ = reached to rest from w.1 a in
      guarded from (to ∷ p.0) ((w.0, p.1), p.2)

  distinct_sources : (from : ℕ) (walk : List ℕ) → IsWalk processes from walk → IsDistinct eqb (sources from walk)
  unfolding IsDistinct
  distinct_sources from [] w = tt
  distinct_sources from (to ∷ rest) w = (none_equal from (sources to rest) (not_again from to rest w), distinct_sources to rest w.1)

  source_below : (from : ℕ) (walk : List ℕ) (q : ℕ) → IsWalk processes from walk → IsAmong q (sources from walk) → q < length processes
  source_below from [] q w a = absurd a
  source_below from (to ∷ rest) q w (inl same) =
      let lt : from < length processes = slice_get_within processes from w.0.0 w.0.1 in
      subst (λ (n : ℕ). n < length processes) same lt
  source_below from (to ∷ rest) q w (inr a) = source_below to rest q w.1 a

  pub walks_end : (from : ℕ) (walk : List ℕ) → IsWalk processes from walk → length walk ≤ length processes
  walks_end from walk w =
      subst (λ (n : ℕ). n ≤ length processes) (length-sources from walk)
      (length-le_from_distinct_below (sources from walk) (length processes) (distinct_sources from walk w)
      (λ q h. source_below from walk q w (among_any q (sources from walk) h)))
