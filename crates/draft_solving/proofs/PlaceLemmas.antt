-- Places noted at the numbers of variables, and what is noted still when more are.
use Rattle.std.proofs.Common.{◌≡◌, ◌<◌, ◌≤◌, ◌+◌, ◌⊎◌, inl, inr, ℕ, zero, suc, List, [], ◌∷◌, ◌++◌, set, length, get_or, Some, refl, ap, sym, ◌∙◌, subst, arith, Vec, Global, slice_get}
use Rattle.std.specs.Option.{option_map_or}
use Rattle.std.proofs.lemmas.Bool.{cases_order}
use Rattle.std.proofs.lemmas.Option.{slice_get_within}
use Rattle.lotos_base.specs.Sorting.{AreGround, IsGround, Occurs, OccursAmong}
use Rattle.lotos_base.specs.Term.{Term as PlainTerm, variable, node, Terms, no_terms, term_then}
use Rattle.sort_terms.specs.declared.sorted.Sorted.{Sorted}
use Rattle.event_offers.specs.OfferView.{condition_of, conditions_of}
use Rattle.behaviour_semantics.specs.Behaviour.{Test}
use Rattle.draft_solving.specs.Standing.{AreAllNoted, HoldsPlace, IsTestNoted, KeepsPlaces, noted_at, room}
use Rattle.draft_solving.specs.declared.places.Places.{Places}

-- ---- A table with one place more.
-- what lists of numbers have at a number, nothing past their end
abbrev at_in : List (Vec ℕ Global) → ℕ → List ℕ
at_in lists n = option_map_or (λ (list : Vec ℕ Global). list.items) (slice_get lists n) []

holds_still : (list : List ℕ) (last place : ℕ) → HoldsPlace list place → HoldsPlace (list ++ last ∷ []) place
holds_still list last place h = (h.0, go list h.0 h.1)
  where
    go : (xs : List ℕ) (i : ℕ) → slice_get xs i ≡ Some place → slice_get (xs ++ last ∷ []) i ≡ Some place
    go [] i e = cc
    go (x ∷ xs) zero e = e
    go (x ∷ xs) (suc i) e = go xs i e

holds_last : (list : List ℕ) (place : ℕ) → HoldsPlace (list ++ place ∷ []) place
holds_last list place = (length list, go list)
  where
    go : (xs : List ℕ) → slice_get (xs ++ place ∷ []) (length xs) ≡ Some place
    go [] = refl
    go (x ∷ xs) = go xs

pub place_kept : (lists : List (Vec ℕ Global)) (i : ℕ) (old now : Vec ℕ Global) (place : ℕ) → old ≡ get_or lists i old
    → now.items ≡ old.items ++ place ∷ [] → (n p : ℕ) → HoldsPlace (at_in lists n) p → HoldsPlace (at_in (set lists i now) n) p
place_kept [] i old now place is made n p h = h
place_kept (list ∷ lists) zero old now place is made zero p h =
    subst (λ (xs : List ℕ). HoldsPlace xs p) (sym made)
    (holds_still old.items place p (subst (λ (v : Vec ℕ Global). HoldsPlace v.items p) (sym is) h))
place_kept (list ∷ lists) zero old now place is made (suc n) p h = h
place_kept (list ∷ lists) (suc i) old now place is made zero p h = h
place_kept (list ∷ lists) (suc i) old now place is made (suc n) p h = place_kept lists i old now place is made n p h

pub place_held : (lists : List (Vec ℕ Global)) (i : ℕ) (old now : Vec ℕ Global) (place : ℕ) → i < length lists
    → now.items ≡ old.items ++ place ∷ [] → HoldsPlace (at_in (set lists i now) i) place
place_held [] i old now place within made = absurd (omega arith)
place_held (list ∷ lists) zero old now place within made =
    subst (λ (xs : List ℕ). HoldsPlace xs place) (sym made) (holds_last old.items place)
place_held (list ∷ lists) (suc i) old now place within made = place_held lists i old now place (omega arith) made

-- ---- Places kept, one step after another.
pub keeps_then : (old mid now : Places) → KeepsPlaces old mid → KeepsPlaces mid now → KeepsPlaces old now
keeps_then old mid now first second = record {
  size = second.size ∙ first.size;
  kept = λ n place h. second.kept n place (first.kept n place h);
}

-- ---- Terms.
mutual
  pub ground_lacks : (n s : ℕ) (t : PlainTerm) → IsGround t → Occurs n s t → ⊥
  ground_lacks n s (variable m r) ground o = ground
  ground_lacks n s (node f ts) ground o = all_ground_lack n s ts ground o

  all_ground_lack : (n s : ℕ) (ts : Terms) → AreGround ts → OccursAmong n s ts → ⊥
  all_ground_lack n s no_terms ground o = o
  all_ground_lack n s (term_then t ts) ground (inl o) = ground_lacks n s t ground.0 o
  all_ground_lack n s (term_then t ts) ground (inr o) = all_ground_lack n s ts ground.1 o

-- Each variable of all terms is noted, or is one of those that are left.
abbrev pub AreNotedBefore : Places → ℕ → Terms → Terms → Type 0
AreNotedBefore places place all rest =
    (n s : ℕ) → OccursAmong n s all → n < room places → OccursAmong n s rest ⊎ HoldsPlace (noted_at places n) place

-- ---- Conditions.
pub test_noted_still : (old now : Places) (place : ℕ) (test : Test) → KeepsPlaces old now → IsTestNoted old place test
    → IsTestNoted now place test
test_noted_still old now place test keeps noted n s o lt = keeps.kept n place (noted n s o (omega (arith, keeps.size)))

-- The places of the first conditions are noted, so many.
abbrev pub AreNotedUpTo : ℕ → Places → List Test → Type 0
AreNotedUpTo count places tests =
    (k : ℕ) (test : Test) → k < count → slice_get tests k ≡ Some test → IsTestNoted places k test

pub noted_up_to_next : (old now : Places) (tests : List Test) (i : ℕ) (test : Test) → slice_get tests i ≡ Some test
    → KeepsPlaces old now → IsTestNoted now i test → AreNotedUpTo i old tests → AreNotedUpTo (i + 1) now tests
noted_up_to_next old now tests i test stands keeps noted h k other below at = by (cases_order k i)
  where
    by : (k ≡ i) ⊎ ((k < i) ⊎ (i < k)) → IsTestNoted now k other
    by (inl e) =
        let one : slice_get tests k ≡ Some test = ap (λ (j : ℕ). slice_get tests j) e ∙ stands in
        let same : test ≡ other = cc in
        subst (λ (u : Test). IsTestNoted now k u) same (subst (λ (j : ℕ). IsTestNoted now j test) (sym e) noted)
    by (inr (inl less)) = test_noted_still old now k other keeps (h k other less at)
    by (inr (inr more)) = absurd (omega arith)

pub noted_up_to_all : (places : Places) (tests : List Test) (i : ℕ) → length tests ≤ i → AreNotedUpTo i places tests
    → AreAllNoted places tests
noted_up_to_all places tests i past h k test at =
    let within : k < length tests = slice_get_within tests k test at in h k test (omega arith) at

-- the condition that the code reads at a place
pub condition_at : (pairs : List (Sorted × Sorted)) (i : ℕ) (pair : Sorted × Sorted) → i < length pairs → pair ≡ get_or pairs i pair
    → slice_get (conditions_of pairs) i ≡ Some (condition_of pair)
condition_at [] i pair within is = absurd (omega arith)
condition_at (x ∷ pairs) zero pair within is = ap (λ (y : Sorted × Sorted). Some (condition_of y)) (sym is)
condition_at (x ∷ pairs) (suc i) pair within is = condition_at pairs i pair (omega arith) is
