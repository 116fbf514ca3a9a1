-- What is wanted, what the pairs have for it, and what they keep.
use Rattle.std.proofs.Common.{◌≡◌, ℕ, zero, suc, ◌+◌, ◌<◌, List, [], ◌∷◌, ◌++◌, length, get_or, drop, take, map, Bool, true, false, nat_eq, refl, ap, sym, ◌∙◌, inl, inr, arith, append_assoc}
use Rattle.std.specs.Prelude.{◌⊎◌, Option, Some, None, slice_get, if◌then◌else◌, IsTrue}
use Rattle.std.proofs.lemmas.List.{map-append}
use Rattle.std.proofs.lemmas.Option.{same_Some}
use Rattle.std.proofs.lemmas.Bool.Decides.{Decides-eqb}
use Rattle.sort_terms.specs.ProfiledTerm.{ProfiledTerm, profiled_variable}
use Rattle.sort_terms.specs.TermView.{profiled_of}
use Rattle.sort_terms.specs.declared.terms.Term.{Term}
use Rattle.term_match.specs.ProfiledInstance.{profiled_binding}
use Rattle.term_match.specs.Search.{looked_up}
use Rattle.term_rewriter.specs.Taken.{owned_pair, owned_pairs}
use Rattle.term_rewriter.specs.Wanted.{values_by, is_wanted_in, IsPlaceOf, IsGiven}
use Rattle.term_rewriter.proofs.ValueLemmas.{bound_value, unbound_value}

abbrev Pairs : Type 0
Pairs = List (ℕ × ProfiledTerm)

-- ---- the place of a pair

place_found : (values : List (ℕ × Term)) (i n : ℕ) (pair : ℕ × Term) → i < length values → pair ≡ get_or values i pair → pair.0 ≡ n
    → slice_get (owned_pairs values) i ≡ Some (n, profiled_of pair.1)
place_found [] i n pair within is same = absurd (omega arith)
place_found (v ∷ values) zero n pair within is same = (λ k. Some (owned_pair (sym is k))) ∙ (λ k. Some (same k, profiled_of pair.1))
place_found (v ∷ values) (suc i) n pair within is same = place_found values i n pair (omega arith) is same

looked_up_first : (values : List (ℕ × Term)) (i n : ℕ) (pair : ℕ × Term) → i < length values → pair ≡ get_or values i pair → pair.0 ≡ n
    → looked_up n (owned_pairs (drop i values)) ≡ Some (profiled_of pair.1)
looked_up_first [] i n pair within is same = absurd (omega arith)
looked_up_first (v ∷ values) zero n pair within is same =
    let yes : nat_eq v.0 n ≡ true = (Decides-eqb v.0 n).1 (ap (λ (p : ℕ × Term). p.0) (sym is) ∙ same) in
    ap (λ (b : Bool). if b then Some (profiled_of v.1) else looked_up n (owned_pairs values)) yes
    ∙ ap (λ (p : ℕ × Term). Some (profiled_of p.1)) (sym is)
looked_up_first (v ∷ values) (suc i) n pair within is same = looked_up_first values i n pair (omega arith) is same

pub is_place : (values : List (ℕ × Term)) (i n : ℕ) (pair : ℕ × Term) → i < length values → pair ≡ get_or values i pair → pair.0 ≡ n
    → looked_up n (owned_pairs values) ≡ looked_up n (owned_pairs (drop i values)) → IsPlaceOf n (owned_pairs values) i
is_place values i n pair within is same none_before = record {
  value = profiled_of pair.1;
  is_value = none_before ∙ looked_up_first values i n pair within is same;
  is_at = place_found values i n pair within is same;
}

pub place_within : (values : List (ℕ × Term)) (i n : ℕ) → IsPlaceOf n (owned_pairs values) i → i < length values
place_within values i n at = within values i (n, at.value) at.is_at
  where
    within : (vs : List (ℕ × Term)) (j : ℕ) (p : ℕ × ProfiledTerm) → slice_get (owned_pairs vs) j ≡ Some p → j < length vs
    within [] j p e = cc
    within (v ∷ vs) zero p e = omega arith
    within (v ∷ vs) (suc j) p e = let less = within vs j p e in omega (arith, less)

-- the pair at the place has the value
pub value_at : (values : List (ℕ × Term)) (i n : ℕ) (pair : ℕ × Term) (at : IsPlaceOf n (owned_pairs values) i)
    → pair ≡ get_or values i pair
    → profiled_of pair.1 ≡ at.value
value_at values i n pair at is = go values i (place_within values i n at) is at.is_at
  where
    go : (vs : List (ℕ × Term)) (j : ℕ) → j < length vs → pair ≡ get_or vs j pair → slice_get (owned_pairs vs) j ≡ Some (n, at.value)
        → profiled_of pair.1 ≡ at.value
    go [] j within same e = absurd (omega arith)
    go (v ∷ vs) zero within same e =
        ap (λ (p : ℕ × Term). profiled_of p.1) same ∙ ap (λ (p : ℕ × ProfiledTerm). p.1) (same_Some _ _ e)
    go (v ∷ vs) (suc j) within same e = go vs j (omega arith) same e

-- ---- one value

pub given_none : (n s : ℕ) (again : Bool) (pairs : Pairs) (made : ProfiledTerm) → looked_up n pairs ≡ None → made ≡ profiled_variable n s
    → IsGiven n s again pairs pairs made
given_none n s again pairs made none is = record { value = is ∙ unbound_value pairs n s (sym none); kept = λ m h. refl }

pub given_copy : (n s : ℕ) (again : Bool) (values : List (ℕ × Term)) (i : ℕ) (pair : ℕ × Term) (made : ProfiledTerm)
    (at : IsPlaceOf n (owned_pairs values) i) → pair ≡ get_or values i pair → made ≡ profiled_of pair.1
    → IsGiven n s again (owned_pairs values) (owned_pairs values) made
given_copy n s again values i pair made at is copied = record {
  value = copied ∙ value_at values i n pair at is ∙ bound_value (owned_pairs values) n s at.value (sym at.is_value);
  kept = λ m h. refl;
}

-- what is found for another number is still found where a pair is gone
others_kept : (values : List (ℕ × Term)) (i n m : ℕ) (u : ProfiledTerm) → slice_get (owned_pairs values) i ≡ Some (n, u) → ¬ (m ≡ n)
    → looked_up m (owned_pairs (take i values ++ drop (i + 1) values)) ≡ looked_up m (owned_pairs values)
others_kept [] i n m u e other = cc
others_kept (v ∷ values) zero n m u e other = go (nat_eq v.0 m) refl
  where
    go : (b : Bool) → nat_eq v.0 m ≡ b → looked_up m (owned_pairs values) ≡ (if b then Some (profiled_of v.1) else looked_up m
        (owned_pairs values))
    go true test =
        absurd (other (sym ((Decides-eqb v.0 m).0 test) ∙ ap (λ (p : ℕ × ProfiledTerm). p.0) (same_Some _ _ e)))
    go false test = refl
others_kept (v ∷ values) (suc i) n m u e other =
    let next : suc i + 1 ≡ suc (i + 1) = omega arith in
    ap (λ (k : ℕ). looked_up m (owned_pairs (take (suc i) (v ∷ values) ++ drop k (v ∷ values)))) next
    ∙ ap (λ (o : Option ProfiledTerm). if nat_eq v.0 m then Some (profiled_of v.1) else o) (others_kept values i n m u e other)

pub given_moved : (n s : ℕ) (again : Bool) (values new : List (ℕ × Term)) (i : ℕ) (pair : ℕ × Term) (made : ProfiledTerm)
    (at : IsPlaceOf n (owned_pairs values) i) → again ≡ false → pair ≡ get_or values i pair → made ≡ profiled_of pair.1
    → new ≡ take i values ++ drop (i + 1) values → IsGiven n s again (owned_pairs values) (owned_pairs new) made
given_moved n s again values new i pair made at last is moved gone = record {
  value = moved ∙ value_at values i n pair at is ∙ bound_value (owned_pairs values) n s at.value (sym at.is_value);
  kept = λ m h. go m h;
}
  where
    go : (m : ℕ) → IsTrue again ⊎ ¬ (m ≡ n) → looked_up m (owned_pairs new) ≡ looked_up m (owned_pairs values)
    go m (inl wanted) = let clash : false ≡ true = sym last ∙ wanted in cc
    go m (inr other) =
        ap (λ (vs : List (ℕ × Term)). looked_up m (owned_pairs vs)) gone ∙ others_kept values i n m at.value at.is_at other

-- ---- the values one after the other

-- What was made and what is wanted still are what is wanted, and the pairs have for what is wanted still what they had.
pub record AreSupplied (wanted : List (ℕ × ℕ)) (before : List (ℕ × ProfiledTerm)) (later : List (ℕ × ℕ))
    (made : List ProfiledTerm) (now : List (ℕ × ProfiledTerm)) : Type 0 where
  pub values : values_by (profiled_binding before) wanted ≡ made ++ values_by (profiled_binding before) later
  pub kept : (m : ℕ) → is_wanted_in later m ≡ true → looked_up m now ≡ looked_up m before

same_binding : (now before : Pairs) (n s : ℕ) → looked_up n now ≡ looked_up n before
    → profiled_binding now n s ≡ profiled_binding before n s
same_binding now before n s same = go (looked_up n now) refl
  where
    go : (o : Option ProfiledTerm) → looked_up n now ≡ o → profiled_binding now n s ≡ profiled_binding before n s
    go None none = sym (unbound_value now n s (sym none)) ∙ unbound_value before n s (sym none ∙ same)
    go (Some u) is = sym (bound_value now n s u (sym is)) ∙ bound_value before n s u (sym is ∙ same)

wanted_here : (n s : ℕ) (after : List (ℕ × ℕ)) → is_wanted_in ((n, s) ∷ after) n ≡ true
wanted_here n s after = ap (λ (b : Bool). if b then true else is_wanted_in after n) ((Decides-eqb n n).1 refl)

wanted_later : (n s m : ℕ) (after : List (ℕ × ℕ)) → is_wanted_in after m ≡ true → is_wanted_in ((n, s) ∷ after) m ≡ true
wanted_later n s m after h = go (nat_eq n m)
  where
    go : (b : Bool) → (if b then true else is_wanted_in after m) ≡ true
    go true = refl
    go false = h

pub one_supplied : (wanted : List (ℕ × ℕ)) (before : Pairs) (later after : List (ℕ × ℕ)) (n s : ℕ) (again : Bool) (made new : List Term)
    (now more : Pairs) (value : Term) → later ≡ (n, s) ∷ after → again ≡ is_wanted_in after n → new ≡ made ++ value ∷ []
    → AreSupplied wanted before later (map profiled_of made) now → IsGiven n s again now more (profiled_of value)
    → AreSupplied wanted before after (map profiled_of new) more
one_supplied wanted before later after n s again made new now more value later_is again_is added so_far one = record {
  values =
      so_far.values
      ∙ ap (λ (vs : List (ℕ × ℕ)). map profiled_of made ++ values_by (profiled_binding before) vs) later_is
      ∙ ap (λ (t : ProfiledTerm). map profiled_of made ++ t ∷ values_by (profiled_binding before) after)
      (sym (same_binding now before n s (here n (wanted_here n s after))) ∙ sym one.value)
      ∙ sym (append_assoc (map profiled_of made) (profiled_of value ∷ []) (values_by (profiled_binding before) after))
      ∙ ap (λ (ts : List ProfiledTerm). ts ++ values_by (profiled_binding before) after)
      (sym (ap (map profiled_of) added ∙ map-append profiled_of made (value ∷ [])));
  kept = λ m h. one.kept m (apart m h) ∙ here m (wanted_later n s m after h);
}
  where
    here : (m : ℕ) → is_wanted_in ((n, s) ∷ after) m ≡ true → looked_up m now ≡ looked_up m before
    here m h = so_far.kept m (ap (λ (vs : List (ℕ × ℕ)). is_wanted_in vs m) later_is ∙ h)

    apart : (m : ℕ) → is_wanted_in after m ≡ true → IsTrue again ⊎ ¬ (m ≡ n)
    apart m h = go (nat_eq m n) refl
      where
        go : (b : Bool) → nat_eq m n ≡ b → IsTrue again ⊎ ¬ (m ≡ n)
        go true test = inl (again_is ∙ ap (λ (k : ℕ). is_wanted_in after k) (sym ((Decides-eqb m n).0 test)) ∙ h)
        go false test = inr (λ same. let clash : true ≡ false = sym ((Decides-eqb m n).1 same) ∙ test in cc)
