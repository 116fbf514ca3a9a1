-- What the public calls say of a match.
use Rattle.std.proofs.Common.{◌≡◌, ℕ, zero, suc, List, [], ◌∷◌, ◌++◌, Bool, true, false, nat_eq, map, refl, ap, sym, ◌∙◌, subst, inl, inr}
use Rattle.std.specs.Prelude.{Option, Some, None, slice_get, if◌then◌else◌}
use Rattle.std.proofs.lemmas.Option.{same_Some}
use Rattle.std.proofs.lemmas.Bool.Decides.{Decides-eqb}
use Rattle.lotos_base.proofs.Options.{chained}
use Rattle.lotos_base.specs.Signature.{Signature, Operation}
use Rattle.lotos_base.specs.Sorting.{Occurs, OccursAmong}
use Rattle.lotos_base.specs.Substitution.{binding}
use Rattle.lotos_base.specs.Tests.{term_eq}
use Rattle.sort_terms.specs.ProfiledTerm.{ProfiledTerm, ProfiledTerms, profiled_variable, profiled_node, no_profiled_terms, profiled_term_then, bare, all_bare, FitsProfiles, FitArguments, IsOf, AreOf, All}
use Rattle.sort_terms.specs.declared.sorted.Sorted.{Sorted}
use Rattle.term_match.specs.SubstView.{profiled_pairs}
use Rattle.term_match.specs.ProfiledInstance.{bare_pairs}
use Rattle.term_match.specs.Numbers.{AreDistinctNumbers}
use Rattle.term_match.specs.Search.{looked_up, bound, searched, all_searched}
use Rattle.term_match.specs.Matched.{TermHasOneSortPerNumber, HasMatch, IsPair, NumberOccurs, IsMatchedBy}
use Rattle.term_match.proofs.DistinctLemmas.{IsAbsent, distinct_more}
use Rattle.term_match.proofs.SearchLemmas.{Pairs, if_some, all_search_extends, search_sound, search_complete, binding_agrees, found_last}

-- ---- The numbers of the pairs

abbrev pub numbers_of : Pairs → List ℕ
numbers_of pairs = map (λ (pair : ℕ × ProfiledTerm). pair.0) pairs

numbers_of-append : (n : ℕ) (t : ProfiledTerm) (pairs : Pairs) → numbers_of (pairs ++ (n, t) ∷ []) ≡ numbers_of pairs ++ n ∷ []
numbers_of-append n t [] = refl
numbers_of-append n t (pair ∷ pairs) = ap (λ ns. pair.0 ∷ ns) (numbers_of-append n t pairs)

not_found_absent : (n : ℕ) (pairs : Pairs) → looked_up n pairs ≡ None → IsAbsent n (numbers_of pairs)
not_found_absent n [] e i h = cc
not_found_absent n (pair ∷ pairs) e i h = go (nat_eq pair.0 n) refl e i h (λ d j. not_found_absent n pairs d j)
  where
    go : (b : Bool) → nat_eq pair.0 n ≡ b → (if b then Some pair.1 else looked_up n pairs) ≡ None → (k : ℕ)
        → slice_get (numbers_of (pair ∷ pairs)) k ≡ Some n
        → (looked_up n pairs ≡ None → IsAbsent n (numbers_of pairs)) → ⊥
    go true test d k f rest = cc
    go false test d zero f rest =
        let yes : nat_eq pair.0 n ≡ true = (Decides-eqb pair.0 n).1 (same_Some _ _ f) in
        let clash : true ≡ false = sym yes ∙ test in cc
    go false test d (suc k) f rest = rest d k f

bound_distinct : (n : ℕ) (t : ProfiledTerm) (found more : Pairs) (o : Option ProfiledTerm) → looked_up n found ≡ o
    → bound n t found o ≡ Some more → AreDistinctNumbers (numbers_of found) → AreDistinctNumbers (numbers_of more)
bound_distinct n t found more None is e distinct =
    subst (λ (p : Pairs). AreDistinctNumbers (numbers_of p)) (same_Some _ _ e)
    (subst (λ (ns : List ℕ). AreDistinctNumbers ns) (sym (numbers_of-append n t found))
    (distinct_more n (numbers_of found) distinct (not_found_absent n found is)))
bound_distinct n t found more (Some u) is e distinct =
    subst (λ (p : Pairs). AreDistinctNumbers (numbers_of p)) (if_some (term_eq (bare u) (bare t)) found more e).1 distinct

-- what a test lets through
pub if_through : (b : Bool) (o : Option Pairs) (y : Pairs) → (if b then o else None) ≡ Some y → o ≡ Some y
if_through true o y e = e
if_through false o y e = cc

mutual
  search_distinct : (l t : ProfiledTerm) (found more : Pairs) → searched l t found ≡ Some more
      → AreDistinctNumbers (numbers_of found) → AreDistinctNumbers (numbers_of more)
  search_distinct (profiled_variable n s) t found more e distinct = bound_distinct n t found more (looked_up n found) refl e distinct
  search_distinct (profiled_node f operation ls) (profiled_variable m r) found more e distinct = cc
  search_distinct (profiled_node f operation ls) (profiled_node g other ts) found more e distinct =
      all_search_distinct ls ts found more (if_through (nat_eq f g) (all_searched ls ts found) more e) distinct

  all_search_distinct : (ls ts : ProfiledTerms) (found more : Pairs) → all_searched ls ts found ≡ Some more
      → AreDistinctNumbers (numbers_of found) → AreDistinctNumbers (numbers_of more)
  all_search_distinct no_profiled_terms no_profiled_terms found more e distinct =
      subst (λ (p : Pairs). AreDistinctNumbers (numbers_of p)) (same_Some _ _ e) distinct
  all_search_distinct no_profiled_terms (profiled_term_then t ts) found more e distinct = cc
  all_search_distinct (profiled_term_then l ls) no_profiled_terms found more e distinct = cc
  all_search_distinct (profiled_term_then l ls) (profiled_term_then t ts) found more e distinct =
      let step = chained (all_searched ls ts) (searched l t found) {y = more} e in
      all_search_distinct ls ts step.0 more step.2 (search_distinct l t found step.0 step.1 distinct)

-- ---- What holds of the parts of the term holds of what is found

-- each pair has a term and a number with these properties
abbrev pub AreKept : (ProfiledTerm → Type 0) → (ℕ → Type 0) → Pairs → Type 0
AreKept P Q pairs = (n : ℕ) (u : ProfiledTerm) → IsPair pairs n u → P u × Q n

kept_more : (P : ProfiledTerm → Type 0) (Q : ℕ → Type 0) (n : ℕ) (t : ProfiledTerm) (found : Pairs) → AreKept P Q found → P t → Q n
    → AreKept P Q (found ++ (n, t) ∷ [])
kept_more P Q n t [] kept p q m u (zero, e) =
    let same : (n, t) ≡ (m, u) = same_Some _ _ e in
    (subst P (ap (λ (pair : ℕ × ProfiledTerm). pair.1) same) p, subst Q (ap (λ (pair : ℕ × ProfiledTerm). pair.0) same) q)
kept_more P Q n t [] kept p q m u (suc i, e) = cc
kept_more P Q n t (pair ∷ found) kept p q m u (zero, e) = kept m u (zero, e)
kept_more P Q n t (pair ∷ found) kept p q m u (suc i, e) =
    kept_more P Q n t found (λ k v is. kept k v (suc is.0, is.1)) p q m u (i, e)

bound_keeps : (P : ProfiledTerm → Type 0) (Q : ℕ → Type 0) (n : ℕ) (t : ProfiledTerm) (found more : Pairs) (o : Option ProfiledTerm)
    → bound n t found o ≡ Some more → P t → Q n → AreKept P Q found → AreKept P Q more
bound_keeps P Q n t found more None e p q kept =
    subst (λ (pairs : Pairs). AreKept P Q pairs) (same_Some _ _ e) (kept_more P Q n t found kept p q)
bound_keeps P Q n t found more (Some u) e p q kept =
    subst (λ (pairs : Pairs). AreKept P Q pairs) (if_some (term_eq (bare u) (bare t)) found more e).1 kept

-- the arguments of a term with the property have it
abbrev pub IsInherited : (ProfiledTerm → Type 0) → Type 0
IsInherited P = (f : ℕ) (operation : Operation) (ts : ProfiledTerms) → P (profiled_node f operation ts) → All P ts

mutual
  pub search_keeps : (P : ProfiledTerm → Type 0) (Q : ℕ → Type 0) → IsInherited P → (l t : ProfiledTerm) (found more : Pairs)
      → searched l t found ≡ Some more → P t → ((n s : ℕ) → Occurs n s (bare l) → Q n) → AreKept P Q found → AreKept P Q more
  search_keeps P Q inherited (profiled_variable n s) t found more e p q kept =
      bound_keeps P Q n t found more (looked_up n found) e p (q n s (refl, refl)) kept
  search_keeps P Q inherited (profiled_node f operation ls) (profiled_variable m r) found more e p q kept = cc
  search_keeps P Q inherited (profiled_node f operation ls) (profiled_node g other ts) found more e p q kept =
      all_search_keeps P Q inherited ls ts found more (if_through (nat_eq f g) (all_searched ls ts found) more e)
      (inherited g other ts p) q kept

  pub all_search_keeps : (P : ProfiledTerm → Type 0) (Q : ℕ → Type 0) → IsInherited P → (ls ts : ProfiledTerms) (found more : Pairs)
      → all_searched ls ts found ≡ Some more → All P ts → ((n s : ℕ) → OccursAmong n s (all_bare ls) → Q n) → AreKept P Q found
      → AreKept P Q more
  all_search_keeps P Q inherited no_profiled_terms no_profiled_terms found more e p q kept =
      subst (λ (pairs : Pairs). AreKept P Q pairs) (same_Some _ _ e) kept
  all_search_keeps P Q inherited no_profiled_terms (profiled_term_then t ts) found more e p q kept = cc
  all_search_keeps P Q inherited (profiled_term_then l ls) no_profiled_terms found more e p q kept = cc
  all_search_keeps P Q inherited (profiled_term_then l ls) (profiled_term_then t ts) found more e p q kept =
      let step = chained (all_searched ls ts) (searched l t found) {y = more} e in
      all_search_keeps P Q inherited ls ts step.0 more step.2 p.1 (λ n s o. q n s (inr o))
      (search_keeps P Q inherited l t found step.0 step.1 p.0 (λ n s o. q n s (inl o)) kept)

pub of_inherited : (signature : Signature) → IsInherited (IsOf signature)
of_inherited signature f operation ts h = go ts h.1
  where
    go : (us : ProfiledTerms) → AreOf signature us → All (IsOf signature) us
    go no_profiled_terms k = tt
    go (profiled_term_then u us) k = (k.0, go us k.1)

pub fits_inherited : IsInherited FitsProfiles
fits_inherited f operation ts h = go ts operation.arguments h
  where
    go : (us : ProfiledTerms) (sorts : List ℕ) → FitArguments us sorts → All FitsProfiles us
    go no_profiled_terms sorts k = tt
    go (profiled_term_then u us) [] k = absurd k
    go (profiled_term_then u us) (s ∷ ss) k = (k.1, go us ss k.2)

-- ---- Each variable of the pattern has a pair

bound_pairs : (n : ℕ) (t : ProfiledTerm) (found more : Pairs) (o : Option ProfiledTerm) → looked_up n found ≡ o
    → bound n t found o ≡ Some more → (w : ProfiledTerm) × (looked_up n more ≡ Some w)
bound_pairs n t found more None is e = (t, subst (λ (p : Pairs). looked_up n p ≡ Some t) (same_Some _ _ e) (found_last n t found is))
bound_pairs n t found more (Some u) is e =
    (u, subst (λ (p : Pairs). looked_up n p ≡ Some u) (if_some (term_eq (bare u) (bare t)) found more e).1 is)

mutual
  search_pairs : (l t : ProfiledTerm) (found more : Pairs) (n s : ℕ) → searched l t found ≡ Some more → Occurs n s (bare l)
      → (w : ProfiledTerm) × (looked_up n more ≡ Some w)
  search_pairs (profiled_variable m r) t found more n s e o =
      subst (λ (k : ℕ). (w : ProfiledTerm) × (looked_up k more ≡ Some w)) o.0 (bound_pairs m t found more (looked_up m found) refl e)
  search_pairs (profiled_node f operation ls) (profiled_variable m r) found more n s e o = cc
  search_pairs (profiled_node f operation ls) (profiled_node g other ts) found more n s e o =
      all_search_pairs ls ts found more n s (if_through (nat_eq f g) (all_searched ls ts found) more e) o

  all_search_pairs : (ls ts : ProfiledTerms) (found more : Pairs) (n s : ℕ) → all_searched ls ts found ≡ Some more
      → OccursAmong n s (all_bare ls) → (w : ProfiledTerm) × (looked_up n more ≡ Some w)
  all_search_pairs no_profiled_terms ts found more n s e o = absurd o
  all_search_pairs (profiled_term_then l ls) no_profiled_terms found more n s e o = cc
  all_search_pairs (profiled_term_then l ls) (profiled_term_then t ts) found more n s e (inl o) =
      let step = chained (all_searched ls ts) (searched l t found) {y = more} e in
      let first = search_pairs l t found step.0 n s step.1 o in
      (first.0, all_search_extends ls ts step.0 more step.2 n first.0 first.1)
  all_search_pairs (profiled_term_then l ls) (profiled_term_then t ts) found more n s e (inr o) =
      let step = chained (all_searched ls ts) (searched l t found) {y = more} e in
      all_search_pairs ls ts step.0 more n s step.2 o

found_is_pair : (n : ℕ) (pairs : Pairs) (w : ProfiledTerm) → looked_up n pairs ≡ Some w → IsPair pairs n w
found_is_pair n [] w e = cc
found_is_pair n (pair ∷ pairs) w e = go (nat_eq pair.0 n) refl e (λ h. found_is_pair n pairs w h)
  where
    go : (b : Bool) → nat_eq pair.0 n ≡ b → (if b then Some pair.1 else looked_up n pairs) ≡ Some w
        → (looked_up n pairs ≡ Some w → IsPair pairs n w) → IsPair (pair ∷ pairs) n w
    go true test h rest = (0, λ i. Some ((Decides-eqb pair.0 n).0 test i, same_Some _ _ h i))
    go false test h rest = let later = rest h in (suc later.0, later.1)

-- ---- The public forms

pub search_is_match : (pattern t : ProfiledTerm) (pairs : Pairs) → searched pattern t [] ≡ Some pairs → IsMatchedBy pattern t pairs
search_is_match pattern t pairs e = record {
  makes = search_sound (binding (bare_pairs pairs)) pattern t [] pairs e (binding_agrees pairs);
  paired = λ n o. let there = search_pairs pattern t [] pairs n o.0 e o.1 in (there.0, found_is_pair n pairs there.0 there.1);
  occurring = λ n u is.
      (search_keeps (λ v. Unit {0}) (λ m. NumberOccurs m (bare pattern)) (λ f operation ts h. everything ts) pattern t [] pairs e tt
      (λ m s o. (s, o)) (λ m v none. let h : None ≡ Some (m, v) = none.1 in cc) n u is).1;
  of_signature = λ signature n u h is.
      (search_keeps (IsOf signature) (λ m. Unit {0}) (of_inherited signature) pattern t [] pairs e h (λ m s o. tt)
      (λ m v none. let k : None ≡ Some (m, v) = none.1 in cc) n u is).0;
}
  where
    everything : (ts : ProfiledTerms) → All (λ v. Unit {0}) ts
    everything no_profiled_terms = tt
    everything (profiled_term_then u us) = (tt, everything us)

pub search_is_distinct : (pattern t : ProfiledTerm) (pairs : Pairs) → searched pattern t [] ≡ Some pairs
    → AreDistinctNumbers (numbers_of pairs)
search_is_distinct pattern t pairs e = search_distinct pattern t [] pairs e (λ i j n h d. cc)

pub search_fits : (pattern t : ProfiledTerm) (pairs : Pairs) → searched pattern t [] ≡ Some pairs → FitsProfiles t
    → (n : ℕ) (u : ProfiledTerm)
    → IsPair pairs n u → FitsProfiles u
search_fits pattern t pairs e fits n u is =
    (search_keeps FitsProfiles (λ m. Unit {0}) fits_inherited pattern t [] pairs e fits (λ m s o. tt)
    (λ m v none. let k : None ≡ Some (m, v) = none.1 in cc) n u is).0

pub no_search_no_match : (pattern t : ProfiledTerm) → TermHasOneSortPerNumber (bare pattern) → searched pattern t [] ≡ None
    → ¬ HasMatch pattern t
no_search_no_match pattern t one e found =
    let there = search_complete (bare pattern) found.1.0 one pattern t [] (λ n s o. o) found.1.1 (λ n s u o h. cc) in
    let clash : None ≡ Some there.0 = sym e ∙ there.1 in cc

pub numbers_same : (xs : List (ℕ × Sorted)) → map (λ (pair : ℕ × Sorted). pair.0) xs ≡ numbers_of (profiled_pairs xs)
numbers_same [] = refl
numbers_same (x ∷ xs) = ap (λ ns. x.0 ∷ ns) (numbers_same xs)
