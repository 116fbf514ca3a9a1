-- What the search for a match finds.
use Rattle.std.proofs.Common.{◌≡◌, ℕ, zero, suc, ◌<◌, length, get_or, arith, Bor, List, [], ◌∷◌, ◌++◌, Bool, true, false, nat_eq, refl, ap, sym, ◌∙◌, subst, inl, inr}
use Rattle.std.specs.Prelude.{◌⊎◌, Option, Some, None, slice_get, if◌then◌else◌}
use Rattle.std.specs.Option.{option_and_then}
use Rattle.std.proofs.lemmas.Option.{same_Some}
use Rattle.std.proofs.lemmas.Bool.Decides.{Decides-eqb}
use Rattle.lotos_base.proofs.Options.{chained}
use Rattle.lotos_base.specs.Term.{Term, node, term_then}
use Rattle.lotos_base.specs.Sorting.{Occurs, OccursAmong}
use Rattle.lotos_base.specs.Substitution.{Substitution, substituted, all_substituted, binding}
use Rattle.lotos_base.specs.Tests.{term_eq}
use Rattle.lotos_base.proofs.TestLemmas.{Decides-term_eq}
use Rattle.sort_terms.specs.ProfiledTerm.{ProfiledTerm, ProfiledTerms, profiled_variable, profiled_node, no_profiled_terms, profiled_term_then, bare, all_bare}
use Rattle.sort_terms.specs.TermView.{all_profiled, profiled_of}
use Rattle.sort_terms.specs.declared.terms.Term.{Term as CodeTerm}
use Rattle.term_match.specs.FoundView.{found_pair, found_pairs}
use Rattle.term_match.specs.ProfiledInstance.{bare_pairs}
use Rattle.term_match.specs.Search.{looked_up, bound, searched, all_searched}
use Rattle.term_match.specs.Matched.{TermHasOneSortPerNumber}

abbrev pub Pairs : Type 0
Pairs = List (ℕ × ProfiledTerm)

-- ---- Tests and look-ups

pub if_some : (b : Bool) (x y : Pairs) → (if b then Some x else None) ≡ Some y → (b ≡ true) × (x ≡ y)
if_some true x y e = (refl, same_Some _ _ e)
if_some false x y e = cc

if_found : (b : Bool) (o : Option Pairs) (y : Pairs) → (if b then o else None) ≡ Some y → (b ≡ true) × (o ≡ Some y)
if_found true o y e = (refl, e)
if_found false o y e = cc

pub found_more : (n m : ℕ) (t u : ProfiledTerm) (pairs : Pairs) → looked_up m pairs ≡ Some u → looked_up m (pairs ++ (n, t) ∷ []) ≡ Some u
found_more n m t u [] e = cc
found_more n m t u (pair ∷ pairs) e = go (nat_eq pair.0 m) e (λ h. found_more n m t u pairs h)
  where
    go : (b : Bool) → (if b then Some pair.1 else looked_up m pairs) ≡ Some u
        → (looked_up m pairs ≡ Some u → looked_up m (pairs ++ (n, t) ∷ []) ≡ Some u)
        → (if b then Some pair.1 else looked_up m (pairs ++ (n, t) ∷ [])) ≡ Some u
    go true h rest = h
    go false h rest = rest h

pub found_last : (n : ℕ) (t : ProfiledTerm) (pairs : Pairs) → looked_up n pairs ≡ None → looked_up n (pairs ++ (n, t) ∷ []) ≡ Some t
found_last n t [] e = rw ((Decides-eqb n n).1 refl) refl
found_last n t (pair ∷ pairs) e = go (nat_eq pair.0 n) e (λ h. found_last n t pairs h)
  where
    go : (b : Bool) → (if b then Some pair.1 else looked_up n pairs) ≡ None
        → (looked_up n pairs ≡ None → looked_up n (pairs ++ (n, t) ∷ []) ≡ Some t)
        → (if b then Some pair.1 else looked_up n (pairs ++ (n, t) ∷ [])) ≡ Some t
    go true h rest = cc
    go false h rest = rest h

pub found_apart : (n m : ℕ) (t u : ProfiledTerm) (pairs : Pairs) → looked_up m (pairs ++ (n, t) ∷ []) ≡ Some u
    → (looked_up m pairs ≡ Some u) ⊎ ((n ≡ m) × (t ≡ u))
found_apart n m t u [] e = go (nat_eq n m) refl e
  where
    go : (b : Bool) → nat_eq n m ≡ b → (if b then Some t else None) ≡ Some u → (None ≡ Some u) ⊎ ((n ≡ m) × (t ≡ u))
    go true test h = inr ((Decides-eqb n m).0 test, same_Some _ _ h)
    go false test h = inl h
found_apart n m t u (pair ∷ pairs) e = go (nat_eq pair.0 m) e (λ h. found_apart n m t u pairs h)
  where
    go : (b : Bool) → (if b then Some pair.1 else looked_up m (pairs ++ (n, t) ∷ [])) ≡ Some u
        → (looked_up m (pairs ++ (n, t) ∷ []) ≡ Some u → (looked_up m pairs ≡ Some u) ⊎ ((n ≡ m) × (t ≡ u)))
        → ((if b then Some pair.1 else looked_up m pairs) ≡ Some u) ⊎ ((n ≡ m) × (t ≡ u))
    go true h rest = inl h
    go false h rest = rest h

-- ---- Nothing found is lost

abbrev Extends : Pairs → Pairs → Type 0
Extends found more = (m : ℕ) (u : ProfiledTerm) → looked_up m found ≡ Some u → looked_up m more ≡ Some u

bound_extends : (n : ℕ) (t : ProfiledTerm) (found more : Pairs) (o : Option ProfiledTerm) → bound n t found o ≡ Some more
    → Extends found more
bound_extends n t found more None e m u h = subst (λ (p : Pairs). looked_up m p ≡ Some u) (same_Some _ _ e) (found_more n m t u found h)
bound_extends n t found more (Some v) e m u h =
    subst (λ (p : Pairs). looked_up m p ≡ Some u) (if_some (term_eq (bare v) (bare t)) found more e).1 h

mutual
  pub search_extends : (l t : ProfiledTerm) (found more : Pairs) → searched l t found ≡ Some more → Extends found more
  search_extends (profiled_variable n s) t found more e = bound_extends n t found more (looked_up n found) e
  search_extends (profiled_node f operation ls) (profiled_variable m r) found more e = cc
  search_extends (profiled_node f operation ls) (profiled_node g other ts) found more e =
      all_search_extends ls ts found more (if_found (nat_eq f g) (all_searched ls ts found) more e).1

  pub all_search_extends : (ls ts : ProfiledTerms) (found more : Pairs) → all_searched ls ts found ≡ Some more → Extends found more
  all_search_extends no_profiled_terms no_profiled_terms found more e =
      λ m u h. subst (λ (p : Pairs). looked_up m p ≡ Some u) (same_Some _ _ e) h
  all_search_extends no_profiled_terms (profiled_term_then t ts) found more e = cc
  all_search_extends (profiled_term_then l ls) no_profiled_terms found more e = cc
  all_search_extends (profiled_term_then l ls) (profiled_term_then t ts) found more e =
      let step = chained (all_searched ls ts) (searched l t found) {y = more} e in
      λ m u h. all_search_extends ls ts step.0 more step.2 m u (search_extends l t found step.0 step.1 m u h)

-- ---- What is found makes the pattern the term

-- the substitution gives each variable what the pairs have
abbrev Agrees : Substitution → Pairs → Type 0
Agrees values pairs = (n s : ℕ) (u : ProfiledTerm) → looked_up n pairs ≡ Some u → values n s ≡ bare u

bound_finds : (n : ℕ) (t : ProfiledTerm) (found more : Pairs) (o : Option ProfiledTerm) → looked_up n found ≡ o
    → bound n t found o ≡ Some more → (w : ProfiledTerm) × (looked_up n more ≡ Some w) × (bare w ≡ bare t)
bound_finds n t found more None is e = (t, subst (λ (p : Pairs). looked_up n p ≡ Some t) (same_Some _ _ e) (found_last n t found is), refl)
bound_finds n t found more (Some u) is e =
    let passed = if_some (term_eq (bare u) (bare t)) found more e in
    (u, subst (λ (p : Pairs). looked_up n p ≡ Some u) passed.1 is, (Decides-term_eq (bare u) (bare t)).0 passed.0)

mutual
  pub search_sound : (values : Substitution) (l t : ProfiledTerm) (found more : Pairs) → searched l t found ≡ Some more
      → Agrees values more → substituted values (bare l) ≡ bare t
  search_sound values (profiled_variable n s) t found more e agrees =
      let there = bound_finds n t found more (looked_up n found) refl e in
      agrees n s there.0 there.1 ∙ there.2
  search_sound values (profiled_node f operation ls) (profiled_variable m r) found more e agrees = cc
  search_sound values (profiled_node f operation ls) (profiled_node g other ts) found more e agrees =
      let passed = if_found (nat_eq f g) (all_searched ls ts found) more e in
      let below = all_search_sound values ls ts found more passed.1 agrees in
      λ i. node ((Decides-eqb f g).0 passed.0 i) (below i)

  pub all_search_sound : (values : Substitution) (ls ts : ProfiledTerms) (found more : Pairs) → all_searched ls ts found ≡ Some more
      → Agrees values more → all_substituted values (all_bare ls) ≡ all_bare ts
  all_search_sound values no_profiled_terms no_profiled_terms found more e agrees = refl
  all_search_sound values no_profiled_terms (profiled_term_then t ts) found more e agrees = cc
  all_search_sound values (profiled_term_then l ls) no_profiled_terms found more e agrees = cc
  all_search_sound values (profiled_term_then l ls) (profiled_term_then t ts) found more e agrees =
      let step = chained (all_searched ls ts) (searched l t found) {y = more} e in
      let first = search_sound values l t found step.0 step.1
      (λ n s u h. agrees n s u (all_search_extends ls ts step.0 more step.2 n u h)) in
      let rest = all_search_sound values ls ts step.0 more step.2 agrees in
      λ i. term_then (first i) (rest i)

pub binding_agrees : (pairs : Pairs) → Agrees (binding (bare_pairs pairs)) pairs
binding_agrees [] n s u e = cc
binding_agrees (pair ∷ pairs) n s u e = go (nat_eq pair.0 n) e (λ h. binding_agrees pairs n s u h)
  where
    go : (b : Bool) → (if b then Some pair.1 else looked_up n pairs) ≡ Some u
        → (looked_up n pairs ≡ Some u → binding (bare_pairs pairs) n s ≡ bare u)
        → (if b then bare pair.1 else binding (bare_pairs pairs) n s) ≡ bare u
    go true h rest = ap bare (same_Some _ _ h)
    go false h rest = rest h

-- ---- What there is is found

-- the substitution gives each variable of the whole pattern what the pairs have
abbrev AgreesOn : Term → Substitution → Pairs → Type 0
AgreesOn whole values pairs = (n s : ℕ) (u : ProfiledTerm) → Occurs n s whole → looked_up n pairs ≡ Some u → values n s ≡ bare u

bound_complete : (whole : Term) (values : Substitution) (n s : ℕ) (t : ProfiledTerm) (found : Pairs) (o : Option ProfiledTerm)
    → looked_up n found ≡ o → TermHasOneSortPerNumber whole → Occurs n s whole → values n s ≡ bare t → AgreesOn whole values found
    → (more : Pairs) × (bound n t found o ≡ Some more) × AgreesOn whole values more
bound_complete whole values n s t found None is one o e agrees = (
  found ++ (n, t) ∷ [],
  refl,
  λ m r u occurs h. go m r u occurs (found_apart n m t u found h),
)
  where
    go : (m r : ℕ) (u : ProfiledTerm) → Occurs m r whole → (looked_up m found ≡ Some u) ⊎ ((n ≡ m) × (t ≡ u)) → values m r ≡ bare u
    go m r u occurs (inl h) = agrees m r u occurs h
    go m r u occurs (inr same) =
        let sorts : s ≡ r = one m s r (subst (λ (k : ℕ). Occurs k s whole) same.0 o) occurs in
        (λ i. values (sym same.0 i) (sym sorts i)) ∙ e ∙ ap bare same.1
bound_complete whole values n s t found (Some u) is one o e agrees =
    (found, ap (λ (b : Bool). if b then Some found else None) ((Decides-term_eq (bare u) (bare t)).1 (sym (agrees n s u o is) ∙ e)), agrees)

mutual
  pub search_complete : (whole : Term) (values : Substitution) → TermHasOneSortPerNumber whole → (l t : ProfiledTerm) (found : Pairs)
      → ((n s : ℕ) → Occurs n s (bare l) → Occurs n s whole) → substituted values (bare l) ≡ bare t → AgreesOn whole values found
      → (more : Pairs) × (searched l t found ≡ Some more) × AgreesOn whole values more
  search_complete whole values one (profiled_variable n s) t found inside e agrees =
      bound_complete whole values n s t found (looked_up n found) refl one (inside n s (refl, refl)) e agrees
  search_complete whole values one (profiled_node f operation ls) (profiled_variable m r) found inside e agrees = cc
  search_complete whole values one (profiled_node f operation ls) (profiled_node g other ts) found inside e agrees =
      let heads : f ≡ g = cc in
      let arguments : all_substituted values (all_bare ls) ≡ all_bare ts = cc in
      let below = all_search_complete whole values one ls ts found inside arguments agrees in
      (below.0, ap (λ (b : Bool). if b then all_searched ls ts found else None) ((Decides-eqb f g).1 heads) ∙ below.1, below.2)

  pub all_search_complete : (whole : Term) (values : Substitution) → TermHasOneSortPerNumber whole → (ls ts : ProfiledTerms) (found : Pairs)
      → ((n s : ℕ) → OccursAmong n s (all_bare ls) → Occurs n s whole) → all_substituted values (all_bare ls) ≡ all_bare ts
      → AgreesOn whole values found → (more : Pairs) × (all_searched ls ts found ≡ Some more) × AgreesOn whole values more
  all_search_complete whole values one no_profiled_terms no_profiled_terms found inside e agrees = (found, refl, agrees)
  all_search_complete whole values one no_profiled_terms (profiled_term_then t ts) found inside e agrees = cc
  all_search_complete whole values one (profiled_term_then l ls) no_profiled_terms found inside e agrees = cc
  all_search_complete whole values one (profiled_term_then l ls) (profiled_term_then t ts) found inside e agrees =
      let first : substituted values (bare l) ≡ bare t = cc in
      let rest : all_substituted values (all_bare ls) ≡ all_bare ts = cc in
      let one_more = search_complete whole values one l t found (λ n s o. inside n s (inl o)) first agrees in
      let all_more = all_search_complete whole values one ls ts one_more.0 (λ n s o. inside n s (inr o)) rest one_more.2 in
      (all_more.0, ap (option_and_then (all_searched ls ts)) one_more.1 ∙ all_more.1, all_more.2)

-- ---- The code's steps

pub bound_same : (n : ℕ) (t u : ProfiledTerm) (found : Pairs) (o : Option ProfiledTerm) → Some u ≡ o → bare u ≡ bare t
    → Some found ≡ bound n t found o
bound_same n t u found o is same =
    subst (λ (p : Option ProfiledTerm). Some found ≡ bound n t found p) is
    (sym (ap (λ (b : Bool). if b then Some found else None) ((Decides-term_eq (bare u) (bare t)).1 same)))

pub bound_differs : (n : ℕ) (t u : ProfiledTerm) (found : Pairs) (o : Option ProfiledTerm) → Some u ≡ o → (bare u ≡ bare t → ⊥)
    → None ≡ bound n t found o
bound_differs n t u found o is differ = subst (λ (p : Option ProfiledTerm). None ≡ bound n t found p) is
    (go (term_eq (bare u) (bare t)) refl)
  where
    go : (b : Bool) → term_eq (bare u) (bare t) ≡ b → None ≡ (if b then Some found else None)
    go true e = absurd (differ ((Decides-term_eq (bare u) (bare t)).0 e))
    go false e = refl

-- lists of different lengths do not match
pub lengths_differ : (xs ys : List CodeTerm) (found : Pairs) → (length xs ≡ length ys → ⊥)
    → None ≡ all_searched (all_profiled xs) (all_profiled ys) found
lengths_differ [] [] found differ = absurd (differ refl)
lengths_differ [] (y ∷ ys) found differ = refl
lengths_differ (x ∷ xs) [] found differ = refl
lengths_differ (x ∷ xs) (y ∷ ys) found differ =
    go (searched (profiled_of x) (profiled_of y) found)
    (λ more. lengths_differ xs ys more (λ same. differ (ap (λ (k : ℕ). suc k) same)))
  where
    go : (o : Option Pairs) → ((more : Pairs) → None ≡ all_searched (all_profiled xs) (all_profiled ys) more)
        → None ≡ option_and_then (all_searched (all_profiled xs) (all_profiled ys)) o
    go None rest = refl
    go (Some more) rest = rest more

-- a member of the list is a pair
pub found_member : (xs : List (ℕ × Bor CodeTerm)) (i : ℕ) (x : ℕ × Bor CodeTerm) → i < length xs → x ≡ get_or xs i x
    → slice_get (found_pairs xs) i ≡ Some (found_pair x)
found_member [] i x h e = absurd (omega arith)
found_member (y ∷ ys) zero x h e = ap (λ (z : ℕ × Bor CodeTerm). Some (found_pair z)) (sym e)
found_member (y ∷ ys) (suc i) x h e = found_member ys i x (omega arith) e
