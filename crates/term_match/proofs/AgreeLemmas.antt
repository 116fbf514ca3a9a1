-- What the first disagreement of two terms says of them.
use Rattle.std.proofs.Common.{◌≡◌, ℕ, List, [], ◌∷◌, Bool, true, false, nat_eq, refl, ap, sym, ◌∙◌, subst, inl, inr}
use Rattle.std.specs.Prelude.{◌⊎◌, ◌||◌, if◌then◌else◌, Some, slice_get}
use Rattle.std.proofs.lemmas.Option.{same_Some}
use Rattle.std.proofs.lemmas.Bool.Decides.{Decides-eqb}
use Rattle.std.proofs.lemmas.Bool.{or_left, or_right, or_cases}
use Rattle.lotos_base.specs.Signature.{Signature, Operation}
use Rattle.lotos_base.specs.Term.{variable, node, term_then}
use Rattle.lotos_base.specs.Sorting.{Occurs, OccursAmong}
use Rattle.lotos_base.specs.Substitution.{Substitution, substituted, all_substituted}
use Rattle.rewriting_theory.proofs.UnifyLemmas.{no_occurring_unifier}
use Rattle.sort_terms.specs.ProfiledTerm.{ProfiledTerm, ProfiledTerms, profiled_variable, profiled_node, no_profiled_terms, profiled_term_then, bare, all_bare, head_sort, FitsProfiles, FitArguments, IsOf, AreOf, All}
use Rattle.term_match.specs.ProfiledInstance.{ProfiledSubstitution, profiled_instance, profiled_instances}
use Rattle.term_match.proofs.MatchLemmas.{IsInherited}
use Rattle.term_match.specs.Disagreement.{TermDisagreement, agreed, clashing, binds, has_number, have_number, is_variable_numbered, against, disagreement_or_else, disagreement, disagreement_of_lists, clashes, terms_clash}

-- ---- Numbers that stand in terms

mutual
  pub has_number_true : (n s : ℕ) (t : ProfiledTerm) → Occurs n s (bare t) → has_number n t ≡ true
  has_number_true n s (profiled_variable m r) o = (Decides-eqb m n).1 o.0
  has_number_true n s (profiled_node f operation ts) o = have_number_true n s ts o

  have_number_true : (n s : ℕ) (ts : ProfiledTerms) → OccursAmong n s (all_bare ts) → have_number n ts ≡ true
  have_number_true n s no_profiled_terms o = absurd o
  have_number_true n s (profiled_term_then t ts) (inl o) = or_left (has_number n t) (have_number n ts) (has_number_true n s t o)
  have_number_true n s (profiled_term_then t ts) (inr o) = or_right (has_number n t) (have_number n ts) (have_number_true n s ts o)

-- which sort the variable has there
mutual
  pub has_number_occurs : (n : ℕ) (t : ProfiledTerm) → has_number n t ≡ true → (s : ℕ) × Occurs n s (bare t)
  has_number_occurs n (profiled_variable m r) e = (r, ((Decides-eqb m n).0 e, refl))
  has_number_occurs n (profiled_node f operation ts) e = have_number_occurs n ts e

  have_number_occurs : (n : ℕ) (ts : ProfiledTerms) → have_number n ts ≡ true → (s : ℕ) × OccursAmong n s (all_bare ts)
  have_number_occurs n no_profiled_terms e = cc
  have_number_occurs n (profiled_term_then t ts) e =
      go (has_number n t) e (λ h. has_number_occurs n t h) (λ h. have_number_occurs n ts h) refl
    where
      go : (a : Bool) → (a || have_number n ts) ≡ true → (has_number n t ≡ true → (s : ℕ) × Occurs n s (bare t))
          → (have_number n ts ≡ true → (s : ℕ) × OccursAmong n s (all_bare ts)) → has_number n t ≡ a
          → (s : ℕ) × (Occurs n s (bare t) ⊎ OccursAmong n s (all_bare ts))
      go true h first rest test = let found = first test in (found.0, inl found.1)
      go false h first rest test = let found = rest h in (found.0, inr found.1)

-- ---- A variable against a term

-- the three outcomes
record IsBound (n s : ℕ) (t : ProfiledTerm) (m r : ℕ) (u : ProfiledTerm) : Type 0 where
  number : n ≡ m
  sort : s ≡ r
  value : t ≡ u
  apart : has_number n t ≡ false

same_binds : (n s m r : ℕ) (t u : ProfiledTerm) → binds n s t ≡ binds m r u → (n ≡ m) × (s ≡ r) × (t ≡ u)
same_binds n s m r t u e = (cc, cc, cc)

against_bound : (n s : ℕ) (t : ProfiledTerm) (m r : ℕ) (u : ProfiledTerm) → against n s t ≡ binds m r u → IsBound n s t m r u
against_bound n s t m r u e = go (is_variable_numbered n t) (has_number n t) refl e
  where
    go : (a b : Bool) → has_number n t ≡ b → (if a then agreed else (if b then clashing else binds n s t)) ≡ binds m r u
        → IsBound n s t m r u
    go true b test h = cc
    go false true test h = cc
    go false false test h =
        let same = same_binds n s m r t u h in record { number = same.0; sort = same.1; value = same.2; apart = test }

against_agreed : (n s : ℕ) (t : ProfiledTerm) → against n s t ≡ agreed → is_variable_numbered n t ≡ true
against_agreed n s t e = go (is_variable_numbered n t) (has_number n t) e
  where
    go : (a b : Bool) → (if a then agreed else (if b then clashing else binds n s t)) ≡ agreed → a ≡ true
    go true b h = refl
    go false true h = cc
    go false false h = cc

against_clashing : (n s : ℕ) (t : ProfiledTerm) → against n s t ≡ clashing → (is_variable_numbered n t ≡ false) × (has_number n t ≡ true)
against_clashing n s t e = go (is_variable_numbered n t) (has_number n t) refl refl e
  where
    go : (a b : Bool) → is_variable_numbered n t ≡ a → has_number n t ≡ b
        → (if a then agreed else (if b then clashing else binds n s t)) ≡ clashing
        → (is_variable_numbered n t ≡ false) × (has_number n t ≡ true)
    go true b one two h = cc
    go false true one two h = (one, two)
    go false false one two h = cc

-- ---- Lists

or_bound : (d e : TermDisagreement) (n s : ℕ) (t : ProfiledTerm) → disagreement_or_else d e ≡ binds n s t
    → (d ≡ binds n s t) ⊎ ((d ≡ agreed) × (e ≡ binds n s t))
or_bound agreed e n s t h = inr (refl, h)
or_bound clashing e n s t h = cc
or_bound (binds m r u) e n s t h = inl h

or_agreed : (d e : TermDisagreement) → disagreement_or_else d e ≡ agreed → (d ≡ agreed) × (e ≡ agreed)
or_agreed agreed e h = (refl, h)
or_agreed clashing e h = cc
or_agreed (binds m r u) e h = cc

or_clashing : (d e : TermDisagreement) → disagreement_or_else d e ≡ clashing → (d ≡ clashing) ⊎ (e ≡ clashing)
or_clashing agreed e h = inr h
or_clashing clashing e h = inl refl
or_clashing (binds m r u) e h = cc

if_bound : (b : Bool) (d : TermDisagreement) (n s : ℕ) (t : ProfiledTerm) → (if b then d else clashing) ≡ binds n s t
    → (b ≡ true) × (d ≡ binds n s t)
if_bound true d n s t h = (refl, h)
if_bound false d n s t h = cc

if_agreed : (b : Bool) (d : TermDisagreement) → (if b then d else clashing) ≡ agreed → (b ≡ true) × (d ≡ agreed)
if_agreed true d h = (refl, h)
if_agreed false d h = cc

-- ---- What a binding says

-- What is bound, and what it is bound to, have what both terms and their parts have.
mutual
  pub bound_parts : (P : ProfiledTerm → Type 0) → IsInherited P → (l r : ProfiledTerm) (n s : ℕ) (t : ProfiledTerm)
      → disagreement l r ≡ binds n s t → P l → P r → P (profiled_variable n s) × P t
  bound_parts P inherited (profiled_variable m q) r n s t e p o =
      let is = against_bound m q r n s t e in
      (subst P (λ i. profiled_variable (is.number i) (is.sort i)) p, subst P is.value o)
  bound_parts P inherited (profiled_node f operation ts) (profiled_variable m q) n s t e p o =
      let is = against_bound m q (profiled_node f operation ts) n s t e in
      (subst P (λ i. profiled_variable (is.number i) (is.sort i)) o, subst P is.value p)
  bound_parts P inherited (profiled_node f operation ts) (profiled_node g other us) n s t e p o =
      all_bound_parts P inherited ts us n s t (if_bound (nat_eq f g) (disagreement_of_lists ts us) n s t e).1
      (inherited f operation ts p) (inherited g other us o)

  all_bound_parts : (P : ProfiledTerm → Type 0) → IsInherited P → (ls rs : ProfiledTerms) (n s : ℕ) (t : ProfiledTerm)
      → disagreement_of_lists ls rs ≡ binds n s t → All P ls → All P rs → P (profiled_variable n s) × P t
  all_bound_parts P inherited no_profiled_terms no_profiled_terms n s t e p o = cc
  all_bound_parts P inherited no_profiled_terms (profiled_term_then u us) n s t e p o = cc
  all_bound_parts P inherited (profiled_term_then l ls) no_profiled_terms n s t e p o = cc
  all_bound_parts P inherited (profiled_term_then l ls) (profiled_term_then r rs) n s t e p o =
      go (or_bound (disagreement l r) (disagreement_of_lists ls rs) n s t e)
      (λ h. bound_parts P inherited l r n s t h p.0 o.0) (λ h. all_bound_parts P inherited ls rs n s t h p.1 o.1)
    where
      go : (disagreement l r ≡ binds n s t) ⊎ ((disagreement l r ≡ agreed) × (disagreement_of_lists ls rs ≡ binds n s t))
          → (disagreement l r ≡ binds n s t → P (profiled_variable n s) × P t)
          → (disagreement_of_lists ls rs ≡ binds n s t → P (profiled_variable n s) × P t) → P (profiled_variable n s) × P t
      go (inl h) first rest = first h
      go (inr h) first rest = rest h.1

-- the variable does not stand in the term
mutual
  pub bound_apart : (l r : ProfiledTerm) (n s : ℕ) (t : ProfiledTerm) → disagreement l r ≡ binds n s t → has_number n t ≡ false
  bound_apart (profiled_variable m q) r n s t e =
      let is = against_bound m q r n s t e in
      (λ i. has_number (sym is.number i) (sym is.value i)) ∙ is.apart
  bound_apart (profiled_node f operation ts) (profiled_variable m q) n s t e =
      let is = against_bound m q (profiled_node f operation ts) n s t e in
      (λ i. has_number (sym is.number i) (sym is.value i)) ∙ is.apart
  bound_apart (profiled_node f operation ts) (profiled_node g other us) n s t e =
      all_bound_apart ts us n s t (if_bound (nat_eq f g) (disagreement_of_lists ts us) n s t e).1

  all_bound_apart : (ls rs : ProfiledTerms) (n s : ℕ) (t : ProfiledTerm) → disagreement_of_lists ls rs ≡ binds n s t
      → has_number n t ≡ false
  all_bound_apart no_profiled_terms no_profiled_terms n s t e = cc
  all_bound_apart no_profiled_terms (profiled_term_then u us) n s t e = cc
  all_bound_apart (profiled_term_then l ls) no_profiled_terms n s t e = cc
  all_bound_apart (profiled_term_then l ls) (profiled_term_then r rs) n s t e =
      go (or_bound (disagreement l r) (disagreement_of_lists ls rs) n s t e)
      (λ h. bound_apart l r n s t h) (λ h. all_bound_apart ls rs n s t h)
    where
      go : (disagreement l r ≡ binds n s t) ⊎ ((disagreement l r ≡ agreed) × (disagreement_of_lists ls rs ≡ binds n s t))
          → (disagreement l r ≡ binds n s t → has_number n t ≡ false)
          → (disagreement_of_lists ls rs ≡ binds n s t → has_number n t ≡ false) → has_number n t ≡ false
      go (inl h) first rest = first h
      go (inr h) first rest = rest h.1

-- a unifier gives the variable and the term one value
mutual
  pub bound_same : (values : Substitution) (l r : ProfiledTerm) (n s : ℕ) (t : ProfiledTerm) → disagreement l r ≡ binds n s t
      → substituted values (bare l) ≡ substituted values (bare r) → values n s ≡ substituted values (bare t)
  bound_same values (profiled_variable m q) r n s t e same =
      let is = against_bound m q r n s t e in
      (λ i. values (sym is.number i) (sym is.sort i)) ∙ same ∙ (λ i. substituted values (bare (is.value i)))
  bound_same values (profiled_node f operation ts) (profiled_variable m q) n s t e same =
      let is = against_bound m q (profiled_node f operation ts) n s t e in
      (λ i. values (sym is.number i) (sym is.sort i)) ∙ sym same ∙ (λ i. substituted values (bare (is.value i)))
  bound_same values (profiled_node f operation ts) (profiled_node g other us) n s t e same =
      let tails : all_substituted values (all_bare ts) ≡ all_substituted values (all_bare us) = cc in
      all_bound_same values ts us n s t (if_bound (nat_eq f g) (disagreement_of_lists ts us) n s t e).1 tails

  all_bound_same : (values : Substitution) (ls rs : ProfiledTerms) (n s : ℕ) (t : ProfiledTerm) → disagreement_of_lists ls rs ≡ binds n s t
      → all_substituted values (all_bare ls) ≡ all_substituted values (all_bare rs) → values n s ≡ substituted values (bare t)
  all_bound_same values no_profiled_terms no_profiled_terms n s t e same = cc
  all_bound_same values no_profiled_terms (profiled_term_then u us) n s t e same = cc
  all_bound_same values (profiled_term_then l ls) no_profiled_terms n s t e same = cc
  all_bound_same values (profiled_term_then l ls) (profiled_term_then r rs) n s t e same =
      let heads : substituted values (bare l) ≡ substituted values (bare r) = cc in
      let tails : all_substituted values (all_bare ls) ≡ all_substituted values (all_bare rs) = cc in
      go (or_bound (disagreement l r) (disagreement_of_lists ls rs) n s t e)
      (λ h. bound_same values l r n s t h heads) (λ h. all_bound_same values ls rs n s t h tails)
    where
      go : (disagreement l r ≡ binds n s t) ⊎ ((disagreement l r ≡ agreed) × (disagreement_of_lists ls rs ≡ binds n s t))
          → (disagreement l r ≡ binds n s t → values n s ≡ substituted values (bare t))
          → (disagreement_of_lists ls rs ≡ binds n s t → values n s ≡ substituted values (bare t))
          → values n s ≡ substituted values (bare t)
      go (inl h) first rest = first h
      go (inr h) first rest = rest h.1

-- so does one with profiles
mutual
  pub bound_whole : (values : ProfiledSubstitution) (l r : ProfiledTerm) (n s : ℕ) (t : ProfiledTerm) → disagreement l r ≡ binds n s t
      → profiled_instance values l ≡ profiled_instance values r → values n s ≡ profiled_instance values t
  bound_whole values (profiled_variable m q) r n s t e same =
      let is = against_bound m q r n s t e in
      (λ i. values (sym is.number i) (sym is.sort i)) ∙ same ∙ (λ i. profiled_instance values (is.value i))
  bound_whole values (profiled_node f operation ts) (profiled_variable m q) n s t e same =
      let is = against_bound m q (profiled_node f operation ts) n s t e in
      (λ i. values (sym is.number i) (sym is.sort i)) ∙ sym same ∙ (λ i. profiled_instance values (is.value i))
  bound_whole values (profiled_node f operation ts) (profiled_node g other us) n s t e same =
      let tails : profiled_instances values ts ≡ profiled_instances values us = cc in
      all_bound_whole values ts us n s t (if_bound (nat_eq f g) (disagreement_of_lists ts us) n s t e).1 tails

  all_bound_whole : (values : ProfiledSubstitution) (ls rs : ProfiledTerms) (n s : ℕ) (t : ProfiledTerm)
      → disagreement_of_lists ls rs ≡ binds n s t
      → profiled_instances values ls ≡ profiled_instances values rs → values n s ≡ profiled_instance values t
  all_bound_whole values no_profiled_terms no_profiled_terms n s t e same = cc
  all_bound_whole values no_profiled_terms (profiled_term_then u us) n s t e same = cc
  all_bound_whole values (profiled_term_then l ls) no_profiled_terms n s t e same = cc
  all_bound_whole values (profiled_term_then l ls) (profiled_term_then r rs) n s t e same =
      let heads : profiled_instance values l ≡ profiled_instance values r = cc in
      let tails : profiled_instances values ls ≡ profiled_instances values rs = cc in
      go (or_bound (disagreement l r) (disagreement_of_lists ls rs) n s t e)
      (λ h. bound_whole values l r n s t h heads) (λ h. all_bound_whole values ls rs n s t h tails)
    where
      go : (disagreement l r ≡ binds n s t) ⊎ ((disagreement l r ≡ agreed) × (disagreement_of_lists ls rs ≡ binds n s t))
          → (disagreement l r ≡ binds n s t → values n s ≡ profiled_instance values t)
          → (disagreement_of_lists ls rs ≡ binds n s t → values n s ≡ profiled_instance values t) → values n s ≡ profiled_instance values t
      go (inl h) first rest = first h
      go (inr h) first rest = rest h.1

-- over one signature the term has the sort of the variable
mutual
  pub bound_sort : (signature : Signature) (l r : ProfiledTerm) (n s : ℕ) (t : ProfiledTerm) → disagreement l r ≡ binds n s t
      → IsOf signature l → IsOf signature r → FitsProfiles l → FitsProfiles r → head_sort l ≡ head_sort r → head_sort t ≡ s
  bound_sort signature (profiled_variable m q) r n s t e one two fits also heads =
      let is = against_bound m q r n s t e in
      sym (ap head_sort is.value) ∙ sym heads ∙ is.sort
  bound_sort signature (profiled_node f operation ts) (profiled_variable m q) n s t e one two fits also heads =
      let is = against_bound m q (profiled_node f operation ts) n s t e in
      sym (ap head_sort is.value) ∙ heads ∙ is.sort
  bound_sort signature (profiled_node f operation ts) (profiled_node g other us) n s t e one two fits also heads =
      let through = if_bound (nat_eq f g) (disagreement_of_lists ts us) n s t e in
      let same : operation ≡ other =
      same_Some operation other
      (subst (λ (k : ℕ). Some operation ≡ slice_get signature.operations k) ((Decides-eqb f g).0 through.0) (sym one.0)
      ∙ two.0) in
      all_bound_sort signature ts us n s t through.1 one.1 two.1 operation.arguments fits
      (subst (λ (o : Operation). FitArguments us o.arguments) (sym same) also)

  all_bound_sort : (signature : Signature) (ls rs : ProfiledTerms) (n s : ℕ) (t : ProfiledTerm) → disagreement_of_lists ls rs ≡ binds n s t
      → AreOf signature ls → AreOf signature rs → (sorts : List ℕ) → FitArguments ls sorts → FitArguments rs sorts → head_sort t ≡ s
  all_bound_sort signature no_profiled_terms no_profiled_terms n s t e one two sorts fit also = cc
  all_bound_sort signature no_profiled_terms (profiled_term_then u us) n s t e one two sorts fit also = cc
  all_bound_sort signature (profiled_term_then l ls) no_profiled_terms n s t e one two sorts fit also = cc
  all_bound_sort signature (profiled_term_then l ls) (profiled_term_then r rs) n s t e one two [] fit also = absurd fit
  all_bound_sort signature (profiled_term_then l ls) (profiled_term_then r rs) n s t e one two (q ∷ sorts) fit also =
      go (or_bound (disagreement l r) (disagreement_of_lists ls rs) n s t e)
      (λ h. bound_sort signature l r n s t h one.0 two.0 fit.1 also.1 (fit.0 ∙ sym also.0))
      (λ h. all_bound_sort signature ls rs n s t h one.1 two.1 sorts fit.2 also.2)
    where
      go : (disagreement l r ≡ binds n s t) ⊎ ((disagreement l r ≡ agreed) × (disagreement_of_lists ls rs ≡ binds n s t))
          → (disagreement l r ≡ binds n s t → head_sort t ≡ s) → (disagreement_of_lists ls rs ≡ binds n s t → head_sort t ≡ s)
          → head_sort t ≡ s
      go (inl h) first rest = first h
      go (inr h) first rest = rest h.1

-- ---- What agreement and a clash say

-- a relation of numbers and sorts by which a number has one sort
abbrev pub IsSingle : (ℕ → ℕ → Type 0) → Type 0
IsSingle Has = (n r q : ℕ) → Has n r → Has n q → r ≡ q

-- the variables of the term are among those
abbrev pub Within : (ℕ → ℕ → Type 0) → ProfiledTerm → Type 0
Within Has t = (n s : ℕ) → Occurs n s (bare t) → Has n s

abbrev AllWithin : (ℕ → ℕ → Type 0) → ProfiledTerms → Type 0
AllWithin Has ts = (n s : ℕ) → OccursAmong n s (all_bare ts) → Has n s

-- the variable with a number, where it has one sort
number_same : (Has : ℕ → ℕ → Type 0) → IsSingle Has → (n s : ℕ) (t : ProfiledTerm) → Has n s → Within Has t
    → is_variable_numbered n t ≡ true
    → variable n s ≡ bare t
number_same Has single n s (profiled_variable m r) has within e =
    let numbers : m ≡ n = (Decides-eqb m n).0 e in
    let sorts : s ≡ r = single n s r has (within n r (numbers, refl)) in
    λ i. variable (sym numbers i) (sorts i)
number_same Has single n s (profiled_node f operation ts) has within e = cc

mutual
  pub agreed_same : (Has : ℕ → ℕ → Type 0) → IsSingle Has → (l r : ProfiledTerm) → Within Has l → Within Has r
      → disagreement l r ≡ agreed → bare l ≡ bare r
  agreed_same Has single (profiled_variable m q) r one two e =
      number_same Has single m q r (one m q (refl, refl)) two (against_agreed m q r e)
  agreed_same Has single (profiled_node f operation ts) (profiled_variable m q) one two e =
      sym (number_same Has single m q (profiled_node f operation ts) (two m q (refl, refl)) one
      (against_agreed m q (profiled_node f operation ts) e))
  agreed_same Has single (profiled_node f operation ts) (profiled_node g other us) one two e =
      let through = if_agreed (nat_eq f g) (disagreement_of_lists ts us) e in
      let tails = all_agreed_same Has single ts us one two through.1 in
      λ i. node ((Decides-eqb f g).0 through.0 i) (tails i)

  all_agreed_same : (Has : ℕ → ℕ → Type 0) → IsSingle Has → (ls rs : ProfiledTerms) → AllWithin Has ls → AllWithin Has rs
      → disagreement_of_lists ls rs ≡ agreed → all_bare ls ≡ all_bare rs
  all_agreed_same Has single no_profiled_terms no_profiled_terms one two e = refl
  all_agreed_same Has single no_profiled_terms (profiled_term_then u us) one two e = cc
  all_agreed_same Has single (profiled_term_then l ls) no_profiled_terms one two e = cc
  all_agreed_same Has single (profiled_term_then l ls) (profiled_term_then r rs) one two e =
      let through = or_agreed (disagreement l r) (disagreement_of_lists ls rs) e in
      let head = agreed_same Has single l r (λ n s o. one n s (inl o)) (λ n s o. two n s (inl o)) through.0 in
      let tail = all_agreed_same Has single ls rs (λ n s o. one n s (inr o)) (λ n s o. two n s (inr o)) through.1 in
      λ i. term_then (head i) (tail i)

-- a variable that stands inside an operation has no unifier with it
inside_none : (Has : ℕ → ℕ → Type 0) → IsSingle Has → (n s : ℕ) (t : ProfiledTerm) → Has n s → Within Has t
    → is_variable_numbered n t ≡ false
    → has_number n t ≡ true → (values : Substitution) → values n s ≡ substituted values (bare t) → ⊥
inside_none Has single n s (profiled_variable m r) has within not_it is values same =
    let clash : true ≡ false = sym is ∙ not_it in cc
inside_none Has single n s (profiled_node f operation ts) has within not_it is values same =
    let there = have_number_occurs n ts is in
    let sorts : there.0 ≡ s = single n there.0 s (within n there.0 there.1) has in
    no_occurring_unifier n s f (all_bare ts) values (subst (λ (q : ℕ). OccursAmong n q (all_bare ts)) sorts there.1) same

mutual
  pub clashing_none : (Has : ℕ → ℕ → Type 0) → IsSingle Has → (values : Substitution) (l r : ProfiledTerm) → Within Has l → Within Has r
      → disagreement l r ≡ clashing → substituted values (bare l) ≡ substituted values (bare r) → ⊥
  clashing_none Has single values (profiled_variable m q) r one two e same =
      let how = against_clashing m q r e in
      inside_none Has single m q r (one m q (refl, refl)) two how.0 how.1 values same
  clashing_none Has single values (profiled_node f operation ts) (profiled_variable m q) one two e same =
      let how = against_clashing m q (profiled_node f operation ts) e in
      inside_none Has single m q (profiled_node f operation ts) (two m q (refl, refl)) one how.0 how.1 values (sym same)
  clashing_none Has single values (profiled_node f operation ts) (profiled_node g other us) one two e same =
      go (nat_eq f g) refl e (λ h. all_clashing_none Has single values ts us one two h cc)
    where
      go : (b : Bool) → nat_eq f g ≡ b → (if b then disagreement_of_lists ts us else clashing) ≡ clashing
          → (disagreement_of_lists ts us ≡ clashing → ⊥) → ⊥
      go true test h rest = rest h
      go false test h rest =
          let heads : f ≡ g = cc in
          let yes : nat_eq f g ≡ true = (Decides-eqb f g).1 heads in
          let clash : true ≡ false = sym yes ∙ test in cc

  all_clashing_none : (Has : ℕ → ℕ → Type 0) → IsSingle Has → (values : Substitution) (ls rs : ProfiledTerms) → AllWithin Has ls
      → AllWithin Has rs → disagreement_of_lists ls rs ≡ clashing
      → all_substituted values (all_bare ls) ≡ all_substituted values (all_bare rs) → ⊥
  all_clashing_none Has single values no_profiled_terms no_profiled_terms one two e same = cc
  all_clashing_none Has single values no_profiled_terms (profiled_term_then u us) one two e same = cc
  all_clashing_none Has single values (profiled_term_then l ls) no_profiled_terms one two e same = cc
  all_clashing_none Has single values (profiled_term_then l ls) (profiled_term_then r rs) one two e same =
      let heads : substituted values (bare l) ≡ substituted values (bare r) = cc in
      let tails : all_substituted values (all_bare ls) ≡ all_substituted values (all_bare rs) = cc in
      go (or_clashing (disagreement l r) (disagreement_of_lists ls rs) e)
      (λ h. clashing_none Has single values l r (λ n s o. one n s (inl o)) (λ n s o. two n s (inl o)) h heads)
      (λ h. all_clashing_none Has single values ls rs (λ n s o. one n s (inr o)) (λ n s o. two n s (inr o)) h tails)
    where
      go : (disagreement l r ≡ clashing) ⊎ (disagreement_of_lists ls rs ≡ clashing) → (disagreement l r ≡ clashing → ⊥)
          → (disagreement_of_lists ls rs ≡ clashing → ⊥) → ⊥
      go (inl h) first rest = first h
      go (inr h) first rest = rest h

-- ---- Two operations that clash

-- terms whose operations clash have no instances that are one, whatever is put for the variables of each
mutual
  pub clashing_apart : (values others : Substitution) (l r : ProfiledTerm) → clashes l r ≡ true
      → substituted values (bare l) ≡ substituted others (bare r) → ⊥
  clashing_apart values others (profiled_variable n s) r e same = cc
  clashing_apart values others (profiled_node f operation ts) (profiled_variable m q) e same = cc
  clashing_apart values others (profiled_node f operation ts) (profiled_node g other us) e same =
      go (nat_eq f g) refl e (λ h. all_clashing_apart values others ts us h cc)
    where
      go : (b : Bool) → nat_eq f g ≡ b → (if b then terms_clash ts us else true) ≡ true → (terms_clash ts us ≡ true → ⊥) → ⊥
      go true test h rest = rest h
      go false test h rest =
          let heads : f ≡ g = cc in
          let yes : nat_eq f g ≡ true = (Decides-eqb f g).1 heads in
          let clash : true ≡ false = sym yes ∙ test in cc

  all_clashing_apart : (values others : Substitution) (ls rs : ProfiledTerms) → terms_clash ls rs ≡ true
      → all_substituted values (all_bare ls) ≡ all_substituted others (all_bare rs) → ⊥
  all_clashing_apart values others no_profiled_terms no_profiled_terms e same = cc
  all_clashing_apart values others no_profiled_terms (profiled_term_then u us) e same = cc
  all_clashing_apart values others (profiled_term_then l ls) no_profiled_terms e same = cc
  all_clashing_apart values others (profiled_term_then l ls) (profiled_term_then r rs) e same =
      let heads : substituted values (bare l) ≡ substituted others (bare r) = cc in
      let tails : all_substituted values (all_bare ls) ≡ all_substituted others (all_bare rs) = cc in
      go (or_cases (clashes l r) (terms_clash ls rs) e)
      (λ h. clashing_apart values others l r h heads) (λ h. all_clashing_apart values others ls rs h tails)
    where
      go : (clashes l r ≡ true) ⊎ (terms_clash ls rs ≡ true) → (clashes l r ≡ true → ⊥) → (terms_clash ls rs ≡ true → ⊥) → ⊥
      go (inl h) first rest = first h
      go (inr h) first rest = rest h
