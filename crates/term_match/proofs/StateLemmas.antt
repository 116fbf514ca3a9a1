-- What unification keeps at each step: the pairs so far are a part of each unifier, and the two terms left are the
-- instances of the two given ones.
use Rattle.std.proofs.Common.{◌≡◌, ℕ, zero, suc, List, [], ◌∷◌, ◌++◌, Bool, true, false, nat_eq, refl, ap, sym, ◌∙◌, subst, inl, inr}
use Rattle.std.specs.Prelude.{◌⊎◌, if◌then◌else◌, Some, None}
use Rattle.std.proofs.lemmas.Option.{same_Some}
use Rattle.std.proofs.lemmas.Bool.Decides.{Decides-eqb}
use Rattle.lotos_base.specs.Signature.{Signature, IsSort}
use Rattle.lotos_base.specs.Term.{Term}
use Rattle.lotos_base.specs.Sorting.{Occurs, OccursAmong}
use Rattle.lotos_base.specs.Substitution.{Substitution, substituted, followed_by, binding}
use Rattle.lotos_base.proofs.SubstitutionLemmas.{substituted_occurs, substituted_twice, substituted_agree}
use Rattle.rewriting_theory.specs.Unification.{IsUnifier, OccursInEither}
use Rattle.sort_terms.specs.ProfiledTerm.{ProfiledTerm, ProfiledTerms, profiled_variable, profiled_node, no_profiled_terms, profiled_term_then, bare, all_bare, head_sort, IsOf, AreOf, All}
use Rattle.term_match.specs.ProfiledInstance.{ProfiledSubstitution, profiled_instance, profiled_instances, profiled_binding, bare_pairs}
use Rattle.term_match.specs.Matched.{IsPair}
use Rattle.term_match.specs.Numbers.{AreDistinctNumbers}
use Rattle.term_match.proofs.DistinctLemmas.{IsAbsent}
use Rattle.term_match.proofs.MatchLemmas.{IsInherited, numbers_of}
use Rattle.term_match.proofs.InstanceLemmas.{instance_by_pairs, instance_of}
use Rattle.term_match.specs.Solving.{one_binding, bound_pairs}
use Rattle.term_match.proofs.RoomLemmas.{distinct_rest, first_absent}

abbrev pub Pairs : Type 0
Pairs = List (ℕ × ProfiledTerm)

-- ---- The substitution of one pair

-- it gives the term for the number, and each other variable stays
pub one_either : (n : ℕ) (t : ProfiledTerm) (m r : ℕ)
    → ((n ≡ m) × (one_binding n t m r ≡ t)) ⊎ ((n ≡ m → ⊥) × (one_binding n t m r ≡ profiled_variable m r))
one_either n t m r = go (nat_eq n m) refl
  where
    go : (b : Bool) → nat_eq n m ≡ b
        → ((n ≡ m) × ((if b then t else profiled_variable m r) ≡ t))
        ⊎ ((n ≡ m → ⊥) × ((if b then t else profiled_variable m r) ≡ profiled_variable m r))
    go true e = inl ((Decides-eqb n m).0 e, refl)
    go false e = inr (
      (λ same. let yes : nat_eq n m ≡ true = (Decides-eqb n m).1 same in let clash : true ≡ false = sym yes ∙ e in cc),
      refl,
    )

-- ---- Binding one more

-- the substitution of the pairs with one more is the one before and then that of the one pair
pub bound_binding : (n : ℕ) (t : ProfiledTerm) (pairs : Pairs) (m r : ℕ)
    → profiled_binding (bound_pairs n t pairs) m r ≡ profiled_instance (one_binding n t) (profiled_binding pairs m r)
bound_binding n t [] m r = refl
bound_binding n t (pair ∷ pairs) m r = go (nat_eq pair.0 m) (bound_binding n t pairs m r)
  where
    go : (b : Bool) → profiled_binding (bound_pairs n t pairs) m r ≡ profiled_instance (one_binding n t) (profiled_binding pairs m r)
        → (if b then profiled_instance (one_binding n t) pair.1 else profiled_binding (bound_pairs n t pairs) m r)
        ≡ profiled_instance (one_binding n t) (if b then pair.1 else profiled_binding pairs m r)
    go true rest = refl
    go false rest = rest

-- an instance of an instance
mutual
  pub instance_twice : (first second : ProfiledSubstitution) (t : ProfiledTerm)
      → profiled_instance second (profiled_instance first t) ≡ profiled_instance (λ n s. profiled_instance second (first n s)) t
  instance_twice first second (profiled_variable n s) = refl
  instance_twice first second (profiled_node f operation ts) = ap (λ us. profiled_node f operation us) (instances_twice first second ts)

  instances_twice : (first second : ProfiledSubstitution) (ts : ProfiledTerms)
      → profiled_instances second (profiled_instances first ts) ≡ profiled_instances (λ n s. profiled_instance second (first n s)) ts
  instances_twice first second no_profiled_terms = refl
  instances_twice first second (profiled_term_then t ts) =
      λ i. profiled_term_then (instance_twice first second t i) (instances_twice first second ts i)

-- instances are one where what is put for each variable that occurs is one
mutual
  pub instances_agree : (first second : ProfiledSubstitution) (t : ProfiledTerm)
      → ((n s : ℕ) → Occurs n s (bare t) → first n s ≡ second n s) → profiled_instance first t ≡ profiled_instance second t
  instances_agree first second (profiled_variable n s) all = all n s (refl, refl)
  instances_agree first second (profiled_node f operation ts) all =
      ap (λ us. profiled_node f operation us) (all_instances_agree first second ts all)

  all_instances_agree : (first second : ProfiledSubstitution) (ts : ProfiledTerms)
      → ((n s : ℕ) → OccursAmong n s (all_bare ts) → first n s ≡ second n s) → profiled_instances first ts ≡ profiled_instances second ts
  all_instances_agree first second no_profiled_terms all = refl
  all_instances_agree first second (profiled_term_then t ts) all =
      λ i. profiled_term_then (instances_agree first second t (λ n s o. all n s (inl o)) i)
      (all_instances_agree first second ts (λ n s o. all n s (inr o)) i)

pub bound_instance : (n : ℕ) (t : ProfiledTerm) (pairs : Pairs) (u : ProfiledTerm)
    → profiled_instance (one_binding n t) (profiled_instance (profiled_binding pairs) u)
    ≡ profiled_instance (profiled_binding (bound_pairs n t pairs)) u
bound_instance n t pairs u =
    instance_twice (profiled_binding pairs) (one_binding n t) u
    ∙ sym (λ i. profiled_instance (λ m r. bound_binding n t pairs m r i) u)

pub bound_numbers : (n : ℕ) (t : ProfiledTerm) (pairs : Pairs) → numbers_of (bound_pairs n t pairs) ≡ numbers_of pairs ++ n ∷ []
bound_numbers n t [] = refl
bound_numbers n t (pair ∷ pairs) = ap (λ ns. pair.0 ∷ ns) (bound_numbers n t pairs)

-- a pair is one of those before, with the term put into its term, or the new one
pub bound_either : (n : ℕ) (t : ProfiledTerm) (pairs : Pairs) (m : ℕ) (u : ProfiledTerm) → IsPair (bound_pairs n t pairs) m u
    → ((v : ProfiledTerm) × IsPair pairs m v × (profiled_instance (one_binding n t) v ≡ u)) ⊎ ((n ≡ m) × (t ≡ u))
bound_either n t [] m u (zero, e) =
    let same : (n, t) ≡ (m, u) = same_Some _ _ e in
    inr (ap (λ (pair : ℕ × ProfiledTerm). pair.0) same, ap (λ (pair : ℕ × ProfiledTerm). pair.1) same)
bound_either n t [] m u (suc i, e) = cc
bound_either n t (pair ∷ pairs) m u (zero, e) =
    let same : (pair.0, profiled_instance (one_binding n t) pair.1) ≡ (m, u) = same_Some _ _ e in
    inl (
      pair.1,
      (0, λ i. Some (ap (λ (p : ℕ × ProfiledTerm). p.0) same i, pair.1)),
      ap (λ (p : ℕ × ProfiledTerm). p.1) same,
    )
bound_either n t (pair ∷ pairs) m u (suc i, e) = go (bound_either n t pairs m u (i, e))
  where
    go : ((v : ProfiledTerm) × IsPair pairs m v × (profiled_instance (one_binding n t) v ≡ u)) ⊎ ((n ≡ m) × (t ≡ u))
        → ((v : ProfiledTerm) × IsPair (pair ∷ pairs) m v × (profiled_instance (one_binding n t) v ≡ u)) ⊎ ((n ≡ m) × (t ≡ u))
    go (inl (v, is, same)) = inl (v, (suc is.0, is.1), same)
    go (inr new) = inr new

-- ---- Pairs and their substitution

-- what is put for a variable is that of a pair, or the variable
pub binding_either : (pairs : Pairs) (n s : ℕ)
    → ((u : ProfiledTerm) × IsPair pairs n u × (profiled_binding pairs n s ≡ u)) ⊎ (profiled_binding pairs n s ≡ profiled_variable n s)
binding_either [] n s = inr refl
binding_either (pair ∷ pairs) n s = go (nat_eq pair.0 n) refl (binding_either pairs n s)
  where
    go : (b : Bool) → nat_eq pair.0 n ≡ b
        → ((u : ProfiledTerm) × IsPair pairs n u × (profiled_binding pairs n s ≡ u)) ⊎ (profiled_binding pairs n s ≡ profiled_variable n s)
        → ((u : ProfiledTerm) × IsPair (pair ∷ pairs) n u × ((if b then pair.1 else profiled_binding pairs n s) ≡ u))
        ⊎ ((if b then pair.1 else profiled_binding pairs n s) ≡ profiled_variable n s)
    go true e rest = inl (pair.1, (0, λ i. Some ((Decides-eqb pair.0 n).0 e i, pair.1)), refl)
    go false e (inl (u, is, same)) = inl (u, (suc is.0, is.1), same)
    go false e (inr stays) = inr stays

-- the number of a pair is in the list of numbers
pub pair_number : (pairs : Pairs) (n : ℕ) (u : ProfiledTerm) → IsPair pairs n u → IsAbsent n (numbers_of pairs) → ⊥
pair_number [] n u is absent = let none : None ≡ Some (n, u) = is.1 in cc
pair_number (pair ∷ pairs) n u (zero, e) absent =
    absent 0 (ap (λ (k : ℕ). Some k) (ap (λ (p : ℕ × ProfiledTerm). p.0) (same_Some pair (n, u) e)))
pair_number (pair ∷ pairs) n u (suc i, e) absent = pair_number pairs n u (i, e) (λ j. absent (suc j))

-- the sort of a variable that occurs is one of the signature
mutual
  pub occurs_sort_of : (signature : Signature) (t : ProfiledTerm) (n s : ℕ) → IsOf signature t → Occurs n s (bare t) → IsSort signature s
  occurs_sort_of signature (profiled_variable m r) n s h o = subst (λ (q : ℕ). IsSort signature q) o.1 h
  occurs_sort_of signature (profiled_node f operation ts) n s h o = occurs_sorts_of signature ts n s h.1 o

  pub occurs_sorts_of : (signature : Signature) (ts : ProfiledTerms) (n s : ℕ) → AreOf signature ts → OccursAmong n s (all_bare ts)
      → IsSort signature s
  occurs_sorts_of signature no_profiled_terms n s h o = absurd o
  occurs_sorts_of signature (profiled_term_then t ts) n s h (inl o) = occurs_sort_of signature t n s h.0 o
  occurs_sorts_of signature (profiled_term_then t ts) n s h (inr o) = occurs_sorts_of signature ts n s h.1 o

-- what pairs of a signature make of a term of it
pub pairs_instance_of : (signature : Signature) (pairs : Pairs) (t : ProfiledTerm) → IsOf signature t
    → ((n : ℕ) (u : ProfiledTerm) → IsPair pairs n u → IsOf signature u)
    → IsOf signature (profiled_instance (profiled_binding pairs) t)
pairs_instance_of signature pairs t h all =
    instance_of signature (profiled_binding pairs) t h (λ n s o. go n s (occurs_sort_of signature t n s h o) (binding_either pairs n s))
  where
    go : (n s : ℕ) → IsSort signature s
        → ((u : ProfiledTerm) × IsPair pairs n u × (profiled_binding pairs n s ≡ u)) ⊎ (profiled_binding pairs n s ≡ profiled_variable n s)
        → IsOf signature (profiled_binding pairs n s)
    go n s sort (inl (u, is, same)) = subst (λ (w : ProfiledTerm). IsOf signature w) (sym same) (all n u is)
    go n s sort (inr stays) = subst (λ (w : ProfiledTerm). IsOf signature w) (sym stays) sort

-- an instance has the sort of the term, where what is put for a variable has the sort of the variable
pub instance_head : (values : ProfiledSubstitution) (t : ProfiledTerm) → ((n s : ℕ) → Occurs n s (bare t) → head_sort (values n s) ≡ s)
    → head_sort (profiled_instance values t) ≡ head_sort t
instance_head values (profiled_variable n s) keeps = keeps n s (refl, refl)
instance_head values (profiled_node f operation ts) keeps = refl

-- the substitution of one pair keeps sorts where the number has no other sort
pub one_sorted : (n : ℕ) (t : ProfiledTerm) (m r : ℕ) → (n ≡ m → r ≡ head_sort t) → head_sort (one_binding n t m r) ≡ r
one_sorted n t m r single = go (one_either n t m r)
  where
    go : ((n ≡ m) × (one_binding n t m r ≡ t)) ⊎ ((n ≡ m → ⊥) × (one_binding n t m r ≡ profiled_variable m r))
        → head_sort (one_binding n t m r) ≡ r
    go (inl (same, is)) = ap head_sort is ∙ sym (single same)
    go (inr (differ, is)) = ap head_sort is

-- ---- What is kept

-- the substitution of the pairs
abbrev pub values_of : Pairs → Substitution
values_of pairs = binding (bare_pairs pairs)

-- the pairs are what each unifier has, and the terms are what they leave of the given ones
pub record IsSolving (left right : ProfiledTerm) (pairs : Pairs) (l r : ProfiledTerm) : Type 0 where
  pub is_left : l ≡ profiled_instance (profiled_binding pairs) left
  pub is_right : r ≡ profiled_instance (profiled_binding pairs) right
  pub heads : head_sort l ≡ head_sort r
  pub distinct : AreDistinctNumbers (numbers_of pairs)
  pub sorts : (n : ℕ) (u : ProfiledTerm) → IsPair pairs n u → OccursInEither (bare left) (bare right) n (head_sort u)
  pub inside : (n s m q : ℕ) → OccursInEither (bare left) (bare right) n s → Occurs m q (values_of pairs n s)
      → OccursInEither (bare left) (bare right) m q
  pub solved : (n s m q : ℕ) → OccursInEither (bare left) (bare right) n s → Occurs m q (values_of pairs n s)
      → IsAbsent m (numbers_of pairs)
  pub absorbed : (others : Substitution) → IsUnifier (bare left) (bare right) others
      → (n s : ℕ) → OccursInEither (bare left) (bare right) n s → substituted others (values_of pairs n s) ≡ others n s
  pub absorbed_whole : (values : ProfiledSubstitution) → profiled_instance values left ≡ profiled_instance values right
      → (n s : ℕ) → OccursInEither (bare left) (bare right) n s
      → profiled_instance values (profiled_binding pairs n s) ≡ values n s
  pub of_signature : (signature : Signature) → IsOf signature left → IsOf signature right
      → (n : ℕ) (u : ProfiledTerm) → IsPair pairs n u → IsOf signature u

-- an instance that puts nothing
mutual
  pub nothing_put : (t : ProfiledTerm) → profiled_instance (profiled_binding []) t ≡ t
  nothing_put (profiled_variable n s) = refl
  nothing_put (profiled_node f operation ts) = ap (λ us. profiled_node f operation us) (nothing_put_in ts)

  pub nothing_put_in : (ts : ProfiledTerms) → profiled_instances (profiled_binding []) ts ≡ ts
  nothing_put_in no_profiled_terms = refl
  nothing_put_in (profiled_term_then t ts) = λ i. profiled_term_then (nothing_put t i) (nothing_put_in ts i)

pub solving_first : (left right : ProfiledTerm) → head_sort left ≡ head_sort right → IsSolving left right [] left right
solving_first left right heads = record {
  is_left = sym (nothing_put left);
  is_right = sym (nothing_put right);
  heads = heads;
  distinct = λ i j n e d. (let none : None ≡ Some n = e in cc);
  sorts = λ n u is. (let none : None ≡ Some (n, u) = is.1 in cc);
  inside = λ n s m q o p.
      subst (λ (k : ℕ). OccursInEither (bare left) (bare right) k q) p.0
      (subst (λ (k : ℕ). OccursInEither (bare left) (bare right) n k) p.1 o);
  solved = λ n s m q o p. λ i e. (let none : None ≡ Some m = e in cc);
  absorbed = λ others same n s o. refl;
  absorbed_whole = λ values same n s o. refl;
  of_signature = λ signature one two n u is. (let none : None ≡ Some (n, u) = is.1 in cc);
}

-- ---- What is kept says of the terms that are left

pub left_bare : {left right l r : ProfiledTerm} {pairs : Pairs} → IsSolving left right pairs l r
    → bare l ≡ substituted (values_of pairs) (bare left)
left_bare {left = left} {pairs = pairs} is = ap bare is.is_left ∙ instance_by_pairs pairs left

pub right_bare : {left right l r : ProfiledTerm} {pairs : Pairs} → IsSolving left right pairs l r
    → bare r ≡ substituted (values_of pairs) (bare right)
right_bare {right = right} {pairs = pairs} is = ap bare is.is_right ∙ instance_by_pairs pairs right

-- Each variable occurs in one of the given terms and has no pair.
abbrev pub IsLeft : ProfiledTerm → ProfiledTerm → Pairs → ProfiledTerm → Type 0
IsLeft left right pairs t =
    (n s : ℕ) → Occurs n s (bare t) → OccursInEither (bare left) (bare right) n s × IsAbsent n (numbers_of pairs)

pub left_is_left : {left right l r : ProfiledTerm} {pairs : Pairs} → IsSolving left right pairs l r → IsLeft left right pairs l
left_is_left {left = left} {pairs = pairs} is n s o =
    let from = substituted_occurs n s (values_of pairs) (bare left) (subst (λ (t : Term). Occurs n s t) (left_bare is) o) in (
      is.inside from.number from.sort n s (inl from.occurs) from.inside,
      is.solved from.number from.sort n s (inl from.occurs) from.inside,
    )

pub right_is_left : {left right l r : ProfiledTerm} {pairs : Pairs} → IsSolving left right pairs l r → IsLeft left right pairs r
right_is_left {right = right} {pairs = pairs} is n s o =
    let from = substituted_occurs n s (values_of pairs) (bare right) (subst (λ (t : Term). Occurs n s t) (right_bare is) o) in (
      is.inside from.number from.sort n s (inr from.occurs) from.inside,
      is.solved from.number from.sort n s (inr from.occurs) from.inside,
    )

pub left_inherited : (left right : ProfiledTerm) (pairs : Pairs) → IsInherited (IsLeft left right pairs)
left_inherited left right pairs f operation ts h = go ts h
  where
    go : (us : ProfiledTerms)
        → ((n s : ℕ) → OccursAmong n s (all_bare us) → OccursInEither (bare left) (bare right) n s × IsAbsent n (numbers_of pairs))
        → All (IsLeft left right pairs) us
    go no_profiled_terms k = tt
    go (profiled_term_then u us) k = ((λ n s o. k n s (inl o)), go us (λ n s o. k n s (inr o)))

-- a unifier of the given terms unifies what is left
pub left_unified : {left right l r : ProfiledTerm} {pairs : Pairs} → IsSolving left right pairs l r → (others : Substitution)
    → IsUnifier (bare left) (bare right) others → substituted others (bare l) ≡ substituted others (bare r)
left_unified {left = left} {right = right} {l = l} {r = r} {pairs = pairs} is others same =
    let one : substituted others (bare l) ≡ substituted others (bare left) =
    ap (substituted others) (left_bare is) ∙ substituted_twice (values_of pairs) others (bare left)
    ∙ substituted_agree (followed_by (values_of pairs) others) others (bare left) (λ n s o. is.absorbed others same n s (inl o)) in
    let two : substituted others (bare r) ≡ substituted others (bare right) =
    ap (substituted others) (right_bare is) ∙ substituted_twice (values_of pairs) others (bare right)
    ∙ substituted_agree (followed_by (values_of pairs) others) others (bare right) (λ n s o. is.absorbed others same n s (inr o)) in
    one ∙ same ∙ sym two

-- the same with profiles
pub left_whole : {left right l r : ProfiledTerm} {pairs : Pairs} → IsSolving left right pairs l r → (values : ProfiledSubstitution)
    → profiled_instance values left ≡ profiled_instance values right → profiled_instance values l ≡ profiled_instance values r
left_whole {left = left} {right = right} {l = l} {r = r} {pairs = pairs} is values same =
    let one : profiled_instance values l ≡ profiled_instance values left =
    ap (profiled_instance values) is.is_left ∙ instance_twice (profiled_binding pairs) values left
    ∙ instances_agree (λ n s. profiled_instance values (profiled_binding pairs n s)) values left
    (λ n s o. is.absorbed_whole values same n s (inl o)) in
    let two : profiled_instance values r ≡ profiled_instance values right =
    ap (profiled_instance values) is.is_right ∙ instance_twice (profiled_binding pairs) values right
    ∙ instances_agree (λ n s. profiled_instance values (profiled_binding pairs n s)) values right
    (λ n s o. is.absorbed_whole values same n s (inr o)) in
    one ∙ same ∙ sym two

-- what is put for a variable in a pair's term
pub value_of_pair : {left right l r : ProfiledTerm} {pairs : Pairs} → IsSolving left right pairs l r → (n : ℕ) (u : ProfiledTerm)
    → IsPair pairs n u → (s : ℕ) → profiled_binding pairs n s ≡ u
value_of_pair {pairs = pairs} is n u at s = go pairs is.distinct at
  where
    go : (ps : Pairs) → AreDistinctNumbers (numbers_of ps) → IsPair ps n u → profiled_binding ps n s ≡ u
    go [] distinct there = let none : None ≡ Some (n, u) = there.1 in cc
    go (pair ∷ ps) distinct (zero, e) =
        let same : pair ≡ (n, u) = same_Some pair (n, u) e in
        here (nat_eq pair.0 n) ((Decides-eqb pair.0 n).1 (ap (λ (p : ℕ × ProfiledTerm). p.0) same))
        (ap (λ (p : ℕ × ProfiledTerm). p.1) same)
      where
        here : (b : Bool) → b ≡ true → pair.1 ≡ u → (if b then pair.1 else profiled_binding ps n s) ≡ u
        here true test value = value
        here false test value = cc
    go (pair ∷ ps) distinct (suc i, e) = there (nat_eq pair.0 n) refl (go ps (distinct_rest pair.0 (numbers_of ps) distinct) (i, e))
      where
        there : (b : Bool) → nat_eq pair.0 n ≡ b → profiled_binding ps n s ≡ u → (if b then pair.1 else profiled_binding ps n s) ≡ u
        there true test rest =
            absurd (pair_number ps n u (i, e)
            (subst (λ (k : ℕ). IsAbsent k (numbers_of ps)) ((Decides-eqb pair.0 n).0 test)
            (first_absent pair.0 (numbers_of ps) distinct)))
        there false test rest = rest
