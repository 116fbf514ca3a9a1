-- One step of unification keeps what is kept, and what it comes to at the end.
use Rattle.std.proofs.Common.{◌≡◌, ◌≤◌, ◌<◌, ◌-◌, ℕ, zero, suc, List, [], ◌∷◌, ◌++◌, length, Bool, true, false, nat_eq, refl, ap, sym, ◌∙◌, subst, inl, inr, arith}
use Rattle.std.specs.Prelude.{◌⊎◌, if◌then◌else◌, Some, None, slice_get}
use Rattle.std.proofs.lemmas.Option.{same_Some}
use Rattle.std.proofs.lemmas.Bool.Decides.{Decides-eqb}
use Rattle.lotos_base.specs.Signature.{Signature}
use Rattle.lotos_base.specs.Term.{Term}
use Rattle.lotos_base.specs.Sorting.{Occurs}
use Rattle.lotos_base.specs.Substitution.{Substitution, substituted, followed_by}
use Rattle.lotos_base.proofs.SubstitutionLemmas.{substituted_occurs, substituted_twice, substituted_agree}
use Rattle.rewriting_theory.specs.Numbering.{variable_numbers}
use Rattle.rewriting_theory.specs.Unification.{IsUnifier, OccursInEither}
use Rattle.rewriting_theory.proofs.PlaceListLemmas.{IsIn, in_left, in_right}
use Rattle.sort_terms.specs.ProfiledTerm.{ProfiledTerm, profiled_variable, bare, head_sort, FitsProfiles, IsOf}
use Rattle.term_match.specs.ProfiledInstance.{ProfiledSubstitution, profiled_instance, profiled_binding}
use Rattle.sort_terms.specs.SortedView.{profiled_in}
use Rattle.sort_terms.specs.declared.sorted.Sorted.{Sorted}
use Rattle.term_match.specs.SubstView.{profiled_pairs}
use Rattle.term_match.specs.Matched.{IsPair}
use Rattle.term_match.specs.Numbers.{AreDistinctNumbers}
use Rattle.term_match.proofs.DistinctLemmas.{IsAbsent, distinct_more}
use Rattle.term_match.proofs.MatchLemmas.{numbers_of, of_inherited}
use Rattle.term_match.proofs.InstanceLemmas.{instance_bare, binding_bare}
use Rattle.term_match.specs.Disagreement.{TermDisagreement, agreed, clashing, binds, has_number, disagreement, clashes}
use Rattle.term_match.specs.Solving.{nothing_more, given_up, put_for, asked, one_binding, bound_pairs}
use Rattle.term_match.specs.Unified.{HaveOneSortPerNumber, HasUnifier, HasSortedUnifier, IsUnifiedBy}
use Rattle.term_match.proofs.AgreeLemmas.{has_number_true, bound_parts, bound_apart, bound_same, bound_whole, bound_sort, agreed_same, clashing_none, clashing_apart}
use Rattle.term_match.proofs.RoomLemmas.{absent_more, distinct_fits, occurs_numbered}
use Rattle.term_match.proofs.StateLemmas.{Pairs, one_either, bound_binding, instance_twice, instances_agree, bound_instance, bound_numbers, bound_either, binding_either, pair_number, pairs_instance_of, instance_head, one_sorted, values_of, IsSolving, left_is_left, right_is_left, left_inherited, left_unified, left_whole, left_bare, right_bare, value_of_pair}

-- ---- Demands

-- what is to be put for a variable
record IsDemand (l r : ProfiledTerm) (n : ℕ) (t : ProfiledTerm) : Type 0 where
  sort : ℕ
  is : disagreement l r ≡ binds n sort t
  sorted : head_sort t ≡ sort

asked_put : (d : TermDisagreement) (n : ℕ) (t : ProfiledTerm) → asked d ≡ put_for n t → (s : ℕ) × (d ≡ binds n s t) × (head_sort t ≡ s)
asked_put agreed n t e = cc
asked_put clashing n t e = cc
asked_put (binds m s u) n t e = go (nat_eq (head_sort u) s) refl e
  where
    go : (b : Bool) → nat_eq (head_sort u) s ≡ b → (if b then put_for m u else given_up) ≡ put_for n t
        → (q : ℕ) × (binds m s u ≡ binds n q t) × (head_sort t ≡ q)
    go true test h =
        let number : m ≡ n = cc in
        let value : u ≡ t = cc in
        (s, (λ i. binds (number i) s (value i)), sym (ap head_sort value) ∙ (Decides-eqb (head_sort u) s).0 test)
    go false test h = cc

demanded : (l r : ProfiledTerm) (n : ℕ) (t : ProfiledTerm) → asked (disagreement l r) ≡ put_for n t → IsDemand l r n t
demanded l r n t e = let found = asked_put (disagreement l r) n t e in record { sort = found.0; is = found.1; sorted = found.2 }

asked_nothing : (d : TermDisagreement) → asked d ≡ nothing_more → d ≡ agreed
asked_nothing agreed e = refl
asked_nothing clashing e = cc
asked_nothing (binds m s u) e = go (nat_eq (head_sort u) s) e
  where
    go : (b : Bool) → (if b then put_for m u else given_up) ≡ nothing_more → binds m s u ≡ agreed
    go true h = cc
    go false h = cc

asked_failed : (d : TermDisagreement) → asked d ≡ given_up
    → (d ≡ clashing) ⊎ ((n : ℕ) × (s : ℕ) × (t : ProfiledTerm) × (d ≡ binds n s t) × (head_sort t ≡ s → ⊥))
asked_failed agreed e = cc
asked_failed clashing e = inl refl
asked_failed (binds m s u) e = go (nat_eq (head_sort u) s) refl e
  where
    go : (b : Bool) → nat_eq (head_sort u) s ≡ b → (if b then put_for m u else given_up) ≡ given_up
        → (binds m s u ≡ clashing) ⊎ ((n : ℕ) × (q : ℕ) × (t : ProfiledTerm) × (binds m s u ≡ binds n q t) × (head_sort t ≡ q → ⊥))
    go true test h = cc
    go false test h = inr (
      m,
      s,
      u,
      refl,
      (λ same. let yes : nat_eq (head_sort u) s ≡ true = (Decides-eqb (head_sort u) s).1 same in
          let clash : true ≡ false = sym yes ∙ test in cc),
    )

-- ---- One step

-- the facts that a step stands on
record IsStep (left right : ProfiledTerm) (pairs : Pairs) (l r : ProfiledTerm) (n s : ℕ) (t : ProfiledTerm) : Type 0 where
  occurs : OccursInEither (bare left) (bare right) n s
  absent : IsAbsent n (numbers_of pairs)
  within : (k q : ℕ) → Occurs k q (bare t) → OccursInEither (bare left) (bare right) k q × IsAbsent k (numbers_of pairs)
  apart : (k q : ℕ) → Occurs k q (bare t) → k ≡ n → ⊥

step_of : (left right : ProfiledTerm) (pairs : Pairs) (l r : ProfiledTerm) (n s : ℕ) (t : ProfiledTerm) → IsSolving left right pairs l r
    → disagreement l r ≡ binds n s t → IsStep left right pairs l r n s t
step_of left right pairs l r n s t is e =
    let parts = bound_parts _ (left_inherited left right pairs) l r n s t e (left_is_left is) (right_is_left is) in
    let variable_left = parts.0 n s (refl, refl) in
    record {
      occurs = variable_left.0;
      absent = variable_left.1;
      within = parts.1;
      apart = λ k q o same.
          let yes : has_number n t ≡ true = has_number_true n q t (subst (λ (j : ℕ). Occurs j q (bare t)) same o) in
          let clash : true ≡ false = sym yes ∙ bound_apart l r n s t e in
          cc;
    }

-- the substitution after the step
after_values : (n : ℕ) (t : ProfiledTerm) (pairs : Pairs) (m q : ℕ)
    → values_of (bound_pairs n t pairs) m q ≡ substituted (λ k p. bare (one_binding n t k p)) (values_of pairs m q)
after_values n t pairs m q =
    sym (binding_bare (bound_pairs n t pairs) m q) ∙ ap bare (bound_binding n t pairs m q)
    ∙ instance_bare (one_binding n t) (profiled_binding pairs m q)
    ∙ ap (substituted (λ k p. bare (one_binding n t k p))) (binding_bare pairs m q)

-- a variable of what the step puts
record IsAfter (left right : ProfiledTerm) (pairs : Pairs) (n m q : ℕ) : Type 0 where
  occurs : OccursInEither (bare left) (bare right) m q
  absent : IsAbsent m (numbers_of pairs)
  differs : m ≡ n → ⊥

after_one : (left right : ProfiledTerm) (pairs : Pairs) (l r : ProfiledTerm) (n s : ℕ) (t : ProfiledTerm)
    → IsStep left right pairs l r n s t
    → (k p m q : ℕ) → OccursInEither (bare left) (bare right) k p → IsAbsent k (numbers_of pairs)
    → Occurs m q (bare (one_binding n t k p)) → IsAfter left right pairs n m q
after_one left right pairs l r n s t step k p m q occurs absent o = go (one_either n t k p)
  where
    go : ((n ≡ k) × (one_binding n t k p ≡ t)) ⊎ ((n ≡ k → ⊥) × (one_binding n t k p ≡ profiled_variable k p))
        → IsAfter left right pairs n m q
    go (inl (same, is)) =
        let there : Occurs m q (bare t) = subst (λ (w : ProfiledTerm). Occurs m q (bare w)) is o in
        record {
          occurs = (step.within m q there).0;
          absent = (step.within m q there).1;
          differs = step.apart m q there;
        }
    go (inr (differ, is)) =
        let there : (k ≡ m) × (p ≡ q) = subst (λ (w : ProfiledTerm). Occurs m q (bare w)) is o in
        record {
          occurs = subst (λ (j : ℕ). OccursInEither (bare left) (bare right) j q) there.0
              (subst (λ (j : ℕ). OccursInEither (bare left) (bare right) k j) there.1 occurs);
          absent = subst (λ (j : ℕ). IsAbsent j (numbers_of pairs)) there.0 absent;
          differs = λ same. differ (sym (there.0 ∙ same));
        }

after_value : (left right : ProfiledTerm) (pairs : Pairs) (l r : ProfiledTerm) (n s : ℕ) (t : ProfiledTerm) → IsSolving left right pairs l r
    → IsStep left right pairs l r n s t → (k p m q : ℕ) → OccursInEither (bare left) (bare right) k p
    → Occurs m q (values_of (bound_pairs n t pairs) k p) → IsAfter left right pairs n m q
after_value left right pairs l r n s t is step k p m q occurs o =
    let from = substituted_occurs m q (λ j i. bare (one_binding n t j i)) (values_of pairs k p)
    (subst (λ (w : Term). Occurs m q w) (after_values n t pairs k p) o) in
    after_one left right pairs l r n s t step from.number from.sort m q (is.inside k p from.number from.sort occurs from.occurs)
    (is.solved k p from.number from.sort occurs from.occurs) from.inside

-- a unifier gives what the step puts for a variable the value of the variable
after_absorbed : (left right : ProfiledTerm) (pairs : Pairs) (l r : ProfiledTerm) (n s : ℕ) (t : ProfiledTerm)
    → HaveOneSortPerNumber (bare left) (bare right) → IsSolving left right pairs l r → disagreement l r ≡ binds n s t
    → IsStep left right pairs l r n s t → (others : Substitution) → IsUnifier (bare left) (bare right) others
    → (k p : ℕ) → OccursInEither (bare left) (bare right) k p
    → substituted others (values_of (bound_pairs n t pairs) k p) ≡ others k p
after_absorbed left right pairs l r n s t single is e step others same k p occurs =
    ap (substituted others) (after_values n t pairs k p)
    ∙ substituted_twice (λ j i. bare (one_binding n t j i)) others (values_of pairs k p)
    ∙ substituted_agree (followed_by (λ j i. bare (one_binding n t j i)) others) others (values_of pairs k p)
    (λ m q o. one m q (is.inside k p m q occurs o) (one_either n t m q))
    ∙ is.absorbed others same k p occurs
  where
    one : (m q : ℕ) → OccursInEither (bare left) (bare right) m q
        → ((n ≡ m) × (one_binding n t m q ≡ t)) ⊎ ((n ≡ m → ⊥) × (one_binding n t m q ≡ profiled_variable m q))
        → substituted others (bare (one_binding n t m q)) ≡ others m q
    one m q inside (inl (number, value)) =
        let sorts : s ≡ q = single n s q step.occurs (subst (λ (j : ℕ). OccursInEither (bare left) (bare right) j q) (sym number) inside) in
        ap (λ (w : ProfiledTerm). substituted others (bare w)) value
        ∙ sym (bound_same others l r n s t e (left_unified is others same)) ∙ (λ i. others (number i) (sorts i))
    one m q inside (inr (differ, value)) = ap (λ (w : ProfiledTerm). substituted others (bare w)) value

-- and so does one with profiles
after_whole : (left right : ProfiledTerm) (pairs : Pairs) (l r : ProfiledTerm) (n s : ℕ) (t : ProfiledTerm)
    → HaveOneSortPerNumber (bare left) (bare right) → IsSolving left right pairs l r → disagreement l r ≡ binds n s t
    → IsStep left right pairs l r n s t → (values : ProfiledSubstitution)
    → profiled_instance values left ≡ profiled_instance values right
    → (k p : ℕ) → OccursInEither (bare left) (bare right) k p
    → profiled_instance values (profiled_binding (bound_pairs n t pairs) k p) ≡ values k p
after_whole left right pairs l r n s t single is e step values same k p occurs =
    ap (profiled_instance values) (bound_binding n t pairs k p)
    ∙ instance_twice (one_binding n t) values (profiled_binding pairs k p)
    ∙ instances_agree (λ m q. profiled_instance values (one_binding n t m q)) values (profiled_binding pairs k p)
    (λ m q o. one m q (is.inside k p m q occurs (subst (λ (w : Term). Occurs m q w) (binding_bare pairs k p) o)) (one_either n t m q))
    ∙ is.absorbed_whole values same k p occurs
  where
    one : (m q : ℕ) → OccursInEither (bare left) (bare right) m q
        → ((n ≡ m) × (one_binding n t m q ≡ t)) ⊎ ((n ≡ m → ⊥) × (one_binding n t m q ≡ profiled_variable m q))
        → profiled_instance values (one_binding n t m q) ≡ values m q
    one m q inside (inl (number, value)) =
        let sorts : s ≡ q = single n s q step.occurs (subst (λ (j : ℕ). OccursInEither (bare left) (bare right) j q) (sym number) inside) in
        ap (λ (w : ProfiledTerm). profiled_instance values w) value
        ∙ sym (bound_whole values l r n s t e (left_whole is values same)) ∙ (λ i. values (number i) (sorts i))
    one m q inside (inr (differ, value)) = ap (λ (w : ProfiledTerm). profiled_instance values w) value

-- a term with the term put for the variable has the sort that it had
step_head : (left right : ProfiledTerm) (pairs : Pairs) (l r : ProfiledTerm) (n s : ℕ) (t u : ProfiledTerm)
    → HaveOneSortPerNumber (bare left) (bare right) → IsStep left right pairs l r n s t → head_sort t ≡ s
    → ((m q : ℕ) → Occurs m q (bare u) → OccursInEither (bare left) (bare right) m q)
    → head_sort (profiled_instance (one_binding n t) u) ≡ head_sort u
step_head left right pairs l r n s t u single step sorted within =
    instance_head (one_binding n t) u (λ m q o. one_sorted n t m q
    (λ same. single n q s (subst (λ (j : ℕ). OccursInEither (bare left) (bare right) j q) (sym same) (within m q o)) step.occurs
    ∙ sym sorted))

-- the number of a variable that is left has one sort there
pub step_single : (left right : ProfiledTerm) (pairs : Pairs) (l r : ProfiledTerm) (n : ℕ) (t u : ProfiledTerm)
    → HaveOneSortPerNumber (bare left) (bare right) → IsSolving left right pairs l r → asked (disagreement l r) ≡ put_for n t
    → ((m q : ℕ) → Occurs m q (bare u) → OccursInEither (bare left) (bare right) m q)
    → (q : ℕ) → Occurs n q (bare u) → q ≡ head_sort t
step_single left right pairs l r n t u single is e within q o =
    let demand = demanded l r n t e in
    let step = step_of left right pairs l r n demand.sort t is demand.is in
    single n q demand.sort (within n q o) step.occurs ∙ sym demand.sorted

-- the variables of the term of a pair are of the given terms
pub pair_within : {left right l r : ProfiledTerm} {pairs : Pairs} → IsSolving left right pairs l r → (n : ℕ) (u : ProfiledTerm)
    → IsPair pairs n u → (m q : ℕ) → Occurs m q (bare u) → OccursInEither (bare left) (bare right) m q
pair_within {pairs = pairs} is n u at m q o =
    is.inside n (head_sort u) m q (is.sorts n u at)
    (subst (λ (w : Term). Occurs m q w)
    (sym (ap bare (value_of_pair is n u at (head_sort u))) ∙ binding_bare pairs n (head_sort u)) o)

pub solving_bound : (left right : ProfiledTerm) (pairs : Pairs) (l r : ProfiledTerm) (n : ℕ) (t : ProfiledTerm)
    → HaveOneSortPerNumber (bare left) (bare right) → IsSolving left right pairs l r → asked (disagreement l r) ≡ put_for n t
    → IsSolving left right (bound_pairs n t pairs) (profiled_instance (one_binding n t) l) (profiled_instance (one_binding n t) r)
solving_bound left right pairs l r n t single is e =
    let demand = demanded l r n t e in
    let step = step_of left right pairs l r n demand.sort t is demand.is in
    record {
      is_left = ap (profiled_instance (one_binding n t)) is.is_left ∙ bound_instance n t pairs left;
      is_right = ap (profiled_instance (one_binding n t)) is.is_right ∙ bound_instance n t pairs right;
      heads =
          step_head left right pairs l r n demand.sort t l single step demand.sorted (λ m q o. (left_is_left is m q o).0)
          ∙ is.heads
          ∙ sym (step_head left right pairs l r n demand.sort t r single step demand.sorted (λ m q o. (right_is_left is m q o).0));
      distinct =
          subst (λ (ns : List ℕ). AreDistinctNumbers ns) (sym (bound_numbers n t pairs))
          (distinct_more n (numbers_of pairs) is.distinct step.absent);
      sorts = λ m u at. sorts_after demand.sort step demand.sorted m u (bound_either n t pairs m u at);
      inside = λ k p m q occurs o. (after_value left right pairs l r n demand.sort t is step k p m q occurs o).occurs;
      solved = λ k p m q occurs o.
          let after = after_value left right pairs l r n demand.sort t is step k p m q occurs o in
          subst (λ (ns : List ℕ). IsAbsent m ns) (sym (bound_numbers n t pairs))
          (absent_more m n (numbers_of pairs) after.absent after.differs);
      absorbed = after_absorbed left right pairs l r n demand.sort t single is demand.is step;
      absorbed_whole = after_whole left right pairs l r n demand.sort t single is demand.is step;
      of_signature = λ signature one two m u at. of_after signature one two demand.sort demand.is m u (bound_either n t pairs m u at);
    }
  where
    sorts_after : (s : ℕ) → IsStep left right pairs l r n s t → head_sort t ≡ s → (m : ℕ) (u : ProfiledTerm)
        → ((v : ProfiledTerm) × IsPair pairs m v × (profiled_instance (one_binding n t) v ≡ u)) ⊎ ((n ≡ m) × (t ≡ u))
        → OccursInEither (bare left) (bare right) m (head_sort u)
    sorts_after s step sorted m u (inl (v, at, value)) =
        subst (λ (q : ℕ). OccursInEither (bare left) (bare right) m q)
        (sym (step_head left right pairs l r n s t v single step sorted (pair_within is m v at)) ∙ ap head_sort value)
        (is.sorts m v at)
    sorts_after s step sorted m u (inr (number, value)) =
        subst (λ (j : ℕ). OccursInEither (bare left) (bare right) j (head_sort u)) number
        (subst (λ (q : ℕ). OccursInEither (bare left) (bare right) n q) (sym sorted ∙ ap head_sort value) step.occurs)

    of_left : (signature : Signature) → IsOf signature left → IsOf signature right → IsOf signature l
    of_left signature one two =
        subst (λ (w : ProfiledTerm). IsOf signature w) (sym is.is_left)
        (pairs_instance_of signature pairs left one (is.of_signature signature one two))

    of_right : (signature : Signature) → IsOf signature left → IsOf signature right → IsOf signature r
    of_right signature one two =
        subst (λ (w : ProfiledTerm). IsOf signature w) (sym is.is_right)
        (pairs_instance_of signature pairs right two (is.of_signature signature one two))

    of_after : (signature : Signature) → IsOf signature left → IsOf signature right → (s : ℕ) → disagreement l r ≡ binds n s t
        → (m : ℕ) (u : ProfiledTerm)
        → ((v : ProfiledTerm) × IsPair pairs m v × (profiled_instance (one_binding n t) v ≡ u)) ⊎ ((n ≡ m) × (t ≡ u))
        → IsOf signature u
    of_after signature one two s d m u (inl (v, at, value)) =
        let parts = bound_parts (IsOf signature) (of_inherited signature) l r n s t d (of_left signature one two)
        (of_right signature one two) in
        subst (λ (w : ProfiledTerm). IsOf signature w) value
        (pairs_instance_of signature ((n, t) ∷ []) v (is.of_signature signature one two m v at) (only parts.1))
      where
        only : IsOf signature t → (k : ℕ) (w : ProfiledTerm) → IsPair ((n, t) ∷ []) k w → IsOf signature w
        only h k w (zero, f) =
            subst (λ (x : ProfiledTerm). IsOf signature x)
            (ap (λ (p : ℕ × ProfiledTerm). p.1) (same_Some (n, t) (k, w) f)) h
        only h k w (suc i, f) = cc
    of_after signature one two s d m u (inr (number, value)) =
        let parts = bound_parts (IsOf signature) (of_inherited signature) l r n s t d (of_left signature one two)
        (of_right signature one two) in
        subst (λ (w : ProfiledTerm). IsOf signature w) value parts.1

-- ---- The end

-- where nothing differs, the pairs unify the given terms
pub solved_unified : (left right : ProfiledTerm) (pairs : Pairs) (l r : ProfiledTerm) → head_sort left ≡ head_sort right
    → HaveOneSortPerNumber (bare left) (bare right) → IsSolving left right pairs l r → asked (disagreement l r) ≡ nothing_more
    → IsUnifiedBy left right pairs
solved_unified left right pairs l r heads single is e = record {
  one_sort = heads;
  general = record {
    unifies =
        sym (left_bare is)
        ∙ agreed_same (OccursInEither (bare left) (bare right)) single l r (λ n s o. (left_is_left is n s o).0)
        (λ n s o. (right_is_left is n s o).0) (asked_nothing (disagreement l r) e)
        ∙ right_bare is;
    general = λ others same. (others, λ n s o. is.absorbed others same n s o);
  };
  keeps = record {
    others_stay = λ n s none.
        sym (binding_bare pairs n s)
        ∙ ap bare (stays n s none (binding_either pairs n s));
    inside = λ n s m q o p. is.inside n s m q o p;
  };
  sorts = is.sorts;
  solved = λ n m s u v one two o. pair_number pairs n u one
      (is.solved m (head_sort v) n s (is.sorts m v two)
      (subst (λ (w : Term). Occurs n s w)
      (sym (ap bare (value_of_pair is m v two (head_sort v))) ∙ binding_bare pairs m (head_sort v)) o));
  of_signature = λ signature n u one two at. is.of_signature signature one two n u at;
}
  where
    stays : (n s : ℕ) → ((q : ℕ) → OccursInEither (bare left) (bare right) n q → ⊥)
        → ((u : ProfiledTerm) × IsPair pairs n u × (profiled_binding pairs n s ≡ u)) ⊎ (profiled_binding pairs n s ≡ profiled_variable n s)
        → profiled_binding pairs n s ≡ profiled_variable n s
    stays n s none (inl (u, at, value)) = absurd (none (head_sort u) (is.sorts n u at))
    stays n s none (inr value) = value

-- where the step fails, terms of one signature have no unifier
pub failed_none : (left right : ProfiledTerm) (pairs : Pairs) (l r : ProfiledTerm) → HaveOneSortPerNumber (bare left) (bare right)
    → FitsProfiles l → FitsProfiles r → IsSolving left right pairs l r → asked (disagreement l r) ≡ given_up
    → (signature : Signature) → IsOf signature left → IsOf signature right → HasUnifier left right → ⊥
failed_none left right pairs l r single fits also is e signature one two unifier = go (asked_failed (disagreement l r) e)
  where
    go : (disagreement l r ≡ clashing)
        ⊎ ((n : ℕ) × (s : ℕ) × (t : ProfiledTerm) × (disagreement l r ≡ binds n s t) × (head_sort t ≡ s → ⊥)) → ⊥
    go (inl clash) =
        clashing_none (OccursInEither (bare left) (bare right)) single unifier.1.0 l r (λ n s o. (left_is_left is n s o).0)
        (λ n s o. (right_is_left is n s o).0) clash (left_unified is unifier.1.0 unifier.1.1)
    go (inr (n, s, t, d, differ)) =
        differ (bound_sort signature l r n s t d
        (subst (λ (w : ProfiledTerm). IsOf signature w) (sym is.is_left)
        (pairs_instance_of signature pairs left one (is.of_signature signature one two)))
        (subst (λ (w : ProfiledTerm). IsOf signature w) (sym is.is_right)
        (pairs_instance_of signature pairs right two (is.of_signature signature one two)))
        fits also is.heads)

-- a unifier with profiles is one without them
bare_unifier : (left right : ProfiledTerm) (values : ProfiledSubstitution)
    → profiled_instance values left ≡ profiled_instance values right → IsUnifier (bare left) (bare right) (λ n s. bare (values n s))
bare_unifier left right values same = sym (instance_bare values left) ∙ ap bare same ∙ instance_bare values right

-- where the step fails, there is no unifier that keeps sorts
pub failed_none_sorted : (left right : ProfiledTerm) (pairs : Pairs) (l r : ProfiledTerm)
    → HaveOneSortPerNumber (bare left) (bare right)
    → IsSolving left right pairs l r → asked (disagreement l r) ≡ given_up → HasSortedUnifier left right → ⊥
failed_none_sorted left right pairs l r single is e unifier = go (asked_failed (disagreement l r) e)
  where
    go : (disagreement l r ≡ clashing)
        ⊎ ((n : ℕ) × (s : ℕ) × (t : ProfiledTerm) × (disagreement l r ≡ binds n s t) × (head_sort t ≡ s → ⊥)) → ⊥
    go (inl clash) =
        clashing_none (OccursInEither (bare left) (bare right)) single (λ n s. bare (unifier.values n s)) l r
        (λ n s o. (left_is_left is n s o).0) (λ n s o. (right_is_left is n s o).0) clash
        (left_unified is (λ n s. bare (unifier.values n s)) (bare_unifier left right unifier.values unifier.makes_one))
    go (inr (n, s, t, d, differ)) =
        let step = step_of left right pairs l r n s t is d in
        differ (
        sym (instance_head unifier.values t (λ m q o. unifier.keeps_sorts m q (step.within m q o).0))
        ∙ sym (ap head_sort (bound_whole unifier.values l r n s t d (left_whole is unifier.values unifier.makes_one)))
        ∙ unifier.keeps_sorts n s step.occurs
        )

-- nor where two operations clash
pub clash_none : (left right : ProfiledTerm) → clashes left right ≡ true → HasUnifier left right → ⊥
clash_none left right e unifier = clashing_apart unifier.1.0 unifier.1.0 left right e unifier.1.1

pub clash_none_sorted : (left right : ProfiledTerm) → clashes left right ≡ true → HasSortedUnifier left right → ⊥
clash_none_sorted left right e unifier =
    clashing_apart (λ n s. bare (unifier.values n s)) (λ n s. bare (unifier.values n s)) left right e
    (bare_unifier left right unifier.values unifier.makes_one)

-- ---- The steps end

-- how many variables the given terms have
abbrev pub room : ProfiledTerm → ProfiledTerm → ℕ
room left right = length (variable_numbers (bare left) ++ variable_numbers (bare right))

pub pairs_fit : (left right : ProfiledTerm) (pairs : Pairs) (l r : ProfiledTerm) → IsSolving left right pairs l r
    → length pairs ≤ room left right
pairs_fit left right pairs l r is =
    let fits = distinct_fits (numbers_of pairs) (variable_numbers (bare left) ++ variable_numbers (bare right)) is.distinct
    (λ n at. listed n at) in
    let same = as_many pairs in
    omega (arith, fits, same)
  where
    as_many : (ps : Pairs) → length (numbers_of ps) ≡ length ps
    as_many [] = refl
    as_many (p ∷ ps) = ap (λ (k : ℕ). suc k) (as_many ps)

    pair_at : (n : ℕ) (ps : Pairs) → IsIn n (numbers_of ps) → (u : ProfiledTerm) × IsPair ps n u
    pair_at n [] at = absurd at
    pair_at n (p ∷ ps) (inl same) = (p.1, (0, λ i. Some (same i, p.1)))
    pair_at n (p ∷ ps) (inr at) = let found = pair_at n ps at in (found.0, (suc found.1.0, found.1.1))

    either : (n s : ℕ) → OccursInEither (bare left) (bare right) n s
        → IsIn n (variable_numbers (bare left) ++ variable_numbers (bare right))
    either n s (inl o) = in_left n (variable_numbers (bare left)) (variable_numbers (bare right)) (occurs_numbered n s (bare left) o)
    either n s (inr o) = in_right n (variable_numbers (bare left)) (variable_numbers (bare right)) (occurs_numbered n s (bare right) o)

    listed : (n : ℕ) → IsIn n (numbers_of pairs) → IsIn n (variable_numbers (bare left) ++ variable_numbers (bare right))
    listed n at = let found = pair_at n pairs at in either n (head_sort found.0) (is.sorts n found.0 found.1)

pub bound_more : (n : ℕ) (t : ProfiledTerm) (pairs : Pairs) → length (bound_pairs n t pairs) ≡ suc (length pairs)
bound_more n t [] = refl
bound_more n t (pair ∷ pairs) = ap (λ (k : ℕ). suc k) (bound_more n t pairs)

-- so each step leaves less room
pub room_shrinks : (left right : ProfiledTerm) (pairs : Pairs) (l r : ProfiledTerm) (n : ℕ) (t : ProfiledTerm)
    → HaveOneSortPerNumber (bare left) (bare right) → IsSolving left right pairs l r → asked (disagreement l r) ≡ put_for n t
    → room left right - length (bound_pairs n t pairs) < room left right - length pairs
room_shrinks left right pairs l r n t single is e =
    let fits = pairs_fit left right (bound_pairs n t pairs) (profiled_instance (one_binding n t) l) (profiled_instance (one_binding n t) r)
    (solving_bound left right pairs l r n t single is e) in
    let more = bound_more n t pairs in
    omega (arith, fits, more)

-- what is kept, of what the code has after a step
pub solving_moved : (left right : ProfiledTerm) (pairs others : Pairs) (l r m q : ProfiledTerm) → others ≡ pairs → m ≡ l → q ≡ r
    → IsSolving left right pairs l r → IsSolving left right others m q
solving_moved left right pairs others l r m q one two three is =
    subst (λ (ps : Pairs). IsSolving left right ps m q) (sym one)
    (subst (λ (w : ProfiledTerm). IsSolving left right pairs w q) (sym two)
    (subst (λ (w : ProfiledTerm). IsSolving left right pairs l w) (sym three) is))

-- a pair of the code is a pair
pub pair_of_code : (xs : List (ℕ × Sorted)) (i : ℕ) (pair : ℕ × Sorted) → slice_get xs i ≡ Some pair
    → IsPair (profiled_pairs xs) pair.0 (profiled_in pair.1)
pair_of_code [] i pair e = let none : None ≡ Some pair = e in cc
pair_of_code (x ∷ xs) zero pair e = (0, ap (λ (p : ℕ × Sorted). Some (p.0, profiled_in p.1)) (same_Some x pair e))
pair_of_code (x ∷ xs) (suc i) pair e = let rest = pair_of_code xs i pair e in (suc rest.0, rest.1)
