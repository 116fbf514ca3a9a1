-- The lists of callers, made process by process.
use Rattle.std.proofs.Common.{◌≡◌, ◌≢◌, ◌<◌, ◌≤◌, ◌⊎◌, inl, inr, ℕ, zero, suc, ◌+◌, List, [], ◌∷◌, ◌++◌, length, length-set, slice_get, Some, refl, ap, sym, ◌∙◌, subst, arith}
use Rattle.std.proofs.lemmas.List.{get_or-set_same, get_or-set_other}
use Rattle.std.proofs.lemmas.Option.{same_Some, none-some}
use Rattle.lotos_base.proofs.Members.{at_front}
use Rattle.process_checks.specs.Graph.{calls_at}
use Rattle.process_checks.specs.Ways.{AreCallers, Calls, IsListed}
use Rattle.process_checks.specs.Distances.{with_caller, with_calls}
use Rattle.process_checks.proofs.ListLemmas.{same_or_other, in_longer, stands_last}

-- One caller more.
long_with_caller : (caller process : ℕ) (callers : List (List ℕ)) → length (with_caller caller process callers) ≡ length callers
long_with_caller caller process callers = length-set callers process (calls_at callers process ++ caller ∷ [])

there_then : (caller process other x : ℕ) (callers : List (List ℕ)) → Calls callers other x
    → Calls (with_caller caller process callers) other x
there_then caller process other x callers calls = by (same_or_other other process)
  where
    within : other < length callers
    within = below callers other calls
      where
        below : (lists : List (List ℕ)) (i : ℕ) → Calls lists i x → i < length lists
        below [] i c = absurd (none-some x c.1)
        below (l ∷ lists) zero c = omega arith
        below (l ∷ lists) (suc i) c = let h : i < length lists = below lists i c in omega arith

    by : (other ≡ process) ⊎ (other ≢ process) → Calls (with_caller caller process callers) other x
    by (inl same) =
        let e : calls_at (with_caller caller process callers) process ≡ calls_at callers process ++ caller ∷ [] =
        get_or-set_same callers process (calls_at callers process ++ caller ∷ []) []
        (subst (λ (n : ℕ). n < length callers) same within) in (
          calls.0,
          ap (λ (n : ℕ). slice_get (calls_at (with_caller caller process callers) n) calls.0) same
              ∙ ap (λ (ns : List ℕ). slice_get ns calls.0) e
              ∙ at_front (calls_at callers process) (caller ∷ []) calls.0 x
              (ap (λ (n : ℕ). slice_get (calls_at callers n) calls.0) (sym same) ∙ calls.1),
        )
    by (inr apart) = (
      calls.0,
      ap (λ (ns : List ℕ). slice_get ns calls.0)
          (get_or-set_other callers process other (calls_at callers process ++ caller ∷ []) [] apart) ∙ calls.1,
    )

put_then : (caller process : ℕ) (callers : List (List ℕ)) → process < length callers
    → Calls (with_caller caller process callers) process caller
put_then caller process callers there = (
  length (calls_at callers process),
  ap (λ (ns : List ℕ). slice_get ns (length (calls_at callers process)))
      (get_or-set_same callers process (calls_at callers process ++ caller ∷ []) [] there)
      ∙ stands_last (calls_at callers process) caller,
)

only_then : (caller process other x : ℕ) (callers : List (List ℕ)) → other < length callers
    → Calls (with_caller caller process callers) other x
    → (Calls callers other x) ⊎ ((other ≡ process) × (x ≡ caller))
only_then caller process other x callers there calls = by (same_or_other other process)
  where
    found : other ≡ process
        → (slice_get (calls_at callers process) calls.0 ≡ Some x) ⊎ ((calls.0 ≡ length (calls_at callers process)) × (caller ≡ x))
        → (Calls callers other x) ⊎ ((other ≡ process) × (x ≡ caller))
    found same (inl at) = inl (calls.0, ap (λ (n : ℕ). slice_get (calls_at callers n) calls.0) same ∙ at)
    found same (inr last) = inr (same, sym last.1)

    by : (other ≡ process) ⊎ (other ≢ process) → (Calls callers other x) ⊎ ((other ≡ process) × (x ≡ caller))
    by (inl same) =
        let e : calls_at (with_caller caller process callers) process ≡ calls_at callers process ++ caller ∷ [] =
        get_or-set_same callers process (calls_at callers process ++ caller ∷ []) []
        (subst (λ (n : ℕ). n < length callers) same there) in
        found same
        (in_longer (calls_at callers process) caller calls.0 x
        (ap (λ (ns : List ℕ). slice_get ns calls.0) (sym e)
        ∙ ap (λ (n : ℕ). slice_get (calls_at (with_caller caller process callers) n) calls.0) (sym same)
        ∙ calls.1))
    by (inr apart) =
        inl (
          calls.0,
          ap (λ (ns : List ℕ). slice_get ns calls.0)
              (sym (get_or-set_other callers process other (calls_at callers process ++ caller ∷ []) [] apart)) ∙ calls.1,
        )

-- With all calls of a body.
long_with_calls : (caller : ℕ) (called : List ℕ) (callers : List (List ℕ)) → length (with_calls caller called callers) ≡ length callers
long_with_calls caller [] callers = refl
long_with_calls caller (p ∷ called) callers =
    long_with_calls caller called (with_caller caller p callers) ∙ long_with_caller caller p callers

there_still : (caller : ℕ) (called : List ℕ) (other x : ℕ) (callers : List (List ℕ)) → Calls callers other x
    → Calls (with_calls caller called callers) other x
there_still caller [] other x callers calls = calls
there_still caller (p ∷ called) other x callers calls =
    there_still caller called other x (with_caller caller p callers) (there_then caller p other x callers calls)

put_all : (caller : ℕ) (called : List ℕ) (other : ℕ) (callers : List (List ℕ)) → other < length callers → (k : ℕ)
    → slice_get called k ≡ Some other → Calls (with_calls caller called callers) other caller
put_all caller [] other callers there k at = absurd (none-some other at)
put_all caller (p ∷ called) other callers there zero at =
    there_still caller called other caller (with_caller caller p callers)
    (subst (λ (n : ℕ). Calls (with_caller caller p callers) n caller) (same_Some p other at)
    (put_then caller p callers (subst (λ (n : ℕ). n < length callers) (sym (same_Some p other at)) there)))
put_all caller (p ∷ called) other callers there (suc k) at =
    put_all caller called other (with_caller caller p callers)
    (let e : length (with_caller caller p callers) ≡ length callers = long_with_caller caller p callers in omega (arith, e, there)) k at

only_these : (caller : ℕ) (called : List ℕ) (other x : ℕ) (callers : List (List ℕ)) → other < length callers
    → Calls (with_calls caller called callers) other x → (Calls callers other x) ⊎ (IsListed called other × (x ≡ caller))
only_these caller [] other x callers there calls = inl calls
only_these caller (p ∷ called) other x callers there calls =
    by (only_these caller called other x (with_caller caller p callers) longer calls)
  where
    longer : other < length (with_caller caller p callers)
    longer = let e : length (with_caller caller p callers) ≡ length callers = long_with_caller caller p callers in omega (arith, e, there)

    first : (Calls callers other x) ⊎ ((other ≡ p) × (x ≡ caller)) → (Calls callers other x) ⊎ (IsListed (p ∷ called) other × (x ≡ caller))
    first (inl old) = inl old
    first (inr new) = inr ((0, ap (λ (n : ℕ). Some n) (sym new.0)), new.1)

    by : (Calls (with_caller caller p callers) other x) ⊎ (IsListed called other × (x ≡ caller))
        → (Calls callers other x) ⊎ (IsListed (p ∷ called) other × (x ≡ caller))
    by (inl old) = first (only_then caller p other x callers there old)
    by (inr new) = inr ((suc new.0.0, new.0.1), new.1)

-- What is kept while the processes below a number are done.
pub record AreCallersBelow (graph callers : List (List ℕ)) (done : ℕ) : Type 0 where
  pub sized : length callers ≡ length graph
  pub only : (process other : ℕ) → process < length graph → Calls callers process other → Calls graph other process
  pub all_ : (process other : ℕ) → process < length graph → other < done → Calls graph other process → Calls callers process other

pub one_more : (graph callers : List (List ℕ)) (done : ℕ) → AreCallersBelow graph callers done
    → AreCallersBelow graph (with_calls done (calls_at graph done) callers) (done + 1)
one_more graph callers done h = record {
  sized = long_with_calls done (calls_at graph done) callers ∙ h.sized;
  only = only_now;
  all_ = all_now;
}
  where
    sized_there : (p : ℕ) → p < length graph → p < length callers
    sized_there p there = let e : length callers ≡ length graph = h.sized in omega (arith, e, there)

    only_now : (p q : ℕ) → p < length graph → Calls (with_calls done (calls_at graph done) callers) p q → Calls graph q p
    only_now p q there calls = by (only_these done (calls_at graph done) p q callers (sized_there p there) calls)
      where
        by : (Calls callers p q) ⊎ (IsListed (calls_at graph done) p × (q ≡ done)) → Calls graph q p
        by (inl old) = h.only p q there old
        by (inr new) = subst (λ (n : ℕ). Calls graph n p) (sym new.1) new.0

    all_now : (p q : ℕ) → p < length graph → q < done + 1 → Calls graph q p → Calls (with_calls done (calls_at graph done) callers) p q
    all_now p q there lt calls = by (same_or_other q done)
      where
        by : (q ≡ done) ⊎ (q ≢ done) → Calls (with_calls done (calls_at graph done) callers) p q
        by (inl same) =
            let at : Calls graph done p = subst (λ (n : ℕ). Calls graph n p) same calls in
            subst (λ (n : ℕ). Calls (with_calls done (calls_at graph done) callers) p n) (sym same)
            (put_all done (calls_at graph done) p callers (sized_there p there) at.0 at.1)
        by (inr apart) =
            there_still done (calls_at graph done) p q callers (h.all_ p q there (omega (arith, lt, apart)) calls)

pub all_callers : (graph callers : List (List ℕ)) (done : ℕ) → length graph ≤ done → ((p q : ℕ) → Calls graph p q → p < length graph)
    → AreCallersBelow graph callers done → AreCallers graph callers
all_callers graph callers done all_done within h p q there = (
  (λ calls. h.only p q there calls),
  (λ calls. let lt : q < length graph = within q p calls in h.all_ p q there (omega (arith, lt, all_done)) calls),
)
