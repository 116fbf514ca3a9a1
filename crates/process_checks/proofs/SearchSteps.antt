-- The steps of the walk that gives ranks, as the code takes them.
use Rattle.std.proofs.Common.{◌≡◌, ◌≢◌, ◌<◌, ◌≤◌, ◌⊎◌, inl, inr, ℕ, suc, ◌+◌, List, [], ◌∷◌, ◌++◌, set, map, replicate, length, length-append, slice_get, Some, refl, ap, sym, ◌∙◌, subst, arith}
use Rattle.std.proofs.lemmas.Option.{none-some, slice_get_within}
use Rattle.std.proofs.lemmas.Bool.{cases_lt}
use Rattle.process_checks.specs.Graph.{IsCallAt}
use Rattle.process_checks.specs.Ways.{CallsHaveCycle, RanksOf}
use Rattle.process_checks.specs.Search.{status_at, IsRanked, new_ones, position_of, rank_of, CallsReach, IsSearch, IsLatest, IsPending, IsSoundSearch, left_in, AreKept, IsStep}
use Rattle.process_checks.specs.declared.search.Pending.{Pending}
use Rattle.process_checks.specs.declared.search.Search.{Search}
use Rattle.process_checks.specs.declared.search.Status.{Status}
use Rattle.process_checks.specs.declared.search.Status.TheVariants as status
use Rattle.process_checks.proofs.ListLemmas.{same_or_other, stands_last}
use Rattle.process_checks.proofs.WayLemmas.{reaches_further}
use Rattle.process_checks.proofs.SearchLemmas.{begun_search, ranks_fall, entered, saved, closed, open_call, set_here, set_there, open_not_new, ranked_not_new, new_not_open, new_not_ranked, unranked_within, one_less_new, as_many_new}

-- The latest process of a chain is open.
latest_open : (graph : List (List ℕ)) (statuses : List Status) (rest : List ℕ) (next p : ℕ)
    → IsSearch graph statuses (rest ++ p ∷ []) next → (position : ℕ) × (status_at statuses p ≡ status.Open position)
latest_open graph statuses rest next p s = s.opened (length rest) p (stands_last rest p)

-- A call of a process that is not new and has no rank makes a cycle.
pub cycle_found : (graph : List (List ℕ)) (statuses : List Status) (chain : List ℕ) (next p k q : ℕ) → IsSearch graph statuses chain next
    → IsLatest chain p → IsCallAt graph p k q → (IsRanked statuses q → ⊥) → (status_at statuses q ≡ status.New → ⊥) → CallsHaveCycle graph
cycle_found graph statuses chain next p k q s latest calls unranked known = by (status_at statuses q) refl
  where
    here : IsSearch graph statuses (latest.0 ++ p ∷ []) next
    here = subst (λ (ns : List ℕ). IsSearch graph statuses ns next) latest.1 s

    by : (t : Status) → status_at statuses q ≡ t → CallsHaveCycle graph
    by status.New is = absurd (known is)
    by (status.Ranked r) is = absurd (unranked (r, is))
    by (status.Open j) is = open_call graph statuses latest.0 next p q j here (k, calls) is

-- What is put for a process that is not new is no new one, so new ones were new before.
kept_put : (statuses : List Status) (p : ℕ) (put : Status) → put ≢ status.New → p < length statuses → AreKept statuses (set statuses p put)
kept_put statuses p put other there q is = by (same_or_other q p)
  where
    by : (q ≡ p) ⊎ (q ≢ p) → status_at statuses q ≡ status.New
    by (inl same) =
        absurd (other (sym (set_here statuses p put there) ∙ ap (λ (n : ℕ). status_at (set statuses p put) n) (sym same) ∙ is))
    by (inr apart) = sym (set_there statuses p q put apart) ∙ is

-- The statuses as a call is followed: the caller at the position of the call, then the called process open.
abbrev pub at_call : List Status → ℕ → Pending → List Status
at_call statuses p found = set statuses p (status.Open found.position)

abbrev pub after_call : List Status → ℕ → Pending → List Status
after_call statuses p found = set (at_call statuses p found) found.process (status.Open 0)

-- A step that follows a call.
pub followed : (graph : List (List ℕ)) (before after : Search) (p : ℕ) (found : Pending) → IsSoundSearch graph before
    → IsLatest before.chain.items p
    → IsPending graph before.statuses.items p (position_of (status_at before.statuses.items p)) found
    → status_at before.statuses.items found.process ≡ status.New
    → after.statuses.items ≡ set (set before.statuses.items p (status.Open found.position)) found.process (status.Open 0)
    → after.chain.items ≡ before.chain.items ++ found.process ∷ [] → after.next ≡ before.next
    → IsStep graph before after × (left_in after < left_in before)
followed graph before after p found s latest pending new statuses_are chain_is next_is = (record { sound = sound_; kept = kept_ }, less)
  where
    here : IsSearch graph before.statuses.items (latest.0 ++ p ∷ []) before.next
    here = subst (λ (ns : List ℕ). IsSearch graph before.statuses.items ns before.next) latest.1 s

    open_ : (position : ℕ) × (status_at before.statuses.items p ≡ status.Open position)
    open_ = latest_open graph before.statuses.items latest.0 before.next p here

    settled_before : (j other : ℕ) → open_.0 ≤ j → j < found.position → IsCallAt graph p j other → IsRanked before.statuses.items other
    settled_before j other le lt at =
        pending.first j other (subst (λ (n : ℕ). n ≤ j) (sym (ap position_of open_.1)) le) lt at

    middle : IsSearch graph (at_call before.statuses.items p found) before.chain.items before.next
    middle =
        saved graph before.statuses.items before.chain.items before.next p open_.0 found.position s open_.1 settled_before

    apart_ : found.process ≢ p
    apart_ same = new_not_open open_.0 (sym new ∙ ap (λ (n : ℕ). status_at before.statuses.items n) same ∙ open_.1)

    still_new : status_at (at_call before.statuses.items p found) found.process ≡ status.New
    still_new = set_there before.statuses.items p found.process (status.Open found.position) apart_ ∙ new

    last_at : slice_get before.chain.items (length latest.0) ≡ Some p
    last_at = ap (λ (ns : List ℕ). slice_get ns (length latest.0)) latest.1 ∙ stands_last latest.0 p

    leads_on : (i q : ℕ) → slice_get before.chain.items i ≡ Some q → CallsReach graph q found.process
    leads_on i q at =
        reaches_further graph q p found.process
        (s.linked i (length latest.0) q p (before_last i q at) at last_at) (found.position, pending.calls)
      where
        before_last : (i q : ℕ) → slice_get before.chain.items i ≡ Some q → i ≤ length latest.0
        before_last i q at =
            let w : i < length (latest.0 ++ p ∷ []) =
            slice_get_within (latest.0 ++ p ∷ []) i q (ap (λ (ns : List ℕ). slice_get ns i) (sym latest.1) ∙ at) in
            let longer : length (latest.0 ++ p ∷ []) ≡ length latest.0 + 1 = length-append latest.0 (p ∷ []) in
            omega (arith, w, longer)

    sound_ : IsSoundSearch graph after
    sound_ =
        subst (λ (ss : List Status). IsSearch graph ss after.chain.items after.next) (sym statuses_are)
        (subst (λ (ns : List ℕ). IsSearch graph (after_call before.statuses.items p found) ns after.next) (sym chain_is)
        (subst (λ (n : ℕ). IsSearch graph (after_call before.statuses.items p found) (before.chain.items ++ found.process ∷ []) n)
        (sym next_is)
        (entered graph (at_call before.statuses.items p found) before.chain.items before.next found.process middle still_new
        leads_on)))

    p_there : p < length before.statuses.items
    p_there = unranked_within before.statuses.items p (status.Open open_.0) open_.1 (λ e. absurd (cc e))

    q_there : found.process < length (at_call before.statuses.items p found)
    q_there =
        unranked_within (at_call before.statuses.items p found) found.process status.New still_new (new_not_ranked 0)

    kept_ : AreKept before.statuses.items after.statuses.items
    kept_ q is =
        kept_put before.statuses.items p (status.Open found.position) (open_not_new found.position) p_there q
        (kept_put (at_call before.statuses.items p found) found.process (status.Open 0) (open_not_new 0) q_there q
        (ap (λ (ss : List Status). status_at ss q) (sym statuses_are) ∙ is))

    less : left_in after < left_in before
    less =
        let counted : new_ones after.statuses.items ≡ new_ones (after_call before.statuses.items p found) =
        ap new_ones statuses_are in
        let fewer : suc (new_ones (after_call before.statuses.items p found)) ≡ new_ones (at_call before.statuses.items p found) =
        one_less_new (at_call before.statuses.items p found) found.process 0 still_new in
        let same : new_ones (at_call before.statuses.items p found) ≡ new_ones before.statuses.items =
        as_many_new before.statuses.items p open_.0 (status.Open found.position) open_.1 tt in
        let longer : length after.chain.items ≡ length before.chain.items + 1 =
        ap (λ (ns : List ℕ). length ns) chain_is ∙ length-append before.chain.items (found.process ∷ []) in
        omega (arith, counted, fewer, same, longer)

-- A step that gives a rank.
pub ranked : (graph : List (List ℕ)) (before after : Search) (p : ℕ) → IsSoundSearch graph before → IsLatest before.chain.items p
    →
    ((k other : ℕ) → position_of (status_at before.statuses.items p) ≤ k → IsCallAt graph p k other → IsRanked before.statuses.items other)
    → after.statuses.items ≡ set before.statuses.items p (status.Ranked before.next)
    → before.chain.items ≡ after.chain.items ++ p ∷ [] → after.next ≡ before.next + 1
    → IsStep graph before after × (left_in after < left_in before)
ranked graph before after p s latest settled_from statuses_are chain_was next_is = (record { sound = sound_; kept = kept_ }, less)
  where
    here : IsSearch graph before.statuses.items (after.chain.items ++ p ∷ []) before.next
    here = subst (λ (ns : List ℕ). IsSearch graph before.statuses.items ns before.next) chain_was s

    open_ : (position : ℕ) × (status_at before.statuses.items p ≡ status.Open position)
    open_ = latest_open graph before.statuses.items after.chain.items before.next p here

    all_settled : (j other : ℕ) → IsCallAt graph p j other → IsRanked before.statuses.items other
    all_settled j other at = by (cases_lt j open_.0)
      where
        by : (j < open_.0) ⊎ (open_.0 ≤ j) → IsRanked before.statuses.items other
        by (inl early) = s.settled p open_.0 j other open_.1 early at
        by (inr late) = settled_from j other (subst (λ (n : ℕ). n ≤ j) (sym (ap position_of open_.1)) late) at

    sound_ : IsSoundSearch graph after
    sound_ =
        subst (λ (ss : List Status). IsSearch graph ss after.chain.items after.next) (sym statuses_are)
        (subst (λ (n : ℕ). IsSearch graph (set before.statuses.items p (status.Ranked before.next)) after.chain.items n) (sym next_is)
        (closed graph before.statuses.items after.chain.items before.next p open_.0 here open_.1 all_settled))

    p_there : p < length before.statuses.items
    p_there = unranked_within before.statuses.items p (status.Open open_.0) open_.1 (λ e. absurd (cc e))

    kept_ : AreKept before.statuses.items after.statuses.items
    kept_ q is =
        kept_put before.statuses.items p (status.Ranked before.next) (ranked_not_new before.next) p_there q
        (ap (λ (ss : List Status). status_at ss q) (sym statuses_are) ∙ is)

    less : left_in after < left_in before
    less =
        let counted : new_ones after.statuses.items ≡ new_ones (set before.statuses.items p (status.Ranked before.next)) =
        ap new_ones statuses_are in
        let same : new_ones (set before.statuses.items p (status.Ranked before.next)) ≡ new_ones before.statuses.items =
        as_many_new before.statuses.items p open_.0 (status.Ranked before.next) open_.1 tt in
        let longer : length before.chain.items ≡ length after.chain.items + 1 =
        ap (λ (ns : List ℕ). length ns) chain_was ∙ length-append after.chain.items (p ∷ []) in
        omega (arith, counted, same, longer)

-- A process comes onto an empty chain.
pub begun_from : (graph : List (List ℕ)) (before after : Search) (root : ℕ) → IsSoundSearch graph before → before.chain.items ≡ []
    → status_at before.statuses.items root ≡ status.New
    → after.statuses.items ≡ set before.statuses.items root (status.Open 0) → after.chain.items ≡ before.chain.items ++ root ∷ []
    → after.next ≡ before.next → IsSoundSearch graph after
begun_from graph before after root s empty new statuses_are chain_is next_is =
    subst (λ (ss : List Status). IsSearch graph ss after.chain.items after.next) (sym statuses_are)
    (subst (λ (ns : List ℕ). IsSearch graph (set before.statuses.items root (status.Open 0)) ns after.next) (sym chain_is)
    (subst (λ (n : ℕ). IsSearch graph (set before.statuses.items root (status.Open 0)) (before.chain.items ++ root ∷ []) n) (sym next_is)
    (entered graph before.statuses.items before.chain.items before.next root s new
    (λ i p at. absurd (none-some p (ap (λ (ns : List ℕ). slice_get ns i) (sym empty) ∙ at))))))

-- The walk over no process yet, as the code makes it.
pub begun_made : (graph : List (List ℕ)) (search : Search) (n : ℕ) → n ≡ length graph → search.statuses.items ≡ replicate n status.New
    → search.chain.items ≡ [] → search.next ≡ 1 → IsSoundSearch graph search
begun_made graph search n long statuses_are chain_is next_is =
    subst (λ (ss : List Status). IsSearch graph ss search.chain.items search.next)
    (sym (statuses_are ∙ ap (λ (k : ℕ). replicate k status.New) long))
    (subst (λ (ns : List ℕ). IsSearch graph (replicate (length graph) status.New) ns search.next) (sym chain_is)
    (subst (λ (k : ℕ). IsSearch graph (replicate (length graph) status.New) [] k) (sym next_is) (begun_search graph)))

-- The ranks at the end.
pub ranks_made : (graph : List (List ℕ)) (search : Search) (made : List ℕ) (root : ℕ) → IsSoundSearch graph search → search.chain.items ≡ []
    → ((p : ℕ) → p < root → status_at search.statuses.items p ≡ status.New → ⊥) → length graph ≤ root
    → made ≡ map rank_of search.statuses.items → RanksOf graph made
ranks_made graph search made root s empty known all_done is =
    subst (λ (ns : List ℕ). RanksOf graph ns) (sym is)
    (ranks_fall graph search.statuses.items search.next
    (subst (λ (ns : List ℕ). IsSearch graph search.statuses.items ns search.next) empty s)
    (λ p there. known p (omega (arith, there, all_done))))
