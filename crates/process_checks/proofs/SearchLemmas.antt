-- The steps of the walk that gives ranks keep what is known.
use Rattle.std.proofs.Common.{◌≡◌, ◌≢◌, ◌<◌, ◌≤◌, ◌⊎◌, inl, inr, ℕ, zero, suc, ◌+◌, List, [], ◌∷◌, ◌++◌, set, replicate, map, length, length-append, length-set, get_or, slice_get, Some, refl, ap, sym, ◌∙◌, subst, arith}
use Rattle.std.proofs.lemmas.List.{get_or-set_same, get_or-set_other, get_or-replicate, get_or_past, length-replicate, length-map}
use Rattle.std.proofs.lemmas.Option.{none-some, slice_get_within}
use Rattle.std.proofs.lemmas.Bool.{cases_lt}
use Rattle.lotos_base.proofs.Members.{at_front}
use Rattle.process_checks.specs.Graph.{IsCallAt}
use Rattle.process_checks.specs.Ways.{Calls, IsListed, CallsHaveCycle, RanksOf}
use Rattle.process_checks.specs.Search.{status_at, IsRanked, new_ones, rank_of, CallsReach, IsSearch}
use Rattle.process_checks.specs.declared.search.Status.{Status}
use Rattle.process_checks.specs.declared.search.Status.TheVariants as status
use Rattle.process_checks.proofs.ListLemmas.{same_or_other, within, in_longer, stands_last}
use Rattle.process_checks.proofs.WayLemmas.{way_further, calls_within}

-- The statuses after one is set.
pub set_here : (statuses : List Status) (p : ℕ) (s : Status) → p < length statuses → status_at (set statuses p s) p ≡ s
set_here statuses p s there = get_or-set_same statuses p s (status.Ranked 0) there

pub set_there : (statuses : List Status) (p q : ℕ) (s : Status) → q ≢ p → status_at (set statuses p s) q ≡ status_at statuses q
set_there statuses p q s other = get_or-set_other statuses p q s (status.Ranked 0) other

-- The walk over no process yet.
all_new : (n p : ℕ) → p < n → status_at (replicate n status.New) p ≡ status.New
all_new n p there = get_or-replicate n p status.New (status.Ranked 0) there

not_new : (n p : ℕ) → n ≤ p → status_at (replicate n status.New) p ≡ status.Ranked 0
not_new n p past = get_or_past (replicate n status.New) p (status.Ranked 0) (omega (arith, length-replicate n status.New))

all_new_ones : (n : ℕ) → new_ones (replicate n status.New) ≡ n
all_new_ones zero = refl
all_new_ones (suc n) = ap suc (all_new_ones n)

ranked_first : (n p rank : ℕ) → status_at (replicate n status.New) p ≡ status.Ranked rank → (n ≤ p) × (rank ≡ 0)
ranked_first n p rank is = by (cases_lt p n)
  where
    by : (p < n) ⊎ (n ≤ p) → (n ≤ p) × (rank ≡ 0)
    by (inl there) = let new : _ ≡ _ = all_new n p there in absurd (cc (new, is))
    by (inr past) = let old : _ ≡ _ = not_new n p past in (past, cc (old, is))

open_never : (n p position : ℕ) → status_at (replicate n status.New) p ≡ status.Open position → ⊥
open_never n p position is = by (cases_lt p n)
  where
    by : (p < n) ⊎ (n ≤ p) → ⊥
    by (inl there) = let new : _ ≡ _ = all_new n p there in absurd (cc (new, is))
    by (inr past) = let old : _ ≡ _ = not_new n p past in absurd (cc (old, is))

pub begun_search : (graph : List (List ℕ)) → IsSearch graph (replicate (length graph) status.New) [] 1
begun_search graph = record {
  positive = omega arith;
  sized = length-replicate (length graph) status.New;
  falls = λ p rank other is calls.
      let past : length graph ≤ p = (ranked_first (length graph) p rank is).0 in
      let there : p < length graph = calls_within graph p other calls in
      absurd (omega arith);
  below = λ p rank is. let e : rank ≡ 0 = (ranked_first (length graph) p rank is).1 in omega arith;
  settled = λ p position k other is before at. absurd (open_never (length graph) p position is);
  opened = λ i p at. absurd (none-some p at);
  waiting = λ p position is. absurd (open_never (length graph) p position is);
  distinct = λ i j p at_i at_j. absurd (none-some p at_i);
  linked = λ i j p other le at_i at_j. absurd (none-some p at_i);
  room = ap (λ (n : ℕ). 1 + n + 0) (all_new_ones (length graph)) ∙ omega arith;
}

-- A process that has no rank is of the graph.
pub unranked_within : (statuses : List Status) (p : ℕ) (s : Status) → status_at statuses p ≡ s → s ≢ status.Ranked 0
    → p < length statuses
unranked_within statuses p s is other = within statuses p s (status.Ranked 0) is (λ e. other (sym e))

-- Counting the new ones.
pub one_less_new : (statuses : List Status) (p position : ℕ) → status_at statuses p ≡ status.New
    → suc (new_ones (set statuses p (status.Open position))) ≡ new_ones statuses
one_less_new [] p position is = absurd (cc is)
one_less_new (status.New ∷ statuses) zero position is = refl
one_less_new (status.Open i ∷ statuses) zero position is = absurd (cc is)
one_less_new (status.Ranked r ∷ statuses) zero position is = absurd (cc is)
one_less_new (status.New ∷ statuses) (suc p) position is = ap suc (one_less_new statuses p position is)
one_less_new (status.Open i ∷ statuses) (suc p) position is = one_less_new statuses p position is
one_less_new (status.Ranked r ∷ statuses) (suc p) position is = one_less_new statuses p position is

-- What counts as no new one.
abbrev pub IsOld : Status → Type 0
IsOld status.New = ⊥
IsOld (status.Open position) = Unit {0}
IsOld (status.Ranked rank) = Unit {0}

pub as_many_new : (statuses : List Status) (p i : ℕ) (s : Status) → status_at statuses p ≡ status.Open i → IsOld s
    → new_ones (set statuses p s) ≡ new_ones statuses
as_many_new [] p i s is old = refl
as_many_new (status.New ∷ statuses) zero i s is old = absurd (cc is)
as_many_new (status.Open j ∷ statuses) zero i status.New is old = absurd old
as_many_new (status.Open j ∷ statuses) zero i (status.Open k) is old = refl
as_many_new (status.Open j ∷ statuses) zero i (status.Ranked r) is old = refl
as_many_new (status.Ranked r ∷ statuses) zero i s is old = absurd (cc is)
as_many_new (status.New ∷ statuses) (suc p) i s is old = ap suc (as_many_new statuses p i s is old)
as_many_new (status.Open j ∷ statuses) (suc p) i s is old = as_many_new statuses p i s is old
as_many_new (status.Ranked r ∷ statuses) (suc p) i s is old = as_many_new statuses p i s is old

pub ranked_not_new : (r : ℕ) → status.Ranked r ≢ status.New
ranked_not_new r e = absurd (cc e)

pub open_not_new : (i : ℕ) → status.Open i ≢ status.New
open_not_new i e = absurd (cc e)

pub new_not_ranked : (r : ℕ) → status.New ≢ status.Ranked r
new_not_ranked r e = absurd (cc e)

pub open_not_ranked : (i r : ℕ) → status.Open i ≢ status.Ranked r
open_not_ranked i r e = absurd (cc e)

pub ranked_not_open : (r i : ℕ) → status.Ranked r ≢ status.Open i
ranked_not_open r i e = absurd (cc e)

pub new_not_open : (i : ℕ) → status.New ≢ status.Open i
new_not_open i e = absurd (cc e)

-- What is known of the others stays.
pub forward : (statuses : List Status) (q p : ℕ) (old put s : Status) → status_at statuses q ≡ old → s ≢ old
    → status_at statuses p ≡ s → status_at (set statuses q put) p ≡ s
forward statuses q p old put s was other is = by (same_or_other p q)
  where
    by : (p ≡ q) ⊎ (p ≢ q) → status_at (set statuses q put) p ≡ s
    by (inl same) = absurd (other (sym is ∙ ap (λ (n : ℕ). status_at statuses n) same ∙ was))
    by (inr apart) = set_there statuses q p put apart ∙ is

pub backward : (statuses : List Status) (q p : ℕ) (put s : Status) → q < length statuses → s ≢ put
    → status_at (set statuses q put) p ≡ s → status_at statuses p ≡ s
backward statuses q p put s there other is = by (same_or_other p q)
  where
    by : (p ≡ q) ⊎ (p ≢ q) → status_at statuses p ≡ s
    by (inl same) =
        absurd (other (sym is ∙ ap (λ (n : ℕ). status_at (set statuses q put) n) same ∙ set_here statuses q put there))
    by (inr apart) = sym (set_there statuses q p put apart) ∙ is

-- A process comes onto the chain.
module _ (graph : List (List ℕ)) (statuses : List Status) (chain : List ℕ) (next q : ℕ) (s : IsSearch graph statuses chain next)
    (new : status_at statuses q ≡ status.New) (linked_to : (i p : ℕ) → slice_get chain i ≡ Some p → CallsReach graph p q) where
  abbrev after : List Status
  after = set statuses q (status.Open 0)

  there : q < length statuses
  there = unranked_within statuses q status.New new (new_not_ranked 0)

  ranked_still : (p r : ℕ) → status_at statuses p ≡ status.Ranked r → status_at after p ≡ status.Ranked r
  ranked_still p r is = forward statuses q p status.New (status.Open 0) (status.Ranked r) new (ranked_not_new r) is

  ranked_before : (p r : ℕ) → status_at after p ≡ status.Ranked r → status_at statuses p ≡ status.Ranked r
  ranked_before p r is = backward statuses q p (status.Open 0) (status.Ranked r) there (ranked_not_open r 0) is

  all_ranked_still : (p : ℕ) → IsRanked statuses p → IsRanked after p
  all_ranked_still p h = (h.0, ranked_still p h.0 h.1)

  falls_after : (p rank other : ℕ) → status_at after p ≡ status.Ranked rank → Calls graph p other
      → (lower : ℕ) × ((status_at after other ≡ status.Ranked lower) × (lower < rank))
  falls_after p rank other is calls =
      let h : (lower : ℕ) × ((status_at statuses other ≡ status.Ranked lower) × (lower < rank)) =
      s.falls p rank other (ranked_before p rank is) calls in
      (h.0, (ranked_still other h.0 h.1.0, h.1.1))

  settled_after : (p position k other : ℕ) → status_at after p ≡ status.Open position → k < position → IsCallAt graph p k other
      → IsRanked after other
  settled_after p position k other is before at = by (same_or_other p q)
    where
      by : (p ≡ q) ⊎ (p ≢ q) → IsRanked after other
      by (inl same) =
          let e : status_at after q ≡ status.Open 0 = set_here statuses q (status.Open 0) there in
          let f : status_at after q ≡ status.Open position = ap (λ (n : ℕ). status_at after n) (sym same) ∙ is in
          let z : position ≡ 0 = cc (e, f) in
          absurd (omega (arith, z, before))
      by (inr apart) =
          all_ranked_still other
          (s.settled p position k other (sym (set_there statuses q p (status.Open 0) apart) ∙ is) before at)

  opened_after : (i p : ℕ) → slice_get (chain ++ q ∷ []) i ≡ Some p → (position : ℕ) × (status_at after p ≡ status.Open position)
  opened_after i p at = by (in_longer chain q i p at)
    where
      by : (slice_get chain i ≡ Some p) ⊎ ((i ≡ length chain) × (q ≡ p)) → (position : ℕ) × (status_at after p ≡ status.Open position)
      by (inl earlier) =
          let h : (position : ℕ) × (status_at statuses p ≡ status.Open position) = s.opened i p earlier in
          (h.0, forward statuses q p status.New (status.Open 0) (status.Open h.0) new (open_not_new h.0) h.1)
      by (inr last) = (0, ap (λ (n : ℕ). status_at after n) (sym last.1) ∙ set_here statuses q (status.Open 0) there)

  waiting_after : (p position : ℕ) → status_at after p ≡ status.Open position → IsListed (chain ++ q ∷ []) p
  waiting_after p position is = by (same_or_other p q)
    where
      by : (p ≡ q) ⊎ (p ≢ q) → IsListed (chain ++ q ∷ []) p
      by (inl same) = (length chain, stands_last chain q ∙ ap (λ (n : ℕ). Some n) (sym same))
      by (inr apart) =
          let h : IsListed chain p = s.waiting p position (sym (set_there statuses q p (status.Open 0) apart) ∙ is) in
          (h.0, at_front chain (q ∷ []) h.0 p h.1)

  not_on_chain : (i : ℕ) → slice_get chain i ≡ Some q → ⊥
  not_on_chain i at =
      let h : (position : ℕ) × (status_at statuses q ≡ status.Open position) = s.opened i q at in
      new_not_open h.0 (sym new ∙ h.1)

  distinct_after : (i j p : ℕ) → slice_get (chain ++ q ∷ []) i ≡ Some p → slice_get (chain ++ q ∷ []) j ≡ Some p → i ≡ j
  distinct_after i j p at_i at_j = by (in_longer chain q i p at_i) (in_longer chain q j p at_j)
    where
      by : (slice_get chain i ≡ Some p) ⊎ ((i ≡ length chain) × (q ≡ p)) → (slice_get chain j ≡ Some p) ⊎ ((j ≡ length chain) × (q ≡ p))
          → i ≡ j
      by (inl a) (inl b) = s.distinct i j p a b
      by (inl a) (inr b) = absurd (not_on_chain i (a ∙ ap (λ (n : ℕ). Some n) (sym b.1)))
      by (inr a) (inl b) = absurd (not_on_chain j (b ∙ ap (λ (n : ℕ). Some n) (sym a.1)))
      by (inr a) (inr b) = a.0 ∙ sym b.0

  linked_after : (i j p other : ℕ) → i ≤ j → slice_get (chain ++ q ∷ []) i ≡ Some p → slice_get (chain ++ q ∷ []) j ≡ Some other
      → CallsReach graph p other
  linked_after i j p other le at_i at_j = by (in_longer chain q i p at_i) (in_longer chain q j other at_j)
    where
      by : (slice_get chain i ≡ Some p) ⊎ ((i ≡ length chain) × (q ≡ p))
          → (slice_get chain j ≡ Some other) ⊎ ((j ≡ length chain) × (q ≡ other)) → CallsReach graph p other
      by (inl a) (inl b) = s.linked i j p other le a b
      by (inl a) (inr b) = subst (λ (n : ℕ). CallsReach graph p n) b.1 (linked_to i p a)
      by (inr a) (inl b) =
          let w : j < length chain = slice_get_within chain j other b in
          absurd (omega (arith, a.0))
      by (inr a) (inr b) = (0, sym a.1 ∙ b.1)

  pub entered : IsSearch graph (set statuses q (status.Open 0)) (chain ++ q ∷ []) next
  entered = record {
    positive = s.positive;
    sized = length-set statuses q (status.Open 0) ∙ s.sized;
    falls = falls_after;
    below = λ p rank is. s.below p rank (ranked_before p rank is);
    settled = settled_after;
    opened = opened_after;
    waiting = waiting_after;
    distinct = distinct_after;
    linked = linked_after;
    room =
        let longer : length (chain ++ q ∷ []) ≡ length chain + 1 = length-append chain (q ∷ []) in
        let fewer : suc (new_ones (set statuses q (status.Open 0))) ≡ new_ones statuses = one_less_new statuses q 0 new in
        let before : next + new_ones statuses + length chain ≡ length graph + 1 = s.room in
        omega (arith, longer, fewer, before);
  }

-- An open process has a later position.
module _ (graph : List (List ℕ)) (statuses : List Status) (chain : List ℕ) (next p i k : ℕ) (s : IsSearch graph statuses chain next)
    (was : status_at statuses p ≡ status.Open i)
    (before_it : (j other : ℕ) → i ≤ j → j < k → IsCallAt graph p j other → IsRanked statuses other) where
  abbrev moved : List Status
  moved = set statuses p (status.Open k)

  in_place : p < length statuses
  in_place = unranked_within statuses p (status.Open i) was (open_not_ranked i 0)

  ranked_on : (q r : ℕ) → status_at statuses q ≡ status.Ranked r → status_at moved q ≡ status.Ranked r
  ranked_on q r is = forward statuses p q (status.Open i) (status.Open k) (status.Ranked r) was (ranked_not_open r i) is

  ranked_back : (q r : ℕ) → status_at moved q ≡ status.Ranked r → status_at statuses q ≡ status.Ranked r
  ranked_back q r is = backward statuses p q (status.Open k) (status.Ranked r) in_place (ranked_not_open r k) is

  falls_on : (q rank other : ℕ) → status_at moved q ≡ status.Ranked rank → Calls graph q other
      → (lower : ℕ) × ((status_at moved other ≡ status.Ranked lower) × (lower < rank))
  falls_on q rank other is calls =
      let h : (lower : ℕ) × ((status_at statuses other ≡ status.Ranked lower) × (lower < rank)) =
      s.falls q rank other (ranked_back q rank is) calls in
      (h.0, (ranked_on other h.0 h.1.0, h.1.1))

  earlier_or_not : (j : ℕ) → (j < i) ⊎ (i ≤ j)
  earlier_or_not j = cases_lt j i

  settled_on : (q position j other : ℕ) → status_at moved q ≡ status.Open position → j < position → IsCallAt graph q j other
      → IsRanked moved other
  settled_on q position j other is before at = by (same_or_other q p)
    where
      ranked_now : IsRanked statuses other → IsRanked moved other
      ranked_now h = (h.0, ranked_on other h.0 h.1)

      there_at : q ≡ p → IsCallAt graph p j other
      there_at same = subst (λ (n : ℕ). IsCallAt graph n j other) same at

      its_position : q ≡ p → position ≡ k
      its_position same =
          let e : status_at moved p ≡ status.Open k = set_here statuses p (status.Open k) in_place in
          let f : status_at moved p ≡ status.Open position = ap (λ (n : ℕ). status_at moved n) (sym same) ∙ is in
          cc (e, f)

      here : q ≡ p → (j < i) ⊎ (i ≤ j) → IsRanked moved other
      here same (inl early) = ranked_now (s.settled p i j other was early (there_at same))
      here same (inr late) =
          let z : position ≡ k = its_position same in
          ranked_now (before_it j other late (omega (arith, z, before)) (there_at same))

      by : (q ≡ p) ⊎ (q ≢ p) → IsRanked moved other
      by (inl same) = here same (earlier_or_not j)
      by (inr apart) = ranked_now (s.settled q position j other (sym (set_there statuses p q (status.Open k) apart) ∙ is) before at)

  opened_on : (j q : ℕ) → slice_get chain j ≡ Some q → (position : ℕ) × (status_at moved q ≡ status.Open position)
  opened_on j q at = by (same_or_other q p)
    where
      by : (q ≡ p) ⊎ (q ≢ p) → (position : ℕ) × (status_at moved q ≡ status.Open position)
      by (inl same) = (k, ap (λ (n : ℕ). status_at moved n) same ∙ set_here statuses p (status.Open k) in_place)
      by (inr apart) =
          let h : (position : ℕ) × (status_at statuses q ≡ status.Open position) = s.opened j q at in
          (h.0, set_there statuses p q (status.Open k) apart ∙ h.1)

  waiting_on : (q position : ℕ) → status_at moved q ≡ status.Open position → IsListed chain q
  waiting_on q position is = by (same_or_other q p)
    where
      by : (q ≡ p) ⊎ (q ≢ p) → IsListed chain q
      by (inl same) = subst (λ (n : ℕ). IsListed chain n) (sym same) (s.waiting p i was)
      by (inr apart) = s.waiting q position (sym (set_there statuses p q (status.Open k) apart) ∙ is)

  pub saved : IsSearch graph (set statuses p (status.Open k)) chain next
  saved = record {
    positive = s.positive;
    sized = length-set statuses p (status.Open k) ∙ s.sized;
    falls = falls_on;
    below = λ q rank is. s.below q rank (ranked_back q rank is);
    settled = settled_on;
    opened = opened_on;
    waiting = waiting_on;
    distinct = s.distinct;
    linked = s.linked;
    room =
        let same : new_ones (set statuses p (status.Open k)) ≡ new_ones statuses = as_many_new statuses p i (status.Open k) was tt in
        let before : next + new_ones statuses + length chain ≡ length graph + 1 = s.room in
        omega (arith, same, before);
  }

-- The latest process has its rank.
module _ (graph : List (List ℕ)) (statuses : List Status) (rest : List ℕ) (next p i : ℕ)
    (s : IsSearch graph statuses (rest ++ p ∷ []) next) (was : status_at statuses p ≡ status.Open i)
    (all_settled : (j other : ℕ) → IsCallAt graph p j other → IsRanked statuses other) where
  abbrev closed_ : List Status
  closed_ = set statuses p (status.Ranked next)

  at_p : p < length statuses
  at_p = unranked_within statuses p (status.Open i) was (open_not_ranked i 0)

  ranked_yet : (q r : ℕ) → status_at statuses q ≡ status.Ranked r → status_at closed_ q ≡ status.Ranked r
  ranked_yet q r is = forward statuses p q (status.Open i) (status.Ranked next) (status.Ranked r) was (ranked_not_open r i) is

  its_rank : (q rank : ℕ) → q ≡ p → status_at closed_ q ≡ status.Ranked rank → rank ≡ next
  its_rank q rank same is =
      let e : status_at closed_ p ≡ status.Ranked next = set_here statuses p (status.Ranked next) at_p in
      let f : status_at closed_ p ≡ status.Ranked rank = ap (λ (n : ℕ). status_at closed_ n) (sym same) ∙ is in
      cc (e, f)

  others : (q : ℕ) (t : Status) → q ≢ p → status_at closed_ q ≡ t → status_at statuses q ≡ t
  others q t apart is = sym (set_there statuses p q (status.Ranked next) apart) ∙ is

  falls_yet : (q rank other : ℕ) → status_at closed_ q ≡ status.Ranked rank → Calls graph q other
      → (lower : ℕ) × ((status_at closed_ other ≡ status.Ranked lower) × (lower < rank))
  falls_yet q rank other is calls = by (same_or_other q p)
    where
      by : (q ≡ p) ⊎ (q ≢ p) → (lower : ℕ) × ((status_at closed_ other ≡ status.Ranked lower) × (lower < rank))
      by (inl same) =
          let h : IsRanked statuses other = all_settled calls.0 other (subst (λ (n : ℕ). IsCallAt graph n calls.0 other) same calls.1) in
          let lower : h.0 < next = s.below other h.0 h.1 in
          let z : rank ≡ next = its_rank q rank same is in
          (h.0, (ranked_yet other h.0 h.1, omega (arith, lower, z)))
      by (inr apart) =
          let h : (lower : ℕ) × ((status_at statuses other ≡ status.Ranked lower) × (lower < rank)) =
          s.falls q rank other (others q (status.Ranked rank) apart is) calls in
          (h.0, (ranked_yet other h.0 h.1.0, h.1.1))

  below_yet : (q rank : ℕ) → status_at closed_ q ≡ status.Ranked rank → rank < next + 1
  below_yet q rank is = by (same_or_other q p)
    where
      by : (q ≡ p) ⊎ (q ≢ p) → rank < next + 1
      by (inl same) = let z : rank ≡ next = its_rank q rank same is in omega (arith, z)
      by (inr apart) = let h : rank < next = s.below q rank (others q (status.Ranked rank) apart is) in omega (arith, h)

  open_apart : (q position : ℕ) → status_at closed_ q ≡ status.Open position → q ≢ p
  open_apart q position is same =
      ranked_not_open next position
      (sym (set_here statuses p (status.Ranked next) at_p) ∙ ap (λ (n : ℕ). status_at closed_ n) (sym same) ∙ is)

  settled_yet : (q position j other : ℕ) → status_at closed_ q ≡ status.Open position → j < position → IsCallAt graph q j other
      → IsRanked closed_ other
  settled_yet q position j other is before at =
      let h : IsRanked statuses other =
      s.settled q position j other (others q (status.Open position) (open_apart q position is) is) before at in
      (h.0, ranked_yet other h.0 h.1)

  not_p : (j q : ℕ) → slice_get rest j ≡ Some q → q ≢ p
  not_p j q at same =
      let e : j ≡ length rest =
      s.distinct j (length rest) q (at_front rest (p ∷ []) j q at) (stands_last rest p ∙ ap (λ (n : ℕ). Some n) (sym same)) in
      let w : j < length rest = slice_get_within rest j q at in
      absurd (omega (arith, e, w))

  opened_yet : (j q : ℕ) → slice_get rest j ≡ Some q → (position : ℕ) × (status_at closed_ q ≡ status.Open position)
  opened_yet j q at =
      let h : (position : ℕ) × (status_at statuses q ≡ status.Open position) = s.opened j q (at_front rest (p ∷ []) j q at) in
      (h.0, set_there statuses p q (status.Ranked next) (not_p j q at) ∙ h.1)

  waiting_yet : (q position : ℕ) → status_at closed_ q ≡ status.Open position → IsListed rest q
  waiting_yet q position is =
      by (s.waiting q position (others q (status.Open position) (open_apart q position is) is))
    where
      found : (j : ℕ) → (slice_get rest j ≡ Some q) ⊎ ((j ≡ length rest) × (p ≡ q)) → IsListed rest q
      found j (inl at) = (j, at)
      found j (inr last) = absurd (open_apart q position is (sym last.1))

      by : IsListed (rest ++ p ∷ []) q → IsListed rest q
      by h = found h.0 (in_longer rest p h.0 q h.1)

  pub closed : IsSearch graph (set statuses p (status.Ranked next)) rest (next + 1)
  closed = record {
    positive = omega arith;
    sized = length-set statuses p (status.Ranked next) ∙ s.sized;
    falls = falls_yet;
    below = below_yet;
    settled = settled_yet;
    opened = opened_yet;
    waiting = waiting_yet;
    distinct = λ j k q at_j at_k. s.distinct j k q (at_front rest (p ∷ []) j q at_j) (at_front rest (p ∷ []) k q at_k);
    linked = λ j k q other le at_j at_k. s.linked j k q other le (at_front rest (p ∷ []) j q at_j) (at_front rest (p ∷ []) k other at_k);
    room =
        let longer : length (rest ++ p ∷ []) ≡ length rest + 1 = length-append rest (p ∷ []) in
        let same : new_ones (set statuses p (status.Ranked next)) ≡ new_ones statuses =
        as_many_new statuses p i (status.Ranked next) was tt in
        let before : next + new_ones statuses + length (rest ++ p ∷ []) ≡ length graph + 1 = s.room in
        omega (arith, longer, same, before);
  }

-- A call of an open process by the latest one makes a cycle.
pub open_call : (graph : List (List ℕ)) (statuses : List Status) (rest : List ℕ) (next p q j : ℕ)
    → IsSearch graph statuses (rest ++ p ∷ []) next → Calls graph p q → status_at statuses q ≡ status.Open j → CallsHaveCycle graph
open_call graph statuses rest next p q j s calls open_ =
    let h : IsListed (rest ++ p ∷ []) q = s.waiting q j open_ in
    let w : h.0 < length (rest ++ p ∷ []) = slice_get_within (rest ++ p ∷ []) h.0 q h.1 in
    let longer : length (rest ++ p ∷ []) ≡ length rest + 1 = length-append rest (p ∷ []) in
    let le : h.0 ≤ length rest = omega (arith, w, longer) in
    let way : CallsReach graph q p = s.linked h.0 (length rest) q p le h.1 (stands_last rest p) in
    (q, (way.0, way_further graph way.0 q p q way.1 calls))

-- Where nothing is open and all processes are known, all have ranks, and these fall.
known_ranked : (graph : List (List ℕ)) (statuses : List Status) (next p : ℕ) → IsSearch graph statuses [] next
    → (status_at statuses p ≡ status.New → ⊥) → IsRanked statuses p
known_ranked graph statuses next p s known = by (status_at statuses p) refl
  where
    by : (t : Status) → status_at statuses p ≡ t → IsRanked statuses p
    by status.New is = absurd (known is)
    by (status.Open position) is = absurd (none-some p (s.waiting p position is).1)
    by (status.Ranked rank) is = (rank, is)

rank_there : (statuses : List Status) (p : ℕ) → get_or (map rank_of statuses) p 0 ≡ rank_of (status_at statuses p)
rank_there [] p = refl
rank_there (t ∷ statuses) zero = refl
rank_there (t ∷ statuses) (suc p) = rank_there statuses p

pub ranks_fall : (graph : List (List ℕ)) (statuses : List Status) (next : ℕ) → IsSearch graph statuses [] next
    → ((p : ℕ) → p < length graph → status_at statuses p ≡ status.New → ⊥) → RanksOf graph (map rank_of statuses)
ranks_fall graph statuses next s known = record {
  covers = length-map statuses rank_of ∙ s.sized;
  fall = falling;
}
  where
    falling : (p q : ℕ) → Calls graph p q → get_or (map rank_of statuses) q 0 < get_or (map rank_of statuses) p 0
    falling p q calls =
        let h : IsRanked statuses p = known_ranked graph statuses next p s (known p (calls_within graph p q calls)) in
        let l : (lower : ℕ) × ((status_at statuses q ≡ status.Ranked lower) × (lower < h.0)) = s.falls p h.0 q h.1 calls in
        let e : get_or (map rank_of statuses) p 0 ≡ h.0 = rank_there statuses p ∙ ap rank_of h.1 in
        let f : get_or (map rank_of statuses) q 0 ≡ l.0 = rank_there statuses q ∙ ap rank_of l.1.0 in
        let lt : l.0 < h.0 = l.1.1 in
        omega (arith, e, f, lt)
