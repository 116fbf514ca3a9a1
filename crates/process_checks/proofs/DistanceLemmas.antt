-- The walk in breadth finds the distances.
use Rattle.std.proofs.Common.{◌≡◌, ◌≢◌, ◌<◌, ◌≤◌, ◌⊎◌, inl, inr, ℕ, zero, suc, ◌+◌, List, [], ◌∷◌, ◌++◌, set, length, length-set, length-append, slice_get, Option, None, Some, refl, ap, sym, ◌∙◌, subst, arith}
use Rattle.std.proofs.lemmas.List.{get_or-set_same, get_or-set_other, length-replicate}
use Rattle.std.proofs.lemmas.Option.{same_Some, none-some}
use Rattle.lotos_base.proofs.Members.{at_front}
use Rattle.process_checks.specs.Distances.{Reach, reach_of, marked, marked_by, marked_processes, callers_marked, far_ones, none_known}
use Rattle.process_checks.specs.Graph.{calls_at}
use Rattle.process_checks.specs.Ways.{AreCallers, AreDistances, Calls, IsListed, IsWay, distance_in}
use Rattle.process_checks.proofs.ListLemmas.{same_or_other, within, in_longer, stands_last}
use Rattle.process_checks.proofs.WayLemmas.{calls_within}

-- From one reach to a later one at a level: what is known at_front, what is new is of the level, has a way of this many calls,
-- and is listed.
pub record AreMore (graph : List (List ℕ)) (to level : ℕ) (before after : Reach) : Type 0 where
  pub sized : length after.distances ≡ length before.distances
  pub kept : (p n : ℕ) → distance_in before.distances p ≡ Some n → distance_in after.distances p ≡ Some n
  pub new :
      (p n : ℕ) → distance_in after.distances p ≡ Some n →
      (distance_in before.distances p ≡ Some n) ⊎ ((n ≡ level) × (IsWay graph p level to × IsListed after.level_listed p))
  pub still : (p : ℕ) → IsListed before.level_listed p → IsListed after.level_listed p
  pub near : (p : ℕ) → IsListed after.level_listed p → (IsListed before.level_listed p) ⊎ (distance_in after.distances p ≡ Some level)
  pub count :
      far_ones after.distances + length after.level_listed ≡ far_ones before.distances + length before.level_listed

-- The process has a distance.
abbrev pub Has : Reach → ℕ → Type 0
Has reach p = (n : ℕ) × (distance_in reach.distances p ≡ Some n)

module _ (graph : List (List ℕ)) (to level : ℕ) where
  pub more_refl : (r : Reach) → AreMore graph to level r r
  more_refl r = record {
    sized = refl;
    kept = λ p n h. h;
    new = λ p n h. inl h;
    still = λ p h. h;
    near = λ p h. inl h;
    count = refl;
  }

  pub more_trans : (r s t : Reach) → AreMore graph to level r s → AreMore graph to level s t → AreMore graph to level r t
  more_trans r s t f g = record {
    sized = g.sized ∙ f.sized;
    kept = λ p n h. g.kept p n (f.kept p n h);
    new = new_then;
    still = λ p h. g.still p (f.still p h);
    near = near_then;
    count = g.count ∙ f.count;
  }
    where
      earlier : (p n : ℕ) → (distance_in r.distances p ≡ Some n) ⊎ ((n ≡ level) × (IsWay graph p level to × IsListed s.level_listed p))
          → (distance_in r.distances p ≡ Some n) ⊎ ((n ≡ level) × (IsWay graph p level to × IsListed t.level_listed p))
      earlier p n (inl h) = inl h
      earlier p n (inr h) = inr (h.0, (h.1.0, g.still p h.1.1))

      new_by : (p n : ℕ) → (distance_in s.distances p ≡ Some n) ⊎ ((n ≡ level) × (IsWay graph p level to × IsListed t.level_listed p))
          → (distance_in r.distances p ≡ Some n) ⊎ ((n ≡ level) × (IsWay graph p level to × IsListed t.level_listed p))
      new_by p n (inl h) = earlier p n (f.new p n h)
      new_by p n (inr h) = inr h

      new_then : (p n : ℕ) → distance_in t.distances p ≡ Some n
          → (distance_in r.distances p ≡ Some n) ⊎ ((n ≡ level) × (IsWay graph p level to × IsListed t.level_listed p))
      new_then p n h = new_by p n (g.new p n h)

      near_by : (p : ℕ) → (IsListed r.level_listed p) ⊎ (distance_in s.distances p ≡ Some level)
          → (IsListed r.level_listed p) ⊎ (distance_in t.distances p ≡ Some level)
      near_by p (inl h) = inl h
      near_by p (inr h) = inr (g.kept p level h)

      near_or : (p : ℕ) → (IsListed s.level_listed p) ⊎ (distance_in t.distances p ≡ Some level)
          → (IsListed r.level_listed p) ⊎ (distance_in t.distances p ≡ Some level)
      near_or p (inl h) = near_by p (f.near p h)
      near_or p (inr h) = inr h

      near_then : (p : ℕ) → IsListed t.level_listed p → (IsListed r.level_listed p) ⊎ (distance_in t.distances p ≡ Some level)
      near_then p h = near_or p (g.near p h)

-- One process less has no distance.
one_less_far : (distances : List (Option ℕ)) (p n : ℕ) → p < length distances → distance_in distances p ≡ None
    → suc (far_ones (set distances p (Some n))) ≡ far_ones distances
one_less_far [] p n there is = absurd (omega (arith, there))
one_less_far (None ∷ distances) zero n there is = refl
one_less_far (Some m ∷ distances) zero n there is = absurd (cc is)
one_less_far (None ∷ distances) (suc p) n there is = ap suc (one_less_far distances p n (omega (arith, there)) is)
one_less_far (Some m ∷ distances) (suc p) n there is = one_less_far distances p n (omega (arith, there)) is

-- A process is marked.
module _ (graph : List (List ℕ)) (to level q : ℕ) (r : Reach) (way : IsWay graph q level to) (there : q < length r.distances)
    (none : distance_in r.distances q ≡ None) where
  abbrev put : Reach
  put = reach_of (set r.distances q (Some level)) (r.level_listed ++ q ∷ [])

  at_q : distance_in (set r.distances q (Some level)) q ≡ Some level
  at_q = get_or-set_same r.distances q (Some level) None there

  elsewhere : (p : ℕ) → p ≢ q → distance_in (set r.distances q (Some level)) p ≡ distance_in r.distances p
  elsewhere p apart = get_or-set_other r.distances q p (Some level) None apart

  kept_put : (p n : ℕ) → distance_in r.distances p ≡ Some n → distance_in put.distances p ≡ Some n
  kept_put p n h = by (same_or_other p q)
    where
      by : (p ≡ q) ⊎ (p ≢ q) → distance_in put.distances p ≡ Some n
      by (inl same) = absurd (none-some n (sym none ∙ ap (λ (k : ℕ). distance_in r.distances k) (sym same) ∙ h))
      by (inr apart) = elsewhere p apart ∙ h

  new_put : (p n : ℕ) → distance_in put.distances p ≡ Some n
      → (distance_in r.distances p ≡ Some n) ⊎ ((n ≡ level) × (IsWay graph p level to × IsListed put.level_listed p))
  new_put p n h = by (same_or_other p q)
    where
      by : (p ≡ q) ⊎ (p ≢ q) → (distance_in r.distances p ≡ Some n) ⊎ ((n ≡ level) × (IsWay graph p level to × IsListed put.level_listed p))
      by (inl same) =
          let here : n ≡ level = same_Some n level (sym h ∙ ap (λ (k : ℕ). distance_in put.distances k) same ∙ at_q) in
          let last : IsListed put.level_listed p =
          (length r.level_listed, stands_last r.level_listed q ∙ ap (λ (k : ℕ). Some k) (sym same)) in
          inr (here, (subst (λ (k : ℕ). IsWay graph k level to) (sym same) way, last))
      by (inr apart) = inl (sym (elsewhere p apart) ∙ h)

  near_put : (p : ℕ) → IsListed put.level_listed p → (IsListed r.level_listed p) ⊎ (distance_in put.distances p ≡ Some level)
  near_put p h = by (in_longer r.level_listed q h.0 p h.1)
    where
      by : (slice_get r.level_listed h.0 ≡ Some p) ⊎ ((h.0 ≡ length r.level_listed) × (q ≡ p))
          → (IsListed r.level_listed p) ⊎ (distance_in put.distances p ≡ Some level)
      by (inl at) = inl (h.0, at)
      by (inr last) = inr (ap (λ (k : ℕ). distance_in put.distances k) (sym last.1) ∙ at_q)

  more_put : AreMore graph to level r put
  more_put = record {
    sized = length-set r.distances q (Some level);
    kept = kept_put;
    new = new_put;
    still = λ p h. (h.0, at_front r.level_listed (q ∷ []) h.0 p h.1);
    near = near_put;
    count =
        let longer : length (r.level_listed ++ q ∷ []) ≡ length r.level_listed + 1 = length-append r.level_listed (q ∷ []) in
        let fewer : suc (far_ones (set r.distances q (Some level))) ≡ far_ones r.distances = one_less_far r.distances q level there none in
        omega (arith, longer, fewer);
  }

-- The next reach, with the marked process.
pub record Marked (graph : List (List ℕ)) (to level : ℕ) (before after : Reach) (p : ℕ) : Type 0 where
  pub more : AreMore graph to level before after
  pub has : Has after p

marked_more : (graph : List (List ℕ)) (to level q : ℕ) (r : Reach) → IsWay graph q level to → q < length r.distances
    → Marked graph to level r (marked level q r) q
marked_more graph to level q r way there = by (distance_in r.distances q) refl
  where
    by : (known : Option ℕ) → distance_in r.distances q ≡ known → Marked graph to level r (marked_by known level q r) q
    by None is = record { more = more_put graph to level q r way there is; has = (level, at_q graph to level q r way there is) }
    by (Some n) is = record { more = more_refl graph to level r; has = (n, is) }

-- A list of processes is marked.
pub record AllMarked (graph : List (List ℕ)) (to level : ℕ) (before after : Reach) (processes : List ℕ) : Type 0 where
  pub more : AreMore graph to level before after
  pub have : (p : ℕ) → IsListed processes p → Has after p

all_marked_then : (graph : List (List ℕ)) (to level q : ℕ) (processes : List ℕ) (r s t : Reach) → Marked graph to level r s q
    → AllMarked graph to level s t processes → AllMarked graph to level r t (q ∷ processes)
all_marked_then graph to level q processes r s t first rest = record {
  more = more_trans graph to level r s t first.more rest.more;
  have = λ p listed. at_index p listed.0 listed.1;
}
  where
    at_index : (p k : ℕ) → slice_get (q ∷ processes) k ≡ Some p → Has t p
    at_index p zero at =
        (first.has.0, rest.more.kept p first.has.0 (ap (λ (n : ℕ). distance_in s.distances n) (sym (same_Some q p at)) ∙ first.has.1))
    at_index p (suc k) at = rest.have p (k, at)

pub all_marked_more : (graph : List (List ℕ)) (to level : ℕ) (processes : List ℕ) (r : Reach)
    → ((p : ℕ) → IsListed processes p → IsWay graph p level to) → ((p : ℕ) → IsListed processes p → p < length r.distances)
    → AllMarked graph to level r (marked_processes level processes r) processes
all_marked_more graph to level [] r way there =
    record { more = more_refl graph to level r; have = λ p listed. absurd (none-some p listed.1) }
all_marked_more graph to level (q ∷ processes) r way there =
    all_marked_then graph to level q processes r (marked level q r) (marked_processes level processes (marked level q r))
    (marked_more graph to level q r (way q (0, refl)) (there q (0, refl)))
    (all_marked_more graph to level processes (marked level q r) (λ p listed. way p (suc listed.0, listed.1))
    (λ p listed.
    let lt : p < length r.distances = there p (suc listed.0, listed.1) in
    let first : Marked graph to level r (marked level q r) q = marked_more graph to level q r (way q (0, refl)) (there q (0, refl)) in
    let e : length (marked level q r).distances ≡ length r.distances = first.more.sized in
    omega (arith, lt, e)))

-- All callers of the processes of a list are marked.
pub record CallersMarked (graph : List (List ℕ)) (to level : ℕ) (before after : Reach) (processes : List ℕ) : Type 0 where
  pub more : AreMore graph to level before after
  pub have : (p caller : ℕ) → IsListed processes p → Calls graph caller p → Has after caller

-- The callers of one process.
callers_of_one : (graph callers : List (List ℕ)) (to level q : ℕ) (r : Reach) → AreCallers graph callers
    → length r.distances ≡ length graph → q < length graph → IsWay graph q level to
    → AllMarked graph to (suc level) r (marked_processes (suc level) (calls_at callers q) r) (calls_at callers q)
callers_of_one graph callers to level q r reversed sized there way =
    all_marked_more graph to (suc level) (calls_at callers q) r (λ c listed. (q, ((reversed q c there).0 listed, way)))
    (λ c listed.
    let lt : c < length graph = calls_within graph c q ((reversed q c there).0 listed) in
    omega (arith, lt, sized))

callers_then : (graph callers : List (List ℕ)) (to level q : ℕ) (processes : List ℕ) (r s t : Reach) → AreCallers graph callers
    → q < length graph → AllMarked graph to (suc level) r s (calls_at callers q) → CallersMarked graph to (suc level) s t processes
    → CallersMarked graph to (suc level) r t (q ∷ processes)
callers_then graph callers to level q processes r s t reversed there first rest = record {
  more = more_trans graph to (suc level) r s t first.more rest.more;
  have = λ p caller listed calls. at_index p caller listed.0 listed.1 calls;
}
  where
    at_index : (p caller k : ℕ) → slice_get (q ∷ processes) k ≡ Some p → Calls graph caller p → Has t caller
    at_index p caller zero at calls =
        let here : Calls graph caller q = subst (λ (n : ℕ). Calls graph caller n) (sym (same_Some q p at)) calls in
        let has : Has s caller = first.have caller ((reversed q caller there).1 here) in
        (has.0, rest.more.kept caller has.0 has.1)
    at_index p caller (suc k) at calls = rest.have p caller (k, at) calls

pub callers_more : (graph callers : List (List ℕ)) (to level : ℕ) (processes : List ℕ) (r : Reach) → AreCallers graph callers
    → length r.distances ≡ length graph → ((p : ℕ) → IsListed processes p → p < length graph)
    → ((p : ℕ) → IsListed processes p → IsWay graph p level to)
    → CallersMarked graph to (suc level) r (callers_marked callers (suc level) processes r) processes
callers_more graph callers to level [] r reversed sized within_ way =
    record { more = more_refl graph to (suc level) r; have = λ p caller listed calls. absurd (none-some p listed.1) }
callers_more graph callers to level (q ∷ processes) r reversed sized within_ way =
    let first : AllMarked graph to (suc level) r (marked_processes (suc level) (calls_at callers q) r) (calls_at callers q) =
    callers_of_one graph callers to level q r reversed sized (within_ q (0, refl)) (way q (0, refl)) in
    callers_then graph callers to level q processes r (marked_processes (suc level) (calls_at callers q) r)
    (callers_marked callers (suc level) processes (marked_processes (suc level) (calls_at callers q) r)) reversed
    (within_ q (0, refl)) first
    (callers_more graph callers to level processes (marked_processes (suc level) (calls_at callers q) r) reversed (first.more.sized ∙ sized)
    (λ p listed. within_ p (suc listed.0, listed.1)) (λ p listed. way p (suc listed.0, listed.1)))

-- All processes with ways of so many calls or fewer have their distances, and no others; the frontier has those of just
-- this distance.
pub record IsLevel (graph : List (List ℕ)) (to : ℕ) (distances : List (Option ℕ)) (frontier : List ℕ) (level : ℕ) : Type 0 where
  pub sized : length distances ≡ length graph
  pub way : (p n : ℕ) → distance_in distances p ≡ Some n → IsWay graph p n to
  pub near : (p n : ℕ) → distance_in distances p ≡ Some n → n ≤ level
  pub shortest : (p n : ℕ) → n ≤ level → IsWay graph p n to → (m : ℕ) × ((distance_in distances p ≡ Some m) × (m ≤ n))
  pub listed : (p : ℕ) → distance_in distances p ≡ Some level → IsListed frontier p
  pub frontier_near : (p : ℕ) → IsListed frontier p → distance_in distances p ≡ Some level
  pub room : level + far_ones distances + length frontier ≤ length graph

far_none : (n : ℕ) → far_ones (none_known n) ≡ n
far_none zero = refl
far_none (suc n) = ap suc (far_none n)

no_distance : (n p : ℕ) → distance_in (none_known n) p ≡ None
no_distance zero p = refl
no_distance (suc n) zero = refl
no_distance (suc n) (suc p) = no_distance n p

pub first_level : (graph : List (List ℕ)) (to : ℕ) → to < length graph
    → IsLevel graph to (set (none_known (length graph)) to (Some 0)) (to ∷ []) 0
first_level graph to there = record {
  sized = length-set (none_known (length graph)) to (Some 0) ∙ length-replicate (length graph) None;
  way = way_zero;
  near = near_zero;
  shortest = λ p n le way. shortest_zero p n le way;
  listed = λ p h. (0, ap (λ (k : ℕ). Some k) (sym (only p 0 h).0));
  frontier_near = λ p listed. near_at p listed.0 listed.1;
  room =
      let fewer : suc (far_ones (set (none_known (length graph)) to (Some 0))) ≡ far_ones (none_known (length graph)) =
      one_less_far (none_known (length graph)) to 0 long (no_distance (length graph) to) in
      let all_far : far_ones (none_known (length graph)) ≡ length graph = far_none (length graph) in
      omega (arith, fewer, all_far);
}
  where
    long : to < length (none_known (length graph))
    long = let e : length (none_known (length graph)) ≡ length graph = length-replicate (length graph) None in omega (arith, e, there)

    at_to : distance_in (set (none_known (length graph)) to (Some 0)) to ≡ Some 0
    at_to = get_or-set_same (none_known (length graph)) to (Some 0) None long

    only : (p n : ℕ) → distance_in (set (none_known (length graph)) to (Some 0)) p ≡ Some n → (p ≡ to) × (n ≡ 0)
    only p n h = by (same_or_other p to)
      where
        by : (p ≡ to) ⊎ (p ≢ to) → (p ≡ to) × (n ≡ 0)
        by (inl same) =
            (same, same_Some n 0 (sym h ∙ ap (λ (k : ℕ). distance_in (set (none_known (length graph)) to (Some 0)) k) same ∙ at_to))
        by (inr apart) =
            absurd
            (none-some n
            (sym (no_distance (length graph) p)
            ∙ sym (get_or-set_other (none_known (length graph)) to p (Some 0) None apart)
            ∙ h))

    way_zero : (p n : ℕ) → distance_in (set (none_known (length graph)) to (Some 0)) p ≡ Some n → IsWay graph p n to
    way_zero p n h = subst (λ (k : ℕ). IsWay graph p k to) (sym (only p n h).1) (only p n h).0

    near_zero : (p n : ℕ) → distance_in (set (none_known (length graph)) to (Some 0)) p ≡ Some n → n ≤ 0
    near_zero p n h = let e : n ≡ 0 = (only p n h).1 in omega (arith, e)

    shortest_zero : (p n : ℕ) → n ≤ 0 → IsWay graph p n to
        → (m : ℕ) × ((distance_in (set (none_known (length graph)) to (Some 0)) p ≡ Some m) × (m ≤ n))
    shortest_zero p zero le way =
        (0, (ap (λ (k : ℕ). distance_in (set (none_known (length graph)) to (Some 0)) k) way ∙ at_to, omega arith))
    shortest_zero p (suc n) le way = absurd (omega (arith, le))

    near_at : (p k : ℕ) → slice_get (to ∷ []) k ≡ Some p → distance_in (set (none_known (length graph)) to (Some 0)) p ≡ Some 0
    near_at p zero at = ap (λ (k : ℕ). distance_in (set (none_known (length graph)) to (Some 0)) k) (sym (same_Some to p at)) ∙ at_to
    near_at p (suc k) at = absurd (none-some p at)

-- A process with a distance is of the graph.
near_within : (distances : List (Option ℕ)) (p n : ℕ) → distance_in distances p ≡ Some n → p < length distances
near_within distances p n h = within distances p (Some n) None h (λ e. none-some n e)

-- The next level.
module _ (graph callers : List (List ℕ)) (to : ℕ) (distances : List (Option ℕ)) (frontier : List ℕ) (level : ℕ)
    (some_there : 0 < length frontier) (reversed : AreCallers graph callers) (h : IsLevel graph to distances frontier level) where
  abbrev start : Reach
  start = reach_of distances []

  abbrev then_ : Reach
  then_ = callers_marked callers (suc level) frontier start

  step : CallersMarked graph to (suc level) start then_ frontier
  step =
      callers_more graph callers to level frontier start reversed h.sized
      (λ p listed.
      let lt : p < length distances = near_within distances p level (h.frontier_near p listed) in
      let e : length distances ≡ length graph = h.sized in
      omega (arith, lt, e))
      (λ p listed. h.way p level (h.frontier_near p listed))

  way_then : (p n : ℕ) → distance_in then_.distances p ≡ Some n → IsWay graph p n to
  way_then p n is = by (step.more.new p n is)
    where
      by : (distance_in distances p ≡ Some n) ⊎ ((n ≡ suc level) × (IsWay graph p (suc level) to × IsListed then_.level_listed p))
          → IsWay graph p n to
      by (inl old) = h.way p n old
      by (inr new) = subst (λ (k : ℕ). IsWay graph p k to) (sym new.0) new.1.0

  near_then : (p n : ℕ) → distance_in then_.distances p ≡ Some n → n ≤ suc level
  near_then p n is = by (step.more.new p n is)
    where
      by : (distance_in distances p ≡ Some n) ⊎ ((n ≡ suc level) × (IsWay graph p (suc level) to × IsListed then_.level_listed p))
          → n ≤ suc level
      by (inl old) = let le : n ≤ level = h.near p n old in omega (arith, le)
      by (inr new) = let e : n ≡ suc level = new.0 in omega (arith, e)

  known_then : (p n m : ℕ) → distance_in distances p ≡ Some m → m ≤ n → (k : ℕ) × ((distance_in then_.distances p ≡ Some k) × (k ≤ n))
  known_then p n m is le = (m, (step.more.kept p m is, le))

  at_level : (p next m : ℕ) → Calls graph p next → distance_in distances next ≡ Some m → m ≤ level
      → (k : ℕ) × ((distance_in then_.distances p ≡ Some k) × (k ≤ suc level))
  at_level p next m calls is le = by (same_or_other m level)
    where
      by : (m ≡ level) ⊎ (m ≢ level) → (k : ℕ) × ((distance_in then_.distances p ≡ Some k) × (k ≤ suc level))
      by (inl same) =
          let listed : IsListed frontier next = h.listed next (is ∙ ap (λ (k : ℕ). Some k) same) in
          let has : Has then_ p = step.have next p listed calls in
          (has.0, (has.1, near_then p has.0 has.1))
      by (inr apart) =
          let lt : suc m ≤ level = omega (arith, le, apart) in
          let near : (k : ℕ) × ((distance_in distances p ≡ Some k) × (k ≤ suc m)) =
          h.shortest p (suc m) lt (next, (calls, h.way next m is)) in
          let near_le : near.0 ≤ suc m = near.1.1 in
          known_then p (suc level) near.0 near.1.0 (omega (arith, near_le, le))

  shortest_at : (p : ℕ) → IsWay graph p (suc level) to → (k : ℕ) × ((distance_in then_.distances p ≡ Some k) × (k ≤ suc level))
  shortest_at p way =
      let near : (k : ℕ) × ((distance_in distances way.0 ≡ Some k) × (k ≤ level)) = h.shortest way.0 level (omega arith) way.1.1 in
      at_level p way.0 near.0 way.1.0 near.1.0 near.1.1

  shortest_then : (p n : ℕ) → n ≤ suc level → IsWay graph p n to → (k : ℕ) × ((distance_in then_.distances p ≡ Some k) × (k ≤ n))
  shortest_then p n le way = by (same_or_other n (suc level))
    where
      by : (n ≡ suc level) ⊎ (n ≢ suc level) → (k : ℕ) × ((distance_in then_.distances p ≡ Some k) × (k ≤ n))
      by (inl same) =
          let found : (k : ℕ) × ((distance_in then_.distances p ≡ Some k) × (k ≤ suc level)) =
          shortest_at p (subst (λ (k : ℕ). IsWay graph p k to) same way) in
          let found_le : found.0 ≤ suc level = found.1.1 in
          (found.0, (found.1.0, omega (arith, found_le, same)))
      by (inr apart) =
          let found : (k : ℕ) × ((distance_in distances p ≡ Some k) × (k ≤ n)) = h.shortest p n (omega (arith, le, apart)) way in
          known_then p n found.0 found.1.0 found.1.1

  listed_then : (p : ℕ) → distance_in then_.distances p ≡ Some (suc level) → IsListed then_.level_listed p
  listed_then p is = by (step.more.new p (suc level) is)
    where
      by : (distance_in distances p ≡ Some (suc level))
          ⊎ ((suc level ≡ suc level) × (IsWay graph p (suc level) to × IsListed then_.level_listed p))
          → IsListed then_.level_listed p
      by (inl old) = let le : suc level ≤ level = h.near p (suc level) old in absurd (omega (arith, le))
      by (inr new) = new.1.1

  frontier_then : (p : ℕ) → IsListed then_.level_listed p → distance_in then_.distances p ≡ Some (suc level)
  frontier_then p listed = by (step.more.near p listed)
    where
      by : (IsListed [] p) ⊎ (distance_in then_.distances p ≡ Some (suc level)) → distance_in then_.distances p ≡ Some (suc level)
      by (inl none) = absurd (none-some p none.1)
      by (inr is) = is

  pub next_level : IsLevel graph to (callers_marked callers (suc level) frontier (reach_of distances [])).distances
      (callers_marked callers (suc level) frontier (reach_of distances [])).level_listed (suc level)
  next_level = record {
    sized = step.more.sized ∙ h.sized;
    way = way_then;
    near = near_then;
    shortest = shortest_then;
    listed = listed_then;
    frontier_near = frontier_then;
    room =
        let counted : far_ones then_.distances + length then_.level_listed ≡ far_ones distances + 0 = step.more.count in
        let room : level + far_ones distances + length frontier ≤ length graph = h.room in
        omega (arith, counted, room, some_there);
  }

-- Where the frontier is empty, all distances are known.
pub all_distances : (graph : List (List ℕ)) (to : ℕ) (distances : List (Option ℕ)) (level : ℕ) → IsLevel graph to distances [] level
    → AreDistances graph to distances
all_distances graph to distances level h = record { way = h.way; shortest = shortest_all }
  where
    nearer : (p next n m : ℕ) → Calls graph p next → distance_in distances next ≡ Some m → m ≤ n
        → (k : ℕ) × ((distance_in distances p ≡ Some k) × (k ≤ suc n))
    nearer p next n m calls is le = by (same_or_other m level)
      where
        by : (m ≡ level) ⊎ (m ≢ level) → (k : ℕ) × ((distance_in distances p ≡ Some k) × (k ≤ suc n))
        by (inl same) = absurd (none-some next (h.listed next (is ∙ ap (λ (k : ℕ). Some k) same)).1)
        by (inr apart) =
            let near : m ≤ level = h.near next m is in
            let lt : suc m ≤ level = omega (arith, near, apart) in
            let found : (k : ℕ) × ((distance_in distances p ≡ Some k) × (k ≤ suc m)) =
            h.shortest p (suc m) lt (next, (calls, h.way next m is)) in
            let found_le : found.0 ≤ suc m = found.1.1 in
            (found.0, (found.1.0, omega (arith, found_le, le)))

    shortest_all : (p n : ℕ) → IsWay graph p n to → (k : ℕ) × ((distance_in distances p ≡ Some k) × (k ≤ n))
    shortest_all p zero way = h.shortest p zero (omega arith) way
    shortest_all p (suc n) way =
        let near : (k : ℕ) × ((distance_in distances way.0 ≡ Some k) × (k ≤ n)) = shortest_all way.0 n way.1.1 in
        nearer p way.0 n near.0 way.1.0 near.1.0 near.1.1

-- The first level, as the code makes it.
pub first_level_made : (graph : List (List ℕ)) (to count : ℕ) (made first : List (Option ℕ)) (none frontier : List ℕ) → to < length graph
    → count ≡ length graph → made ≡ none_known count → first ≡ set made to (Some 0) → none ≡ [] → frontier ≡ none ++ to ∷ []
    → IsLevel graph to first frontier 0
first_level_made graph to count made first none frontier there long made_is put_is none_is frontier_is =
    subst (λ (ds : List (Option ℕ)). IsLevel graph to ds frontier 0)
    (sym (put_is ∙ ap (λ (ds : List (Option ℕ)). set ds to (Some 0)) (made_is ∙ ap none_known long)))
    (subst (λ (ns : List ℕ). IsLevel graph to (set (none_known (length graph)) to (Some 0)) ns 0)
    (sym (frontier_is ∙ ap (λ (ns : List ℕ). ns ++ to ∷ []) none_is)) (first_level graph to there))

-- The next level, as the code makes it.
pub next_level_made : (graph callers : List (List ℕ)) (to : ℕ) (distances made : List (Option ℕ)) (frontier next : List ℕ) (level n : ℕ)
    → 0 < length frontier → AreCallers graph callers → IsLevel graph to distances frontier level → n ≡ suc level
    → reach_of made next ≡ callers_marked callers n frontier (reach_of distances []) → IsLevel graph to made next n
next_level_made graph callers to distances made frontier next level n some_there reversed h e is =
    subst (λ (k : ℕ). IsLevel graph to made next k) (sym e)
    (subst (λ (r : Reach). IsLevel graph to r.distances r.level_listed (suc level))
    (sym (is ∙ ap (λ (k : ℕ). callers_marked callers k frontier (reach_of distances [])) e))
    (next_level graph callers to distances frontier level some_there reversed h))
