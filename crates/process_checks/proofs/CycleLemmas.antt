-- The first call on a cycle and the way that is kept of it, by distances.
use Rattle.std.proofs.Common.{◌≡◌, ◌<◌, ◌≤◌, ◌⊎◌, inl, inr, ℕ, suc, List, [], ◌∷◌, length, Option, None, Some, refl, ap, sym, ◌∙◌, subst, arith}
use Rattle.std.proofs.lemmas.Option.{same_Some, none-some}
use Rattle.process_checks.specs.Cycles.{IsFirstBack, IsNextNear}
use Rattle.process_checks.specs.Graph.{IsCallAt, CallsLead, LiesOnCycle, CallStandsBefore, IsFirstOnCycle, ComeNoLater, IsKeptWay}
use Rattle.process_checks.specs.Ways.{AreDistances, CallsHaveCycle, IsWay, distance_in}
use Rattle.process_checks.specs.declared.cycles.Back.{Back}
use Rattle.process_checks.proofs.WayLemmas.{Led, leads_of_way, way_of_leads, calls_within}

-- One of two: before, at, or behind.
before_or_not : (k j : ℕ) → (j < k) ⊎ (k < j) ⊎ (k ≡ j)
before_or_not k j = grind arith

-- Where no call of a process leads to one with a distance, none lies on a cycle.
pub none_on_cycle : (graph : List (List ℕ)) (distances : List (Option ℕ)) (process : ℕ) → AreDistances graph process distances
    → ((k other : ℕ) → IsCallAt graph process k other → distance_in distances other ≡ None)
    → (k : ℕ) → LiesOnCycle graph process k → ⊥
none_on_cycle graph distances process exact far k on = by on.way on.leads
  where
    by : (way : List ℕ) → CallsLead graph process (k ∷ on.positions) way process → ⊥
    by [] leads = leads
    by (p ∷ way) leads =
        let next : ℕ = leads.1.0 in
        let near : (m : ℕ) × ((distance_in distances leads.1.0 ≡ Some m) × (m ≤ length on.positions)) =
        exact.shortest leads.1.0 (length on.positions) (way_of_leads graph leads.1.0 on.positions way process leads.1.1.1) in
        let none : distance_in distances leads.1.0 ≡ None = far k leads.1.0 leads.1.1.0 in
        none-some near.0 (sym none ∙ near.1.0)

-- The first call of a process that leads to one with a distance is the first on a cycle, where no earlier process has one.
on_cycle_from : (graph : List (List ℕ)) (process k other n : ℕ) → IsCallAt graph process k other → Led graph other n process
    → LiesOnCycle graph process k
on_cycle_from graph process k other n calls led =
    record { positions = led.positions; way = process ∷ led.way; leads = (refl, (other, (calls, led.leads))) }

pub first_on_cycle : (graph : List (List ℕ)) (distances : List (Option ℕ)) (process : ℕ) (back : Back)
    → AreDistances graph process distances
    → IsFirstBack graph distances process back
    → ((earlier k : ℕ) → earlier < process → LiesOnCycle graph earlier k → ⊥) → IsFirstOnCycle graph process back.position
first_on_cycle graph distances process back exact is none_earlier = record {
  on_cycle =
      on_cycle_from graph process back.position back.process back.distance is.calls
      (leads_of_way graph back.process back.distance process (exact.way back.process back.distance is.near));
  first = no_earlier;
}
  where
    in_this : (k : ℕ) → k < back.position → LiesOnCycle graph process k → ⊥
    in_this k lt on = by on.way on.leads
      where
        by : (way : List ℕ) → CallsLead graph process (k ∷ on.positions) way process → ⊥
        by [] leads = leads
        by (p ∷ way) leads =
            let near : (m : ℕ) × ((distance_in distances leads.1.0 ≡ Some m) × (m ≤ length on.positions)) =
            exact.shortest leads.1.0 (length on.positions) (way_of_leads graph leads.1.0 on.positions way process leads.1.1.1) in
            none-some near.0 (sym (is.first k leads.1.0 lt leads.1.1.0) ∙ near.1.0)

    no_earlier : (other_process other_position : ℕ) → CallStandsBefore other_process other_position process back.position
        → LiesOnCycle graph other_process other_position → ⊥
    no_earlier q k (inl before) on = none_earlier q k before on
    no_earlier q k (inr here) on = in_this k here.1 (subst (λ (n : ℕ). LiesOnCycle graph n k) here.0 on)

-- The way from a process to itself.
pub kept_end : (graph : List (List ℕ)) (distances : List (Option ℕ)) (process current : ℕ) → AreDistances graph process distances
    → distance_in distances current ≡ Some 0 → IsKeptWay graph current [] process
kept_end graph distances process current exact near = record {
  positions = [];
  leads = exact.way current 0 near;
  shortest = λ others way leads. omega arith;
  earliest = λ others way leads long. tt;
}

-- The distance of a process, by the ways that there are.
no_nearer : (graph : List (List ℕ)) (distances : List (Option ℕ)) (process from n m : ℕ) → AreDistances graph process distances
    → distance_in distances from ≡ Some n → IsWay graph from m process → n ≤ m
no_nearer graph distances process from n m exact near way =
    let h : (k : ℕ) × ((distance_in distances from ≡ Some k) × (k ≤ m)) = exact.shortest from m way in
    let e : n ≡ h.0 = same_Some n h.0 (sym near ∙ h.1.0) in
    let le : h.0 ≤ m = h.1.1 in
    omega (arith, e, le)

-- From a process with a distance some call leads to one with a distance less by one.
pub some_near : (graph : List (List ℕ)) (distances : List (Option ℕ)) (process current left : ℕ) → AreDistances graph process distances
    → distance_in distances current ≡ Some (suc left)
    → (k : ℕ) × ((other : ℕ) × (IsCallAt graph current k other × (distance_in distances other ≡ Some left)))
some_near graph distances process current left exact near =
    let way : IsWay graph current (suc left) process = exact.way current (suc left) near in
    let h : (m : ℕ) × ((distance_in distances way.0 ≡ Some m) × (m ≤ left)) = exact.shortest way.0 left way.1.1 in
    let back : IsWay graph current (suc h.0) process = (way.0, (way.1.0, exact.way way.0 h.0 h.1.0)) in
    let le : suc left ≤ suc h.0 = no_nearer graph distances process current (suc left) (suc h.0) exact near back in
    let other_le : h.0 ≤ left = h.1.1 in
    let e : h.0 ≡ left = omega (arith, le, other_le) in
    (way.1.0.0, (way.0, (way.1.0.1, h.1.0 ∙ ap (λ (n : ℕ). Some n) e)))

-- The kept way of the process of the first such call, and this call before it.
module _ (graph : List (List ℕ)) (distances : List (Option ℕ)) (process current left next : ℕ)
    (exact : AreDistances graph process distances) (near : distance_in distances current ≡ Some (suc left))
    (is : IsNextNear graph distances current left next) (way : List ℕ) (kept : IsKeptWay graph next way process) where
  -- the kept way is of the right length
  short : length kept.positions ≤ left
  short =
      let led : Led graph next left process = leads_of_way graph next left process (exact.way next left is.near) in
      let le : length kept.positions ≤ length led.positions = kept.shortest led.positions led.way led.leads in
      omega (arith, le, led.long)

  other_long : (other : ℕ) (others other_way : List ℕ) (k : ℕ) → IsCallAt graph current k other
      → CallsLead graph other others other_way process
      → left ≤ length others
  other_long other others other_way k calls leads =
      let w : IsWay graph current (suc (length others)) process =
      (other, ((k, calls), way_of_leads graph other others other_way process leads)) in
      let le : suc left ≤ suc (length others) = no_nearer graph distances process current (suc left) (suc (length others)) exact near w in
      omega (arith, le)

  shortest_here : (others other_way : List ℕ) → CallsLead graph current others other_way process
      → suc (length kept.positions) ≤ length others
  shortest_here [] [] leads =
      let le : suc left ≤ 0 = no_nearer graph distances process current (suc left) 0 exact near leads in
      absurd (omega (arith, le))
  shortest_here [] (p ∷ other_way) leads = absurd leads
  shortest_here (k ∷ others) [] leads = absurd leads
  shortest_here (k ∷ others) (p ∷ other_way) leads =
      let le : left ≤ length others = other_long leads.1.0 others other_way k leads.1.1.0 leads.1.1.1 in
      let s : length kept.positions ≤ left = short in
      omega (arith, le, s)

  -- a call from which a shortest way goes on has the distance
  is_near : (other : ℕ) (others other_way : List ℕ) (k : ℕ) → IsCallAt graph current k other
      → CallsLead graph other others other_way process
      → length others ≡ length kept.positions → distance_in distances other ≡ Some left
  is_near other others other_way k calls leads long =
      let h : (m : ℕ) × ((distance_in distances other ≡ Some m) × (m ≤ length others)) =
      exact.shortest other (length others) (way_of_leads graph other others other_way process leads) in
      let back : IsWay graph current (suc h.0) process = (other, ((k, calls), exact.way other h.0 h.1.0)) in
      let le : suc left ≤ suc h.0 = no_nearer graph distances process current (suc left) (suc h.0) exact near back in
      let other_le : h.0 ≤ length others = h.1.1 in
      let s : length kept.positions ≤ left = short in
      let e : h.0 ≡ left = omega (arith, le, other_le, s, long) in
      h.1.0 ∙ ap (λ (n : ℕ). Some n) e

  earliest_here : (others other_way : List ℕ) → CallsLead graph current others other_way process
      → length others ≡ suc (length kept.positions) → ComeNoLater (is.position ∷ kept.positions) others
  earliest_here [] other_way leads long = absurd (omega (arith, long))
  earliest_here (k ∷ others) [] leads long = absurd leads
  earliest_here (k ∷ others) (p ∷ other_way) leads long = by (before_or_not is.position k)
    where
      rest_long : length others ≡ length kept.positions
      rest_long = omega (arith, long)

      same_call : is.position ≡ k → leads.1.0 ≡ next
      same_call e =
          same_Some leads.1.0 next
          (sym (subst (λ (n : ℕ). IsCallAt graph current n leads.1.0) (sym e) leads.1.1.0) ∙ is.calls)

      by : (k < is.position) ⊎ (is.position < k) ⊎ (is.position ≡ k) → ComeNoLater (is.position ∷ kept.positions) (k ∷ others)
      by (inl before) =
          absurd (is.first k leads.1.0 before leads.1.1.0 (is_near leads.1.0 others other_way k leads.1.1.0 leads.1.1.1 rest_long))
      by (inr (inl behind)) = inl behind
      by (inr (inr same)) =
          inr (
            same,
            kept.earliest others other_way
                (subst (λ (n : ℕ). CallsLead graph n others other_way process) (same_call same) leads.1.1.1) rest_long,
          )

  pub kept_further : IsKeptWay graph current (current ∷ way) process
  kept_further = record {
    positions = is.position ∷ kept.positions;
    leads = (refl, (next, (is.calls, kept.leads)));
    shortest = shortest_here;
    earliest = earliest_here;
  }

-- A graph with a cycle has a call that lies on one.
pub call_on_cycle : (graph : List (List ℕ)) → CallsHaveCycle graph
    → (process : ℕ) × ((process < length graph) × ((k : ℕ) × LiesOnCycle graph process k))
call_on_cycle graph cycle =
    let way : IsWay graph cycle.0 (suc cycle.1.0) cycle.0 = cycle.1.1 in
    let on : LiesOnCycle graph cycle.0 way.1.0.0 =
    on_cycle_from graph cycle.0 way.1.0.0 way.0 cycle.1.0 way.1.0.1 (leads_of_way graph way.0 cycle.1.0 cycle.0 way.1.1) in
    (cycle.0, (calls_within graph cycle.0 way.0 way.1.0, (way.1.0.0, on)))
