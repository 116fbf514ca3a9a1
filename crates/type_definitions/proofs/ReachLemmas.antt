-- The search for what a type leads to: one type more is seen, one type's mentions are passed on, the end.
use Rattle.std.proofs.Common.{◌≡◌, ℕ, suc, ◌+◌, ◌<◌, ◌≤◌, Bool, true, false, List, [], ◌∷◌, ◌++◌, ◌⊎◌, length, get_or, set, replicate, inl, inr, refl, ap, sym, ◌∙◌, subst, arith, cond, not}
use Rattle.std.proofs.lemmas.Bool.{cases_lt, both_ways}
use Rattle.std.proofs.lemmas.List.{length-append, length-set, get_or-set_same, get_or-set_other, get_or_past, get_or-replicate, length-replicate}
use Rattle.std.proofs.lemmas.List.Sums.{sum_by-set}
use Rattle.type_definitions.specs.TypeGraph.{is_among, mentioned_by, Mentions, MentionsLead, leads_at_once, leads_on, IsOnCycle}
use Rattle.type_definitions.specs.Reaching.{IsSeen, unseen_count, Sees, IsReaching}
use Rattle.type_definitions.proofs.NumberLists.{same_or_not, among_none, among_left, among_right, among_cases, among_one, one_among}

-- ---- Marks.

pub seen_cases : (seen : List Bool) (n i : ℕ) → IsSeen (set seen n true) i → (i ≡ n) ⊎ IsSeen seen i
seen_cases seen n i h =
    elim (same_or_not i n) [
      | inl same ↦ inl same
      | inr other ↦ inr (sym (get_or-set_other seen n i true false other) ∙ h)
    ]

pub seen_here : (seen : List Bool) (n i : ℕ) → n < length seen → i ≡ n → IsSeen (set seen n true) i
seen_here seen n i within same =
    subst (λ (k : ℕ). IsSeen (set seen n true) k) (sym same) (get_or-set_same seen n true false within)

pub seen_kept : (seen : List Bool) (n i : ℕ) → n < length seen → IsSeen seen i → IsSeen (set seen n true) i
seen_kept seen n i within h =
    elim (same_or_not i n) [
      | inl same ↦ seen_here seen n i within same
      | inr other ↦ get_or-set_other seen n i true false other ∙ h
    ]

one_less : (b : Bool) (u v : ℕ) → b ≡ false → u + cond (not b) 1 0 ≡ v + cond (not true) 1 0 → u + 1 ≡ v
one_less true u v e h = absurd (both_ways true e refl)
one_less false u v e h = omega arith

pub unseen_less : (seen : List Bool) (n : ℕ) → n < length seen → get_or seen n false ≡ false
    → unseen_count (set seen n true) + 1 ≡ unseen_count seen
unseen_less seen n within unseen =
    one_less (get_or seen n false) _ _ unseen (sum_by-set (λ (b : Bool). cond (not b) 1 0) seen n true false within)

none_seen : (n i : ℕ) → IsSeen (replicate n false) i → ⊥
none_seen n i h =
    elim (cases_lt i n) [
      | inl within ↦ absurd (both_ways _ (get_or-replicate n i false false within) h)
      | inr past ↦
          let outside : length (replicate n false) ≤ i = omega (arith, length-replicate n false) in
          absurd (both_ways _ (get_or_past (replicate n false) i false outside) h)
    ]

-- ---- What is seen.

pub seen_already : (seen : List Bool) (work : List ℕ) (n : ℕ) → IsSeen seen n → Sees (n ∷ []) seen work seen work
seen_already seen work n h = record {
  kept = λ i s. s;
  mentioned_seen = λ i one. subst (λ (k : ℕ). IsSeen seen k) (sym (among_one n i one)) h;
  fresh = λ i s. inl s;
  waiting = λ i w. w;
  origin = λ i w. inl w;
  as_many = refl;
  balance = refl;
}

pub seen_now : (seen : List Bool) (work : List ℕ) (n : ℕ) → n < length seen → get_or seen n false ≡ false
    → Sees (n ∷ []) seen work (set seen n true) (work ++ n ∷ [])
seen_now seen work n within unseen = record {
  kept = λ i s. seen_kept seen n i within s;
  mentioned_seen = λ i one. seen_here seen n i within (among_one n i one);
  fresh = λ i s.
      elim (seen_cases seen n i s) [
        | inl same ↦ inr (one_among n i same, among_right work (n ∷ []) i (one_among n i same))
        | inr before ↦ inl before
      ];
  waiting = λ i w. among_left work (n ∷ []) i w;
  origin = λ i w. among_cases work (n ∷ []) i w;
  as_many = length-set seen n true;
  balance = omega (arith, unseen_less seen n within unseen, length-append work (n ∷ []));
}

pub seen_none : (seen : List Bool) (work : List ℕ) → Sees [] seen work seen work
seen_none seen work = record {
  kept = λ i s. s;
  mentioned_seen = λ i none. among_none i none;
  fresh = λ i s. inl s;
  waiting = λ i w. w;
  origin = λ i w. inl w;
  as_many = refl;
  balance = refl;
}

pub seen_then : (ms ns : List ℕ) (s : List Bool) (w : List ℕ) (s' : List Bool) (w' : List ℕ) (s'' : List Bool) (w'' : List ℕ)
    → Sees ms s w s' w' → Sees ns s' w' s'' w'' → Sees (ms ++ ns) s w s'' w''
seen_then ms ns s w s' w' s'' w'' one two = record {
  kept = λ i h. two.kept i (one.kept i h);
  mentioned_seen = λ i h.
      elim (among_cases ms ns i h) [ inl a ↦ two.kept i (one.mentioned_seen i a) | inr b ↦ two.mentioned_seen i b ];
  fresh = λ i h.
      elim (two.fresh i h) [
        | inl before ↦
            elim (one.fresh i before) [
              | inl first ↦ inl first
              | inr new ↦ inr (among_left ms ns i new.0, two.waiting i new.1)
            ]
        | inr new ↦ inr (among_right ms ns i new.0, new.1)
      ];
  waiting = λ i h. two.waiting i (one.waiting i h);
  origin = λ i h.
      elim (two.origin i h) [
        | inl before ↦ elim (one.origin i before) [ inl first ↦ inl first | inr m ↦ inr (among_left ms ns i m) ]
        | inr m ↦ inr (among_right ms ns i m)
      ];
  as_many = two.as_many ∙ one.as_many;
  balance = two.balance ∙ one.balance;
}

-- ---- The search.

pub leads_end : (graph : List (List ℕ)) (i j k : ℕ) → MentionsLead graph i j → Mentions graph j k → MentionsLead graph i k
leads_end graph i j k (leads_at_once m) end = leads_on m (leads_at_once end)
leads_end graph i j k (leads_on m further) end = leads_on m (leads_end graph _ j k further end)

pub reach_begun : (graph : List (List ℕ)) (from to n : ℕ) → n ≡ length graph → from < n
    → IsReaching graph from to (set (replicate n false) from true) (from ∷ [])
reach_begun graph from to n all within = record {
  covers = length-set (replicate n false) from true ∙ length-replicate n false ∙ all;
  begun = here from refl;
  sound = λ i h. elim (seen_cases (replicate n false) from i h) [ inl same ↦ inl (sym same) | inr none ↦ absurd (none_seen n i none) ];
  waits = λ i h. here i (among_one from i h);
  closed = λ i h.
      elim (seen_cases (replicate n false) from i h) [
        | inl same ↦ inl (one_among from i same)
        | inr none ↦ absurd (none_seen n i none)
      ];
}
  where
    inside : from < length (replicate n false)
    inside = omega (arith, length-replicate n false)

    here : (i : ℕ) → i ≡ from → IsSeen (set (replicate n false) from true) i
    here i same = seen_here (replicate n false) from i inside same

top_seen : (graph : List (List ℕ)) (from to : ℕ) (seen : List Bool) (work : List ℕ) (n : ℕ)
    → IsReaching graph from to seen (work ++ n ∷ []) → IsSeen seen n
top_seen graph from to seen work n r = r.waits n (among_right work (n ∷ []) n (one_among n n refl))

pub top_within : (graph : List (List ℕ)) (from to : ℕ) (seen : List Bool) (work : List ℕ) (n : ℕ)
    → IsReaching graph from to seen (work ++ n ∷ []) → n < length graph
top_within graph from to seen work n r =
    elim (cases_lt n (length seen)) [
      | inl within ↦ subst (λ (k : ℕ). n < k) r.covers within
      | inr past ↦ absurd (both_ways _ (get_or_past seen n false past) (top_seen graph from to seen work n r))
    ]

pub reach_further : (graph : List (List ℕ)) (from to : ℕ) (seen : List Bool) (work : List ℕ) (n : ℕ) (seen' : List Bool) (work' : List ℕ)
    → IsReaching graph from to seen (work ++ n ∷ []) → ¬ (n ≡ to) → Sees (mentioned_by graph n) seen work seen' work'
    → IsReaching graph from to seen' work'
reach_further graph from to seen work n seen' work' r other sees = record {
  covers = sees.as_many ∙ r.covers;
  begun = sees.kept from r.begun;
  sound = λ i h.
      elim (sees.fresh i h) [
        | inl before ↦ r.sound i before
        | inr new ↦
            elim (r.sound n (top_seen graph from to seen work n r)) [
              | inl same ↦ inr (leads_at_once (subst (λ (k : ℕ). Mentions graph k i) (sym same) new.0))
              | inr leads ↦ inr (leads_end graph from n i leads new.0)
            ]
      ];
  waits = λ i h.
      elim (sees.origin i h) [
        | inl before ↦ sees.kept i (r.waits i (among_left work (n ∷ []) i before))
        | inr m ↦ sees.mentioned_seen i m
      ];
  closed = λ i h.
      elim (sees.fresh i h) [
        | inl before ↦
            elim (r.closed i before) [
              | inl waits ↦
                  elim (among_cases work (n ∷ []) i waits) [
                    | inl still ↦ inl (sees.waiting i still)
                    | inr one ↦
                        let same : i ≡ n = among_one n i one in
                        inr (
                          (λ e. other (sym same ∙ e)),
                          (λ j m. sees.mentioned_seen j (subst (λ (k : ℕ). Mentions graph k j) same m)),
                        )
                  ]
              | inr passed ↦ inr (passed.0, (λ j m. sees.kept j (passed.1 j m)))
            ]
        | inr new ↦ inl new.1
      ];
}

pub reach_found : (graph : List (List ℕ)) (from to : ℕ) (seen : List Bool) (work : List ℕ) (n : ℕ)
    → IsReaching graph from to seen (work ++ n ∷ []) → n ≡ to → IsOnCycle graph to from
reach_found graph from to seen work n r same =
    elim (r.sound n (top_seen graph from to seen work n r)) [
      | inl here ↦ inl (here ∙ same)
      | inr leads ↦ inr (subst (λ (k : ℕ). MentionsLead graph from k) same leads)
    ]

pub reach_none : (graph : List (List ℕ)) (from to : ℕ) (seen : List Bool) → IsReaching graph from to seen [] → ¬ IsOnCycle graph to from
reach_none graph from to seen r = λ h.
    elim h [ inl same ↦ (passed from r.begun).0 same | inr leads ↦ go from leads r.begun ]
  where
    passed : (i : ℕ) → IsSeen seen i → (¬ (i ≡ to)) × ((j : ℕ) → Mentions graph i j → IsSeen seen j)
    passed i h = elim (r.closed i h) [ inl waits ↦ among_none i waits | inr p ↦ p ]

    go : (i : ℕ) → MentionsLead graph i to → IsSeen seen i → ⊥
    go i (leads_at_once m) h = (passed to ((passed i h).1 to m)).0 refl
    go i (leads_on {j = j} m further) h = go j further ((passed i h).1 j m)
