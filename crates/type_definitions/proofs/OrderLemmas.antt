-- The order of flattening: what is come to, what is done already, and that an order leaves no cycle.
use Rattle.std.proofs.Common.{◌≡◌, ℕ, zero, suc, ◌+◌, ◌<◌, ◌≤◌, Bool, true, false, List, [], ◌∷◌, ◌++◌, ◌⊎◌, length, get_or, drop, inl, inr, refl, ap, sym, ◌∙◌, subst, arith}
use Rattle.std.specs.Prelude.{nat_eq}
use Rattle.std.proofs.Math.Seq.{drop-cons}
use Rattle.std.proofs.lemmas.Bool.{eq-eqb, both_ways, or_left, or_right}
use Rattle.type_definitions.specs.TypeGraph.{is_among, mentioned_by, Mentions, MentionsLead, leads_at_once, leads_on, IsOnCycle, IsAcyclic}
use Rattle.type_definitions.specs.FlatteningOrder.{FlatteningComesTo, flattened_already, flattened_now, ComesToEach, none_left, next_come_to}
use Rattle.type_definitions.specs.Walking.{IsSorted, none_sorted, one_sorted, Finishes, Runs}
use Rattle.type_definitions.specs.declared.walk.Frame.{Frame}
use Rattle.type_definitions.proofs.NumberLists.{not_true, among_none, among_left, among_right, among_cases, among_one, one_among, mentioner_within}

-- ---- Coming to types.

-- what is done is not come to again
pub done_already : (graph : List (List ℕ)) (done : List ℕ) (i : ℕ) (all : List ℕ) → FlatteningComesTo graph done i all
    → is_among done i ≡ true → all ≡ done
done_already graph done i all (flattened_already _ _ is) h = refl
done_already graph done i all (flattened_now _ more _ is each) h = absurd (both_ways (is_among done i) is h)

mutual
  -- what is done stays so
  pub stays_done : (graph : List (List ℕ)) (done : List ℕ) (i : ℕ) (all : List ℕ) (j : ℕ) → FlatteningComesTo graph done i all
      → is_among done j ≡ true → is_among all j ≡ true
  stays_done graph done i all j (flattened_already _ _ is) h = h
  stays_done graph done i all j (flattened_now _ more _ is each) h =
      among_left more (i ∷ []) j (stay_done graph done (mentioned_by graph i) more j each h)

  pub stay_done : (graph : List (List ℕ)) (done numbers all : List ℕ) (j : ℕ) → ComesToEach graph done numbers all
      → is_among done j ≡ true → is_among all j ≡ true
  stay_done graph done numbers all j (none_left _) h = h
  stay_done graph done numbers all j (next_come_to _ more _ i rest now later) h =
      stay_done graph more rest all j later (stays_done graph done i more j now h)

-- what was come to is done
pub is_done : (graph : List (List ℕ)) (done : List ℕ) (i : ℕ) (all : List ℕ) → FlatteningComesTo graph done i all → is_among all i ≡ true
is_done graph done i all (flattened_already _ _ is) = is
is_done graph done i all (flattened_now _ more _ is each) = among_right more (i ∷ []) i (one_among i i refl)

-- types that are all done
pub all_done : (graph : List (List ℕ)) (done numbers : List ℕ) → ((j : ℕ) → is_among numbers j ≡ true → is_among done j ≡ true)
    → ComesToEach graph done numbers done
all_done graph done [] are = none_left done
all_done graph done (i ∷ numbers) are =
    next_come_to done done done i numbers
    (flattened_already done i (are i (or_left (nat_eq i i) (is_among numbers i) (eq-eqb i i refl))))
    (all_done graph done numbers (λ j h. are j (or_right (nat_eq j i) (is_among numbers j) h)))

-- the first ones of them that are done are passed over
pub pass_over : (graph : List (List ℕ)) (count from to : ℕ) (numbers done all : List ℕ) → from + count ≡ to → to ≤ length numbers
    → ((k : ℕ) → from ≤ k → k < to → is_among done (get_or numbers k 0) ≡ true)
    → ComesToEach graph done (drop to numbers) all → ComesToEach graph done (drop from numbers) all
pass_over graph zero from to numbers done all at within are each =
    let same : to ≡ from = omega arith in
    subst (λ (k : ℕ). ComesToEach graph done (drop k numbers) all) same each
pass_over graph (suc count) from to numbers done all at within are each =
    let inside : from < length numbers = omega arith in
    let further : suc from + count ≡ to = omega arith in
    let here : from ≤ from = omega arith in
    let before : from < to = omega arith in
    subst (λ (xs : List ℕ). ComesToEach graph done xs all) (sym (drop-cons numbers from 0 inside))
    (next_come_to done done all (get_or numbers from 0) (drop (suc from) numbers)
    (flattened_already done (get_or numbers from 0) (are from here before))
    (pass_over graph count (suc from) to numbers done all further within (λ k above below. are k (omega arith) below) each))

pub each_first : (graph : List (List ℕ)) (done : List ℕ) (i : ℕ) (numbers all : List ℕ) → ComesToEach graph done (i ∷ numbers) all
    → (more : List ℕ) × FlatteningComesTo graph done i more × ComesToEach graph more numbers all
each_first graph done i numbers all (next_come_to _ more _ _ _ now later) = (more, now, later)

-- ---- What runs on for the types that wait.

pub runs_back : (graph : List (List ℕ)) (stack : List Frame) (frame : Frame) (done middle all : List ℕ)
    → Finishes graph done frame middle → Runs graph middle stack all → Runs graph done (stack ++ frame ∷ []) all
runs_back graph [] frame done middle all fin r = (done, refl, subst (λ (x : List ℕ). Finishes graph done frame x) r fin)
runs_back graph (g ∷ gs) frame done middle all fin r = (r.0, runs_back graph gs frame done middle r.0 fin r.1, r.2)

pub runs_front : (graph : List (List ℕ)) (stack : List Frame) (frame : Frame) (done all : List ℕ)
    → Runs graph done (stack ++ frame ∷ []) all
    → (middle : List ℕ) × Finishes graph done frame middle × Runs graph middle stack all
runs_front graph [] frame done all r = (all, subst (λ (x : List ℕ). Finishes graph x frame all) (sym r.1) r.2, refl)
runs_front graph (g ∷ gs) frame done all r =
    let f = runs_front graph gs frame done r.0 r.1 in
    (f.0, f.1, (r.0, f.2, r.2))

-- ---- An order leaves no cycle.

sorted_closed : (graph : List (List ℕ)) (order : List ℕ) (i j : ℕ) → IsSorted graph order → is_among order i ≡ true
    → Mentions graph i j → is_among order j ≡ true
sorted_closed graph order i j none_sorted h m = among_none i h
sorted_closed graph order i j (one_sorted done n sorted are) h m =
    elim (among_cases done (n ∷ []) i h) [
      | inl before ↦ among_left done (n ∷ []) j (sorted_closed graph done i j sorted before m)
      | inr one ↦ among_left done (n ∷ []) j (are j (subst (λ (k : ℕ). Mentions graph k j) (among_one n i one) m))
    ]

sorted_leads : (graph : List (List ℕ)) (order : List ℕ) (i j : ℕ) → IsSorted graph order → is_among order i ≡ true
    → MentionsLead graph i j → is_among order j ≡ true
sorted_leads graph order i j sorted h (leads_at_once m) = sorted_closed graph order i j sorted h m
sorted_leads graph order i j sorted h (leads_on {j = k} m further) =
    sorted_leads graph order k j sorted (sorted_closed graph order i k sorted h m) further

-- the first type on the way
first_step : (graph : List (List ℕ)) (i k : ℕ) → MentionsLead graph i k → (j : ℕ) × Mentions graph i j × ((j ≡ k) ⊎ MentionsLead graph j k)
first_step graph i k (leads_at_once m) = (k, m, inl refl)
first_step graph i k (leads_on {j = j} m further) = (j, m, inr further)

no_loop : (graph : List (List ℕ)) (order : List ℕ) (i : ℕ) → IsSorted graph order → is_among order i ≡ true → ¬ MentionsLead graph i i
no_loop graph order i none_sorted h = λ l. among_none i h
no_loop graph order i (one_sorted done n sorted are) h =
    by_cases (is_among done i) refl (λ before. no_loop graph done i sorted before)
  where
    by_cases : (b : Bool) → is_among done i ≡ b → (is_among done i ≡ true → ¬ MentionsLead graph i i) → ¬ MentionsLead graph i i
    by_cases true is below = below is
    by_cases false is below = λ l.
        let step = first_step graph i i l in
        let same : i ≡ n = elim (among_cases done (n ∷ []) i h) [
          | inl before ↦ absurd (both_ways (is_among done i) is before)
          | inr one ↦ among_one n i one
        ] in
        let there = are step.0 (subst (λ (k : ℕ). Mentions graph k step.0) same step.1) in
        elim step.2 [
          | inl back ↦ absurd (both_ways (is_among done i) is (subst (λ (k : ℕ). is_among done k ≡ true) back there))
          | inr back ↦ absurd (both_ways (is_among done i) is (sorted_leads graph done step.0 i sorted there back))
        ]

pub no_cycle : (graph : List (List ℕ)) (order : List ℕ) → IsSorted graph order
    → ((i : ℕ) → i < length graph → is_among order i ≡ true) → IsAcyclic graph
no_cycle graph order sorted all i j m on =
    let there = all i (mentioner_within graph i j m) in
    elim on [
      | inl same ↦ no_loop graph order i sorted there (leads_at_once (subst (λ (k : ℕ). Mentions graph i k) same m))
      | inr leads ↦ no_loop graph order i sorted there (leads_on m leads)
    ]
