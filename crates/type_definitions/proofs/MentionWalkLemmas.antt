-- The walk: a type waits, a type is done, the next mention waits, a cycle, the end.
use Rattle.std.proofs.Common.{◌≡◌, ℕ, zero, suc, ◌+◌, ◌-◌, ◌*◌, ◌<◌, ◌≤◌, Bool, true, false, cond, List, [], ◌∷◌, ◌++◌, ◌⊎◌, length, map, get_or, set, drop, replicate, inl, inr, refl, ap, sym, ◌∙◌, subst, arith}
use Rattle.std.specs.Prelude.{Some, slice_get, nat_eq}
use Rattle.std.specs.List.{All, count_by}
use Rattle.std.proofs.Math.Seq.{drop-cons}
use Rattle.std.proofs.lemmas.Bool.{cases_lt, eq-eqb, or_cases, or_left, or_right}
use Rattle.std.proofs.lemmas.List.{length-append, length-set, map-append, get_or-set_same, get_or-set_other, get_or_past, get_or-replicate, length-replicate}
use Rattle.std.proofs.lemmas.List.Elements.{All-nil, All-push, All-pop, All-weaker}
use Rattle.std.proofs.lemmas.List.Sums.{sum_by-set}
use Rattle.std.proofs.lemmas.Option.{slice_get-get_or, slice_get_within, get_or_from_slice_get}
use Rattle.type_definitions.specs.TypeGraph.{is_among, mentioned_by, Mentions, IsWithin, MentionsLead, leads_at_once, IsOnCycle, HasCycle}
use Rattle.type_definitions.specs.FlatteningOrder.{FlatteningComesTo, flattened_already, flattened_now, ComesToEach, next_come_to}
use Rattle.type_definitions.specs.ProgressTests.{is_unseen, is_in_progress, is_done}
use Rattle.type_definitions.specs.Walking.{progress_at, work_left, IsSorted, none_sorted, one_sorted, IsFrame, IsChain, waiting_numbers, IsTypeWalk, Finishes, Runs, WalkStarts, GoesOn, IsNextMention, HasNoNext}
use Rattle.type_definitions.specs.declared.walk.Frame.{Frame}
use Rattle.type_definitions.specs.declared.walk.Progress.{Progress}
use Rattle.type_definitions.specs.declared.walk.Progress.TheVariants.{Unseen, Open, Done}
use Rattle.type_definitions.proofs.NumberLists.{not_true, same_or_not, among_none, among_left, among_right, among_cases, among_one, one_among, among_at, at_among, among_drop}
use Rattle.type_definitions.proofs.OrderLemmas.{done_already, all_done, pass_over, each_first, runs_back, runs_front}
use Rattle.type_definitions.proofs.ReachLemmas.{leads_end}

-- ---- Marks.

pub here : (p : List Progress) (n i : ℕ) (v : Progress) → n < length p → i ≡ n → progress_at (set p n v) i ≡ v
here p n i v within same =
    subst (λ (k : ℕ). progress_at (set p n v) k ≡ v) (sym same) (get_or-set_same p n v Unseen within)

pub elsewhere : (p : List Progress) (n i : ℕ) (v : Progress) → ¬ (i ≡ n) → progress_at (set p n v) i ≡ progress_at p i
elsewhere p n i v other = get_or-set_other p n i v Unseen other

pub unseen_of : (s : Progress) → ¬ (s ≡ Done) → ¬ (s ≡ Open) → s ≡ Unseen
unseen_of Unseen other another = refl
unseen_of Open other another = absurd (another refl)
unseen_of Done other another = absurd (other refl)

pub done_is : (s : Progress) → true ≡ is_done s → s ≡ Done
done_is Unseen e = cc
done_is Open e = cc
done_is Done e = refl

pub not_done : (s : Progress) → false ≡ is_done s → ¬ (s ≡ Done)
not_done s e same = let both : false ≡ true = e ∙ ap is_done same in cc

pub open_is : (s : Progress) → true ≡ is_in_progress s → s ≡ Open
open_is Unseen e = cc
open_is Open e = refl
open_is Done e = cc

pub not_open : (s : Progress) → false ≡ is_in_progress s → ¬ (s ≡ Open)
not_open s e same = let both : false ≡ true = e ∙ ap is_in_progress same in cc

-- ---- Chains.

numbers_with : (stack : List Frame) (f : Frame) → waiting_numbers (stack ++ f ∷ []) ≡ waiting_numbers stack ++ f.number ∷ []
numbers_with stack f = map-append (λ (g : Frame). g.number) stack (f ∷ [])

chain_with : (graph : List (List ℕ)) (is : List ℕ) (m : ℕ) → IsChain graph is
    → ((i : ℕ) → is_among is i ≡ true → MentionsLead graph i m) → IsChain graph (is ++ m ∷ [])
chain_with graph [] m c leads = ((λ j h. among_none j h), tt)
chain_with graph (i ∷ is) m c leads = (
  (λ j h.
      elim (among_cases is (m ∷ []) j h) [
        | inl there ↦ c.0 j there
        | inr one ↦
            subst (λ (k : ℕ). MentionsLead graph i k) (sym (among_one m j one))
            (leads i (or_left (nat_eq i i) (is_among is i) (eq-eqb i i refl)))
      ]),
  chain_with graph is m c.1 (λ k h. leads k (or_right (nat_eq k i) (is_among is k) h)),
)

chain_front : (graph : List (List ℕ)) (is : List ℕ) (m : ℕ) → IsChain graph (is ++ m ∷ [])
    → IsChain graph is × ((i : ℕ) → is_among is i ≡ true → MentionsLead graph i m)
chain_front graph [] m c = (tt, (λ i h. among_none i h))
chain_front graph (i ∷ is) m c =
    let rest = chain_front graph is m c.1 in (
      ((λ j h. c.0 j (among_left is (m ∷ []) j h)), rest.0),
      (λ k h.
          elim (or_cases (nat_eq k i) (is_among is k) h) [
            | inl same ↦
                subst (λ (x : ℕ). MentionsLead graph x m) (sym (among_one i k (or_left (nat_eq k i) false same)))
                (c.0 m (among_right is (m ∷ []) m (one_among m m refl)))
            | inr there ↦ rest.1 k there
          ]),
    )

top_chain : (graph : List (List ℕ)) (p : List Progress) (order : List ℕ) (stack : List Frame) (f : Frame)
    → IsTypeWalk graph p order (stack ++ f ∷ [])
    → IsChain graph (waiting_numbers stack) × ((i : ℕ) → is_among (waiting_numbers stack) i ≡ true → MentionsLead graph i f.number)
top_chain graph p order stack f w =
    chain_front graph (waiting_numbers stack) f.number (subst (λ (ns : List ℕ). IsChain graph ns) (numbers_with stack f) w.chain)

front_frames : (graph : List (List ℕ)) (p : List Progress) (order : List ℕ) (stack : List Frame) (f : Frame)
    → IsTypeWalk graph p order (stack ++ f ∷ []) → All (IsFrame graph order) stack × IsFrame graph order f
front_frames graph p order stack f w = All-pop (IsFrame graph order) (stack ++ f ∷ []) stack (Some f) refl w.frames

pub top_frame : (graph : List (List ℕ)) (p : List Progress) (order : List ℕ) (stack : List Frame) (f : Frame)
    → IsTypeWalk graph p order (stack ++ f ∷ []) → IsFrame graph order f
top_frame graph p order stack f w = (front_frames graph p order stack f w).1

-- ---- The beginning.

pub nothing_walked : (graph : List (List ℕ)) (n : ℕ) → n ≡ length graph → IsTypeWalk graph (replicate n Unseen) [] []
nothing_walked graph n all = record {
  covers = length-replicate n Unseen ∙ all;
  sorted = none_sorted;
  done = λ i h. let e : Unseen ≡ Done = sym (unseen i) ∙ h in cc;
  finished = λ i h. among_none i h;
  opened = λ i h. let e : Unseen ≡ Open = sym (unseen i) ∙ h in cc;
  frames = All-nil (IsFrame graph []);
  chain = tt;
}
  where
    unseen : (i : ℕ) → progress_at (replicate n Unseen) i ≡ Unseen
    unseen i =
        elim (cases_lt i n) [
          | inl within ↦ get_or-replicate n i Unseen Unseen within
          | inr past ↦ get_or_past (replicate n Unseen) i Unseen (omega (arith, length-replicate n Unseen))
        ]

-- ---- A type waits.

pub waits_now : (graph : List (List ℕ)) (p : List Progress) (order : List ℕ) (stack : List Frame) (m : ℕ) → IsTypeWalk graph p order stack
    → m < length graph → progress_at p m ≡ Unseen → ((i : ℕ) → is_among (waiting_numbers stack) i ≡ true → MentionsLead graph i m)
    → IsTypeWalk graph (set p m Open) order (stack ++ record { number = m; next = 0 } ∷ [])
waits_now graph p order stack m w type_ unseen leads = record {
  covers = length-set p m Open ∙ w.covers;
  sorted = w.sorted;
  done = λ i h.
      elim (same_or_not i m) [
        | inl same ↦ let e : Open ≡ Done = sym (here p m i Open within same) ∙ h in cc
        | inr other ↦ w.done i (sym (elsewhere p m i Open other) ∙ h)
      ];
  finished = λ i h.
      elim (same_or_not i m) [
        | inl same ↦
            let e : Unseen ≡ Done = sym unseen ∙ subst (λ (k : ℕ). progress_at p k ≡ Done) same (w.finished i h) in
            cc
        | inr other ↦ elsewhere p m i Open other ∙ w.finished i h
      ];
  opened = λ i h.
      subst (λ (ns : List ℕ). is_among ns i ≡ true) (sym (numbers_with stack (record { number = m; next = 0 })))
      (elim (same_or_not i m) [
        | inl same ↦ among_right (waiting_numbers stack) (m ∷ []) i (one_among m i same)
        | inr other ↦ among_left (waiting_numbers stack) (m ∷ []) i (w.opened i (sym (elsewhere p m i Open other) ∙ h))
      ]);
  frames = All-push (IsFrame graph order) stack (record { number = m; next = 0 }) w.frames
      (record { is_type = type_; passed = λ k below inside. absurd (omega arith) });
  chain = subst (λ (ns : List ℕ). IsChain graph ns) (sym (numbers_with stack (record { number = m; next = 0 })))
      (chain_with graph (waiting_numbers stack) m w.chain leads);
}
  where
    within : m < length p
    within = subst (λ (k : ℕ). m < k) (sym w.covers) type_

-- the type that waits on top, with further mentions passed
pub moved_on : (graph : List (List ℕ)) (p : List Progress) (order : List ℕ) (stack : List Frame) (f g : Frame)
    → IsTypeWalk graph p order (stack ++ f ∷ []) → g.number ≡ f.number → IsFrame graph order g
    → IsTypeWalk graph p order (stack ++ g ∷ [])
moved_on graph p order stack f g w same frame = record {
  covers = w.covers;
  sorted = w.sorted;
  done = w.done;
  finished = w.finished;
  opened = λ i h. subst (λ (ns : List ℕ). is_among ns i ≡ true) numbers (w.opened i h);
  frames = All-push (IsFrame graph order) stack g (front_frames graph p order stack f w).0 frame;
  chain = subst (λ (ns : List ℕ). IsChain graph ns) numbers w.chain;
}
  where
    numbers : waiting_numbers (stack ++ f ∷ []) ≡ waiting_numbers (stack ++ g ∷ [])
    numbers =
        numbers_with stack f ∙ ap (λ (n : ℕ). waiting_numbers stack ++ n ∷ []) (sym same) ∙ sym (numbers_with stack g)

-- ---- A type is done.

pub mentions_done : (graph : List (List ℕ)) (p : List Progress) (order : List ℕ) (stack : List Frame) (f : Frame)
    → IsTypeWalk graph p order (stack ++ f ∷ []) → HasNoNext (mentioned_by graph f.number) p f.next
    → (j : ℕ) → Mentions graph f.number j → is_among order j ≡ true
mentions_done graph p order stack f w none j m =
    let at = at_among (mentioned_by graph f.number) j m in
    let inside : at.0 < length (mentioned_by graph f.number) = slice_get_within (mentioned_by graph f.number) at.0 j at.1 in
    let is : get_or (mentioned_by graph f.number) at.0 0 ≡ j = get_or_from_slice_get (mentioned_by graph f.number) at.0 j 0 at.1 in
    subst (λ (k : ℕ). is_among order k ≡ true) is
    (elim (cases_lt at.0 f.next) [
      | inl before ↦ (top_frame graph p order stack f w).passed at.0 before inside
      | inr from ↦ w.done (get_or (mentioned_by graph f.number) at.0 0) (none at.0 from inside)
    ])

done_now : (graph : List (List ℕ)) (p : List Progress) (order : List ℕ) (stack : List Frame) (f : Frame)
    → IsTypeWalk graph p order (stack ++ f ∷ []) → ((j : ℕ) → Mentions graph f.number j → is_among order j ≡ true)
    → IsTypeWalk graph (set p f.number Done) (order ++ f.number ∷ []) stack
done_now graph p order stack f w are = record {
  covers = length-set p f.number Done ∙ w.covers;
  sorted = one_sorted order f.number w.sorted are;
  done = λ i h.
      elim (same_or_not i f.number) [
        | inl same ↦ among_right order (f.number ∷ []) i (one_among f.number i same)
        | inr other ↦ among_left order (f.number ∷ []) i (w.done i (sym (elsewhere p f.number i Done other) ∙ h))
      ];
  finished = λ i h.
      elim (same_or_not i f.number) [
        | inl same ↦ here p f.number i Done within same
        | inr other ↦
            elim (among_cases order (f.number ∷ []) i h) [
              | inl before ↦ elsewhere p f.number i Done other ∙ w.finished i before
              | inr one ↦ absurd (other (among_one f.number i one))
            ]
      ];
  opened = λ i h.
      elim (same_or_not i f.number) [
        | inl same ↦ let e : Done ≡ Open = sym (here p f.number i Done within same) ∙ h in cc
        | inr other ↦
            elim (among_cases (waiting_numbers stack) (f.number ∷ []) i (subst (λ (ns : List ℕ). is_among ns i ≡ true)
            (numbers_with stack f) (w.opened i (sym (elsewhere p f.number i Done other) ∙ h)))) [
              | inl there ↦ there
              | inr one ↦ absurd (other (among_one f.number i one))
            ]
      ];
  frames = All-weaker (IsFrame graph order) (IsFrame graph (order ++ f.number ∷ []))
      (λ g old. record {
        is_type = old.is_type;
        passed = λ k below inside.
            among_left order (f.number ∷ []) (get_or (mentioned_by graph g.number) k 0) (old.passed k below inside);
      })
      stack (front_frames graph p order stack f w).0;
  chain = (top_chain graph p order stack f w).0;
}
  where
    within : f.number < length p
    within = subst (λ (k : ℕ). f.number < k) (sym w.covers) (top_frame graph p order stack f w).is_type

no_more : (s : Progress) (u v : ℕ) → u + cond (is_unseen s) 1 0 ≡ v + cond (is_unseen Done) 1 0 → u ≤ v
no_more s u v h = omega arith

pub goes_done : (graph : List (List ℕ)) (p : List Progress) (order : List ℕ) (stack : List Frame) (f : Frame) (order' : List ℕ)
    → IsTypeWalk graph p order (stack ++ f ∷ []) → HasNoNext (mentioned_by graph f.number) p f.next
    → order' ≡ order ++ f.number ∷ []
    → GoesOn graph p order (stack ++ f ∷ []) (set p f.number Done) order' stack
goes_done graph p order stack f order' w none is = subst
    (λ (xs : List ℕ). GoesOn graph p order (stack ++ f ∷ []) (set p f.number Done) xs stack) (sym is)
    (record {
      walk = done_now graph p order stack f w are;
      runs = λ all r. runs_back graph stack f order (order ++ f.number ∷ []) all (
        order,
        all_done graph order (drop f.next (mentioned_by graph f.number))
            (λ j h. are j (among_drop f.next (mentioned_by graph f.number) j h)),
        refl,
      ) r;
      less = omega (arith, fewer, length-append stack (f ∷ []));
    })
  where
    are : (j : ℕ) → Mentions graph f.number j → is_among order j ≡ true
    are = mentions_done graph p order stack f w none

    within : f.number < length p
    within = subst (λ (k : ℕ). f.number < k) (sym w.covers) (top_frame graph p order stack f w).is_type

    fewer : count_by is_unseen (set p f.number Done) ≤ count_by is_unseen p
    fewer = no_more (get_or p f.number Unseen) _ _ (sum_by-set (λ (s : Progress). cond (is_unseen s) 1 0) p f.number Done Unseen within)

-- ---- The next mention waits.

one_fewer : (s : Progress) (u v : ℕ) → s ≡ Unseen → u + cond (is_unseen s) 1 0 ≡ v + cond (is_unseen Open) 1 0 → u + 1 ≡ v
one_fewer Unseen u v e h = omega arith
one_fewer Open u v e h = cc
one_fewer Done u v e h = cc

pub unseen_not_done : (graph : List (List ℕ)) (p : List Progress) (order : List ℕ) (stack : List Frame) (m : ℕ)
    → IsTypeWalk graph p order stack → progress_at p m ≡ Unseen → is_among order m ≡ false
unseen_not_done graph p order stack m w unseen =
    not_true (is_among order m) (λ h. let e : Unseen ≡ Done = sym unseen ∙ w.finished m h in cc)

abbrev pub with_next : Frame → ℕ → Frame
with_next f position = record { number = f.number; next = position }

abbrev pub first_frame_of : ℕ → Frame
first_frame_of m = record { number = m; next = 0 }

runs_next : (graph : List (List ℕ)) (p : List Progress) (order : List ℕ) (stack : List Frame) (f : Frame) (position m : ℕ)
    → IsTypeWalk graph p order (stack ++ f ∷ []) → IsNextMention (mentioned_by graph f.number) p f.next position
    → get_or (mentioned_by graph f.number) position 0 ≡ m → progress_at p m ≡ Unseen → (all : List ℕ)
    → Runs graph order ((stack ++ with_next f position ∷ []) ++ first_frame_of m ∷ []) all
    → Runs graph order (stack ++ f ∷ []) all
runs_next graph p order stack f position m w next is unseen all r =
    let one = runs_front graph (stack ++ with_next f position ∷ []) (first_frame_of m) order all r in
    let two = runs_front graph stack (with_next f position) one.0 all one.2 in
    let ms : List ℕ = mentioned_by graph f.number in
    let cut : drop position ms ≡ m ∷ drop (suc position) ms =
    drop-cons ms position 0 next.within ∙ ap (λ (k : ℕ). k ∷ drop (suc position) ms) is in
    let split = each_first graph one.0 m (drop (suc position) ms) two.1.0
    (subst (λ (xs : List ℕ). ComesToEach graph one.0 xs two.1.0) cut two.1.1) in
    let m_done : is_among one.0 m ≡ true =
    subst (λ (xs : List ℕ). is_among xs m ≡ true) one.1.2 (among_right one.1.0 (m ∷ []) m (one_among m m refl)) in
    let same : split.0 ≡ one.0 = done_already graph one.0 m split.0 split.1 m_done in
    let later : ComesToEach graph one.0 (drop (suc position) ms) two.1.0 =
    subst (λ (xs : List ℕ). ComesToEach graph xs (drop (suc position) ms) two.1.0) same split.2 in
    let now : FlatteningComesTo graph order m one.0 =
    subst (λ (xs : List ℕ). FlatteningComesTo graph order m xs) one.1.2
    (flattened_now order one.1.0 m (unseen_not_done graph p order (stack ++ f ∷ []) m w unseen) one.1.1) in
    let from_position : ComesToEach graph order (drop position ms) two.1.0 =
    subst (λ (xs : List ℕ). ComesToEach graph order xs two.1.0) (sym cut)
    (next_come_to order one.0 two.1.0 m (drop (suc position) ms) now later) in
    let as_far : f.next + (position - f.next) ≡ position = omega (arith, next.not_before) in
    let inside : position ≤ length ms = omega (arith, next.within) in
    let whole : ComesToEach graph order (drop f.next ms) two.1.0 =
    pass_over graph (position - f.next) f.next position ms order two.1.0 as_far inside
    (λ k above below. w.done (get_or ms k 0) (next.passed k above below)) from_position in
    runs_back graph stack f order two.0 all (two.1.0, whole, two.1.2) two.2

pub goes_next : (graph : List (List ℕ)) (p : List Progress) (order : List ℕ) (stack : List Frame) (f : Frame) (position m : ℕ)
    (stack' : List Frame)
    → IsWithin graph → IsTypeWalk graph p order (stack ++ f ∷ []) → IsNextMention (mentioned_by graph f.number) p f.next position
    → get_or (mentioned_by graph f.number) position 0 ≡ m → progress_at p m ≡ Unseen
    → stack' ≡ (stack ++ with_next f position ∷ []) ++ first_frame_of m ∷ []
    → GoesOn graph p order (stack ++ f ∷ []) (set p m Open) order stack'
goes_next graph p order stack f position m stack' inside w next is unseen stack_is = subst
    (λ (xs : List Frame). GoesOn graph p order (stack ++ f ∷ []) (set p m Open) order xs) (sym stack_is)
    (record {
      walk = waits_now graph p order (stack ++ with_next f position ∷ []) m moved type_ unseen leads;
      runs = λ all r. runs_next graph p order stack f position m w next is unseen all r;
      less = omega (
        arith,
        fewer,
        length-append stack (f ∷ []),
        length-append stack (with_next f position ∷ []),
        length-append (stack ++ with_next f position ∷ []) (first_frame_of m ∷ []),
      );
    })
  where
    found : slice_get (mentioned_by graph f.number) position ≡ Some m
    found = slice_get-get_or (mentioned_by graph f.number) position 0 next.within ∙ ap (λ (k : ℕ). Some k) is

    mention : Mentions graph f.number m
    mention = among_at (mentioned_by graph f.number) position m found

    type_ : m < length graph
    type_ = inside f.number m mention

    top : IsFrame graph order f
    top = top_frame graph p order stack f w

    within : m < length p
    within = subst (λ (k : ℕ). m < k) (sym w.covers) type_

    passed_more : (k : ℕ) → k < position → k < length (mentioned_by graph f.number)
        → is_among order (get_or (mentioned_by graph f.number) k 0) ≡ true
    passed_more k below there =
        elim (cases_lt k f.next) [
          | inl before ↦ top.passed k before there
          | inr from ↦ w.done (get_or (mentioned_by graph f.number) k 0) (next.passed k from below)
        ]

    moved : IsTypeWalk graph p order (stack ++ with_next f position ∷ [])
    moved = moved_on graph p order stack f (with_next f position) w refl (record { is_type = top.is_type; passed = passed_more })

    leads : (i : ℕ) → is_among (waiting_numbers (stack ++ with_next f position ∷ [])) i ≡ true → MentionsLead graph i m
    leads i h =
        elim (among_cases (waiting_numbers stack) (f.number ∷ []) i (subst (λ (ns : List ℕ). is_among ns i ≡ true)
        (numbers_with stack (with_next f position)) h)) [
          | inl there ↦ leads_end graph i f.number m ((top_chain graph p order stack f w).1 i there) mention
          | inr one ↦ leads_at_once (subst (λ (k : ℕ). Mentions graph k m) (sym (among_one f.number i one)) mention)
        ]

    fewer : count_by is_unseen (set p m Open) + 1 ≡ count_by is_unseen p
    fewer = one_fewer (get_or p m Unseen) _ _ unseen (sum_by-set (λ (s : Progress). cond (is_unseen s) 1 0) p m Open Unseen within)

-- ---- A cycle.

pub closes_cycle : (graph : List (List ℕ)) (p : List Progress) (order : List ℕ) (stack : List Frame) (f : Frame) (position m : ℕ)
    → IsTypeWalk graph p order (stack ++ f ∷ []) → IsNextMention (mentioned_by graph f.number) p f.next position
    → get_or (mentioned_by graph f.number) position 0 ≡ m → progress_at p m ≡ Open → HasCycle graph
closes_cycle graph p order stack f position m w next is waits = (f.number, m, mention, on)
  where
    mention : Mentions graph f.number m
    mention = among_at (mentioned_by graph f.number) position m
        (slice_get-get_or (mentioned_by graph f.number) position 0 next.within ∙ ap (λ (k : ℕ). Some k) is)

    on : IsOnCycle graph f.number m
    on =
        elim (among_cases (waiting_numbers stack) (f.number ∷ []) m (subst (λ (ns : List ℕ). is_among ns m ≡ true)
        (numbers_with stack f) (w.opened m waits))) [
          | inl there ↦ inr ((top_chain graph p order stack f w).1 m there)
          | inr one ↦ inl (among_one f.number m one)
        ]

-- ---- The first type of a walk.

pub starts_done : (graph : List (List ℕ)) (p : List Progress) (order : List ℕ) (root : ℕ) (stack : List Frame) → stack ≡ []
    → IsTypeWalk graph p order [] → progress_at p root ≡ Done → WalkStarts graph p order root stack
starts_done graph p order root stack empty w is = subst (λ (xs : List Frame). WalkStarts graph p order root xs) (sym empty) (record {
  walk = w;
  runs = λ all e. subst (λ (xs : List ℕ). FlatteningComesTo graph order root xs) e (flattened_already order root (w.done root is));
})

pub starts_now : (graph : List (List ℕ)) (p : List Progress) (order : List ℕ) (root : ℕ) (stack : List Frame)
    → stack ≡ first_frame_of root ∷ [] → IsTypeWalk graph p order [] → root < length graph → ¬ (progress_at p root ≡ Done)
    → WalkStarts graph (set p root Open) order root stack
starts_now graph p order root stack is w type_ waits =
    subst (λ (xs : List Frame). WalkStarts graph (set p root Open) order root xs) (sym is) (record {
      walk = waits_now graph p order [] root w type_ unseen (λ i h. among_none i h);
      runs = λ all run.
          subst (λ (xs : List ℕ). FlatteningComesTo graph order root xs) run.2.2
          (flattened_now order run.2.0 root (unseen_not_done graph p order [] root w unseen)
          (subst (λ (xs : List ℕ). ComesToEach graph xs (mentioned_by graph root) run.2.0) (sym run.1) run.2.1));
    })
  where
    unseen : progress_at p root ≡ Unseen
    unseen = unseen_of (progress_at p root) waits (λ open_. among_none root (w.opened root open_))

-- ---- Steps, where what the type mentions is known by an equation.

pub mention_within : (graph : List (List ℕ)) (p : List Progress) (order : List ℕ) (stack : List Frame) (n : ℕ) (ms : List ℕ)
    → IsWithin graph → IsTypeWalk graph p order stack → ms ≡ mentioned_by graph n → (k : ℕ) → k < length ms
    → get_or ms k 0 < length p
mention_within graph p order stack n ms within w is k inside =
    subst (λ (m : ℕ). get_or ms k 0 < m) (sym w.covers)
    (within n (get_or ms k 0) (subst (λ (xs : List ℕ). is_among xs (get_or ms k 0) ≡ true) is
    (among_at ms k (get_or ms k 0) (slice_get-get_or ms k 0 inside))))

pub step_done : (graph : List (List ℕ)) (p : List Progress) (order : List ℕ) (stack : List Frame) (f : Frame) (ms order' : List ℕ)
    → ms ≡ mentioned_by graph f.number → IsTypeWalk graph p order (stack ++ f ∷ []) → HasNoNext ms p f.next
    → order' ≡ order ++ f.number ∷ [] → GoesOn graph p order (stack ++ f ∷ []) (set p f.number Done) order' stack
step_done graph p order stack f ms order' is w none more =
    goes_done graph p order stack f order' w (subst (λ (xs : List ℕ). HasNoNext xs p f.next) is none) more

pub step_next : (graph : List (List ℕ)) (p : List Progress) (order : List ℕ) (stack : List Frame) (f : Frame) (ms : List ℕ) (position : ℕ)
    (stack' : List Frame)
    → ms ≡ mentioned_by graph f.number → IsWithin graph → IsTypeWalk graph p order (stack ++ f ∷ []) → IsNextMention ms p f.next position
    → ¬ (progress_at p (get_or ms position 0) ≡ Open)
    → stack' ≡ (stack ++ with_next f position ∷ []) ++ first_frame_of (get_or ms position 0) ∷ []
    → GoesOn graph p order (stack ++ f ∷ []) (set p (get_or ms position 0) Open) order stack'
step_next graph p order stack f ms position stack' is inside w next waits stack_is =
    goes_next graph p order stack f position (get_or ms position 0) stack' inside w
    (subst (λ (xs : List ℕ). IsNextMention xs p f.next position) is next)
    (ap (λ (xs : List ℕ). get_or xs position 0) (sym is))
    (unseen_of (progress_at p (get_or ms position 0)) next.waits waits) stack_is

pub step_cycle : (graph : List (List ℕ)) (p : List Progress) (order : List ℕ) (stack : List Frame) (f : Frame) (ms : List ℕ) (position : ℕ)
    → ms ≡ mentioned_by graph f.number → IsTypeWalk graph p order (stack ++ f ∷ []) → IsNextMention ms p f.next position
    → progress_at p (get_or ms position 0) ≡ Open → HasCycle graph
step_cycle graph p order stack f ms position is w next waits =
    closes_cycle graph p order stack f position (get_or ms position 0) w
    (subst (λ (xs : List ℕ). IsNextMention xs p f.next position) is next)
    (ap (λ (xs : List ℕ). get_or xs position 0) (sym is)) waits
