-- Solving a draft on one list of tests: its conditions, and each value of its label and each leaf as a test with itself.
use Rattle.std.proofs.Common.{◌≡◌, ◌<◌, ◌≤◌, ◌⊎◌, inl, inr, ◌-◌, ℕ, zero, suc, List, [], ◌∷◌, ◌++◌, map, length, drop, slice_get, Option, None, Some, Bool, true, false, ◌&&◌, ◌||◌, not, cond, refl, ap, sym, ◌∙◌, subst, arith, append-nil, length-append}
use Rattle.std.proofs.lemmas.Bool.{le-ltb}
use Rattle.std.proofs.lemmas.List.{length-map, map-append}
use Rattle.lotos_base.specs.Term.{Term, variable, node}
use Rattle.lotos_base.specs.Tests.{term_eq, is_ground}
use Rattle.lotos_base.specs.Sorting.{HasSort, Occurs}
use Rattle.lotos_base.specs.Equation.{Data}
use Rattle.lotos_base.specs.Substitution.{substituted}
use Rattle.lotos_base.specs.Canon.{IsCanon}
use Rattle.lotos_base.proofs.TestLemmas.{Decides-term_eq}
use Rattle.behaviour_semantics.specs.Behaviour.{Test}
use Rattle.behaviour_semantics.specs.Label.{Label, inner_event, gate_event, exit_event}
use Rattle.behaviour_semantics.specs.Rule.{label_values}
use Rattle.behaviour_semantics.specs.Draft.{Draft}
use Rattle.behaviour_semantics.specs.Solving.{label_in, test_in, canonical, differing, has_closed, tidied, replacement_of, first_found, first_replacement, replaced, variables_left, entry_of, SolvesTo, unsolvable, settled}
use Rattle.behaviour_semantics.specs.WellFormed.{Every}
use Rattle.behaviour_semantics.specs.DraftOrder.{IsLeaf, IsDraftTerm, IsDraftTest, IsInOrder}
use Rattle.behaviour_semantics.proofs.OptionLemmas.{some_value}
use Rattle.behaviour_semantics.proofs.ListLemmas.{Every-append, Every-at}
use Rattle.behaviour_semantics.proofs.DraftsInOrder.{changed_in_order, canon_changes, came_from, draft_with-in, label_values-in}
use Rattle.behaviour_semantics.proofs.ReplacementsInOrder.{put_for, Replaces, rests_on, replacement_changes, was_leaf, gone}
use Rattle.behaviour_semantics.proofs.LeftVariables.{less, fewer}
use Rattle.behaviour_semantics.proofs.RenamedSolving.{terms_in_order}
use Rattle.behaviour_semantics.proofs.SolvingSteps.{same_step, same_tidied, same_then, differing-append}
use Rattle.behaviour_semantics.proofs.JoinedSides.{after, canonical_twice, canonical_same, dropped, dropped-before}
use Rattle.draft_solving.specs.Conditions.{is_unmet, AreOpen, HasUnmet, GiveNoneBefore}
use Rattle.draft_solving.specs.OnTheWay.{IsOnTheWay, spread_draft}
use Rattle.draft_solving.specs.Spreading.{itself, spread_of}

-- ---- The first replacement of a list.

pub first_at : (tests : List Test) (k : ℕ) (test : Test) (found : ℕ × Term) → GiveNoneBefore k tests → slice_get tests k ≡ Some test
    → replacement_of test.left test.right ≡ Some found → first_replacement tests ≡ Some found
first_at [] k test found none at gives = absurd (cc at)
first_at (t ∷ tests) zero test found none at gives =
    ap (λ (o : Option (ℕ × Term)). first_found o (first_replacement tests))
    (ap (λ (u : Test). replacement_of u.left u.right) (some_value at) ∙ gives)
first_at (t ∷ tests) (suc k) test found none at gives =
    ap (λ (o : Option (ℕ × Term)). first_found o (first_replacement tests)) (none 0 t (omega arith) refl)
    ∙ first_at tests k test found (λ i u lt here. none (suc i) u (omega arith) here) at gives

pub first_nowhere : (tests : List Test) → GiveNoneBefore (length tests) tests → first_replacement tests ≡ None
first_nowhere [] none = refl
first_nowhere (t ∷ tests) none =
    ap (λ (o : Option (ℕ × Term)). first_found o (first_replacement tests)) (none 0 t (omega arith) refl)
    ∙ first_nowhere tests (λ i u lt here. none (suc i) u (omega arith) here)

-- Identical sides give no replacement.
one_gives_none : (t : Term) → replacement_of t t ≡ None
one_gives_none (variable n s) = rw (le-ltb n n (let le : n ≤ n = omega arith in le)) refl
one_gives_none (node f ts) = refl

same_gives_none : (left right : Term) → term_eq left right ≡ true → replacement_of left right ≡ None
same_gives_none left right e = ap (replacement_of left) (sym ((Decides-term_eq left right).0 e)) ∙ one_gives_none left

pub first_differing : (tests : List Test) → first_replacement (differing tests) ≡ first_replacement tests
first_differing [] = refl
first_differing (test ∷ tests) = by (term_eq test.left test.right) refl (first_differing tests)
  where
    by : (same : Bool) → term_eq test.left test.right ≡ same → first_replacement (differing tests) ≡ first_replacement tests
        → first_replacement (cond (not same) (test ∷ differing tests) (differing tests))
        ≡ first_found (replacement_of test.left test.right) (first_replacement tests)
    by true e rest = rest ∙ ap (λ (o : Option (ℕ × Term)). first_found o (first_replacement tests))
        (sym (same_gives_none test.left test.right e))
    by false e rest = ap (first_found (replacement_of test.left test.right)) rest

-- ---- Conditions that nothing meets.

pub closed_unless_open : (tests : List Test) → AreOpen tests → has_closed (differing tests) ≡ false
closed_unless_open [] open_ = refl
closed_unless_open (test ∷ tests) open_ =
    by (term_eq test.left test.right) (is_ground test.left && is_ground test.right) refl (open_ 0 test refl)
    (closed_unless_open tests (λ k. open_ (suc k)))
  where
    by : (same closed : Bool) → (is_ground test.left && is_ground test.right) ≡ closed → (closed && not same) ≡ false
        → has_closed (differing tests) ≡ false → has_closed (cond (not same) (test ∷ differing tests) (differing tests)) ≡ false
    by true closed is e rest = rest
    by false true is e rest = absurd (cc e)
    by false false is e rest = ap (λ (b : Bool). b || has_closed (differing tests)) is ∙ rest

pub closed_where_unmet : (tests : List Test) → HasUnmet tests → has_closed (differing tests) ≡ true
closed_where_unmet tests h = at tests h.place h.stands
  where
    unmet_parts : (closed same : Bool) → (closed && not same) ≡ true → (closed ≡ true) × (same ≡ false)
    unmet_parts true false e = (refl, refl)
    unmet_parts true true e = absurd (cc e)
    unmet_parts false same e = absurd (cc e)

    here : (test : Test) (tests : List Test) → test ≡ h.test → has_closed (differing (test ∷ tests)) ≡ true
    here test tests same =
        let unmet : is_unmet test ≡ true = ap (λ (u : Test). is_unmet u) same ∙ h.unmet in
        let parts : ((is_ground test.left && is_ground test.right) ≡ true) × (term_eq test.left test.right ≡ false) =
        unmet_parts (is_ground test.left && is_ground test.right) (term_eq test.left test.right) unmet in
        ap (λ (b : Bool). has_closed (cond (not b) (test ∷ differing tests) (differing tests))) parts.1
        ∙ ap (λ (b : Bool). b || has_closed (differing tests)) parts.0

    later : (test : Test) (tests : List Test) (keep : Bool) → has_closed (differing tests) ≡ true
        → has_closed (cond keep (test ∷ differing tests) (differing tests)) ≡ true
    later test tests true rest = or_true (is_ground test.left && is_ground test.right)
      where
        or_true : (b : Bool) → (b || has_closed (differing tests)) ≡ true
        or_true true = refl
        or_true false = rest
    later test tests false rest = rest

    at : (tests : List Test) (k : ℕ) → slice_get tests k ≡ Some h.test → has_closed (differing tests) ≡ true
    at [] k stands = absurd (cc stands)
    at (test ∷ tests) zero stands = here test tests (some_value stands)
    at (test ∷ tests) (suc k) stands = later test tests (not (term_eq test.left test.right)) (at tests k stands)

-- ---- The terms of a draft in one list.

spread_terms : (f : Term → Term) (ts : List Term) → map (test_in f) (map itself ts) ≡ map itself (map f ts)
spread_terms f [] = refl
spread_terms f (t ∷ ts) = ap (λ (more : List Test). itself (f t) ∷ more) (spread_terms f ts)

-- A change of all of them is one of the draft.
pub spread-in : (f : Term → Term) (draft : Draft) → map (test_in f) (spread_of draft) ≡ spread_of (canonical f draft)
spread-in f draft =
    map-append (test_in f) (draft.conditions ++ map itself (label_values draft.label)) (map itself draft.leaves)
    ∙ ((λ i. map-append (test_in f) draft.conditions (map itself (label_values draft.label)) i ++ spread_terms f draft.leaves i)
    ∙ ap (λ (values : List Test). (map (test_in f) draft.conditions ++ values) ++ map itself (map f draft.leaves))
    (spread_terms f (label_values draft.label) ∙ ap (map itself) (sym (label_values-in f draft.label))))

one_dropped : (ts : List Term) → differing (map itself ts) ≡ []
one_dropped [] = refl
one_dropped (t ∷ ts) =
    ap (λ (b : Bool). cond (not b) (itself t ∷ differing (map itself ts)) (differing (map itself ts))) ((Decides-term_eq t t).1 refl)
    ∙ one_dropped ts

spread_differing : (draft : Draft) → differing (spread_of draft) ≡ differing draft.conditions
spread_differing draft =
    differing-append (draft.conditions ++ map itself (label_values draft.label)) (map itself draft.leaves)
    ∙ ((λ i. differing-append draft.conditions (map itself (label_values draft.label)) i ++ one_dropped draft.leaves i)
    ∙ (append-nil (differing draft.conditions ++ differing (map itself (label_values draft.label)))
    ∙ (ap (λ (back : List Test). differing draft.conditions ++ back) (one_dropped (label_values draft.label))
    ∙ append-nil (differing draft.conditions))))

pub same_conditions : (f : Term → Term) (start : Draft) → differing (map (test_in f) (spread_of start))
    ≡ differing (map (test_in f) start.conditions)
same_conditions f start = ap differing (spread-in f start) ∙ spread_differing (canonical f start)

-- The left sides of the last conditions, and how many variables are left among them.
abbrev pub last_lefts : ℕ → List Test → List Term
last_lefts count tests = map (λ (test : Test). test.left) (drop (length tests - count) tests)

abbrev pub left_among : ℕ → List Test → ℕ
left_among count tests = length (variables_left 0 (last_lefts count tests) (last_lefts count tests))

past_front : (front back : List Test) → drop (length front) (front ++ back) ≡ back
past_front [] back = refl
past_front (test ∷ front) back = past_front front back

lefts_itself : (ts : List Term) → map (λ (test : Test). test.left) (map itself ts) ≡ ts
lefts_itself [] = refl
lefts_itself (t ∷ ts) = ap (λ (us : List Term). t ∷ us) (lefts_itself ts)

last_of_spread : (draft : Draft) (count : ℕ) → count ≡ length draft.leaves → last_lefts count (spread_of draft) ≡ draft.leaves
last_of_spread draft count e =
    let front : List Test = draft.conditions ++ map itself (label_values draft.label) in
    let back : List Test = map itself draft.leaves in
    let past : length (front ++ back) - count ≡ length front =
    omega (arith, e, length-append front back, length-map draft.leaves itself) in
    ap (λ (n : ℕ). map (λ (test : Test). test.left) (drop n (front ++ back))) past
    ∙ (ap (map (λ (test : Test). test.left)) (past_front front back) ∙ lefts_itself draft.leaves)

-- ---- The change that changes nothing.

same_terms : (ts : List Term) → map (λ (t : Term). t) ts ≡ ts
same_terms [] = refl
same_terms (t ∷ ts) = ap (λ (us : List Term). t ∷ us) (same_terms ts)

same_tests : (tests : List Test) → map (test_in (λ t. t)) tests ≡ tests
same_tests [] = refl
same_tests (test ∷ tests) = ap (λ (more : List Test). test ∷ more) (same_tests tests)

same_label : (label : Label) → label_in (λ t. t) label ≡ label
same_label inner_event = refl
same_label (gate_event g ts) = ap (gate_event g) (same_terms ts)
same_label (exit_event ts) = ap exit_event (same_terms ts)

unchanged : (draft : Draft) → canonical (λ t. t) draft ≡ draft
unchanged draft = λ i. record {
  shape = draft.shape;
  label = same_label draft.label i;
  leaves = same_terms draft.leaves i;
  conditions = same_tests draft.conditions i;
}

-- ---- On the way.
module _ (data_ : Data) (canon : Term → Term) (is_canon : IsCanon data_ canon) (start : Draft) where
  -- ---- The beginning.
  itself_in_order : (leaves ts : List Term) → Every (IsDraftTerm data_.signature leaves) ts
      → Every (IsDraftTest data_.signature leaves) (map itself ts)
  itself_in_order leaves [] h = tt
  itself_in_order leaves (t ∷ ts) h = ((h.0.0, h.0.1, h.0.1), itself_in_order leaves ts h.1)

  spread_in_order : IsInOrder data_.signature start → IsInOrder data_.signature (spread_draft start)
  spread_in_order order = record {
    values = order.values;
    leaves = order.leaves;
    conditions = Every-append (IsDraftTest data_.signature start.leaves) (start.conditions ++ map itself (label_values start.label))
        (map itself start.leaves)
        (Every-append (IsDraftTest data_.signature start.leaves) start.conditions (map itself (label_values start.label))
        order.conditions (itself_in_order start.leaves (label_values start.label) order.values))
        (itself_in_order start.leaves start.leaves order.leaves);
    below = order.below;
    one_sort = order.one_sort;
  }

  spread_settled : canonical canon start ≡ start → canonical canon (spread_draft start) ≡ (spread_draft start)
  spread_settled e =
      ap (λ (tests : List Test). record (canonical canon start) { conditions = tests }) (spread-in canon start)
      ∙ ap (λ (d : Draft). record d { conditions = spread_of d }) e

  pub begun : IsInOrder data_.signature start → canonical canon start ≡ start → IsOnTheWay data_ canon start (spread_of start)
  begun order e = record {
    change = λ t. t;
    told = sym (same_tests (spread_of start));
    order = subst (IsInOrder data_.signature) (sym (unchanged (spread_draft start))) (spread_in_order order);
    alike = same_tidied canon start (canonical (λ t. t) (spread_draft start))
        (ap (λ (tests : List Test). record (canonical canon start) { conditions = tests }) (sym (same_conditions canon start))
        ∙ ap (tidied canon) (sym (unchanged (spread_draft start))));
    settled = ap (canonical canon) (unchanged (spread_draft start)) ∙ (spread_settled e ∙ sym (unchanged (spread_draft start)));
  }

  module _ (actual : List Test) (h : IsOnTheWay data_ canon start actual) where
    -- the draft on the way
    abbrev now : Draft
    now = canonical h.change (spread_draft start)

    tidied_now : tidied canon now ≡ dropped now
    tidied_now = ap dropped h.settled

    now_gives : (given : Option (ℕ × Term)) → first_replacement actual ≡ given → first_replacement now.conditions ≡ given
    now_gives given gives = ap first_replacement (sym h.told) ∙ gives

    tidied_gives : (given : Option (ℕ × Term)) → first_replacement actual ≡ given
        → first_replacement (tidied canon now).conditions ≡ given
    tidied_gives given gives =
        ap (λ (d : Draft). first_replacement d.conditions) tidied_now ∙ (first_differing now.conditions ∙ now_gives given gives)

    -- ---- A step.
    module _ (given : ℕ × Term) (gives : first_replacement actual ≡ Some given) where
      abbrev put : Term → Term
      put = substituted (put_for given)

      abbrev next : Term → Term
      next = after (after canon put) h.change

      abbrev rests : Replaces data_ now.leaves h.order.one_sort now.conditions given
      rests = rests_on data_ now given h.order (now_gives (Some given) gives)

      put_in_order : IsInOrder data_.signature (canonical put now)
      put_in_order = changed_in_order data_.signature now put h.order
          (replacement_changes data_ now.leaves h.order.one_sort now.conditions given rests)

      put_next : canonical canon (canonical put now) ≡ canonical next (spread_draft start)
      put_next = canonical_twice canon put now ∙ canonical_twice (after canon put) h.change (spread_draft start)

      settled_next : canonical canon (canonical next (spread_draft start)) ≡ canonical next (spread_draft start)
      settled_next =
          ap (canonical canon) (sym put_next)
          ∙ (canonical_twice canon canon (canonical put now)
          ∙ (canonical_same (after canon canon) canon (canonical put now)
          (terms_in_order data_ (canonical put now) (λ t. canon (canon t) ≡ canon t)
          (λ t k. is_canon.settled t (k.0, k.1.sorted)) put_in_order)
          ∙ put_next))

      told_next : map (test_in (λ (t : Term). canon (substituted (put_for given) t))) actual ≡ map (test_in next) (spread_of start)
      told_next = ap (map (test_in (after canon put))) h.told
          ∙ ap (λ (d : Draft). d.conditions) (canonical_twice (after canon put) h.change (spread_draft start))

      stepped : tidied canon (replaced given (tidied canon now)) ≡ tidied canon (canonical next (spread_draft start))
      stepped =
          ap (tidied canon) (sym (draft_with-in (put_for given) (tidied canon now)))
          ∙ (ap (λ (d : Draft). tidied canon (canonical put d)) tidied_now
          ∙ (ap dropped (canonical_twice canon put (dropped now))
          ∙ (dropped-before (after canon put) now
          ∙ (ap dropped (canonical_twice (after canon put) h.change (spread_draft start))
          ∙ sym (ap dropped settled_next)))))

      abbrev step_of : IsOnTheWay data_ canon start (map (test_in (λ (t : Term). canon (substituted (put_for given) t))) actual)
      step_of = record {
        change = next;
        told = told_next;
        order = subst (IsInOrder data_.signature) put_next
            (changed_in_order data_.signature (canonical put now) canon put_in_order
            (canon_changes data_ canon is_canon (canonical put now).leaves));
        alike = same_then h.alike (same_then (same_step data_ canon is_canon now given h.order (tidied_gives (Some given) gives))
            (same_tidied canon (replaced given (tidied canon now)) (canonical next (spread_draft start)) stepped));
        settled = settled_next;
      }

    -- ---- The leaves.
    leaves_now : last_lefts (length start.leaves) actual ≡ map h.change start.leaves
    leaves_now =
        ap (last_lefts (length start.leaves)) (h.told ∙ spread-in h.change start)
        ∙ last_of_spread (canonical h.change start) (length start.leaves) (sym (length-map start.leaves h.change))

    left_now : left_among (length start.leaves) actual ≡ length (variables_left 0 now.leaves now.leaves)
    left_now = ap (λ (ts : List Term). length (variables_left 0 ts ts)) leaves_now

    -- ---- The end.
    nothing_of : HasUnmet actual → SolvesTo canon start None
    nothing_of unmet =
        (h.alike None).1 (unsolvable now (ap (λ (d : Draft). has_closed d.conditions) tidied_now
        ∙ (ap (λ (tests : List Test). has_closed (differing tests)) (sym h.told) ∙ closed_where_unmet actual unmet)))

    entry_of_now : AreOpen actual → first_replacement actual ≡ None → SolvesTo canon start (Some (entry_of (tidied h.change start)))
    entry_of_now open_ none =
        subst (λ (d : Draft). SolvesTo canon start (Some (entry_of d)))
        (tidied_now ∙ ap (λ (tests : List Test). record (canonical h.change start) { conditions = tests }) (same_conditions h.change start))
        ((h.alike (Some (entry_of (tidied canon now)))).1
        (settled now (ap (λ (d : Draft). has_closed d.conditions) tidied_now
        ∙ (ap (λ (tests : List Test). has_closed (differing tests)) (sym h.told) ∙ closed_unless_open actual open_))
        (tidied_gives None none)))

    -- ---- The terms of the list.
    test_of : (k : ℕ) (test : Test) → slice_get actual k ≡ Some test → IsDraftTest data_.signature now.leaves test
    test_of k test at = Every-at (IsDraftTest data_.signature now.leaves) actual k test
        (subst (Every (IsDraftTest data_.signature now.leaves)) (sym h.told) h.order.conditions) at

    leaf_of : (k : ℕ) (test : Test) → slice_get actual k ≡ Some test → (n s : ℕ) → (Occurs n s test.left ⊎ Occurs n s test.right)
        → IsLeaf now.leaves n s
    leaf_of k test at n s (inl o) = (test_of k test at).1.own n s o
    leaf_of k test at n s (inr o) = (test_of k test at).2.own n s o

  pub step : (actual : List Test) (given : ℕ × Term) → first_replacement actual ≡ Some given → IsOnTheWay data_ canon start actual
      → IsOnTheWay data_ canon start (map (test_in (λ (t : Term). canon (substituted (put_for given) t))) actual)
  step actual given gives h = step_of actual h given gives

  -- Fewer variables are left after a step.
  pub fewer_after : (actual : List Test) (given : ℕ × Term) → first_replacement actual ≡ Some given → IsOnTheWay data_ canon start actual
      → left_among (length start.leaves) (map (test_in (λ (t : Term). canon (substituted (put_for given) t))) actual)
      < left_among (length start.leaves) actual
  fewer_after actual given gives h =
      let before : List Term = map h.change start.leaves in
      let made : List Term = map (substituted (put_for given)) before in
      let leaf : IsLeaf before given.0 (rests actual h given gives).sort =
      was_leaf data_ (now actual h) given h.order (now_gives actual h (Some given) gives) in
      let lt : length (variables_left 0 made made) < length (variables_left 0 before before) =
      less before made (length-map before (substituted (put_for given)))
      (came_from data_.signature before (substituted (put_for given))
      (replacement_changes data_ before h.order.one_sort (now actual h).conditions given (rests actual h given gives)) h.order.leaves)
      given.0 (rests actual h given gives).sort leaf (h.order.below given.0 (rests actual h given gives).sort leaf)
      (gone data_ (now actual h) given h.order (now_gives actual h (Some given) gives)) in
      let le : length (variables_left 0 (map canon made) (map canon made)) ≤ length (variables_left 0 made made) =
      fewer made (map canon made) (length-map made canon)
      (came_from data_.signature made canon (canon_changes data_ canon is_canon made) (put_in_order actual h given gives).leaves) in
      let next_is : left_among (length start.leaves) (map (test_in (λ (t : Term). canon (substituted (put_for given) t))) actual)
      ≡ length (variables_left 0 (map canon made) (map canon made)) =
      left_now (map (test_in (λ (t : Term). canon (substituted (put_for given) t))) actual) (step_of actual h given gives)
      ∙ ap (λ (d : Draft). length (variables_left 0 d.leaves d.leaves)) (sym (put_next actual h given gives)) in
      let now_is : left_among (length start.leaves) actual ≡ length (variables_left 0 before before) = left_now actual h in
      omega (arith, lt, le, next_is, now_is)

  pub ends_with_nothing : (actual : List Test) → IsOnTheWay data_ canon start actual → HasUnmet actual → SolvesTo canon start None
  ends_with_nothing actual h unmet = nothing_of actual h unmet

  pub ends_with_entry : (actual : List Test) (h : IsOnTheWay data_ canon start actual) → AreOpen actual → first_replacement actual ≡ None
      → SolvesTo canon start (Some (entry_of (tidied h.change start)))
  ends_with_entry actual h open_ none = entry_of_now actual h open_ none

  pub sorted : (actual : List Test) → IsOnTheWay data_ canon start actual → (k : ℕ) (test : Test) → slice_get actual k ≡ Some test
      → (s : ℕ) × HasSort data_.signature test.left s × HasSort data_.signature test.right s
  sorted actual h k test at =
      let here : IsDraftTest data_.signature (now actual h).leaves test = test_of actual h k test at in
      (here.0, here.1.sorted, here.2.sorted)

  pub one_sort : (actual : List Test) → IsOnTheWay data_ canon start actual → (k l : ℕ) (test other : Test) → slice_get actual k ≡ Some test
      → slice_get actual l ≡ Some other → (n r s : ℕ) → (Occurs n r test.left ⊎ Occurs n r test.right)
      → (Occurs n s other.left ⊎ Occurs n s other.right) → r ≡ s
  one_sort actual h k l test other at at' n r s o p =
      h.order.one_sort n r s (leaf_of actual h k test at n r o) (leaf_of actual h l other at' n s p)

  pub below : (actual : List Test) → IsOnTheWay data_ canon start actual → (k : ℕ) (test : Test) → slice_get actual k ≡ Some test
      → (n s : ℕ) → (Occurs n s test.left ⊎ Occurs n s test.right) → n < length start.leaves
  below actual h k test at n s o =
      let lt : n < length (map h.change start.leaves) = h.order.below n s (leaf_of actual h k test at n s o) in
      omega (arith, lt, length-map start.leaves h.change)
