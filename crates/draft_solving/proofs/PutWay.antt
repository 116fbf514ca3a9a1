-- A replacement put into the conditions at its places, one after another.
use Rattle.std.proofs.Common.{◌≡◌, ◌<◌, ◌≤◌, ◌⊎◌, inl, inr, ℕ, zero, suc, List, [], ◌∷◌, map, set, length, get_or, slice_get, None, Some, Bool, true, false, ◌&&◌, not, nat_eq, refl, ap, sym, ◌∙◌, subst, arith, eqb-true, eq-eqb, Vec, Global}
use Rattle.std.proofs.lemmas.Bool.{and_parts}
use Rattle.lotos_base.proofs.Members.{at_map, from_map}
use Rattle.lotos_base.proofs.SubstitutionLemmas.{ComesFrom, ground_no_variable, substituted_agree, substituted_occurs, substituted_sort, substituted_variables}
use Rattle.lotos_base.proofs.TestLemmas.{Decides-is_ground}
use Rattle.lotos_base.specs.Canon.{IsCanon}
use Rattle.lotos_base.specs.Equation.{Data}
use Rattle.lotos_base.specs.Sorting.{HasSort, IsTermOf, Occurs}
use Rattle.lotos_base.specs.Substitution.{substituted}
use Rattle.lotos_base.specs.Term.{Term, variable}
use Rattle.lotos_base.specs.Tests.{is_ground, term_eq}
use Rattle.behaviour_semantics.specs.Behaviour.{Test}
use Rattle.behaviour_semantics.specs.Solving.{replacement_of, test_in}
use Rattle.behaviour_semantics.proofs.ListLemmas.{Every-at}
use Rattle.behaviour_semantics.proofs.OptionLemmas.{some_value}
use Rattle.behaviour_semantics.proofs.RelatedTerms.{occurs_sort}
use Rattle.behaviour_semantics.proofs.ReplacementsInOrder.{put_for, put_for-other, put_for-same}
use Rattle.sort_terms.proofs.ProfiledTermLemmas.{fitting_has_sort}
use Rattle.sort_terms.specs.ProfiledTerm.{head_sort, IsOf}
use Rattle.sort_terms.specs.SortedView.{profiled_in, term_in}
use Rattle.sort_terms.specs.declared.sorted.Sorted.{Sorted}
use Rattle.event_offers.specs.OfferView.{condition_of, condition_profiles, condition_sides, conditions_of}
use Rattle.event_offers.specs.Offers.{AreConditionsOf, IsConditionOf}
use Rattle.draft_solving.proofs.PlaceLemmas.{condition_at}
use Rattle.draft_solving.specs.Changing.{AreReadyPairs, changed_by, found_of, IsReadyForPut, IsReadyPair, LacksItsVariable, put_of}
use Rattle.draft_solving.specs.Conditions.{AreOpen, changed_at, GiveNoneBefore, HasUnmet, is_unmet, OccursInCondition}
use Rattle.draft_solving.specs.Putting.{tests_in}
use Rattle.draft_solving.specs.Standing.{AreAllNoted, HoldsPlace, IsNoted, KeepsPlaces, noted_at, room}
use Rattle.draft_solving.specs.declared.putting.Work.{Work}

-- ---- One condition of a list changed.
pub changed_length : (f : Term → Term) (place : ℕ) (tests : List Test) → length (changed_at f place tests) ≡ length tests
changed_length f place [] = refl
changed_length f zero (test ∷ tests) = refl
changed_length f (suc place) (test ∷ tests) = ap suc (changed_length f place tests)

pub changed_other : (f : Term → Term) (place k : ℕ) (tests : List Test) → (place ≡ k → ⊥)
    → slice_get (changed_at f place tests) k ≡ slice_get tests k
changed_other f place k [] apart = refl
changed_other f zero zero (test ∷ tests) apart = absurd (apart refl)
changed_other f zero (suc k) (test ∷ tests) apart = refl
changed_other f (suc place) zero (test ∷ tests) apart = refl
changed_other f (suc place) (suc k) (test ∷ tests) apart = changed_other f place k tests (λ e. apart (ap suc e))

-- What is said of each condition but one, and of that one once it is changed, is said of all.
pub after_change : (P : ℕ → Test → Type 0) (f : Term → Term) (place : ℕ) (tests : List Test)
    → ((k : ℕ) (test : Test) → (place ≡ k → ⊥) → slice_get tests k ≡ Some test → P k test)
    → ((test : Test) → slice_get (changed_at f place tests) place ≡ Some test → P place test)
    → (k : ℕ) (test : Test) → slice_get (changed_at f place tests) k ≡ Some test → P k test
after_change P f place tests others here k test at = by (nat_eq place k) refl
  where
    by : (b : Bool) → nat_eq place k ≡ b → P k test
    by true e =
        let same : place ≡ k = eqb-true place k e in
        subst (λ (j : ℕ). P j test) same
        (here test (subst (λ (j : ℕ). slice_get (changed_at f place tests) j ≡ Some test) (sym same) at))
    by false e =
        let apart : place ≡ k → ⊥ = (λ same. cc (e, eq-eqb place k same)) in
        others k test apart (sym (changed_other f place k tests apart) ∙ at)

pub none_after : (f : Term → Term) (place old now : ℕ) (tests : List Test) → now ≤ old
    → ((test : Test) → place < now → slice_get (changed_at f place tests) place ≡ Some test
    → replacement_of test.left test.right ≡ None)
    → GiveNoneBefore old tests → GiveNoneBefore now (changed_at f place tests)
none_after f place old now tests le here passed k test lt at =
    after_change (λ j t. j < now → replacement_of t.left t.right ≡ None) f place tests
    (λ j t apart there below. passed j t (omega arith) there) (λ t there below. here t below there) k test at lt

pub open_after : (f : Term → Term) (place : ℕ) (tests : List Test)
    → ((test : Test) → slice_get (changed_at f place tests) place ≡ Some test → is_unmet test ≡ false)
    → AreOpen tests → AreOpen (changed_at f place tests)
open_after f place tests here none_unmet k test at =
    after_change (λ j t. is_unmet t ≡ false) f place tests (λ j t apart there. none_unmet j t there) here k test at

-- ---- The conditions at some places are changed, and the variable stands at the others alone.
pub record IsPutUpTo (data_ : Data) (canon : Term → Term) (found : ℕ × Sorted) (rest : List ℕ) (first now : Work) : Type 0 where
  pub put_in : map (test_in (changed_by canon found)) (tests_in now) ≡ map (test_in (changed_by canon found)) (tests_in first)
  pub ready : AreReadyPairs data_.signature canon found (condition_profiles now.spread.items)
  pub pending : (k : ℕ) (test : Test) (s : ℕ) → slice_get (tests_in now) k ≡ Some test → OccursInCondition found.0 s test
      → HoldsPlace rest k
  pub noted : (k : ℕ) (test : Test) (n s : ℕ) → slice_get (tests_in now) k ≡ Some test → OccursInCondition n s test → (found.0 ≡ n → ⊥)
      → n < room now.places → HoldsPlace (noted_at now.places n) k
  pub size : room now.places ≡ room first.places
  pub passed : GiveNoneBefore first.next (tests_in first) → GiveNoneBefore now.next (tests_in now)
  pub none_unmet : AreOpen (tests_in first) → AreOpen (tests_in now)
  pub names : now.names ≡ first.names
  pub draft : now.draft ≡ first.draft

-- ---- Terms with the replacement put in.
-- a term without the variable stays
lacking_same : (found : ℕ × Term) (t : Term) → ((s : ℕ) → Occurs found.0 s t → ⊥) → substituted (put_for found) t ≡ t
lacking_same found t lacks =
    substituted_agree (put_for found) variable t (λ n s o. put_for-other found n s (by n s o (nat_eq found.0 n) refl))
    ∙ substituted_variables t
  where
    by : (n s : ℕ) → Occurs n s t → (b : Bool) → nat_eq found.0 n ≡ b → nat_eq found.0 n ≡ false
    by n s o true e = absurd (lacks s (subst (λ (m : ℕ). Occurs m s t) (sym (eqb-true found.0 n e)) o))
    by n s o false e = e

module _ (data_ : Data) (canon : Term → Term) (is_canon : IsCanon data_ canon) (found : ℕ × Sorted) (lacks : LacksItsVariable found) where
  -- the term of the code has its sort
  has_sort : (t : Sorted) → IsOf data_.signature (profiled_in t) → HasSort data_.signature (term_in t) (head_sort (profiled_in t))
  has_sort t is_of = fitting_has_sort data_.signature (profiled_in t) is_of t.fits

  put_term : (t : Sorted) → IsReadyForPut data_.signature canon found (profiled_in t)
      → IsTermOf data_.signature (substituted (put_of found) (term_in t))
  put_term t ready = (
    head_sort (profiled_in t),
    substituted_sort data_.signature (put_of found) (term_in t) (head_sort (profiled_in t))
        (has_sort t ready.is_of) (λ n s o. by n s o (nat_eq found.0 n) refl),
  )
    where
      by : (n s : ℕ) → Occurs n s (term_in t) → (b : Bool) → nat_eq found.0 n ≡ b → HasSort data_.signature (put_of found n s) s
      by n s o true e =
          let same : found.0 ≡ n = eqb-true found.0 n e in
          subst (λ (u : Term). HasSort data_.signature u s) (sym (put_for-same (found_of found) n s same))
          (subst (HasSort data_.signature (term_in found.1))
          (ready.puts s (subst (λ (m : ℕ). Occurs m s (term_in t)) (sym same) o)) (has_sort found.1 ready.value))
      by n s o false e =
          subst (λ (u : Term). HasSort data_.signature u s) (sym (put_for-other (found_of found) n s e))
          (refl, occurs_sort data_.signature (term_in t) (head_sort (profiled_in t)) n s (has_sort t ready.is_of) o)

  -- the variable is gone
  put_lacks : (t : Sorted) → IsReadyForPut data_.signature canon found (profiled_in t) → (s : ℕ)
      → Occurs found.0 s (changed_by canon found (term_in t)) → ⊥
  put_lacks t ready s o = from (substituted_occurs found.0 s (put_of found) (term_in t)
      (is_canon.occurring (substituted (put_of found) (term_in t)) found.0 s (put_term t ready) o))
    where
      by : (m r : ℕ) → Occurs found.0 s (put_of found m r) → (b : Bool) → nat_eq found.0 m ≡ b → ⊥
      by m r inside true e =
          lacks s (subst (Occurs found.0 s) (put_for-same (found_of found) m r (eqb-true found.0 m e)) inside)
      by m r inside false e =
          let here : (m ≡ found.0) × (r ≡ s) = subst (Occurs found.0 s) (put_for-other (found_of found) m r e) inside in
          absurd (cc (e, eq-eqb found.0 m (sym here.0)))

      from : ComesFrom found.0 s (put_of found) (term_in t) → ⊥
      from c = by c.number c.sort c.inside (nat_eq found.0 c.number) refl

  -- What is put in is ready again.
  pub ready_again : (old now : Sorted) → IsReadyForPut data_.signature canon found (profiled_in old)
      → term_in now ≡ changed_by canon found (term_in old) → IsOf data_.signature (profiled_in now)
      → IsReadyForPut data_.signature canon found (profiled_in now)
  ready_again old now ready is is_of = record {
    is_of = is_of;
    canonical = ap canon is ∙ (is_canon.settled (substituted (put_of found) (term_in old)) (put_term old ready) ∙ sym is);
    value = ready.value;
    puts = λ s o. absurd (put_lacks old ready s (subst (Occurs found.0 s) is o));
  }

  -- a ready term without the variable is not changed
  pub stays_ready : (t : Sorted) → IsReadyForPut data_.signature canon found (profiled_in t)
      → ((s : ℕ) → Occurs found.0 s (term_in t) → ⊥) → changed_by canon found (term_in t) ≡ term_in t
  stays_ready t ready none = ap canon (lacking_same (found_of found) (term_in t) none) ∙ ready.canonical

  abbrev put : Test → Test
  put = test_in (changed_by canon found)

  pub pair_stays : (pair : Sorted × Sorted) → IsReadyPair data_.signature canon found (condition_sides pair)
      → ((s : ℕ) → OccursInCondition found.0 s (condition_of pair) → ⊥)
      → test_in (changed_by canon found) (condition_of pair) ≡ condition_of pair
  pair_stays pair ready none =
      let left : changed_by canon found (term_in pair.0) ≡ term_in pair.0 = stays_ready pair.0 ready.0 (λ s o. none s (inl o)) in
      let right : changed_by canon found (term_in pair.1) ≡ term_in pair.1 = stays_ready pair.1 ready.1 (λ s o. none s (inr o)) in
      λ i. record { left = left i; right = right i }

  pair_again : (old now : Sorted × Sorted) → IsReadyPair data_.signature canon found (condition_sides old)
      → condition_of now ≡ test_in (changed_by canon found) (condition_of old)
      → IsConditionOf data_.signature (condition_sides now) → IsReadyPair data_.signature canon found (condition_sides now)
  pair_again old now ready is is_of = (
    ready_again old.0 now.0 ready.0 (ap (λ (t : Test). t.left) is) is_of.0,
    ready_again old.1 now.1 ready.1 (ap (λ (t : Test). t.right) is) is_of.1,
  )

  pair_gone : (pair : Sorted × Sorted) → IsReadyPair data_.signature canon found (condition_sides pair) → (s : ℕ)
      → OccursInCondition found.0 s (test_in (changed_by canon found) (condition_of pair)) → ⊥
  pair_gone pair ready s (inl o) = put_lacks pair.0 ready.0 s o
  pair_gone pair ready s (inr o) = put_lacks pair.1 ready.1 s o

  -- ---- One condition of a list.
  pub set_changed : (items : List (Sorted × Sorted)) (place : ℕ) (old now : Sorted × Sorted) → place < length items
      → old ≡ get_or items place old → condition_of now ≡ test_in (changed_by canon found) (condition_of old)
      → conditions_of (set items place now) ≡ changed_at (changed_by canon found) place (conditions_of items)
  set_changed [] place old now within is made = absurd (omega arith)
  set_changed (x ∷ items) zero old now within is made =
      ap (λ (t : Test). t ∷ conditions_of items)
      (made ∙ ap (λ (p : Sorted × Sorted). test_in (changed_by canon found) (condition_of p)) is)
  set_changed (x ∷ items) (suc place) old now within is made =
      ap (λ (ts : List Test). condition_of x ∷ ts) (set_changed items place old now (omega arith) is made)

  pub set_ready : (items : List (Sorted × Sorted)) (place : ℕ) (old now : Sorted × Sorted) → place < length items
      → old ≡ get_or items place old → condition_of now ≡ test_in (changed_by canon found) (condition_of old)
      → IsConditionOf data_.signature (condition_sides now)
      → AreReadyPairs data_.signature canon found (condition_profiles items)
      → AreReadyPairs data_.signature canon found (condition_profiles (set items place now))
  set_ready [] place old now within is made is_of h = absurd (omega arith)
  set_ready (x ∷ items) zero old now within is made is_of h = (
    pair_again old now (subst (λ (p : Sorted × Sorted). IsReadyPair data_.signature canon found (condition_sides p)) (sym is) h.0) made
        is_of,
    h.1,
  )
  set_ready (x ∷ items) (suc place) old now within is made is_of h =
      (h.0, set_ready items place old now (omega arith) is made is_of h.1)

  -- where the variable does not stand nothing is changed
  pub lacking_changed : (items : List (Sorted × Sorted)) (place : ℕ)
      → ((test : Test) (s : ℕ) → slice_get (conditions_of items) place ≡ Some test → OccursInCondition found.0 s test → ⊥)
      → AreReadyPairs data_.signature canon found (condition_profiles items)
      → changed_at (changed_by canon found) place (conditions_of items) ≡ conditions_of items
  lacking_changed [] place none h = refl
  lacking_changed (x ∷ items) zero none h =
      ap (λ (t : Test). t ∷ conditions_of items) (pair_stays x h.0 (λ s o. none (condition_of x) s refl o))
  lacking_changed (x ∷ items) (suc place) none h =
      ap (λ (ts : List Test). condition_of x ∷ ts) (lacking_changed items place none h.1)

  pub ready_at : (items : List (Sorted × Sorted)) (place : ℕ) (x : Sorted × Sorted) → place < length items → x ≡ get_or items place x
      → AreReadyPairs data_.signature canon found (condition_profiles items)
      → IsReadyPair data_.signature canon found (condition_sides x)
  ready_at [] place x within is h = absurd (omega arith)
  ready_at (y ∷ items) zero x within is h =
      subst (λ (p : Sorted × Sorted). IsReadyPair data_.signature canon found (condition_sides p)) (sym is) h.0
  ready_at (y ∷ items) (suc place) x within is h = ready_at items place x (omega arith) is h.1

  -- ---- All conditions of a list.
  -- what is put in twice is put in once
  put_again : (t : Sorted) → IsReadyForPut data_.signature canon found (profiled_in t)
      → changed_by canon found (changed_by canon found (term_in t)) ≡ changed_by canon found (term_in t)
  put_again t ready =
      ap canon (lacking_same (found_of found) (changed_by canon found (term_in t)) (put_lacks t ready))
      ∙ is_canon.settled (substituted (put_of found) (term_in t)) (put_term t ready)

  pub all_put_again : (items : List (Sorted × Sorted)) (place : ℕ) → AreReadyPairs data_.signature canon found (condition_profiles items)
      → map (test_in (changed_by canon found)) (changed_at (changed_by canon found) place (conditions_of items))
      ≡ map (test_in (changed_by canon found)) (conditions_of items)
  all_put_again [] place h = refl
  all_put_again (x ∷ items) zero h =
      let left : changed_by canon found (changed_by canon found (term_in x.0)) ≡ changed_by canon found (term_in x.0) =
      put_again x.0 h.0.0 in
      let right : changed_by canon found (changed_by canon found (term_in x.1)) ≡ changed_by canon found (term_in x.1) =
      put_again x.1 h.0.1 in
      λ i. record { left = left i; right = right i } ∷ map (test_in (changed_by canon found)) (conditions_of items)
  all_put_again (x ∷ items) (suc place) h =
      ap (λ (ts : List Test). test_in (changed_by canon found) (condition_of x) ∷ ts) (all_put_again items place h.1)

  pub all_stay : (items : List (Sorted × Sorted)) → AreReadyPairs data_.signature canon found (condition_profiles items)
      → ((k : ℕ) (test : Test) (s : ℕ) → slice_get (conditions_of items) k ≡ Some test → OccursInCondition found.0 s test → ⊥)
      → map (test_in (changed_by canon found)) (conditions_of items) ≡ conditions_of items
  all_stay [] h none = refl
  all_stay (x ∷ items) h none =
      let here : test_in (changed_by canon found) (condition_of x) ≡ condition_of x =
      pair_stays x h.0 (λ s o. none 0 (condition_of x) s refl o) in
      let rest : map (test_in (changed_by canon found)) (conditions_of items) ≡ conditions_of items =
      all_stay items h.1 (λ k test s at o. none (suc k) test s at o) in
      λ i. here i ∷ rest i

  pub all_are_of : (items : List (Sorted × Sorted)) → AreReadyPairs data_.signature canon found (condition_profiles items)
      → AreConditionsOf data_.signature (condition_profiles items)
  all_are_of [] h = tt
  all_are_of (x ∷ items) h = ((h.0.0.is_of, h.0.1.is_of), all_are_of items h.1)

  -- a condition that nothing meets stays one
  ground_lacks : (t : Term) → is_ground t ≡ true → (s : ℕ) → Occurs found.0 s t → ⊥
  ground_lacks t e s o = ground_no_variable t ((Decides-is_ground t).0 e) found.0 s o

  unmet_lacks : (test : Test) → is_unmet test ≡ true → (s : ℕ) → OccursInCondition found.0 s test → ⊥
  unmet_lacks test e s o = by (and_parts (is_ground test.left && is_ground test.right) (not (term_eq test.left test.right)) e).0 o
    where
      by : (is_ground test.left && is_ground test.right) ≡ true → OccursInCondition found.0 s test → ⊥
      by both (inl o) = ground_lacks test.left (and_parts (is_ground test.left) (is_ground test.right) both).0 s o
      by both (inr o) = ground_lacks test.right (and_parts (is_ground test.left) (is_ground test.right) both).1 s o

  pub unmet_stays : (items : List (Sorted × Sorted)) → AreReadyPairs data_.signature canon found (condition_profiles items)
      → HasUnmet (conditions_of items) → HasUnmet (map (test_in (changed_by canon found)) (conditions_of items))
  unmet_stays items h unmet =
      let from = from_map condition_of items unmet.place unmet.test unmet.stands in
      let ready : IsReadyPair data_.signature canon found (condition_sides from.0) =
      Every-at (IsReadyPair data_.signature canon found) (condition_profiles items) unmet.place (condition_sides from.0) h
      (at_map condition_sides items unmet.place from.0 from.1) in
      let stays : test_in (changed_by canon found) unmet.test ≡ unmet.test =
      subst (λ (t : Test). test_in (changed_by canon found) t ≡ t) from.2
      (pair_stays from.0 ready (subst (λ (t : Test). (s : ℕ) → OccursInCondition found.0 s t → ⊥) (sym from.2)
      (unmet_lacks unmet.test unmet.unmet))) in
      record {
        place = unmet.place;
        test = unmet.test;
        stands = at_map (test_in (changed_by canon found)) (conditions_of items) unmet.place unmet.test unmet.stands
            ∙ ap (λ (t : Test). Some t) stays;
        unmet = unmet.unmet;
      }

  -- the variables of what is put in
  put_occurs : (t : Sorted) → IsReadyForPut data_.signature canon found (profiled_in t) → (n s : ℕ)
      → Occurs n s (changed_by canon found (term_in t))
      → Occurs n s (term_in t) ⊎ (((r : ℕ) × Occurs found.0 r (term_in t)) × Occurs n s (term_in found.1))
  put_occurs t ready n s o = from (substituted_occurs n s (put_of found) (term_in t)
      (is_canon.occurring (substituted (put_of found) (term_in t)) n s (put_term t ready) o))
    where
      by : (m r : ℕ) → Occurs m r (term_in t) → Occurs n s (put_of found m r) → (b : Bool) → nat_eq found.0 m ≡ b
          → Occurs n s (term_in t) ⊎ (((r : ℕ) × Occurs found.0 r (term_in t)) × Occurs n s (term_in found.1))
      by m r occurs inside true e =
          let same : found.0 ≡ m = eqb-true found.0 m e in
          inr (
            (r, subst (λ (i : ℕ). Occurs i r (term_in t)) (sym same) occurs),
            subst (Occurs n s) (put_for-same (found_of found) m r same) inside,
          )
      by m r occurs inside false e =
          let here : (m ≡ n) × (r ≡ s) = subst (Occurs n s) (put_for-other (found_of found) m r e) inside in
          inl (subst (λ (i : ℕ). Occurs i s (term_in t)) here.0 (subst (λ (q : ℕ). Occurs m q (term_in t)) here.1 occurs))

      from : ComesFrom n s (put_of found) (term_in t)
          → Occurs n s (term_in t) ⊎ (((r : ℕ) × Occurs found.0 r (term_in t)) × Occurs n s (term_in found.1))
      from c = by c.number c.sort c.occurs c.inside (nat_eq found.0 c.number) refl

  -- What is said of each variable of a condition, and of each of the term that is put in, is said of each once it is put in.
  pair_occurs : (P : ℕ → Type 0) (pair : Sorted × Sorted) → IsReadyPair data_.signature canon found (condition_sides pair) → (n s : ℕ)
      → (OccursInCondition n s (condition_of pair) → P n)
      → ((r : ℕ) → OccursInCondition found.0 r (condition_of pair) → Occurs n s (term_in found.1) → P n)
      → OccursInCondition n s (test_in (changed_by canon found) (condition_of pair)) → P n
  pair_occurs P pair ready n s old new (inl o) = by (put_occurs pair.0 ready.0 n s o)
    where
      by : Occurs n s (term_in pair.0) ⊎ (((r : ℕ) × Occurs found.0 r (term_in pair.0)) × Occurs n s (term_in found.1)) → P n
      by (inl here) = old (inl here)
      by (inr there) = new there.0.0 (inl there.0.1) there.1
  pair_occurs P pair ready n s old new (inr o) = by (put_occurs pair.1 ready.1 n s o)
    where
      by : Occurs n s (term_in pair.1) ⊎ (((r : ℕ) × Occurs found.0 r (term_in pair.1)) × Occurs n s (term_in found.1)) → P n
      by (inl here) = old (inr here)
      by (inr there) = new there.0.0 (inr there.0.1) there.1

  -- the condition that was changed at the place
  record WasThere (items : List (Sorted × Sorted)) (place : ℕ) (test : Test) : Type 0 where
    pair : Sorted × Sorted
    stood : slice_get (conditions_of items) place ≡ Some (condition_of pair)
    ready : IsReadyPair data_.signature canon found (condition_sides pair)
    is : test_in (changed_by canon found) (condition_of pair) ≡ test

  was_there : (items : List (Sorted × Sorted)) (place : ℕ) (test : Test)
      → AreReadyPairs data_.signature canon found (condition_profiles items)
      → slice_get (changed_at (changed_by canon found) place (conditions_of items)) place ≡ Some test → WasThere items place test
  was_there [] place test h at = absurd (cc at)
  was_there (x ∷ items) zero test h at = record { pair = x; stood = refl; ready = h.0; is = some_value at }
  was_there (x ∷ items) (suc place) test h at =
      let w : WasThere items place test = was_there items place test h.1 at in
      record { pair = w.pair; stood = w.stood; ready = w.ready; is = w.is }

  pub put_begun : (rest : List ℕ) (first now : Work) → AreReadyPairs data_.signature canon found (condition_profiles first.spread.items)
      → AreAllNoted first.places (tests_in first) → found.0 < room first.places → rest ≡ noted_at first.places found.0
      → ((n : ℕ) → (found.0 ≡ n → ⊥) → noted_at now.places n ≡ noted_at first.places n) → room now.places ≡ room first.places
      → now.spread ≡ first.spread → now.next ≡ first.next → now.names ≡ first.names → now.draft ≡ first.draft
      → IsPutUpTo data_ canon found rest first now
  put_begun rest first now ready noted below all others size spread next names draft = record {
    put_in = ap (λ (w : Vec (Sorted × Sorted) Global). map (test_in (changed_by canon found)) (conditions_of w.items)) spread;
    ready = subst (λ (w : Vec (Sorted × Sorted) Global). AreReadyPairs data_.signature canon found (condition_profiles w.items))
        (sym spread)
        ready;
    pending = λ k test s at o. subst (λ (xs : List ℕ). HoldsPlace xs k) (sym all) (noted k test (stood k test at) found.0 s o below);
    noted = λ k test n s at o apart lt.
        subst (λ (xs : List ℕ). HoldsPlace xs k) (sym (others n apart)) (noted k test (stood k test at) n s o (omega (arith, size, lt)));
    size = size;
    passed = λ h k test lt at. h k test (omega (arith, next, lt)) (stood k test at);
    none_unmet = λ h k test at. h k test (stood k test at);
    names = names;
    draft = draft;
  }
    where
      stood : (k : ℕ) (test : Test) → slice_get (tests_in now) k ≡ Some test → slice_get (tests_in first) k ≡ Some test
      stood k test at = ap (λ (w : Vec (Sorted × Sorted) Global). slice_get (conditions_of w.items) k) (sym spread) ∙ at

  pub put_more : (place : ℕ) (rest : List ℕ) (first now next : Work)
      → tests_in next ≡ changed_at (changed_by canon found) place (tests_in now)
      → AreReadyPairs data_.signature canon found (condition_profiles next.spread.items) → KeepsPlaces now.places next.places
      → ((test : Test) (s : ℕ) → slice_get (tests_in now) place ≡ Some test → OccursInCondition found.0 s test
      → IsNoted next.places place (term_in found.1))
      → (GiveNoneBefore now.next (tests_in now) → GiveNoneBefore next.next (tests_in next))
      → (AreOpen (tests_in now) → AreOpen (tests_in next)) → next.names ≡ now.names → next.draft ≡ now.draft
      → IsPutUpTo data_ canon found (place ∷ rest) first now → IsPutUpTo data_ canon found rest first next
  put_more place rest first now next put_in ready kept noted passed none_unmet names draft h = record {
    put_in =
        ap (map (test_in (changed_by canon found))) put_in ∙ (all_put_again now.spread.items place h.ready ∙ h.put_in);
    ready = ready;
    pending = λ k test s at o.
        after_change (λ j t. OccursInCondition found.0 s t → HoldsPlace rest j) (changed_by canon found) place (tests_in now)
        (λ j t apart there inside. later j apart (h.pending j t s there inside))
        (λ t there inside. absurd (gone t s there inside)) k test (changed k test at) o;
    noted = λ k test n s at o apart lt.
        after_change (λ j t. OccursInCondition n s t → HoldsPlace (noted_at next.places n) j) (changed_by canon found) place (tests_in now)
        (λ j t other there inside. kept.kept n j (h.noted j t n s there inside apart (omega (arith, kept.size, lt))))
        (λ t there inside. behind t n s there apart lt inside) k test (changed k test at) o;
    size = kept.size ∙ h.size;
    passed = λ g. passed (h.passed g);
    none_unmet = λ g. none_unmet (h.none_unmet g);
    names = names ∙ h.names;
    draft = draft ∙ h.draft;
  }
    where
      changed : (k : ℕ) (test : Test) → slice_get (tests_in next) k ≡ Some test
          → slice_get (changed_at (changed_by canon found) place (tests_in now)) k ≡ Some test
      changed k test at = ap (λ (ts : List Test). slice_get ts k) (sym put_in) ∙ at

      later : (k : ℕ) → (place ≡ k → ⊥) → HoldsPlace (place ∷ rest) k → HoldsPlace rest k
      later k apart (zero, at) = absurd (apart (some_value at))
      later k apart (suc i, at) = (i, at)

      gone : (test : Test) (s : ℕ) → slice_get (changed_at (changed_by canon found) place (tests_in now)) place ≡ Some test
          → OccursInCondition found.0 s test → ⊥
      gone test s at o =
          let w : WasThere now.spread.items place test = was_there now.spread.items place test h.ready at in
          pair_gone w.pair w.ready s (subst (OccursInCondition found.0 s) (sym w.is) o)

      behind : (test : Test) (n s : ℕ) → slice_get (changed_at (changed_by canon found) place (tests_in now)) place ≡ Some test
          → (found.0 ≡ n → ⊥) → n < room next.places → OccursInCondition n s test → HoldsPlace (noted_at next.places n) place
      behind test n s at apart lt o =
          let w : WasThere now.spread.items place test = was_there now.spread.items place test h.ready at in
          pair_occurs (λ m. HoldsPlace (noted_at next.places m) place) w.pair w.ready n s
          (λ inside. kept.kept n place (h.noted place (condition_of w.pair) n s w.stood inside apart (omega (arith, kept.size, lt))))
          (λ r inside value. noted (condition_of w.pair) r w.stood inside n s value lt)
          (subst (OccursInCondition n s) (sym w.is) o)

  -- At the end the variable stands nowhere.
  module _ (first now : Work) (h : IsPutUpTo data_ canon found [] first now) where
    nowhere : (k : ℕ) (test : Test) (s : ℕ) → slice_get (tests_in now) k ≡ Some test → OccursInCondition found.0 s test → ⊥
    nowhere k test s at o = cc (h.pending k test s at o).1

    pub put_ended : tests_in now ≡ map (test_in (changed_by canon found)) (tests_in first)
    put_ended = sym (all_stay now.spread.items h.ready nowhere) ∙ h.put_in

    pub noted_ended : AreAllNoted now.places (tests_in now)
    noted_ended k test at n s o lt = by (nat_eq found.0 n) refl
      where
        by : (b : Bool) → nat_eq found.0 n ≡ b → HoldsPlace (noted_at now.places n) k
        by true e = absurd (nowhere k test s at (subst (λ (m : ℕ). OccursInCondition m s test) (sym (eqb-true found.0 n e)) o))
        by false e = h.noted k test n s at o (λ same. cc (e, eq-eqb found.0 n same)) lt

pub not_told : (b : Bool) → not b ≡ true → b ≡ false
not_told true e = cc e
not_told false e = refl

pub told_not : (b : Bool) → not b ≡ false → b ≡ true
told_not true e = refl
told_not false e = cc e

-- What is said of the condition that the code finds at the place is said of each that stands there.
pub found_at : (P : Test → Type 0) (items : List (Sorted × Sorted)) (place : ℕ) (x : Sorted × Sorted) → place < length items
    → x ≡ get_or items place x → P (condition_of x) → (test : Test) → slice_get (conditions_of items) place ≡ Some test → P test
found_at P items place x within is h test at =
    subst P (some_value (sym (condition_at items place x within is) ∙ at)) h
