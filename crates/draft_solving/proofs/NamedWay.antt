-- A step on the way of a draft under other numbers for its variables is one of the draft.
use Rattle.std.proofs.Common.{◌≡◌, ◌<◌, inl, inr, ℕ, suc, List, [], ◌∷◌, map, length, slice_get, None, Some, Bool, true, false, ◌&&◌, not, nat_eq, refl, ap, sym, ◌∙◌, subst, eqb-true}
use Rattle.std.proofs.Math.Path.{fun_ext}
use Rattle.std.proofs.lemmas.List.{length-map}
use Rattle.lotos_base.proofs.Members.{at_map, from_map}
use Rattle.lotos_base.proofs.SubstitutionLemmas.{occurs_substituted, substituted_sort, substituted_variables}
use Rattle.lotos_base.specs.Canon.{IsCanon}
use Rattle.lotos_base.specs.Equation.{Data}
use Rattle.lotos_base.specs.Signature.{Signature}
use Rattle.lotos_base.specs.Sorting.{HasSort, HaveSorts, IsTermOf, Occurs}
use Rattle.lotos_base.specs.Substitution.{Substitution, all_substituted, KeepsSorts, substituted}
use Rattle.lotos_base.specs.Term.{Term, Terms, no_terms, node, term_then, variable}
use Rattle.behaviour_semantics.specs.Behaviour.{Test}
use Rattle.behaviour_semantics.specs.Draft.{Draft}
use Rattle.behaviour_semantics.specs.DraftOrder.{IsInOrder}
use Rattle.behaviour_semantics.specs.Replacement.{test_with}
use Rattle.behaviour_semantics.specs.Solving.{canonical, entry_of, first_replacement, replacement_of, SolvesTo, test_in, tidied}
use Rattle.behaviour_semantics.proofs.OptionLemmas.{some_value}
use Rattle.behaviour_semantics.proofs.RelatedTerms.{occurs_sort}
use Rattle.behaviour_semantics.proofs.ReplacementsInOrder.{put_for, put_for-other, put_for-same}
use Rattle.draft_solving.specs.Conditions.{AreOpen, GiveNoneBefore, HasUnmet, is_unmet, OccursInCondition, StandsIn}
use Rattle.draft_solving.specs.Naming.{name_for, with_names, naming, TurnsRound}
use Rattle.draft_solving.specs.OnTheWay.{IsNamedWay, IsOnTheWay, named_tests}
use Rattle.draft_solving.specs.Spreading.{spread_of}
use Rattle.draft_solving.proofs.NamedTerms.{ground_named, none_named, same_named}
use Rattle.draft_solving.proofs.SpreadWay as way
use Rattle.draft_solving.proofs.SpreadWay.{ends_with_entry, ends_with_nothing, fewer_after, first_at, first_nowhere, left_among, step}
use Rattle.draft_solving.proofs.TurnedReplacements.{changed_over, IsOutside, named_change, outside, outside_sorted}

-- a condition with a term put in and in canonical form
abbrev pub put_form : (Term → Term) → ℕ × Term → Term → Term
put_form canon found t = canon (substituted (put_for found) t)

mutual
  -- names leave sorts as they are
  unnamed_sort : (signature : Signature) (names : List ℕ) (t : Term) (s : ℕ) → HasSort signature (with_names names t) s
      → HasSort signature t s
  unnamed_sort signature names (variable n r) s h = h
  unnamed_sort signature names (node f ts) s h = (h.0, h.1, h.2, unnamed_sorts signature names ts h.0.arguments h.3)

  unnamed_sorts : (signature : Signature) (names : List ℕ) (ts : Terms) (ss : List ℕ)
      → HaveSorts signature (all_substituted (naming names) ts) ss → HaveSorts signature ts ss
  unnamed_sorts signature names no_terms [] h = h
  unnamed_sorts signature names no_terms (s ∷ ss) h = h
  unnamed_sorts signature names (term_then t ts) [] h = h
  unnamed_sorts signature names (term_then t ts) (s ∷ ss) h =
      (unnamed_sort signature names t s h.0, unnamed_sorts signature names ts ss h.1)

-- two changes that agree on each member of a list
map_agree : {X Y : Type 0} (f g : X → Y) (xs : List X) → ((k : ℕ) (x : X) → slice_get xs k ≡ Some x → f x ≡ g x) → map f xs ≡ map g xs
map_agree f g [] h = refl
map_agree f g (x ∷ xs) h =
    let here : f x ≡ g x = h 0 x refl in
    let rest : map f xs ≡ map g xs = map_agree f g xs (λ k y at. h (suc k) y at) in
    λ i. here i ∷ rest i

map_again : {X Y Z : Type 0} (g : Y → Z) (f : X → Y) (xs : List X) → map g (map f xs) ≡ map (λ (x : X). g (f x)) xs
map_again g f [] = refl
map_again g f (x ∷ xs) = ap (λ zs. g (f x) ∷ zs) (map_again g f xs)

module _ (data_ : Data) (canon : Term → Term) (is_canon : IsCanon data_ canon) (start : Draft) where
  module _ (names : List ℕ) (tests : List Test) (h : IsNamedWay data_ canon start names tests) where
    abbrev V : ℕ → ℕ → Type 0
    V n s = StandsIn tests n s

    abbrev actual : List Test
    actual = named_tests names tests

    left_over : (k : ℕ) (test : Test) → slice_get tests k ≡ Some test → (n s : ℕ) → Occurs n s test.left → StandsIn tests n s
    left_over k test at n s o = record { place = k; test = test; stands = at; occurs = inl o }

    right_over : (k : ℕ) (test : Test) → slice_get tests k ≡ Some test → (n s : ℕ) → Occurs n s test.right → StandsIn tests n s
    right_over k test at n s o = record { place = k; test = test; stands = at; occurs = inr o }

    named_at : (k : ℕ) (test : Test) → slice_get tests k ≡ Some test → slice_get (named_tests names tests) k ≡ Some
        (test_with (naming names) test)
    named_at k test at = at_map (test_with (naming names)) tests k test at

    -- ---- Sorts
    pub sides_sorted : (k : ℕ) (test : Test) → slice_get tests k ≡ Some test
        → (s : ℕ) × HasSort data_.signature test.left s × HasSort data_.signature test.right s
    sides_sorted k test at =
        let p =
        way.sorted data_ canon is_canon start (named_tests names tests) h.way k (test_with (naming names) test) (named_at k test at) in
        (p.0, unnamed_sort data_.signature names test.left p.0 p.1, unnamed_sort data_.signature names test.right p.0 p.2)

    named_in : (n s : ℕ) (test : Test) → OccursInCondition n s test → OccursInCondition (name_for names n) s (test_with (naming names) test)
    named_in n s test (inl o) = inl (occurs_substituted (name_for names n) s n s (naming names) test.left o (refl, refl))
    named_in n s test (inr o) = inr (occurs_substituted (name_for names n) s n s (naming names) test.right o (refl, refl))

    pub one_sort : (n r s : ℕ) → StandsIn tests n r → StandsIn tests n s → r ≡ s
    one_sort n r s one other =
        way.one_sort data_ canon is_canon start (named_tests names tests) h.way one.place other.place (test_with (naming names) one.test)
        (test_with (naming names) other.test) (named_at one.place one.test one.stands) (named_at other.place other.test other.stands)
        (name_for names n) r s (named_in n r one.test one.occurs) (named_in n s other.test other.occurs)

    -- ---- What gives nothing gives nothing when it is named, and what is unmet is unmet.
    pub none_before : (place : ℕ) → GiveNoneBefore place tests → GiveNoneBefore place (named_tests names tests)
    none_before place passed k test lt at =
        let from = from_map (test_with (naming names)) tests k test at in
        subst (λ (t : Test). replacement_of t.left t.right ≡ None) from.2
        (none_named (λ n s. StandsIn tests n s) names h.apart from.0.left from.0.right (left_over k from.0 from.1)
        (right_over k from.0 from.1)
        (passed k from.0 lt from.1))

    named_unmet : (k : ℕ) (test : Test) → slice_get tests k ≡ Some test → is_unmet (test_with (naming names) test) ≡ is_unmet test
    named_unmet k test at = λ i.
        (ground_named names test.left i && ground_named names test.right i)
        && not (same_named (λ n s. StandsIn tests n s) names h.apart test.left test.right (left_over k test at) (right_over k test at) i)

    pub open_named : AreOpen tests → AreOpen (named_tests names tests)
    open_named none_unmet k test at =
        let from = from_map (test_with (naming names)) tests k test at in
        ap is_unmet (sym from.2) ∙ (named_unmet k from.0 from.1 ∙ none_unmet k from.0 from.1)

    pub ends_unmet : HasUnmet tests → SolvesTo canon start None
    ends_unmet unmet = ends_with_nothing data_ canon is_canon start (named_tests names tests) h.way (record {
      place = unmet.place;
      test = test_with (naming names) unmet.test;
      stands = named_at unmet.place unmet.test unmet.stands;
      unmet = named_unmet unmet.place unmet.test unmet.stands ∙ unmet.unmet;
    })

    pub ends_open : AreOpen tests → GiveNoneBefore (length tests) tests
        → SolvesTo canon start (Some (entry_of (tidied h.way.change start)))
    ends_open none_unmet passed =
        ends_with_entry data_ canon is_canon start (named_tests names tests) h.way (open_named none_unmet)
        (first_nowhere (named_tests names tests)
        (subst (λ (n : ℕ). GiveNoneBefore n (named_tests names tests)) (sym (length-map tests (test_with (naming names))))
        (none_before (length tests) passed)))

    -- ---- A step.
    module _ (k : ℕ) (test : Test) (at : slice_get tests k ≡ Some test) (found : ℕ × Term) (others : List ℕ) (chosen : ℕ × Term)
        (gives : replacement_of test.left test.right ≡ Some found) (turns : TurnsRound names found others chosen) where
      pub outside_at : IsOutside (λ n s. StandsIn tests n s) names h.apart one_sort h.below test.left test.right others chosen
      outside_at =
          let p = sides_sorted k test at in
          outside (λ n s. StandsIn tests n s) names h.apart one_sort h.below data_.signature p.0 test.left test.right found others chosen
          (left_over k test at) (right_over k test at) p.1 p.2 gives turns

      pub put_sort : (s : ℕ) → StandsIn tests chosen.0 s → HasSort data_.signature chosen.1 s
      put_sort s stands =
          let p = sides_sorted k test at in
          outside_sorted (λ n s. StandsIn tests n s) names h.apart one_sort h.below data_.signature p.0 test.left test.right found others
          chosen (left_over k test at) (right_over k test at) p.1 p.2 gives turns s stands

      put_keeps : (t : Term) (s : ℕ) → HasSort data_.signature t s → ((n r : ℕ) → Occurs n r t → StandsIn tests n r)
          → KeepsSorts data_.signature t (put_for chosen)
      put_keeps t s sorted over n r o = by (nat_eq chosen.0 n) refl
        where
          by : (b : Bool) → nat_eq chosen.0 n ≡ b → HasSort data_.signature (put_for chosen n r) r
          by true e =
              let same : chosen.0 ≡ n = eqb-true chosen.0 n e in
              subst (λ (u : Term). HasSort data_.signature u r) (sym (put_for-same chosen n r same))
              (put_sort r (subst (λ (m : ℕ). StandsIn tests m r) (sym same) (over n r o)))
          by false e =
              subst (λ (u : Term). HasSort data_.signature u r) (sym (put_for-other chosen n r e))
              (refl, occurs_sort data_.signature t s n r sorted o)

      pub put_term : (t : Term) (s : ℕ) → HasSort data_.signature t s → ((n r : ℕ) → Occurs n r t → StandsIn tests n r)
          → IsTermOf data_.signature (substituted (put_for chosen) t)
      put_term t s sorted over =
          (s, substituted_sort data_.signature (put_for chosen) t s sorted (put_keeps t s sorted over))

      -- what a term of the conditions becomes
      put_named : (t : Term) (s : ℕ) → HasSort data_.signature t s → ((n r : ℕ) → Occurs n r t → StandsIn tests n r)
          → with_names others (put_form canon chosen t) ≡ put_form canon outside_at.given (with_names names t)
      put_named t s sorted over =
          sym (named_change (λ n s. StandsIn tests n s) names h.apart one_sort h.below data_ canon is_canon others outside_at.given chosen t
          over outside_at.over outside_at.agrees outside_at.apart_after outside_at.lacks (put_term t s sorted over))

      pub put_over : (t : Term) (s : ℕ) → HasSort data_.signature t s → ((n r : ℕ) → Occurs n r t → StandsIn tests n r)
          → ((n r : ℕ) → Occurs n r (put_form canon chosen t) → StandsIn tests n r)
          × ((r : ℕ) → Occurs chosen.0 r (put_form canon chosen t) → ⊥)
      put_over t s sorted over =
          changed_over (λ n s. StandsIn tests n s) names h.apart one_sort h.below data_ canon is_canon chosen t over outside_at.over
          outside_at.lacks (put_term t s sorted over)

      -- the variables behind the step stood there before, and none of them is the one that is replaced
      record StoodBefore (n r : ℕ) : Type 0 where
        stood : StandsIn tests n r
        other : chosen.0 ≡ n → ⊥

      stood_before : (n r : ℕ) → StandsIn (map (test_in (put_form canon chosen)) tests) n r → StoodBefore n r
      stood_before n r stands =
          let from = from_map (test_in (put_form canon chosen)) tests stands.place stands.test stands.stands in
          let p = sides_sorted stands.place from.0 from.1 in
          by from.0 (put_over from.0.left p.0 p.1 (left_over stands.place from.0 from.1))
          (put_over from.0.right p.0 p.2 (right_over stands.place from.0 from.1))
          (subst (λ (t : Test). OccursInCondition n r t) (sym from.2) stands.occurs)
        where
          by : (t : Test)
              → ((n r : ℕ) → Occurs n r (put_form canon chosen t.left) → StandsIn tests n r)
              × ((r : ℕ) → Occurs chosen.0 r (put_form canon chosen t.left) → ⊥)
              → ((n r : ℕ) → Occurs n r (put_form canon chosen t.right) → StandsIn tests n r)
              × ((r : ℕ) → Occurs chosen.0 r (put_form canon chosen t.right) → ⊥)
              → OccursInCondition n r (test_in (put_form canon chosen) t) → StoodBefore n r
          by t l m (inl o) = record {
            stood = l.0 n r o;
            other = λ e. l.1 r (subst (λ (i : ℕ). Occurs i r (put_form canon chosen t.left)) (sym e) o);
          }
          by t l m (inr o) = record {
            stood = m.0 n r o;
            other = λ e. m.1 r (subst (λ (i : ℕ). Occurs i r (put_form canon chosen t.right)) (sym e) o);
          }

      tests_named : named_tests others (map (test_in (put_form canon chosen)) tests) ≡ map (test_in (put_form canon outside_at.given))
          (named_tests names tests)
      tests_named =
          map_again (test_with (naming others)) (test_in (put_form canon chosen)) tests
          ∙ (map_agree (λ (t : Test). test_with (naming others) (test_in (put_form canon chosen) t))
          (λ (t : Test). test_in (put_form canon outside_at.given) (test_with (naming names) t)) tests (λ j t here.
          let p = sides_sorted j t here in
          let l : with_names others (put_form canon chosen t.left) ≡ put_form canon outside_at.given (with_names names t.left) =
          put_named t.left p.0 p.1 (left_over j t here) in
          let m : with_names others (put_form canon chosen t.right) ≡ put_form canon outside_at.given (with_names names t.right) =
          put_named t.right p.0 p.2 (right_over j t here) in
          λ i. record { left = l i; right = m i })
          ∙ sym (map_again (test_in (put_form canon outside_at.given)) (test_with (naming names)) tests))

      canonical_after : (j : ℕ) (t : Test) → slice_get (map (test_in (put_form canon chosen)) tests) j ≡ Some t
          → (canon t.left ≡ t.left) × (canon t.right ≡ t.right)
      canonical_after j t here =
          let from = from_map (test_in (put_form canon chosen)) tests j t here in
          let p = sides_sorted j from.0 from.1 in
          subst (λ (u : Test). (canon u.left ≡ u.left) × (canon u.right ≡ u.right)) from.2 (
            is_canon.settled (substituted (put_for chosen) from.0.left) (put_term from.0.left p.0 p.1 (left_over j from.0 from.1)),
            is_canon.settled (substituted (put_for chosen) from.0.right) (put_term from.0.right p.0 p.2 (right_over j from.0 from.1)),
          )

      module _ (passed : GiveNoneBefore k tests) where
        gives_outside : first_replacement (named_tests names tests) ≡ Some outside_at.given
        gives_outside =
            first_at (named_tests names tests) k (test_with (naming names) test) outside_at.given (none_before k passed)
            (named_at k test at)
            outside_at.gives

        pub step_named : IsNamedWay data_ canon start others (map (test_in (put_form canon chosen)) tests)
        step_named = record {
          way = subst (IsOnTheWay data_ canon start) (sym tests_named)
              (step data_ canon is_canon start (named_tests names tests) outside_at.given gives_outside h.way);
          canonical_sides = canonical_after;
          apart = λ n m r s one other e.
              let p = stood_before n r one in
              let q = stood_before m s other in
              outside_at.apart_after n m r s p.stood q.stood p.other q.other e;
          below = λ n s stands. subst (λ (size : ℕ). n < size) (sym outside_at.as_long) (h.below n s (stood_before n s stands).stood);
        }

        pub step_fewer : left_among (length start.leaves) (named_tests others (map (test_in (put_form canon chosen)) tests))
            < left_among (length start.leaves) (named_tests names tests)
        step_fewer = subst (λ (ts : List Test). left_among (length start.leaves) ts < left_among (length start.leaves)
            (named_tests names tests)) (sym tests_named)
            (fewer_after data_ canon is_canon start (named_tests names tests) outside_at.given gives_outside h.way)

  -- ---- The beginning: each variable has its own number for its name.
  module _ (order : IsInOrder data_.signature start) (settled : canonical canon start ≡ start) (names : List ℕ)
      (own : (n : ℕ) → name_for names n ≡ n) (size : length names ≡ length start.leaves) where
    own_named : (tests : List Test) → named_tests names tests ≡ tests
    own_named [] = refl
    own_named (test ∷ tests) =
        let same : naming names ≡ variable = fun_ext (λ n. fun_ext (λ s. ap (λ (m : ℕ). variable m s) (own n))) in
        let left : substituted (naming names) test.left ≡ test.left =
        ap (λ (v : Substitution). substituted v test.left) same ∙ substituted_variables test.left in
        let right : substituted (naming names) test.right ≡ test.right =
        ap (λ (v : Substitution). substituted v test.right) same ∙ substituted_variables test.right in
        let rest : named_tests names tests ≡ tests = own_named tests in
        λ i. record { left = left i; right = right i } ∷ rest i

    begun_way : IsOnTheWay data_ canon start (spread_of start)
    begun_way = way.begun data_ canon is_canon start order settled

    same_tests : map (test_in canon) (spread_of start) ≡ spread_of start
    same_tests = way.spread-in canon start ∙ ap spread_of settled

    pub begun_named : IsNamedWay data_ canon start names (spread_of start)
    begun_named = record {
      way = subst (IsOnTheWay data_ canon start) (sym (own_named (spread_of start))) begun_way;
      canonical_sides = λ k test at.
          let e : test_in canon test ≡ test =
          some_value (sym (at_map (test_in canon) (spread_of start) k test at)
          ∙ (ap (λ (tests : List Test). slice_get tests k) same_tests ∙ at)) in
          (ap (λ (t : Test). t.left) e, ap (λ (t : Test). t.right) e);
      apart = λ n m r s one other e. sym (own n) ∙ (e ∙ own m);
      below = λ n s stands. subst (λ (count : ℕ). n < count) (sym size)
          (way.below data_ canon is_canon start (spread_of start) begun_way stands.place stands.test stands.stands n s stands.occurs);
    }
