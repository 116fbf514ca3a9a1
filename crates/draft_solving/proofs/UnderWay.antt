-- What a step of solving asks for and leaves, of a draft as the code keeps it.
use Rattle.std.proofs.Common.{◌≡◌, ◌<◌, inl, inr, ℕ, zero, suc, List, [], ◌∷◌, ◌++◌, map, length, slice_get, Option, None, Some, Bool, true, false, ◌&&◌, not, refl, ap, sym, ◌∙◌, subst, arith}
use Rattle.std.specs.Prelude.{IfSome}
use Rattle.std.specs.Option.{option_map}
use Rattle.lotos_base.specs.Signature.{Signature}
use Rattle.lotos_base.proofs.Members.{at_map, from_map}
use Rattle.lotos_base.proofs.TestLemmas.{Decides-term_eq}
use Rattle.lotos_base.specs.Canon.{IsCanon}
use Rattle.lotos_base.specs.Equation.{Data}
use Rattle.lotos_base.specs.Sorting.{Occurs}
use Rattle.lotos_base.specs.Term.{Term}
use Rattle.lotos_base.specs.Tests.{is_ground}
use Rattle.behaviour_semantics.specs.Behaviour.{Test}
use Rattle.behaviour_semantics.specs.Draft as plain
use Rattle.behaviour_semantics.specs.Solving.{replacement_of, SolvesTo, test_in}
use Rattle.behaviour_semantics.specs.Rule.{label_values}
use Rattle.behaviour_semantics.proofs.EveryLemmas.{every_from}
use Rattle.behaviour_semantics.proofs.ListLemmas.{Every-at}
use Rattle.behaviour_tree.proofs.StartLemmas.{told_sort}
use Rattle.sort_terms.specs.ProfiledTerm.{IsOf, ProfiledTerm}
use Rattle.sort_terms.specs.SortedView.{profiled_in, term_in}
use Rattle.sort_terms.specs.declared.sorted.Sorted.{Sorted}
use Rattle.event_offers.specs.OfferView.{condition_of, condition_profiles, condition_sides, plain_draft}
use Rattle.event_offers.specs.Offers.{AreConditionsOf, IsConditionOf}
use Rattle.event_offers.specs.declared.drafts.Draft.{Draft}
use Rattle.draft_solving.specs.Changing.{AreReadyPairs, changed_by, found_of, IsReadyForPut, IsReadyPair, LacksItsVariable}
use Rattle.draft_solving.specs.Conditions.{AreOpen, GiveNoneBefore, HasUnmet, is_unmet, StandsIn}
use Rattle.draft_solving.specs.Finding.{given_in}
use Rattle.draft_solving.specs.Naming.{TurnsRound}
use Rattle.draft_solving.specs.OnTheWay.{IsNamedWay, named_tests}
use Rattle.draft_solving.specs.Putting.{tests_in}
use Rattle.draft_solving.specs.Spreading.{itself, spread_of}
use Rattle.draft_solving.specs.Standing.{AreAllNoted, room}
use Rattle.draft_solving.specs.Way.{IsUnderWay}
use Rattle.draft_solving.specs.declared.putting.Work.{Work}
use Rattle.draft_solving.proofs.NamedWay.{ends_unmet, outside_at, put_sort, step_fewer, step_named}
use Rattle.draft_solving.proofs.SpreadWay.{left_among}

-- the measure of solving: how many variables are left
abbrev pub left_in : Work → ℕ
left_in work = left_among (length (plain_draft work.draft).leaves) (named_tests work.names.items (tests_in work))

-- Terms with themselves are never unmet.
pub open_spread : (draft : plain.Draft) → AreOpen draft.conditions → AreOpen (spread_of draft)
open_spread draft open_conditions =
    both (draft.conditions ++ map itself (label_values draft.label)) (map itself draft.leaves)
    (both draft.conditions (map itself (label_values draft.label)) open_conditions (own (label_values draft.label))) (own draft.leaves)
  where
    own : (ts : List Term) → AreOpen (map itself ts)
    own ts k test at =
        let from = from_map itself ts k test at in
        ap is_unmet (sym from.2) ∙ same from.0
      where
        nothing : (b : Bool) → (b && not true) ≡ false
        nothing true = refl
        nothing false = refl

        same : (t : Term) → is_unmet (itself t) ≡ false
        same t =
            ap (λ (b : Bool). (is_ground t && is_ground t) && not b) ((Decides-term_eq t t).1 refl) ∙ nothing (is_ground t && is_ground t)

    both : (xs ys : List Test) → AreOpen xs → AreOpen ys → AreOpen (xs ++ ys)
    both [] ys h g k test at = g k test at
    both (x ∷ xs) ys h g zero test at = h 0 test at
    both (x ∷ xs) ys h g (suc k) test at = both xs ys (λ j t there. h (suc j) t there) g k test at

module _ (data_ : Data) (canon : Term → Term) (is_canon : IsCanon data_ canon) (work : Work) (under : IsUnderWay data_ canon work)
  where
    abbrev start : plain.Draft
    start = plain_draft work.draft

    module _ (place : ℕ) (passed : GiveNoneBefore place (tests_in work)) (given : ℕ × Sorted)
        (gives : given_in (slice_get (tests_in work) place) ≡ Some (found_of given)) (others : List ℕ) (found : ℕ × Sorted)
        (turns : TurnsRound work.names.items (found_of given) others (found_of found)) (is_of : IsOf data_.signature (profiled_in found.1))
      where
        record Gives : Type 0 where
          test : Test
          stands : slice_get (tests_in work) place ≡ Some test
          told : replacement_of test.left test.right ≡ Some (found_of given)

        here : Gives
        here = by (slice_get (tests_in work) place) refl gives
          where
            by : (o : Option Test) → slice_get (tests_in work) place ≡ o → given_in o ≡ Some (found_of given) → Gives
            by None e told = absurd (cc told)
            by (Some test) e told = record { test = test; stands = e; told = told }

        ready_side : (t : Sorted) → IsOf data_.signature (profiled_in t) → canon (term_in t) ≡ term_in t
            → ((n s : ℕ) → Occurs n s (term_in t) → StandsIn (tests_in work) n s)
            → IsReadyForPut data_.signature canon found (profiled_in t)
        ready_side t side canonical_side over = record {
          is_of = side;
          canonical = canonical_side;
          value = is_of;
          puts = λ s o. told_sort data_.signature (profiled_in found.1) s is_of
              (put_sort data_ canon is_canon start work.names.items (tests_in work) under.named place here.test here.stands (found_of given)
              others (found_of found) here.told turns s (over found.0 s o));
        }

        pub ready : AreReadyPairs data_.signature canon found (condition_profiles work.spread.items)
        ready = every_from (IsReadyPair data_.signature canon found) (condition_profiles work.spread.items) (λ k sides at.
            let from = from_map condition_sides work.spread.items k sides at in
            let stood : slice_get (tests_in work) k ≡ Some (condition_of from.0) = at_map condition_of work.spread.items k from.0 from.1 in
            let are : IsConditionOf data_.signature (condition_sides from.0) =
            Every-at (IsConditionOf data_.signature) (condition_profiles work.spread.items) k (condition_sides from.0) under.is_of
            (at_map condition_sides work.spread.items k from.0 from.1) in
            let forms = under.named.canonical_sides k (condition_of from.0) stood in
            subst (IsReadyPair data_.signature canon found) from.2 (
              ready_side from.0.0 are.0 forms.0 (λ n s o. record {
                place = k;
                test = condition_of from.0;
                stands = stood;
                occurs = inl o;
              }),
              ready_side from.0.1 are.1 forms.1 (λ n s o. record {
                place = k;
                test = condition_of from.0;
                stands = stood;
                occurs = inr o;
              }),
            ))

        pub lacks : LacksItsVariable found
        lacks =
            (outside_at data_ canon is_canon start work.names.items (tests_in work) under.named place here.test here.stands (found_of given)
            others (found_of found) here.told turns).lacks

        pub below : found.0 < room work.places
        below =
            let outside =
            outside_at data_ canon is_canon start work.names.items (tests_in work) under.named place here.test here.stands (found_of given)
            others (found_of found) here.told turns in
            let lt : found.0 < length work.names.items = under.named.below found.0 outside.sort outside.is_variable in
            let size : room work.places ≡ length work.names.items = under.same_room in
            omega (arith, lt, size)

        step_now : IsNamedWay data_ canon start others (map (test_in (changed_by canon found)) (tests_in work))
        step_now =
            step_named data_ canon is_canon start work.names.items (tests_in work) under.named place here.test here.stands (found_of given)
            others (found_of found) here.told turns passed

        pub nothing_left : HasUnmet (map (test_in (changed_by canon found)) (tests_in work)) → SolvesTo canon start None
        nothing_left unmet =
            ends_unmet data_ canon is_canon start others (map (test_in (changed_by canon found)) (tests_in work)) step_now unmet

        as_long : length others ≡ length work.names.items
        as_long =
            (outside_at data_ canon is_canon start work.names.items (tests_in work) under.named place here.test here.stands
            (found_of given) others (found_of found) here.told turns).as_long

        module _ (next : Work) (draft : next.draft ≡ work.draft) (names : next.names.items ≡ others)
            (put : tests_in next ≡ map (test_in (changed_by canon found)) (tests_in work)) where
          pub fewer : left_in next < left_in work
          fewer =
              let less : left_among (length start.leaves) (named_tests others (map (test_in (changed_by canon found)) (tests_in work)))
              < left_in work =
              step_fewer data_ canon is_canon start work.names.items (tests_in work) under.named place here.test here.stands
              (found_of given) others (found_of found) here.told turns passed in
              let is : left_in next ≡ left_among (length start.leaves)
              (named_tests others (map (test_in (changed_by canon found)) (tests_in work))) =
              (λ i. left_among (length (plain_draft (draft i)).leaves) (named_tests (names i) (put i))) in
              subst (λ (n : ℕ). n < left_in work) (sym is) less

          pub under_next : AreConditionsOf data_.signature (condition_profiles next.spread.items)
              → room next.places ≡ room work.places → AreAllNoted next.places (tests_in next) → AreOpen (tests_in next)
              → GiveNoneBefore next.next (tests_in next) → IsUnderWay data_ canon next
          under_next are same_room noted still none = record {
            named = subst (λ (d : Draft). IsNamedWay data_ canon (plain_draft d) next.names.items (tests_in next)) (sym draft)
                (subst (λ (ns : List ℕ). IsNamedWay data_ canon start ns (tests_in next)) (sym names)
                (subst (IsNamedWay data_ canon start others) (sym put) step_now));
            is_of = are;
            size = ap length names ∙ (as_long ∙ (under.size ∙ ap (λ (d : Draft). length d.leaves.items) (sym draft)));
            same_room = same_room ∙ (under.same_room ∙ (sym as_long ∙ ap length (sym names)));
            noted = noted;
            open_still = still;
            passed = none;
          }

-- What is given by the code, as the definition gives it, and that it is of the signature.
pub given_of : (given : Option (ℕ × Sorted)) (found : ℕ × Sorted) (told : Option (ℕ × Term)) → given ≡ Some found
    → option_map found_of given ≡ told → told ≡ Some (found_of found)
given_of given found told is same = sym same ∙ ap (option_map found_of) is

pub given_is_of : (given : Option (ℕ × Sorted)) (found : ℕ × Sorted) (pairs : List (ProfiledTerm × ProfiledTerm)) (signature : Signature)
    → given ≡ Some found
    → IfSome given (λ (f : ℕ × Sorted). (signature : Signature) → AreConditionsOf signature pairs → IsOf signature (profiled_in f.1))
    → AreConditionsOf signature pairs → IsOf signature (profiled_in found.1)
given_is_of given found pairs signature is so h =
    let at : IfSome (Some found) (λ (f : ℕ × Sorted). (signature : Signature) → AreConditionsOf signature pairs
    → IsOf signature (profiled_in f.1)) =
    subst (λ (o : Option (ℕ × Sorted)). IfSome o (λ (f : ℕ × Sorted). (signature : Signature) → AreConditionsOf signature pairs
    → IsOf signature (profiled_in f.1))) is so in
    at signature h
