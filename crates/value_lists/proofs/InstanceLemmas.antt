-- The steps of the loop over the tuples of an entry, and what the list at the end is.
use Rattle.std.proofs.Common.{◌≡◌, ℕ, zero, suc, ◌+◌, ◌/◌, ◌%◌, ◌<◌, ◌≤◌, List, [], ◌∷◌, ◌++◌, length, get_or, map, Vec, Global, refl, ap, sym, ◌∙◌, subst, inl, inr, arith}
use Rattle.std.specs.Prelude.{◌⊎◌, Option, Some, None}
use Rattle.std.specs.List.{Contains}
use Rattle.std.proofs.lemmas.List.{map_push}
use Rattle.lotos_base.specs.Equation.{Data}
use Rattle.lotos_base.specs.Signature.{Signature}
use Rattle.lotos_base.specs.Term.{Term, variable}
use Rattle.behaviour_semantics.specs.Rule.{AreValues}
use Rattle.behaviour_semantics.specs.WellFormed.{Every}
use Rattle.behaviour_tree.specs.BehaviourTerms.{profiles_of}
use Rattle.event_offers.specs.Instances.{AreValuesOver}
use Rattle.event_offers.specs.declared.drafts.Entry.{Entry}
use Rattle.sort_terms.specs.ProfiledTerm.{ProfiledTerm, profiled_variable, bare, IsOf}
use Rattle.sort_terms.specs.SortedView.{profiled_in, term_in}
use Rattle.sort_terms.specs.declared.sorted.Sorted.{Sorted}
use Rattle.value_lists.specs.InstanceList.{AreChoices, AreTuplesOver, HasSortedTests, IsGroundChoice, term_lists_of, ListsInstances, MeetConditions, profiled_lists_in}
use Rattle.value_lists.specs.Tried.{IsTried}
use Rattle.value_lists.specs.TupleNumbers.{tuple_at}
use Rattle.value_lists.specs.Tuples.{IsTuple, tuple_count, TupleBefore}
use Rattle.value_lists.proofs.RisingLists.{among_contains, contains_among, rises_pairs}
use Rattle.value_lists.proofs.SiftLemmas.{Sifted, sifted_sound, sifted_complete, sifted_rises}
use Rattle.value_lists.proofs.TupleCodeLemmas.{Lists, count_lists, tuple_terms}
use Rattle.value_lists.proofs.TupleLemmas.{at_is_tuple, first_place, number_of, tuples_rise}
use Rattle.value_lists.proofs.ValuesLemmas.{forget_profiles}

-- ---- The values of a tuple

every_at : {X : Type 0} (P : X → Type 0) (xs : List X) (k : ℕ) (d : X) → Every P xs → k < length xs → P (get_or xs k d)
every_at P [] k d all within = absurd (omega (arith, within))
every_at P (x ∷ xs) zero d all within = all.0
every_at P (x ∷ xs) (suc k) d all within = every_at P xs k d all.1 (omega (arith, within))

pub every_more : {X : Type 0} (P : X → Type 0) (xs : List X) (x : X) → Every P xs → P x → Every P (xs ++ x ∷ [])
every_more P [] x all one = (one, tt)
every_more P (y ∷ ys) x all one = (all.0, every_more P ys x all.1 one)

chosen : (signature : Signature) (sorts : List ℕ) (choices : List (List ProfiledTerm)) (number : ℕ) (d : ProfiledTerm)
    → AreChoices signature sorts choices → number < tuple_count choices
    → AreValues signature sorts (map bare (tuple_at choices number d)) × Every (IsOf signature) (tuple_at choices number d)
chosen signature [] [] number d are less = (tt, tt)
chosen signature [] (choice ∷ choices) number d are less = absurd are
chosen signature (sort ∷ sorts) [] number d are less = absurd are
chosen signature (sort ∷ sorts) (choice ∷ choices) number d are less =
    let place = first_place choice choices number less in
    let one = every_at (IsGroundChoice signature sort) choice (number / tuple_count choices) d are.0 place.0 in
    let rest = chosen signature sorts choices (number % tuple_count choices) d are.1 place.1 in
    ((one.is_ground, rest.0), (one.is_of, rest.1))

pub tuple_values : (signature : Signature) (sorts : List ℕ) (lists : Lists) (number : ℕ) (tuple : List Sorted)
    → AreChoices signature sorts (profiled_lists_in lists) → number < tuple_count (profiled_lists_in lists)
    → profiles_of tuple ≡ tuple_at (profiled_lists_in lists) number (profiled_variable 0 0) → AreValuesOver signature sorts tuple
tuple_values signature sorts lists number tuple are less is =
    let both = chosen signature sorts (profiled_lists_in lists) number (profiled_variable 0 0) are less in
    record {
      sorted = subst (λ (ts : List Term). AreValues signature sorts ts) (sym (forget_profiles tuple ∙ ap (map bare) is)) both.0;
      terms = subst (λ (ts : List ProfiledTerm). Every (IsOf signature) ts) (sym is) both.1;
    }

-- ---- One tuple more

abbrev list_of : Vec Sorted Global → List Term
list_of list = map term_in list.items

pub tried_met : (data_ : Data) (entry : Entry) (one : Vec Sorted Global) (old new : Lists)
    → MeetConditions data_ entry (map term_in one.items)
    → new ≡ old ++ one ∷ [] → IsTried data_ entry (map term_in one.items) (term_lists_of old) (term_lists_of new)
tried_met data_ entry one old new met is = inl (met, ap term_lists_of is ∙ map_push list_of old one)

-- the conditions do not all hold where one of them fails
pub tried_unmet : (data_ : Data) (entry : Entry) (one : Vec Sorted Global) (old : Lists) (pair : Sorted × Sorted)
    (unmet : Option (Sorted × Sorted)) → unmet ≡ Some pair
    → (HasSortedTests data_ entry → MeetConditions data_ entry (map term_in one.items) → unmet ≡ None)
    → IsTried data_ entry (map term_in one.items) (term_lists_of old) (term_lists_of old)
tried_unmet data_ entry one old pair unmet some none =
    inr ((λ told met. let clash : Some pair ≡ None = sym some ∙ none told met in cc), refl)

pub tuples_more : (signature : Signature) (sorts : List ℕ) (one : Vec Sorted Global) (old new : Lists)
    → AreValuesOver signature sorts one.items
    → new ≡ old ++ one ∷ [] → AreTuplesOver signature sorts old → AreTuplesOver signature sorts new
tuples_more signature sorts one old new values is all =
    subst (λ (lists : Lists). AreTuplesOver signature sorts lists) (sym is)
    (every_more (λ (tuple : Vec Sorted Global). AreValuesOver signature sorts tuple.items) old one all values)

abbrev pub SiftedUpTo : Data → Entry → Lists → ℕ → Lists → Type 0
SiftedUpTo data_ entry choices number found =
    Sifted (HasSortedTests data_ entry) (MeetConditions data_ entry) (λ k. tuple_at (term_lists_of choices) k (variable 0 0)) number
    (term_lists_of found)

pub sifted_more : (data_ : Data) (entry : Entry) (choices : Lists) (number : ℕ) (one : List Sorted) (old new : Lists)
    → SiftedUpTo data_ entry choices number old
    → profiles_of one ≡ tuple_at (profiled_lists_in choices) number (profiled_variable 0 0)
    → IsTried data_ entry (map term_in one) (term_lists_of old) (term_lists_of new) → SiftedUpTo data_ entry choices (number + 1) new
sifted_more data_ entry choices number one old new so_far is tried =
    let next : suc number ≡ number + 1 = omega arith in
    subst (λ (n : ℕ). SiftedUpTo data_ entry choices n new) next (
      term_lists_of old,
      so_far,
      subst (λ (ts : List Term). IsTried data_ entry ts (term_lists_of old) (term_lists_of new)) (tuple_terms choices number one is) tried,
    )

-- ---- All tuples

pub all_tuples : (data_ : Data) (entry : Entry) (choices : Lists) (count : ℕ) (found : Lists)
    → count ≡ tuple_count (profiled_lists_in choices) → HasSortedTests data_ entry
    → SiftedUpTo data_ entry choices count found → ListsInstances data_ entry (term_lists_of choices) (term_lists_of found)
all_tuples data_ entry choices count found is told sifted = record {
  sound = λ ts h.
      let there =
      sifted_sound (HasSortedTests data_ entry) (MeetConditions data_ entry) (λ k. tuple_at (term_lists_of choices) k (variable 0 0))
      count (term_lists_of found) sifted ts (contains_among (term_lists_of found) ts h) in
      let less = there.1 in (
        subst (λ (us : List Term). IsTuple (term_lists_of choices) us) there.2
            (at_is_tuple (term_lists_of choices) there.0 (variable 0 0) (omega (arith, less, is, same))),
        there.3,
      );
  complete = λ ts tuple meets.
      let there = number_of (term_lists_of choices) ts (variable 0 0) tuple in
      let less = there.1 in
      subst (λ (us : List Term). Contains (term_lists_of found) us) there.2
      (among_contains (term_lists_of found) (tuple_at (term_lists_of choices) there.0 (variable 0 0))
      (sifted_complete (HasSortedTests data_ entry) (MeetConditions data_ entry)
      (λ k. tuple_at (term_lists_of choices) k (variable 0 0)) told
      count (term_lists_of found) sifted there.0 (omega (arith, less, is, same))
      (subst (λ (us : List Term). MeetConditions data_ entry us) (sym there.2) meets)));
  rising = rises_pairs (TupleBefore (term_lists_of choices)) (term_lists_of found)
      (sifted_rises (HasSortedTests data_ entry) (MeetConditions data_ entry) (λ k. tuple_at (term_lists_of choices) k (variable 0 0))
      (TupleBefore (term_lists_of choices)) count
      (λ i j before within. tuples_rise (term_lists_of choices) i j (variable 0 0) before (omega (arith, within, is, same)))
      count (omega arith) (term_lists_of found) sifted);
}
  where
    same : tuple_count (term_lists_of choices) ≡ tuple_count (profiled_lists_in choices)
    same = count_lists choices
