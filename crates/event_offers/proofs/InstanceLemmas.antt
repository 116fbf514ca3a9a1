-- Values for the variables of an entry: they suit its terms, and a condition holds exactly where its canonical forms agree.
use Rattle.std.proofs.Common.{◌≡◌, ◌⊎◌, inl, inr, ◌<◌, ◌+◌, length, get_or, drop, ℕ, zero, suc, List, [], ◌∷◌, map, slice_get, Option, None, Some, Bool, true, false, if◌then◌else◌, refl, ap, sym, ◌∙◌, subst}
use Rattle.std.specs.Option.{option_map}
use Rattle.lotos_base.proofs.Pieces.{next_member}
use Rattle.lotos_base.specs.Signature.{Signature}
use Rattle.lotos_base.specs.Term.{Term, variable}
use Rattle.lotos_base.specs.Tests.{term_eq}
use Rattle.lotos_base.specs.Sorting.{HasSort, IsGround, IsGroundOf, Occurs}
use Rattle.lotos_base.specs.Equation.{Data, HasSortedSides}
use Rattle.lotos_base.specs.Equality.{Equal}
use Rattle.lotos_base.specs.Substitution.{Substitution, substituted}
use Rattle.lotos_base.specs.Canon.{IsCanon}
use Rattle.lotos_base.proofs.CanonLemmas.{canon_tells}
use Rattle.lotos_base.proofs.SortLemmas.{equal_sort, one_sort}
use Rattle.lotos_base.proofs.SubstitutionLemmas.{ground_instance}
use Rattle.lotos_base.proofs.TestLemmas.{Decides-term_eq}
use Rattle.behaviour_semantics.specs.Behaviour.{Test}
use Rattle.behaviour_semantics.specs.Derives.{leaves_in}
use Rattle.behaviour_semantics.specs.Replacement.{test_with}
use Rattle.behaviour_semantics.specs.Rule.{AllHold, AreValues}
use Rattle.behaviour_semantics.specs.Solving.{test_in}
use Rattle.behaviour_semantics.specs.SolvingLaws.{IsTermOver}
use Rattle.behaviour_semantics.specs.WellFormed.{Every}
use Rattle.behaviour_semantics.proofs.OptionLemmas.{some_value}
use Rattle.behaviour_semantics.proofs.SupplyLemmas.{value_at}
use Rattle.sort_terms.specs.ProfiledTerm.{ProfiledTerm, bare, head_sort, IsOf}
use Rattle.sort_terms.specs.SortedView.{profiled_in, term_in}
use Rattle.sort_terms.specs.declared.sorted.Sorted.{Sorted}
use Rattle.sort_terms.proofs.ProfiledTermLemmas.{fitting_has_sort}
use Rattle.behaviour_tree.specs.BehaviourTerms.{profiles_of}
use Rattle.behaviour_tree.specs.BehaviourView.{terms_of}
use Rattle.behaviour_tree.specs.Over.{AreTermsOf}
use Rattle.behaviour_tree.proofs.StartLemmas.{told_sort}
use Rattle.event_offers.specs.Instances.{AreValuesOver, IsValued, IsValuedPair, unmet_among}
use Rattle.event_offers.specs.OfferView.{condition_of, condition_profiles, condition_sides, conditions_of}
use Rattle.event_offers.specs.Offers.{IsConditionOf, AreConditionsOf, HaveOneSort}
use Rattle.event_offers.specs.Values.{profiled_listed}

values_sorted : (signature : Signature) (vars : List ℕ) (vs : List Sorted) → AreValues signature vars (terms_of vs)
    → AreTermsOf signature (profiles_of vs) → (n s : ℕ) → slice_get vars n ≡ Some s → head_sort (profiled_listed (profiles_of vs) n s) ≡ s
values_sorted signature [] vs h k n s at = absurd (cc at)
values_sorted signature (r ∷ vars) [] h k n s at = absurd h
values_sorted signature (r ∷ vars) (v ∷ vs) h k zero s at = told_sort signature (profiled_in v) r k.0 h.0.sorted ∙ some_value at
values_sorted signature (r ∷ vars) (v ∷ vs) h k (suc n) s at = values_sorted signature vars vs h.1 k.1 n s at

module _ (signature : Signature) (vars : List ℕ) (vs : List Sorted) (values : AreValuesOver signature vars vs) where
  valued : (t : ProfiledTerm) → IsOf signature t → IsTermOver vars (bare t) → IsValued signature vs t
  valued t h over = record {
    term = h;
    values = values.terms;
    sorts = λ n s o. values_sorted signature vars vs values.sorted values.terms n s (over n s o);
  }

  pub valued_list : (items : List Sorted) → AreTermsOf signature (profiles_of items) → Every (IsTermOver vars) (terms_of items)
      → Every (IsValued signature vs) (profiles_of items)
  valued_list [] h over = tt
  valued_list (t ∷ items) h over = (valued (profiled_in t) h.0 over.0, valued_list items h.1 over.1)

  pub valued_pairs : (items : List (Sorted × Sorted)) → AreConditionsOf signature (condition_profiles items)
      → Every (λ (test : Test). IsTermOver vars test.left) (conditions_of items)
      → Every (λ (test : Test). IsTermOver vars test.right) (conditions_of items)
      → Every (IsValuedPair signature vs) (condition_profiles items)
  valued_pairs [] h l r = tt
  valued_pairs (pair ∷ items) h l r = (
    (valued (profiled_in pair.0) h.0.0 l.0, valued (profiled_in pair.1) h.0.1 r.0),
    valued_pairs items h.1 l.1 r.1,
  )

module _ (data_ : Data) (canon : Term → Term) (is_canon : IsCanon data_ canon) (vars : List ℕ) (vs : List Sorted)
    (values : AreValuesOver data_.signature vars vs) where
  grounded : (t : Term) (s : ℕ) → HasSort data_.signature t s → IsTermOver vars t
      → IsGroundOf data_.signature s (substituted (leaves_in (terms_of vs)) t)
  grounded t s h over = ground_instance data_.signature (leaves_in (terms_of vs)) t s h
      (λ n r o. value_at data_.signature vars (terms_of vs) values.sorted n r (over n r o))

  -- the two sides of a condition with the values put in
  left_ground : (pair : Sorted × Sorted) → IsConditionOf data_.signature (condition_sides pair) → IsTermOver vars (term_in pair.0)
      → IsGroundOf data_.signature (head_sort (profiled_in pair.0)) (substituted (leaves_in (terms_of vs)) (term_in pair.0))
  left_ground pair h over =
      grounded (term_in pair.0) (head_sort (profiled_in pair.0))
      (fitting_has_sort data_.signature (profiled_in pair.0) h.0 pair.0.fits) over

  right_ground : (pair : Sorted × Sorted) → IsConditionOf data_.signature (condition_sides pair) → IsTermOver vars (term_in pair.1)
      → IsGroundOf data_.signature (head_sort (profiled_in pair.1)) (substituted (leaves_in (terms_of vs)) (term_in pair.1))
  right_ground pair h over =
      grounded (term_in pair.1) (head_sort (profiled_in pair.1))
      (fitting_has_sort data_.signature (profiled_in pair.1) h.1 pair.1.fits) over

  -- identical canons mean that the terms have one sort, and are equal
  told_equal : (t u : Term) (r s : ℕ) → IsGroundOf data_.signature r t → IsGroundOf data_.signature s u → canon t ≡ canon u
      → Equal data_ t u
  told_equal t u r s h k e =
      let same : r ≡ s =
      one_sort data_.signature (canon t) r s (is_canon.sorts t r h.sorted)
      (subst (λ (v : Term). HasSort data_.signature v s) (sym e) (is_canon.sorts u s k.sorted)) in
      canon_tells data_ canon t u r is_canon h (subst (λ (q : ℕ). IsGroundOf data_.signature q u) (sym same) k) e

  -- equal terms have one sort where the sides of equations have
  equal_sorts : (t u : Term) (r s : ℕ) → IsGroundOf data_.signature r t → IsGroundOf data_.signature s u
      → HasSortedSides data_ ⊎ (r ≡ s) → Equal data_ t u → r ≡ s
  equal_sorts t u r s h k (inl sorted) e = one_sort data_.signature u r s (equal_sort r sorted e h.sorted) k.sorted
  equal_sorts t u r s h k (inr same) e = same

  equal_told : (t u : Term) (r s : ℕ) → IsGroundOf data_.signature r t → IsGroundOf data_.signature s u
      → HasSortedSides data_ ⊎ (r ≡ s) → Equal data_ t u → canon t ≡ canon u
  equal_told t u r s h k way e =
      is_canon.decides t u r h (subst (λ (q : ℕ). IsGroundOf data_.signature q u) (sym (equal_sorts t u r s h k way e)) k) e

  -- where no condition is unmet, all hold
  pub met_where_none : (items : List (Sorted × Sorted)) → AreConditionsOf data_.signature (condition_profiles items)
      → Every (λ (test : Test). IsTermOver vars test.left) (conditions_of items)
      → Every (λ (test : Test). IsTermOver vars test.right) (conditions_of items)
      → unmet_among canon (leaves_in (terms_of vs)) (conditions_of items) ≡ None
      → AllHold data_ (map (test_with (leaves_in (terms_of vs))) (conditions_of items))
  met_where_none [] h l r none = tt
  met_where_none (pair ∷ items) h l r none = by (term_eq left right) refl (met_where_none items h.1 l.1 r.1) none
    where
      left : Term
      left = canon (substituted (leaves_in (terms_of vs)) (term_in pair.0))

      right : Term
      right = canon (substituted (leaves_in (terms_of vs)) (term_in pair.1))

      by : (same : Bool) → term_eq left right ≡ same
          → (unmet_among canon (leaves_in (terms_of vs)) (conditions_of items) ≡ None
          → AllHold data_ (map (test_with (leaves_in (terms_of vs))) (conditions_of items)))
          → (if same then unmet_among canon (leaves_in (terms_of vs)) (conditions_of items)
          else Some (test_in canon (test_with (leaves_in (terms_of vs)) (condition_of pair)))) ≡ None
          → AllHold data_ (map (test_with (leaves_in (terms_of vs))) (conditions_of (pair ∷ items)))
      by true e rest none = (
        told_equal _ _ _ _ (left_ground pair h.0 l.0) (right_ground pair h.0 r.0) ((Decides-term_eq left right).0 e),
        rest none,
      )
      by false e rest none = absurd (cc none)

  -- where all hold, no condition is unmet
  pub none_where_met : (items : List (Sorted × Sorted)) → AreConditionsOf data_.signature (condition_profiles items)
      → Every (λ (test : Test). IsTermOver vars test.left) (conditions_of items)
      → Every (λ (test : Test). IsTermOver vars test.right) (conditions_of items)
      → HasSortedSides data_ ⊎ HaveOneSort (condition_profiles items)
      → AllHold data_ (map (test_with (leaves_in (terms_of vs))) (conditions_of items))
      → unmet_among canon (leaves_in (terms_of vs)) (conditions_of items) ≡ None
  none_where_met [] h l r way all = refl
  none_where_met (pair ∷ items) h l r way all =
      by (term_eq left right) refl (none_where_met items h.1 l.1 r.1 (rest_way way) all.1)
    where
      left : Term
      left = canon (substituted (leaves_in (terms_of vs)) (term_in pair.0))

      right : Term
      right = canon (substituted (leaves_in (terms_of vs)) (term_in pair.1))

      rest_way : HasSortedSides data_ ⊎ HaveOneSort (condition_profiles (pair ∷ items))
          → HasSortedSides data_ ⊎ HaveOneSort (condition_profiles items)
      rest_way (inl sorted) = inl sorted
      rest_way (inr one) = inr one.1

      first_way : HasSortedSides data_ ⊎ HaveOneSort (condition_profiles (pair ∷ items))
          → HasSortedSides data_ ⊎ (head_sort (profiled_in pair.0) ≡ head_sort (profiled_in pair.1))
      first_way (inl sorted) = inl sorted
      first_way (inr one) = inr one.0

      by : (same : Bool) → term_eq left right ≡ same → unmet_among canon (leaves_in (terms_of vs)) (conditions_of items) ≡ None
          → (if same then unmet_among canon (leaves_in (terms_of vs)) (conditions_of items)
          else Some (test_in canon (test_with (leaves_in (terms_of vs)) (condition_of pair)))) ≡ None
      by true e rest = rest
      by false e rest = absurd (cc (
        e,
        (Decides-term_eq left right).1
            (equal_told _ _ _ _ (left_ground pair h.0 l.0) (right_ground pair h.0 r.0) (first_way way) all.0),
      ))

-- ---- The first condition that fails, in a list.
pub unmet_here : (canon : Term → Term) (values : Substitution) (items : List (Sorted × Sorted)) (i : ℕ) (x : Sorted × Sorted) (left right
    : Term)
    (out : Option Test) → i < length items → x ≡ get_or items i x → left ≡ canon (substituted values (term_in x.0))
    → right ≡ canon (substituted values (term_in x.1)) → (left ≡ right → ⊥) → unmet_among canon values (conditions_of (drop i items)) ≡ out
    → Some (record { left = left; right = right }) ≡ out
unmet_here canon values items i x left right out lt is el er apart so =
    let differ : term_eq (canon (substituted values (term_in x.0))) (canon (substituted values (term_in x.1))) ≡ false =
    by (term_eq (canon (substituted values (term_in x.0))) (canon (substituted values (term_in x.1)))) refl in
    let here : unmet_among canon values (conditions_of (x ∷ drop (i + 1) items))
    ≡ Some (record { left = canon (substituted values (term_in x.0)); right = canon (substituted values (term_in x.1)) }) = rw differ refl
    in
    (λ j. Some (record { left = el j; right = er j })) ∙ sym here
    ∙ ap (λ (ys : List (Sorted × Sorted)). unmet_among canon values (conditions_of ys)) (sym (next_member items i x lt is)) ∙ so
  where
    by : (b : Bool) → term_eq (canon (substituted values (term_in x.0))) (canon (substituted values (term_in x.1))) ≡ b → b ≡ false
    by true e = absurd (apart (el ∙ (Decides-term_eq (canon (substituted values (term_in x.0))) (canon (substituted values (term_in
        x.1)))).0 e ∙ sym er))
    by false e = refl

pub met_here : (canon : Term → Term) (values : Substitution) (items : List (Sorted × Sorted)) (i : ℕ) (x : Sorted × Sorted) (left right :
    Term)
    (out : Option Test) → i < length items → x ≡ get_or items i x → left ≡ canon (substituted values (term_in x.0))
    → right ≡ canon (substituted values (term_in x.1)) → left ≡ right → unmet_among canon values (conditions_of (drop i items)) ≡ out
    → unmet_among canon values (conditions_of (drop (i + 1) items)) ≡ out
met_here canon values items i x left right out lt is el er same so =
    let agree : term_eq (canon (substituted values (term_in x.0))) (canon (substituted values (term_in x.1))) ≡ true =
    (Decides-term_eq (canon (substituted values (term_in x.0))) (canon (substituted values (term_in x.1)))).1 (sym el ∙ same ∙ er) in
    let here : unmet_among canon values (conditions_of (x ∷ drop (i + 1) items)) ≡ unmet_among canon values (conditions_of (drop (i + 1)
    items)) =
    rw agree refl in
    sym here ∙ ap (λ (ys : List (Sorted × Sorted)). unmet_among canon values (conditions_of ys)) (sym (next_member items i x lt is)) ∙ so

pub valued_from : (signature : Signature) (vs : List Sorted) (items : List (Sorted × Sorted)) (i : ℕ) (x : Sorted × Sorted) → i < length
    items
    → x ≡ get_or items i x → Every (IsValuedPair signature vs) (condition_profiles (drop i items))
    → Every (IsValuedPair signature vs) (condition_profiles (drop (i + 1) items))
valued_from signature vs items i x lt is h =
    (subst (λ (ys : List (Sorted × Sorted)). Every (IsValuedPair signature vs) (condition_profiles ys)) (next_member items i x lt is) h).1

-- what is unmet, as the code keeps it
pub none_kept : (o : Option (Sorted × Sorted)) (u : Option Test) → option_map condition_of o ≡ u → o ≡ None → u ≡ None
none_kept None u e none = sym e
none_kept (Some pair) u e none = absurd (cc none)

pub none_told : (o : Option (Sorted × Sorted)) (u : Option Test) → option_map condition_of o ≡ u → u ≡ None → o ≡ None
none_told None u e none = refl
none_told (Some pair) u e none = absurd (cc (e, none))
