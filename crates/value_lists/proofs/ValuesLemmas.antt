-- The steps of the search over the operations and over the sizes, and what the lists at the end are.
use Rattle.std.proofs.Common.{◌≡◌, ℕ, zero, suc, ◌+◌, ◌<◌, ◌≤◌, List, [], ◌∷◌, ◌++◌, length, get_or, map, drop, Bool, true, refl, ap, sym, ◌∙◌, subst, inl, inr, arith}
use Rattle.std.specs.Prelude.{◌⊎◌, nat_eq}
use Rattle.std.specs.List.{filter}
use Rattle.std.proofs.lemmas.List.{append_assoc, drop_more, length-append, length-map}
use Rattle.std.proofs.lemmas.Bool.{eqb-true}
use Rattle.lotos_base.specs.Signature.{Signature, Operation}
use Rattle.lotos_base.specs.Sorting.{HasSort}
use Rattle.lotos_base.specs.Term.{Term}
use Rattle.rewriting_theory.specs.Rewriting.{IsNormal}
use Rattle.rewriting_theory.specs.Rule.{Rule}
use Rattle.behaviour_semantics.specs.WellFormed.{Every}
use Rattle.sort_terms.specs.ProfiledTerm.{ProfiledTerm, bare, head_sort, FitsProfiles}
use Rattle.sort_terms.specs.SortedView.{profiled_in, term_in}
use Rattle.sort_terms.specs.declared.sorted.Sorted.{Sorted}
use Rattle.sort_terms.proofs.ProfiledTermLemmas.{fitting_has_sort}
use Rattle.value_lists.specs.InstanceList.{IsGroundChoice}
use Rattle.value_lists.specs.Search.{found_for, found_from, with_next_operation, found_up_to}
use Rattle.value_lists.specs.ValueList.{IsValueList, HasMoreValues, HasUpToValues}
use Rattle.value_lists.proofs.RisingLists.{Among, from_filter}
use Rattle.value_lists.proofs.SearchLemmas.{trial_of}
use Rattle.value_lists.proofs.TableLemmas.{IsTable, keeps, table_of, value_list, whole_list}
use Rattle.value_lists.proofs.TrialLemmas.{longer}

-- ---- One operation after the other

pub each_step : (keep : ProfiledTerm → Bool) (smaller : List ProfiledTerm) (left : ℕ) (operations : List Operation)
    (found more whole : List ProfiledTerm) (i : ℕ) (operation : Operation) → i < length operations
    → operation ≡ get_or operations i operation → more ≡ found ++ found_for (trial_of keep smaller i operation) left
    → found ++ found_from keep smaller left i (drop i operations) ≡ whole
    → more ++ found_from keep smaller left (i + 1) (drop (i + 1) operations) ≡ whole
each_step keep smaller left operations found more whole i operation within is added so_far =
    let next : suc i ≡ i + 1 = omega arith in
    ap (λ (ts : List ProfiledTerm). ts ++ found_from keep smaller left (i + 1) (drop (i + 1) operations)) added
    ∙ append_assoc found (found_for (trial_of keep smaller i operation) left)
    (found_from keep smaller left (i + 1) (drop (i + 1) operations))
    ∙ ap (λ (n : ℕ). found ++ (found_for (trial_of keep smaller i operation) left
    ++ found_from keep smaller left n (drop (i + 1) operations)))
    (sym next)
    ∙ ap (λ (os : List Operation). found ++ found_from keep smaller left i os)
    (ap (λ (o : Operation). o ∷ drop (i + 1) operations) is ∙ sym (drop_more operations i operation within))
    ∙ so_far

pub each_full : (keep : ProfiledTerm → Bool) (smaller : List ProfiledTerm) (left : ℕ) (operations : List Operation)
    (found whole : List ProfiledTerm) (i room : ℕ) (operation : Operation) → i < length operations
    → operation ≡ get_or operations i operation → room < length (found ++ found_for (trial_of keep smaller i operation) left)
    → found ++ found_from keep smaller left i (drop i operations) ≡ whole → room < length whole
each_full keep smaller left operations found whole i room operation within is full so_far =
    subst (λ (ts : List ProfiledTerm). room < length ts)
    (each_step keep smaller left operations found (found ++ found_for (trial_of keep smaller i operation) left) whole i operation within
    is refl so_far)
    (longer (found ++ found_for (trial_of keep smaller i operation) left)
    (found_from keep smaller left (i + 1) (drop (i + 1) operations)) room full)

-- ---- One size after the other

pub lengths_rise : (keep : ProfiledTerm → Bool) (operations : List Operation) (m n : ℕ) → m ≤ n
    → length (found_up_to keep operations m) ≤ length (found_up_to keep operations n)
lengths_rise keep operations m zero within =
    let same : m ≡ 0 = omega (arith, within) in
    subst (λ (k : ℕ). length (found_up_to keep operations k) ≤ 0) (sym same) (omega arith)
lengths_rise keep operations m (suc n) within = go (λ small. lengths_rise keep operations m n small) (split within)
  where
    split : m ≤ suc n → (m ≤ n) ⊎ (m ≡ suc n)
    split within = grind (arith, within)

    go : (m ≤ n → length (found_up_to keep operations m) ≤ length (found_up_to keep operations n)) → (m ≤ n) ⊎ (m ≡ suc n)
        → length (found_up_to keep operations m) ≤ length (found_up_to keep operations (suc n))
    go rest (inl small) =
        let before = rest small in
        let joined = length-append (found_up_to keep operations n)
        (found_from keep (found_up_to keep operations n) n 0 operations) in
        omega (arith, before, joined)
    go rest (inr same) =
        subst (λ (k : ℕ). length (found_up_to keep operations k) ≤ length (found_up_to keep operations (suc n))) (sym same) (omega arith)

-- ---- The lists of the code

pub forget_profiles : (xs : List Sorted) → map term_in xs ≡ map bare (map profiled_in xs)
forget_profiles [] = refl
forget_profiles (x ∷ xs) = ap (λ (ts : List Term). term_in x ∷ ts) (forget_profiles xs)

pub every_among : {X : Type 0} (P : X → Type 0) (xs : List X) → ((x : X) → Among x xs → P x) → Every P xs
every_among P [] each = tt
every_among P (x ∷ xs) each = (each x (inl refl), every_among P xs (λ y h. each y (inr h)))

module _ (signature : Signature) (rules : List Rule) (size : ℕ) where
  abbrev found : List ProfiledTerm
  found = found_up_to (keeps signature rules) signature.operations size

  table : IsTable signature rules size (found_up_to (keeps signature rules) signature.operations size)
  table = table_of signature rules size

  pub all_fit : Every FitsProfiles found
  all_fit = every_among FitsProfiles found (λ t h. (table.sound t h).0.fits)

  pub listed_values : (sort : ℕ) (xs : List Sorted)
      → map profiled_in xs ≡ filter (λ t. nat_eq (head_sort t) sort) found
      → IsValueList signature (IsNormal rules) size sort (map term_in xs)
  listed_values sort xs is =
      subst (λ (ts : List Term). IsValueList signature (IsNormal rules) size sort ts) (sym (forget_profiles xs ∙ ap (map bare) is))
      (value_list signature rules size sort found table)

  pub listed_choices : (sort : ℕ) (xs : List Sorted)
      → map profiled_in xs ≡ filter (λ t. nat_eq (head_sort t) sort) found → Every (IsGroundChoice signature sort) (map profiled_in xs)
  listed_choices sort xs is =
      subst (λ (ts : List ProfiledTerm). Every (IsGroundChoice signature sort) ts) (sym is)
      (every_among (IsGroundChoice signature sort) (filter (λ t. nat_eq (head_sort t) sort) found)
      (λ t h.
      let passed = from_filter (λ u. nat_eq (head_sort u) sort) found t h in
      let value = (table.sound t passed.0).0 in
      record {
        is_of = value.is_of;
        is_ground = record {
          ground = value.is_ground;
          sorted = subst (λ (s : ℕ). HasSort signature (bare t) s) (eqb-true (head_sort t) sort passed.1)
              (fitting_has_sort signature t value.is_of value.fits);
        };
      }))

  pub more_values : (number : ℕ) → number < length found → HasMoreValues signature (IsNormal rules) size number
  more_values number more =
      let same = length-map found bare in
      (map bare found, whole_list signature rules size found table, omega (arith, same, more))

  pub up_to_values : (number : ℕ) → length found ≤ number → HasUpToValues signature (IsNormal rules) size number
  up_to_values number few =
      let same = length-map found bare in
      (map bare found, whole_list signature rules size found table, omega (arith, same, few))

-- where one size is too much, a larger one is
pub full_later : (signature : Signature) (rules : List Rule) (size limit number : ℕ) → size < limit
    → number < length (with_next_operation (keeps signature rules) signature.operations size
    (found_up_to (keeps signature rules) signature.operations size))
    → HasMoreValues signature (IsNormal rules) limit number
full_later signature rules size limit number less full =
    let rise = lengths_rise (keeps signature rules) signature.operations (suc size) limit (omega (arith, less)) in
    more_values signature rules limit number (omega (arith, rise, full))
