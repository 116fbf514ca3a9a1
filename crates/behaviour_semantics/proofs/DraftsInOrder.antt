-- A change of the terms of a draft that keeps sorts and brings in no variable keeps the draft in order: tidying does so.
use Rattle.std.proofs.Common.{◌≡◌, ◌<◌, ℕ, List, [], ◌∷◌, map, length, slice_get, Some, Bool, true, false, not, cond, refl, ap, sym, ◌∙◌, subst, arith}
use Rattle.std.proofs.lemmas.List.{length-map}
pub use Rattle.lotos_base.proofs.Members.{at_map, from_map}
use Rattle.lotos_base.specs.Signature.{Signature}
use Rattle.lotos_base.specs.Term.{Term, variable}
use Rattle.lotos_base.specs.Tests.{term_eq}
use Rattle.lotos_base.specs.Sorting.{HasSort, Occurs}
use Rattle.lotos_base.specs.Equation.{Data}
use Rattle.lotos_base.specs.Substitution.{Substitution, substituted}
use Rattle.lotos_base.specs.Canon.{IsCanon}
use Rattle.behaviour_semantics.specs.Behaviour.{Test}
use Rattle.behaviour_semantics.specs.Label.{Label, inner_event, gate_event, exit_event}
use Rattle.behaviour_semantics.specs.Rule.{label_values}
use Rattle.behaviour_semantics.specs.Draft.{Draft, label_with, draft_with}
use Rattle.behaviour_semantics.specs.Solving.{label_in, test_in, canonical, differing, tidied}
use Rattle.behaviour_semantics.specs.WellFormed.{Every}
use Rattle.behaviour_semantics.specs.DraftOrder.{IsLeaf, HasLeafVariables, IsDraftTerm, IsDraftTest, IsInOrder}
use Rattle.behaviour_semantics.proofs.ListLemmas.{Every-at}

pub label_values-in : (f : Term → Term) (label : Label) → label_values (label_in f label) ≡ map f (label_values label)
label_values-in f inner_event = refl
label_values-in f (gate_event g ts) = refl
label_values-in f (exit_event ts) = refl

pub label_values-with : (values : Substitution) (label : Label) → label_values (label_with values label) ≡ map (substituted values)
    (label_values label)
label_values-with values inner_event = refl
label_values-with values (gate_event g ts) = refl
label_values-with values (exit_event ts) = refl

-- Putting terms in is a change of each term.
pub label_with-in : (values : Substitution) (label : Label) → label_in (substituted values) label ≡ label_with values label
label_with-in values inner_event = refl
label_with-in values (gate_event g ts) = refl
label_with-in values (exit_event ts) = refl

pub draft_with-in : (values : Substitution) (draft : Draft) → canonical (substituted values) draft ≡ draft_with values draft
draft_with-in values draft = ap (λ (label : Label). record (draft_with values draft) { label = label }) (label_with-in values draft.label)

-- ---- A change of terms that keeps sorts and brings in no variable, and over whose leaves all variables are leaves still.
pub record IsChange (signature : Signature) (leaves : List Term) (f : Term → Term) : Type 0 where
  pub sorted : (s : ℕ) (t : Term) → HasLeafVariables signature leaves s t → HasSort signature (f t) s
  pub inside : (s : ℕ) (t : Term) → HasLeafVariables signature leaves s t → (n r : ℕ) → Occurs n r (f t) → IsLeaf leaves n r
  pub own : (s : ℕ) (t : Term) → HasLeafVariables signature leaves s t → (n r : ℕ) → Occurs n r (f t) → IsLeaf (map f leaves) n r

module _ (signature : Signature) (leaves : List Term) (f : Term → Term) (change : IsChange signature leaves f) where
  changed_term : (s : ℕ) (t : Term) → HasLeafVariables signature leaves s t → HasLeafVariables signature (map f leaves) s (f t)
  changed_term s t h = record { sorted = change.sorted s t h; own = change.own s t h }

  changed_terms : (ts : List Term) → Every (IsDraftTerm signature leaves) ts → Every (IsDraftTerm signature (map f leaves)) (map f ts)
  changed_terms [] h = tt
  changed_terms (t ∷ ts) h = ((h.0.0, changed_term h.0.0 t h.0.1), changed_terms ts h.1)

  changed_tests : (tests : List Test) → Every (IsDraftTest signature leaves) tests
      → Every (IsDraftTest signature (map f leaves)) (map (test_in f) tests)
  changed_tests [] h = tt
  changed_tests (test ∷ tests) h = (
    (h.0.0, changed_term h.0.0 test.left h.0.1, changed_term h.0.0 test.right h.0.2),
    changed_tests tests h.1,
  )

  -- a leaf that is a variable was a leaf before
  pub came_from : Every (IsDraftTerm signature leaves) leaves → (n r : ℕ) → IsLeaf (map f leaves) n r → IsLeaf leaves n r
  came_from sorted n r (i, at) =
      let from : (t : Term) × (slice_get leaves i ≡ Some t) × (f t ≡ variable n r) = from_map f leaves i (variable n r) at in
      let term : IsDraftTerm signature leaves from.0 = Every-at (IsDraftTerm signature leaves) leaves i from.0 sorted from.1 in
      change.inside term.0 from.0 term.1 n r (subst (Occurs n r) (sym from.2) (refl, refl))

pub changed_in_order : (signature : Signature) (draft : Draft) (f : Term → Term) → IsInOrder signature draft
    → IsChange signature draft.leaves f → IsInOrder signature (canonical f draft)
changed_in_order signature draft f order change =
    let back : (n r : ℕ) → IsLeaf (map f draft.leaves) n r → IsLeaf draft.leaves n r =
    came_from signature draft.leaves f change order.leaves in
    record {
      values = subst (Every (IsDraftTerm signature (map f draft.leaves))) (sym (label_values-in f draft.label))
          (changed_terms signature draft.leaves f change (label_values draft.label) order.values);
      leaves = changed_terms signature draft.leaves f change draft.leaves order.leaves;
      conditions = changed_tests signature draft.leaves f change draft.conditions order.conditions;
      below = λ n s leaf. let lt : n < length draft.leaves = order.below n s (back n s leaf) in
          omega (arith, lt, length-map draft.leaves f);
      one_sort = λ n r s leaf other. order.one_sort n r s (back n r leaf) (back n s other);
    }

-- Some of the conditions.
pub Every-differing : (P : Test → Type 0) (tests : List Test) → Every P tests → Every P (differing tests)
Every-differing P [] h = tt
Every-differing P (test ∷ tests) h = by (not (term_eq test.left test.right)) (Every-differing P tests h.1)
  where
    by : (keep : Bool) → Every P (differing tests) → Every P (cond keep (test ∷ differing tests) (differing tests))
    by true rest = (h.0, rest)
    by false rest = rest

module _ (data_ : Data) (canon : Term → Term) (is_canon : IsCanon data_ canon) where
  pub canon_changes : (leaves : List Term) → IsChange data_.signature leaves canon
  canon_changes leaves = record {
    sorted = λ s t h. is_canon.sorts t s h.sorted;
    inside = λ s t h n r o. h.own n r (is_canon.occurring t n r (s, h.sorted) o);
    own = λ s t h n r o. stays n r (h.own n r (is_canon.occurring t n r (s, h.sorted) o));
  }
    where
      stays : (n r : ℕ) → IsLeaf leaves n r → IsLeaf (map canon leaves) n r
      stays n r (i, at) = (i, at_map canon leaves i (variable n r) at ∙ ap (λ (u : Term). Some u) (is_canon.variables n r))

  pub tidied_in_order : (draft : Draft) → IsInOrder data_.signature draft → IsInOrder data_.signature (tidied canon draft)
  tidied_in_order draft order =
      let made : IsInOrder data_.signature (canonical canon draft) = changed_in_order data_.signature draft canon order
      (canon_changes draft.leaves) in
      record {
        values = made.values;
        leaves = made.leaves;
        conditions = Every-differing (IsDraftTest data_.signature (map canon draft.leaves))
            (map (test_in canon) draft.conditions) made.conditions;
        below = made.below;
        one_sort = made.one_sort;
      }
