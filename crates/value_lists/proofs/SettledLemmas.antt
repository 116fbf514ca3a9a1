-- The terms that rules do not reduce are those that are their own normal form.
use Rattle.std.proofs.Common.{◌≡◌, ◌↔◌, ◌⊎◌, inl, inr, ℕ, ◌<◌, ◌≤◌, List, [], ◌∷◌, length, ap, sym, subst}
use Rattle.std.specs.List.{Contains}
use Rattle.lotos_base.specs.Signature.{Signature}
use Rattle.lotos_base.specs.Equation.{Data}
use Rattle.lotos_base.specs.Term.{Term}
use Rattle.rewriting_theory.specs.NormalForm.{Normalises}
use Rattle.rewriting_theory.specs.Rewriting.{IsNormal}
use Rattle.rewriting_theory.specs.Rule.{Rule}
use Rattle.behaviour_semantics.specs.Menu.{Meets}
use Rattle.behaviour_semantics.specs.Rule.{AreValues}
use Rattle.behaviour_semantics.specs.Solving as solving
use Rattle.event_offers.specs.OfferView.{plain_entry}
use Rattle.event_offers.specs.declared.drafts.Entry.{Entry}
use Rattle.session_histories.specs.Session.{SessionBasis}
use Rattle.value_lists.specs.InstanceList as found
use Rattle.value_lists.specs.Tuples.{IsTuple}
use Rattle.value_lists.specs.ValueList.{AreValueLists, HasMoreValues, HasUpToValues, IsValueList, IsValueWithin, IsWholeList}
use Rattle.value_lists.proofs.ClassLemmas.{stays_itself}
use Rattle.value_lists.specs.ListOutcome.{AreListsOf, IsInstanceList}

-- ---- Lists by one or the other

module _ (signature : Signature) (P Q : Term → Type 0) (same : (t : Term) → P t ↔ Q t) (limit : ℕ) where
  value_same : (sort : ℕ) (t : Term) → IsValueWithin signature P limit sort t → IsValueWithin signature Q limit sort t
  value_same sort t h = (record { is_ground = h.0.is_ground; irreducible = (same t).0 h.0.irreducible }, h.1)

  value_back : (sort : ℕ) (t : Term) → IsValueWithin signature Q limit sort t → IsValueWithin signature P limit sort t
  value_back sort t h = (record { is_ground = h.0.is_ground; irreducible = (same t).1 h.0.irreducible }, h.1)

  pub list_same : (sort : ℕ) (terms : List Term) → IsValueList signature P limit sort terms → IsValueList signature Q limit sort terms
  list_same sort terms h = record {
    exactly = λ t. (λ there. value_same sort t ((h.exactly t).0 there), λ is. (h.exactly t).1 (value_back sort t is));
    rising = h.rising;
  }

  pub lists_same : (sorts : List ℕ) (lists : List (List Term)) → AreValueLists signature P limit sorts lists
      → AreValueLists signature Q limit sorts lists
  lists_same [] [] h = h
  lists_same [] (list ∷ lists) h = h
  lists_same (sort ∷ sorts) [] h = h
  lists_same (sort ∷ sorts) (list ∷ lists) h = (list_same sort list h.0, lists_same sorts lists h.1)

  whole_same : (terms : List Term) → IsWholeList signature P limit terms → IsWholeList signature Q limit terms
  whole_same terms h = record {
    exactly = λ t. (
      λ there. (((h.exactly t).0 there).0, value_same ((h.exactly t).0 there).0 t ((h.exactly t).0 there).1),
      λ is. (h.exactly t).1 (is.0, value_back is.0 t is.1),
    );
    rising = h.rising;
  }

  pub more_same : (number : ℕ) → HasMoreValues signature P limit number → HasMoreValues signature Q limit number
  more_same number h = (h.0, whole_same h.0 h.1, h.2)

  pub few_same : (number : ℕ) → HasUpToValues signature P limit number → HasUpToValues signature Q limit number
  few_same number h = (h.0, whole_same h.0 h.1, h.2)

-- ---- Instances

-- terms of lists of values have the sorts
tuple_sorted : (signature : Signature) (Irreducible : Term → Type 0) (limit : ℕ) (sorts : List ℕ) (lists : List (List Term))
    (ts : List Term) → AreValueLists signature Irreducible limit sorts lists → IsTuple lists ts → AreValues signature sorts ts
tuple_sorted signature Irreducible limit [] [] [] are is = tt
tuple_sorted signature Irreducible limit [] [] (t ∷ ts) are is = absurd is
tuple_sorted signature Irreducible limit [] (list ∷ lists) ts are is = absurd are
tuple_sorted signature Irreducible limit (sort ∷ sorts) [] ts are is = absurd are
tuple_sorted signature Irreducible limit (sort ∷ sorts) (list ∷ lists) [] are is = absurd is
tuple_sorted signature Irreducible limit (sort ∷ sorts) (list ∷ lists) (t ∷ ts) are is =
    (((are.0.exactly t).0 is.0).0.is_ground, tuple_sorted signature Irreducible limit sorts lists ts are.1 is.1)

-- the tuples that meet the conditions are the instances
pub instances_same : (basis : SessionBasis) (entry : Entry) (size : ℕ) (choices tuples : List (List Term))
    → AreListsOf basis size entry.vars.items choices
    → found.ListsInstances basis.data_ entry choices tuples → IsInstanceList basis (plain_entry entry) choices tuples
instances_same basis entry size choices tuples are lists = record {
  exactly = λ values. (
    λ there. (
      (lists.sound values there).0,
      record {
        sorted = tuple_sorted basis.data_.signature _ size entry.vars.items choices values are (lists.sound values there).0;
        met = (lists.sound values there).1;
      },
    ),
    λ is. lists.complete values is.0 is.1.met,
  );
  rising = lists.rising;
}

-- ---- By the rules

pub settled : (rules : List Rule) (canon : Term → Term) → Normalises rules canon → (t : Term) → IsNormal rules t ↔ (canon t ≡ t)
settled rules canon normal t = stays_itself rules canon t normal
