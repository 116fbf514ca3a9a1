-- Entries without variables have canonical values, so their labels agree exactly where the values are identical.
use Rattle.std.proofs.Common.{◌≡◌, ℕ, List, [], ◌∷◌, map, refl, sym, ◌∙◌, subst}
use Rattle.std.specs.Prelude.{◌↔◌}
use Rattle.lotos_base.specs.Term.{Term}
use Rattle.lotos_base.specs.Sorting.{HasSort, IsGroundOf}
use Rattle.lotos_base.specs.Equation.{Data, HasSortedSides}
use Rattle.lotos_base.specs.Canon.{IsCanon}
use Rattle.lotos_base.proofs.EqualityLemmas.{equal_back}
use Rattle.lotos_base.proofs.SortLemmas.{equal_sort}
use Rattle.behaviour_semantics.specs.Behaviour.{Behaviour, Specification}
use Rattle.behaviour_semantics.specs.Label.{Label, inner_event, gate_event, exit_event}
use Rattle.behaviour_semantics.specs.Rule.{label_values}
use Rattle.behaviour_semantics.specs.Solving.{Entry}
use Rattle.behaviour_semantics.specs.SolvingLaws.{IsCanonical, IsSolved, IsTermOver}
use Rattle.behaviour_semantics.specs.Menu.{EqualTerms, EqualLabels, derivation_at}
use Rattle.behaviour_semantics.specs.WellFormed.{Every, IsClosedLabel}
use Rattle.certificate_theory.specs.Certificate.{compared_side_of}
use Rattle.certificate_theory.specs.Agreement.{AgreeingLabels, IdenticalLabels}
use Rattle.certificate_theory.specs.AgreementLaws.{IsClosedEntryOf, ClosedLabelsAgreeWhereIdentical, ClosedEntriesAreEvents}
use Rattle.certificate_theory.proofs.EqualValues.{terms_itself}
use Rattle.certificate_theory.proofs.MoveLaws.{MoveLaws}
use Rattle.certificate_theory.proofs.ClosedEntries.{no_variable_in, entry_solved, no_conditions, EntryMove, entry_move, leads_on, leads_once}

-- ---- One event.

all_canonical : (canon : Term → Term) (ts : List Term) → Every (IsCanonical canon) ts → map canon ts ≡ ts
all_canonical canon [] each = refl
all_canonical canon (t ∷ ts) each =
    let first : canon t ≡ t = each.0 in
    let rest : map canon ts ≡ ts = all_canonical canon ts each.1 in
    (λ i. first i ∷ rest i)

pub entries_are_events : MoveLaws → ClosedEntriesAreEvents
entries_are_events laws = record {
  conditions = λ side b entry it.
      no_conditions laws side.data_ side.canon side.specification b it.over it.menu it.exact entry it.there it.closed;
  leaves = λ side b entry it.
      all_canonical side.canon entry.leaves
      (entry_solved laws side.data_ side.canon side.specification b it.over it.menu it.exact entry it.there).leaves;
  leads = λ side b entry it.
      leads_on laws side.data_ side.canon side.specification b it.over it.menu it.exact entry it.there it.closed;
  to_one = λ side b entry target another one other.
      leads_once laws.determined side.data_ side.canon side.specification b entry target another one other;
}

-- ---- Canonical values.

-- A ground term of some sort that is its own canon.
record IsCanonicalValue (data_ : Data) (canon : Term → Term) (v : Term) : Type 0 where
  sort : ℕ
  ground_of_sort : IsGroundOf data_.signature sort v
  canonical : canon v ≡ v

module _ (data_ : Data) (canon : Term → Term) (sides : HasSortedSides data_) where
  -- Canonical terms without variables that equal values have the sorts of these.
  values_canonical : (us vs : List Term) → Every (IsCanonical canon) us → Every (IsTermOver []) us → EqualTerms data_ us vs
      → Every (λ (v : Term). (sort : ℕ) × IsGroundOf data_.signature sort v) vs → Every (IsCanonicalValue data_ canon) us
  values_canonical [] [] canonical over same sorted = tt
  values_canonical (u ∷ us) (v ∷ vs) canonical over same sorted =
      let of_sort : HasSort data_.signature u sorted.0.0 = equal_sort sorted.0.0 sides (equal_back same.0) sorted.0.1.sorted in (
        record {
          sort = sorted.0.0;
          ground_of_sort = record { ground = no_variable_in u over.0; sorted = of_sort };
          canonical = canonical.0;
        },
        values_canonical us vs canonical.1 over.1 same.1 sorted.1,
      )
  values_canonical [] (v ∷ vs) canonical over same sorted = absurd same
  values_canonical (u ∷ us) [] canonical over same sorted = absurd same

  label_canonical : (specification : Specification) (label other : Label) → Every (IsCanonical canon) (label_values label)
      → Every (IsTermOver []) (label_values label) → EqualLabels data_ label other → IsClosedLabel data_.signature specification other
      → Every (IsCanonicalValue data_ canon) (label_values label)
  label_canonical specification inner_event inner_event canonical over same closed = tt
  label_canonical specification (gate_event g us) (gate_event h vs) canonical over same closed =
      values_canonical us vs canonical over same.1 closed.1
  label_canonical specification (exit_event us) (exit_event vs) canonical over same closed =
      values_canonical us vs canonical over same closed
  label_canonical specification inner_event (gate_event h vs) canonical over same closed = absurd same
  label_canonical specification inner_event (exit_event vs) canonical over same closed = absurd same
  label_canonical specification (gate_event g us) inner_event canonical over same closed = absurd same
  label_canonical specification (gate_event g us) (exit_event vs) canonical over same closed = absurd same
  label_canonical specification (exit_event us) inner_event canonical over same closed = absurd same
  label_canonical specification (exit_event us) (gate_event h vs) canonical over same closed = absurd same

  entry_canonical : MoveLaws → (specification : Specification) (b : Behaviour) (entry : Entry)
      → IsClosedEntryOf (compared_side_of data_ canon specification) b entry
      → Every (IsCanonicalValue data_ canon) (label_values entry.label)
  entry_canonical laws specification b entry it =
      let e : EntryMove laws data_ canon specification b it.over it.menu it.exact entry =
      entry_move laws data_ canon specification b it.over it.menu it.exact entry it.there it.closed in
      let solved : IsSolved canon entry = entry_solved laws data_ canon specification b it.over it.menu it.exact entry it.there in
      label_canonical specification entry.label e.label solved.values
      (subst (λ (vs : List ℕ). Every (IsTermOver vs) (label_values entry.label)) it.closed solved.over_values) e.labels
      (laws.targets.derived data_ canon specification b it.over (derivation_at entry []) e.label e.target e.derives).0

  -- Equal canonical values are identical.
  equal_identical : IsCanon data_ canon → (us vs : List Term) → Every (IsCanonicalValue data_ canon) us
      → Every (IsCanonicalValue data_ canon) vs → EqualTerms data_ us vs → us ≡ vs
  equal_identical is_canon [] [] first second same = refl
  equal_identical is_canon (u ∷ us) (v ∷ vs) first second same =
      let one : IsCanonicalValue data_ canon u = first.0 in
      let other : IsCanonicalValue data_ canon v = second.0 in
      let of_sort : IsGroundOf data_.signature one.sort v = record {
        ground = other.ground_of_sort.ground;
        sorted = equal_sort one.sort sides same.0 one.ground_of_sort.sorted;
      } in
      let head : u ≡ v = sym one.canonical ∙ is_canon.decides u v one.sort one.ground_of_sort of_sort same.0 ∙ other.canonical in
      let tail : us ≡ vs = equal_identical is_canon us vs first.1 second.1 same.1 in
      (λ i. head i ∷ tail i)
  equal_identical is_canon [] (v ∷ vs) first second same = absurd same
  equal_identical is_canon (u ∷ us) [] first second same = absurd same

  identical_equal : (us vs : List Term) → us ≡ vs → EqualTerms data_ us vs
  identical_equal us vs same = subst (EqualTerms data_ us) same (terms_itself data_ us)

  labels_identical : IsCanon data_ canon → (one other : Specification) (label answer : Label)
      → Every (IsCanonicalValue data_ canon) (label_values label) → Every (IsCanonicalValue data_ canon) (label_values answer)
      → AgreeingLabels data_ one other label answer ↔ IdenticalLabels one other label answer
  labels_identical is_canon one other inner_event inner_event first second = ((λ k. tt), (λ k. tt))
  labels_identical is_canon one other (gate_event g us) (gate_event h vs) first second =
      ((λ k. (k.0, equal_identical is_canon us vs first second k.1)), (λ k. (k.0, identical_equal us vs k.1)))
  labels_identical is_canon one other (exit_event us) (exit_event vs) first second =
      (equal_identical is_canon us vs first second, identical_equal us vs)
  labels_identical is_canon one other inner_event (gate_event h vs) first second = ((λ k. absurd k), (λ k. absurd k))
  labels_identical is_canon one other inner_event (exit_event vs) first second = ((λ k. absurd k), (λ k. absurd k))
  labels_identical is_canon one other (gate_event g us) inner_event first second = ((λ k. absurd k), (λ k. absurd k))
  labels_identical is_canon one other (gate_event g us) (exit_event vs) first second = ((λ k. absurd k), (λ k. absurd k))
  labels_identical is_canon one other (exit_event us) inner_event first second = ((λ k. absurd k), (λ k. absurd k))
  labels_identical is_canon one other (exit_event us) (gate_event h vs) first second = ((λ k. absurd k), (λ k. absurd k))

pub agree_where_identical : MoveLaws → ClosedLabelsAgreeWhereIdentical
agree_where_identical laws c b d entry answer sides it its =
    labels_identical c.data_ c.canon sides it.over.is_canon c.left c.right entry.label answer.label
    (entry_canonical c.data_ c.canon sides laws c.left b entry it) (entry_canonical c.data_ c.canon sides laws c.right d answer its)
