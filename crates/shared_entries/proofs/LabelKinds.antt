-- Labels of one kind, at one gate, whose values have the same sorts: solving keeps the kind.
use Rattle.std.proofs.Common.{◌≡◌, ℕ, List, [], ◌∷◌, map, Option, None, Some, refl, sym, ◌∙◌, subst}
use Rattle.lotos_base.specs.Signature.{Signature}
use Rattle.lotos_base.specs.Term.{Term, variable, node}
use Rattle.lotos_base.specs.Sorting.{HasSort, head_sort_of}
use Rattle.lotos_base.specs.Equation.{Data}
use Rattle.lotos_base.specs.Substitution.{Substitution, substituted, renaming}
use Rattle.lotos_base.specs.Canon.{IsCanon}
use Rattle.lotos_base.proofs.SortLemmas.{sort_of_sorted}
use Rattle.lotos_base.proofs.SubstitutionLemmas.{substituted_sort}
use Rattle.behaviour_semantics.specs.Label.{Label, inner_event, gate_event, exit_event}
use Rattle.behaviour_semantics.specs.Rule.{label_values}
use Rattle.behaviour_semantics.specs.Draft.{Draft, label_with}
use Rattle.behaviour_semantics.specs.Solving.{Entry, entry_of, label_in, tidied, replaced, SolvesTo, unsolvable, settled, replacing}
use Rattle.behaviour_semantics.specs.WellFormed.{Every}
use Rattle.behaviour_semantics.specs.DraftOrder.{HasLeafVariables, IsInOrder}
use Rattle.behaviour_semantics.proofs.RelatedTerms.{occurs_sort}
use Rattle.behaviour_semantics.proofs.DraftsInOrder.{canon_changes, tidied_in_order, draft_with-in}
use Rattle.behaviour_semantics.proofs.ReplacementsInOrder.{put_for, replacement_changes, rests_on, replaced_in_order}
use Rattle.behaviour_semantics.proofs.SettledEntries.{renumbered}
use Rattle.behaviour_semantics.proofs.RenamedSolving.{terms_in_order}

module _ (signature : Signature) where
  abbrev pub SameSorts : List Term → List Term → Type 0
  SameSorts [] [] = Unit {0}
  SameSorts (t ∷ ts) (u ∷ us) = (head_sort_of signature t ≡ head_sort_of signature u) × SameSorts ts us
  SameSorts _ _ = ⊥

  abbrev pub SameKind : Label → Label → Type 0
  SameKind inner_event inner_event = Unit {0}
  SameKind (gate_event g ts) (gate_event h us) = (g ≡ h) × SameSorts ts us
  SameKind (exit_event ts) (exit_event us) = SameSorts ts us
  SameKind _ _ = ⊥

  sorts_then : (ts us vs : List Term) → SameSorts ts us → SameSorts us vs → SameSorts ts vs
  sorts_then [] [] [] h k = tt
  sorts_then (t ∷ ts) (u ∷ us) (v ∷ vs) h k = (h.0 ∙ k.0, sorts_then ts us vs h.1 k.1)
  sorts_then [] (u ∷ us) vs h k = absurd h
  sorts_then (t ∷ ts) [] vs h k = absurd h
  sorts_then [] [] (v ∷ vs) h k = absurd k
  sorts_then (t ∷ ts) (u ∷ us) [] h k = absurd k

  kind_then : (a b c : Label) → SameKind a b → SameKind b c → SameKind a c
  kind_then inner_event inner_event inner_event h k = tt
  kind_then (gate_event g ts) (gate_event g' us) (gate_event g'' vs) h k = (h.0 ∙ k.0, sorts_then ts us vs h.1 k.1)
  kind_then (exit_event ts) (exit_event us) (exit_event vs) h k = sorts_then ts us vs h k
  kind_then inner_event (gate_event g us) c h k = absurd h
  kind_then inner_event (exit_event us) c h k = absurd h
  kind_then inner_event inner_event (gate_event g us) h k = absurd k
  kind_then inner_event inner_event (exit_event us) h k = absurd k
  kind_then (gate_event g ts) inner_event c h k = absurd h
  kind_then (gate_event g ts) (exit_event us) c h k = absurd h
  kind_then (gate_event g ts) (gate_event g' us) inner_event h k = absurd k
  kind_then (gate_event g ts) (gate_event g' us) (exit_event vs) h k = absurd k
  kind_then (exit_event ts) inner_event c h k = absurd h
  kind_then (exit_event ts) (gate_event g us) c h k = absurd h
  kind_then (exit_event ts) (exit_event us) inner_event h k = absurd k
  kind_then (exit_event ts) (exit_event us) (gate_event g vs) h k = absurd k

  -- a change of terms that keeps sorts
  sorts_in : (f : Term → Term) (ts : List Term) → Every (λ t. head_sort_of signature (f t) ≡ head_sort_of signature t) ts
      → SameSorts (map f ts) ts
  sorts_in f [] h = tt
  sorts_in f (t ∷ ts) h = (h.0, sorts_in f ts h.1)

  kind_in : (f : Term → Term) (label : Label) → Every (λ t. head_sort_of signature (f t) ≡ head_sort_of signature t) (label_values label)
      → SameKind (label_in f label) label
  kind_in f inner_event h = tt
  kind_in f (gate_event g ts) h = (refl, sorts_in f ts h)
  kind_in f (exit_event ts) h = sorts_in f ts h

  -- other numbers for variables
  renamed_sort : (number : ℕ → ℕ → ℕ) (t : Term) → head_sort_of signature (substituted (renaming number) t) ≡ head_sort_of signature t
  renamed_sort number (variable n s) = refl
  renamed_sort number (node f ts) = refl

  renamed_sorts : (number : ℕ → ℕ → ℕ) (ts : List Term) → SameSorts (map (substituted (renaming number)) ts) ts
  renamed_sorts number [] = tt
  renamed_sorts number (t ∷ ts) = (renamed_sort number t, renamed_sorts number ts)

  pub renamed_kind : (number : ℕ → ℕ → ℕ) (label : Label) → SameKind (label_with (renaming number) label) label
  renamed_kind number inner_event = tt
  renamed_kind number (gate_event g ts) = (refl, renamed_sorts number ts)
  renamed_kind number (exit_event ts) = renamed_sorts number ts

module _ (data_ : Data) (canon : Term → Term) (is_canon : IsCanon data_ canon) where
  keeps : (draft : Draft) (f : Term → Term) → IsInOrder data_.signature draft
      → ((s : ℕ) (t : Term) → HasLeafVariables data_.signature draft.leaves s t → HasSort data_.signature (f t) s)
      → SameKind data_.signature (label_in f draft.label) draft.label
  keeps draft f order sorted =
      kind_in data_.signature f draft.label
      (terms_in_order data_ draft (λ t. head_sort_of data_.signature (f t) ≡ head_sort_of data_.signature t)
      (λ t h. sort_of_sorted data_.signature (f t) h.0 (sorted h.0 t h.1)
      ∙ sym (sort_of_sorted data_.signature t h.0 h.1.sorted)) order).values

  put_keeps : (draft : Draft) (values : Substitution) → IsInOrder data_.signature draft
      → ((s : ℕ) (t : Term) → HasLeafVariables data_.signature draft.leaves s t → HasSort data_.signature (substituted values t) s)
      → SameKind data_.signature (label_with values draft.label) draft.label
  put_keeps draft values order sorted =
      subst (λ (d : Draft). SameKind data_.signature d.label draft.label) (draft_with-in values draft)
      (keeps draft (substituted values) order sorted)

  tidied_keeps : (draft : Draft) → IsInOrder data_.signature draft → SameKind data_.signature (tidied canon draft).label draft.label
  tidied_keeps draft order = keeps draft canon order (canon_changes data_ canon is_canon draft.leaves).sorted

  abbrev OutcomeKind : Draft → Option Entry → Type 0
  OutcomeKind draft None = Unit {0}
  OutcomeKind draft (Some entry) = SameKind data_.signature entry.label draft.label

  carried : (draft other : Draft) (outcome : Option Entry) → SameKind data_.signature other.label draft.label
      → OutcomeKind other outcome → OutcomeKind draft outcome
  carried draft other None same h = tt
  carried draft other (Some entry) same h = kind_then data_.signature entry.label other.label draft.label h same

  outcome_kind : {draft : Draft} {outcome : Option Entry} → SolvesTo canon draft outcome → IsInOrder data_.signature draft
      → OutcomeKind draft outcome
  outcome_kind (unsolvable draft closed) order = tt
  outcome_kind (settled draft not_closed none) order =
      let order' : IsInOrder data_.signature (tidied canon draft) = tidied_in_order data_ canon is_canon draft order in
      kind_then data_.signature (entry_of (tidied canon draft)).label (tidied canon draft).label draft.label
      (put_keeps (tidied canon draft) (renumbered (tidied canon draft).leaves) order'
      (λ s t h. substituted_sort data_.signature (renumbered (tidied canon draft).leaves) t s h.sorted
      (λ n r o. (refl, occurs_sort data_.signature t s n r h.sorted o))))
      (tidied_keeps draft order)
  outcome_kind (replacing draft found outcome not_closed gives rest) order =
      let order' : IsInOrder data_.signature (tidied canon draft) = tidied_in_order data_ canon is_canon draft order in
      carried draft (replaced found (tidied canon draft)) outcome
      (kind_then data_.signature (replaced found (tidied canon draft)).label (tidied canon draft).label draft.label
      (put_keeps (tidied canon draft) (put_for found) order' (replacement_changes data_ (tidied canon draft).leaves order'.one_sort
      (tidied canon draft).conditions found (rests_on data_ (tidied canon draft) found order' gives)).sorted)
      (tidied_keeps draft order))
      (outcome_kind rest (replaced_in_order data_ (tidied canon draft) found order' gives))

  -- the label of an entry is of the kind of its draft's
  pub same_kind : {draft : Draft} {entry : Entry} → SolvesTo canon draft (Some entry) → IsInOrder data_.signature draft
      → SameKind data_.signature entry.label draft.label
  same_kind solves order = outcome_kind solves order
