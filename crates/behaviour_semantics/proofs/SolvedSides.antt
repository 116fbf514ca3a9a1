-- The sides of a join may be solved before: the laws.
use Rattle.std.proofs.Common.{◌≡◌, ◌<◌, ℕ, List, [], ◌∷◌, length, map, Option, None, Some, Bool, true, false, ◌&&◌, nat_eq, if◌then◌else◌, refl, ap, sym, ◌∙◌, subst, arith}
use Rattle.std.specs.Prelude.{◌↔◌}
use Rattle.lotos_base.specs.Signature.{Signature}
use Rattle.lotos_base.specs.Term.{Term}
use Rattle.lotos_base.specs.Sorting.{HasSort, head_sort_of}
use Rattle.lotos_base.specs.Equation.{Data}
use Rattle.lotos_base.specs.Substitution.{substituted}
use Rattle.lotos_base.specs.Canon.{IsCanon}
use Rattle.lotos_base.proofs.SortLemmas.{sort_of_sorted}
use Rattle.lotos_base.proofs.SubstitutionLemmas.{ComesFrom, substituted_occurs, substituted_sort}
use Rattle.behaviour_semantics.specs.Behaviour.{all_gates}
use Rattle.behaviour_semantics.specs.Label.{Label, inner_event, gate_event, exit_event}
use Rattle.behaviour_semantics.specs.Rule.{is_same_known_sort, have_same_sorts, move_together, label_values}
use Rattle.behaviour_semantics.specs.Draft.{Draft, label_with, draft_with}
use Rattle.behaviour_semantics.specs.Solving.{Entry, entry_of, canonical, label_in, tidied, replaced, SolvesTo, unsolvable, settled, replacing}
use Rattle.behaviour_semantics.specs.Join.{both_drafts, raised, join_of_drafts}
use Rattle.behaviour_semantics.specs.JoinLaws.{SidesMayBeSolvedBefore}
use Rattle.behaviour_semantics.specs.WellFormed.{Every}
use Rattle.behaviour_semantics.specs.DraftOrder.{HasLeafVariables, IsDraftTerm, IsInOrder, as_draft}
use Rattle.behaviour_semantics.proofs.OptionLemmas.{tested}
use Rattle.behaviour_semantics.proofs.RelatedTerms.{occurs_sort}
use Rattle.behaviour_semantics.proofs.DraftsInOrder.{canon_changes, tidied_in_order, draft_with-in}
use Rattle.behaviour_semantics.proofs.ReplacementsInOrder.{put_for, replacement_changes, rests_on, replaced_in_order}
use Rattle.behaviour_semantics.proofs.SettledEntries.{renumbered}
use Rattle.behaviour_semantics.proofs.Outcomes.{has_outcome}
use Rattle.behaviour_semantics.proofs.SolvingSteps.{SameOutcomes}
use Rattle.behaviour_semantics.proofs.JoinedSides.{EachTerm}
use Rattle.behaviour_semantics.proofs.RenamedSolving.{terms_in_order}
use Rattle.behaviour_semantics.proofs.JoinedOrder.{both_in_order}
use Rattle.behaviour_semantics.proofs.JoinedSolving.{Finished, FarTerm, NearTerm, Reaches, LeftEnd, left_chain, RightEnd, right_chain}
use Rattle.behaviour_semantics.proofs.JoinedOutcomes.{each_changed, same_solved}

-- ---- Labels of one kind whose values have the same sorts
module _ (signature : Signature) where
  abbrev SameSorts : List Term → List Term → Type 0
  SameSorts [] [] = Unit {0}
  SameSorts (t ∷ ts) (u ∷ us) = (head_sort_of signature t ≡ head_sort_of signature u) × SameSorts ts us
  SameSorts _ _ = ⊥

  abbrev SameKind : Label → Label → Type 0
  SameKind inner_event inner_event = Unit {0}
  SameKind (gate_event g ts) (gate_event h us) = (g ≡ h) × SameSorts ts us
  SameKind (exit_event ts) (exit_event us) = SameSorts ts us
  SameKind _ _ = ⊥

  sorts_then : (ts us vs : List Term) → SameSorts ts us → SameSorts us vs → SameSorts ts vs
  sorts_then [] [] [] h k = tt
  sorts_then (t ∷ ts) (u ∷ us) (v ∷ vs) h k = (h.0 ∙ k.0, sorts_then ts us vs h.1 k.1)
  sorts_then [] (u ∷ us) vs h k = absurd h
  sorts_then (t ∷ ts) [] vs h k = absurd h
  sorts_then [] [] (v ∷ vs) h k = absurd k
  sorts_then (t ∷ ts) (u ∷ us) [] h k = absurd k

  kind_then : (a b c : Label) → SameKind a b → SameKind b c → SameKind a c
  kind_then inner_event inner_event inner_event h k = tt
  kind_then (gate_event g ts) (gate_event g' us) (gate_event g'' vs) h k = (h.0 ∙ k.0, sorts_then ts us vs h.1 k.1)
  kind_then (exit_event ts) (exit_event us) (exit_event vs) h k = sorts_then ts us vs h k
  kind_then inner_event (gate_event g us) c h k = absurd h
  kind_then inner_event (exit_event us) c h k = absurd h
  kind_then inner_event inner_event (gate_event g us) h k = absurd k
  kind_then inner_event inner_event (exit_event us) h k = absurd k
  kind_then (gate_event g ts) inner_event c h k = absurd h
  kind_then (gate_event g ts) (exit_event us) c h k = absurd h
  kind_then (gate_event g ts) (gate_event g' us) inner_event h k = absurd k
  kind_then (gate_event g ts) (gate_event g' us) (exit_event vs) h k = absurd k
  kind_then (exit_event ts) inner_event c h k = absurd h
  kind_then (exit_event ts) (gate_event g us) c h k = absurd h
  kind_then (exit_event ts) (exit_event us) inner_event h k = absurd k
  kind_then (exit_event ts) (exit_event us) (gate_event g vs) h k = absurd k

  -- a change of terms that keeps sorts
  sorts_in : (f : Term → Term) (ts : List Term) → Every (λ t. head_sort_of signature (f t) ≡ head_sort_of signature t) ts
      → SameSorts (map f ts) ts
  sorts_in f [] h = tt
  sorts_in f (t ∷ ts) h = (h.0, sorts_in f ts h.1)

  kind_in : (f : Term → Term) (label : Label) → Every (λ t. head_sort_of signature (f t) ≡ head_sort_of signature t) (label_values label)
      → SameKind (label_in f label) label
  kind_in f inner_event h = tt
  kind_in f (gate_event g ts) h = (refl, sorts_in f ts h)
  kind_in f (exit_event ts) h = sorts_in f ts h

  same_matches : (ts us ts' us' : List Term) → SameSorts ts ts' → SameSorts us us'
      → have_same_sorts signature ts us ≡ have_same_sorts signature ts' us'
  same_matches [] [] [] [] h k = refl
  same_matches [] (u ∷ us) [] (u' ∷ us') h k = refl
  same_matches (t ∷ ts) [] (t' ∷ ts') [] h k = refl
  same_matches (t ∷ ts) (u ∷ us) (t' ∷ ts') (u' ∷ us') h k = λ i. is_same_known_sort (h.0 i) (k.0 i) && same_matches ts us ts' us' h.1 k.1 i
  same_matches [] us (t' ∷ ts') us' h k = absurd h
  same_matches (t ∷ ts) us [] us' h k = absurd h
  same_matches [] [] [] (u' ∷ us') h k = absurd k
  same_matches [] (u ∷ us) [] [] h k = absurd k
  same_matches (t ∷ ts) [] (t' ∷ ts') (u' ∷ us') h k = absurd k
  same_matches (t ∷ ts) (u ∷ us) (t' ∷ ts') [] h k = absurd k

  together_same : (a b a' b' : Label) → SameKind a a' → SameKind b b'
      → move_together signature all_gates a b ≡ move_together signature all_gates a' b'
  together_same inner_event b inner_event b' h k = refl
  together_same (gate_event g ts) inner_event (gate_event g' ts') inner_event h k = refl
  together_same (gate_event g ts) (exit_event us) (gate_event g' ts') (exit_event us') h k = refl
  together_same (gate_event g ts) (gate_event j us) (gate_event g' ts') (gate_event j' us') h k =
      λ i. nat_eq (h.0 i) (k.0 i) && true && same_matches ts us ts' us' h.1 k.1 i
  together_same (exit_event ts) inner_event (exit_event ts') inner_event h k = refl
  together_same (exit_event ts) (gate_event j us) (exit_event ts') (gate_event j' us') h k = refl
  together_same (exit_event ts) (exit_event us) (exit_event ts') (exit_event us') h k = same_matches ts us ts' us' h k
  together_same inner_event b (gate_event g' ts') b' h k = absurd h
  together_same inner_event b (exit_event ts') b' h k = absurd h
  together_same (gate_event g ts) b inner_event b' h k = absurd h
  together_same (gate_event g ts) b (exit_event ts') b' h k = absurd h
  together_same (exit_event ts) b inner_event b' h k = absurd h
  together_same (exit_event ts) b (gate_event g' ts') b' h k = absurd h
  together_same (gate_event g ts) inner_event (gate_event g' ts') (gate_event j' us') h k = absurd k
  together_same (gate_event g ts) inner_event (gate_event g' ts') (exit_event us') h k = absurd k
  together_same (gate_event g ts) (gate_event j us) (gate_event g' ts') inner_event h k = absurd k
  together_same (gate_event g ts) (gate_event j us) (gate_event g' ts') (exit_event us') h k = absurd k
  together_same (gate_event g ts) (exit_event us) (gate_event g' ts') inner_event h k = absurd k
  together_same (gate_event g ts) (exit_event us) (gate_event g' ts') (gate_event j' us') h k = absurd k
  together_same (exit_event ts) inner_event (exit_event ts') (gate_event j' us') h k = absurd k
  together_same (exit_event ts) inner_event (exit_event ts') (exit_event us') h k = absurd k
  together_same (exit_event ts) (gate_event j us) (exit_event ts') inner_event h k = absurd k
  together_same (exit_event ts) (gate_event j us) (exit_event ts') (exit_event us') h k = absurd k
  together_same (exit_event ts) (exit_event us) (exit_event ts') inner_event h k = absurd k
  together_same (exit_event ts) (exit_event us) (exit_event ts') (gate_event j' us') h k = absurd k

-- ---- Solving keeps the kind of the label and the sorts of its values.
module _ (data_ : Data) (canon : Term → Term) (is_canon : IsCanon data_ canon) where
  keeps : (draft : Draft) (f : Term → Term) → IsInOrder data_.signature draft
      → ((s : ℕ) (t : Term) → HasLeafVariables data_.signature draft.leaves s t → HasSort data_.signature (f t) s)
      → SameKind data_.signature (label_in f draft.label) draft.label
  keeps draft f order sorted =
      kind_in data_.signature f draft.label
      (terms_in_order data_ draft (λ t. head_sort_of data_.signature (f t) ≡ head_sort_of data_.signature t)
      (λ t h. sort_of_sorted data_.signature (f t) h.0 (sorted h.0 t h.1)
      ∙ sym (sort_of_sorted data_.signature t h.0 h.1.sorted)) order).values

  put_keeps : (draft : Draft) (values : ℕ → ℕ → Term) → IsInOrder data_.signature draft
      → ((s : ℕ) (t : Term) → HasLeafVariables data_.signature draft.leaves s t → HasSort data_.signature (substituted values t) s)
      → SameKind data_.signature (label_with values draft.label) draft.label
  put_keeps draft values order sorted =
      subst (λ (d : Draft). SameKind data_.signature d.label draft.label) (draft_with-in values draft)
      (keeps draft (substituted values) order sorted)

  tidied_keeps : (draft : Draft) → IsInOrder data_.signature draft → SameKind data_.signature (tidied canon draft).label draft.label
  tidied_keeps draft order = keeps draft canon order (canon_changes data_ canon is_canon draft.leaves).sorted

  abbrev OutcomeKind : Draft → Option Entry → Type 0
  OutcomeKind draft None = Unit {0}
  OutcomeKind draft (Some entry) = SameKind data_.signature entry.label draft.label

  carried : (draft other : Draft) (outcome : Option Entry) → SameKind data_.signature other.label draft.label
      → OutcomeKind other outcome → OutcomeKind draft outcome
  carried draft other None same h = tt
  carried draft other (Some entry) same h = kind_then data_.signature entry.label other.label draft.label h same

  outcome_kind : {draft : Draft} {outcome : Option Entry} → SolvesTo canon draft outcome → IsInOrder data_.signature draft
      → OutcomeKind draft outcome
  outcome_kind (unsolvable draft closed) order = tt
  outcome_kind (settled draft not_closed none) order =
      let order' : IsInOrder data_.signature (tidied canon draft) = tidied_in_order data_ canon is_canon draft order in
      kind_then data_.signature (entry_of (tidied canon draft)).label (tidied canon draft).label draft.label
      (put_keeps (tidied canon draft) (renumbered (tidied canon draft).leaves) order'
      (λ s t h. substituted_sort data_.signature (renumbered (tidied canon draft).leaves) t s h.sorted
      (λ n r o. (refl, occurs_sort data_.signature t s n r h.sorted o))))
      (tidied_keeps draft order)
  outcome_kind (replacing draft found outcome not_closed gives rest) order =
      let order' : IsInOrder data_.signature (tidied canon draft) = tidied_in_order data_ canon is_canon draft order in
      carried draft (replaced found (tidied canon draft)) outcome
      (kind_then data_.signature (replaced found (tidied canon draft)).label (tidied canon draft).label draft.label
      (put_keeps (tidied canon draft) (put_for found) order' (replacement_changes data_ (tidied canon draft).leaves order'.one_sort
      (tidied canon draft).conditions found (rests_on data_ (tidied canon draft) found order' gives)).sorted)
      (tidied_keeps draft order))
      (outcome_kind rest (replaced_in_order data_ (tidied canon draft) found order' gives))

-- ---- Joins
abbrev joined_draft : Draft → Draft → Draft
joined_draft left right = both_drafts left (canonical (substituted (raised (length left.leaves))) right)

-- what a join is, where there is one
is_joined : (signature : Signature) (left right whole : Draft) → join_of_drafts signature left right ≡ Some whole
    → (move_together signature all_gates left.label right.label ≡ true) × (joined_draft left right ≡ whole)
is_joined signature left right whole e =
    let parts = tested (move_together signature all_gates left.label right.label)
    (both_drafts left (draft_with (raised (length left.leaves)) right)) e in
    (parts.0, ap (both_drafts left) (draft_with-in (raised (length left.leaves)) right) ∙ parts.1)

not_joined : (together : Bool) (whole : Draft) → ((if together then Some whole else None) ≡ None) ↔ (together ≡ false)
not_joined true whole = ((λ e. absurd (cc e)), (λ e. absurd (cc e)))
not_joined false whole = ((λ e. refl), (λ e. refl))

module _ (data_ : Data) (canon : Term → Term) (is_canon : IsCanon data_ canon) (left right : Draft)
    (left_order : IsInOrder data_.signature left) (right_order : IsInOrder data_.signature right)
    (together : move_together data_.signature all_gates left.label right.label ≡ true) where
  begins : Reaches data_ canon is_canon (both_drafts left (canonical (substituted (raised (length left.leaves))) right)) left
      (canonical (substituted (raised (length left.leaves))) right)
  begins = record {
    draft = both_drafts left (canonical (substituted (raised (length left.leaves))) right);
    order = both_in_order data_.signature left right left_order right_order together;
    alike = λ outcome. ((λ s. s), (λ s. s));
    tidy = refl;
  }

  far : EachTerm (FarTerm data_ (length left.leaves)) (canonical (substituted (raised (length left.leaves))) right)
  far =
      each_changed (IsDraftTerm data_.signature right.leaves) (FarTerm data_ (length left.leaves))
      (substituted (raised (length left.leaves)))
      (λ t h. (
        (
          h.0,
          substituted_sort data_.signature (raised (length left.leaves)) t h.0 h.1.sorted
              (λ n r o. (refl, occurs_sort data_.signature t h.0 n r h.1.sorted o)),
        ),
        (λ n s o.
            let from : ComesFrom n s (raised (length left.leaves)) t = substituted_occurs n s (raised (length left.leaves)) t o in
            omega (arith, from.inside.0)),
      ))
      right (terms_in_order data_ right (IsDraftTerm data_.signature right.leaves) (λ t h. h) right_order)

  left_end : (outcome : Option Entry) → SolvesTo canon left outcome → LeftEnd data_ canon is_canon
      (both_drafts left (canonical (substituted (raised (length left.leaves))) right)) (length left.leaves)
      (canonical (substituted (raised (length left.leaves))) right) far outcome
  left_end outcome solves = left_chain data_ canon is_canon (both_drafts left
      (canonical (substituted (raised (length left.leaves))) right)) (length left.leaves)
      (canonical (substituted (raised (length left.leaves))) right) far solves left_order refl begins

  near : (draft : Draft) → Finished data_ canon draft → length draft.leaves ≡ length left.leaves
      → EachTerm (NearTerm data_ (length left.leaves)) draft
  near draft finished long = terms_in_order data_ draft (NearTerm data_ (length left.leaves))
      (λ t h. (
        (h.0, h.1.sorted),
        λ n s o. let lt : n < length draft.leaves = finished.order.below n s (h.1.own n s o) in
            omega (arith, lt, long),
      )) finished.order

  right_end : (draft : Draft) (finished : Finished data_ canon draft) (long : length draft.leaves ≡ length left.leaves)
      → Reaches data_ canon is_canon (both_drafts left (canonical (substituted (raised (length left.leaves))) right)) draft
      (canonical (substituted (raised (length left.leaves))) right)
      → (outcome : Option Entry) → SolvesTo canon right outcome → RightEnd data_ canon is_canon
      (both_drafts left (canonical (substituted (raised (length left.leaves))) right)) (length left.leaves) draft finished
      (near draft finished long) (length right.leaves) outcome
  right_end draft finished long r outcome solves =
      right_chain data_ canon is_canon (both_drafts left (canonical (substituted (raised (length left.leaves))) right))
      (length left.leaves) draft finished (near draft finished long) (length right.leaves) solves right_order refl r

  pub nothing_left : SolvesTo canon left None → SolvesTo canon (both_drafts left
      (canonical (substituted (raised (length left.leaves))) right)) None
  nothing_left solves = left_end None solves

  pub nothing_right : SolvesTo canon right None → SolvesTo canon (both_drafts left
      (canonical (substituted (raised (length left.leaves))) right)) None
  nothing_right solves = by (has_outcome data_ canon is_canon left left_order)
    where
      by : (outcome : Option Entry) × SolvesTo canon left outcome → SolvesTo canon
          (both_drafts left (canonical (substituted (raised (length left.leaves))) right)) None
      by (None, solves_left) = nothing_left solves_left
      by (Some entry, solves_left) =
          let end : _ = left_end (Some entry) solves_left in
          right_end end.0 end.1 end.2 end.4 None solves

  pub same_both : (entry other : Entry) → SolvesTo canon left (Some entry) → SolvesTo canon right (Some other)
      → SameOutcomes canon (both_drafts left (canonical (substituted (raised (length left.leaves))) right))
      (joined_draft (as_draft entry) (as_draft other))
  same_both entry other solves_left solves_right =
      let end : _ = left_end (Some entry) solves_left in
      let last : _ = right_end end.0 end.1 end.2 end.4 (Some other) solves_right in
      subst (λ (e : Entry). SameOutcomes canon (both_drafts left (canonical (substituted (raised (length left.leaves))) right))
      (joined_draft (as_draft e) (as_draft other))) end.3
      (subst (λ (f : Entry). SameOutcomes canon (both_drafts left (canonical (substituted (raised (length left.leaves))) right))
      (joined_draft (as_draft (entry_of end.0)) (as_draft f))) last.3
      (same_solved data_ canon is_canon end.0 last.0 end.1 last.1 (both_drafts left
      (canonical (substituted (raised (length left.leaves))) right))
      (subst (λ (k : ℕ). Reaches data_ canon is_canon (both_drafts left (canonical (substituted (raised (length left.leaves))) right))
      end.0 (canonical (substituted (raised k)) last.0)) (sym end.2) last.4)))

pub solved_sides : SidesMayBeSolvedBefore
solved_sides = record {
  in_order = λ data_ left right whole left_order right_order e.
      let is = is_joined data_.signature left right whole e in
      subst (IsInOrder data_.signature) is.1 (both_in_order data_.signature left right left_order right_order is.0);
  same_joins = λ data_ canon left right entry other is_canon sides.
      let same : move_together data_.signature all_gates entry.label other.label
      ≡ move_together data_.signature all_gates left.label right.label =
      together_same data_.signature entry.label other.label left.label right.label
      (outcome_kind data_ canon is_canon sides.left_solves sides.left_order)
      (outcome_kind data_ canon is_canon sides.right_solves sides.right_order) in
      let drafts = not_joined (move_together data_.signature all_gates left.label right.label)
      (both_drafts left (draft_with (raised (length left.leaves)) right)) in
      let entries = not_joined (move_together data_.signature all_gates entry.label other.label)
      (both_drafts (as_draft entry) (draft_with (raised (length (as_draft entry).leaves)) (as_draft other))) in
      ((λ none. entries.1 (same ∙ drafts.0 none)), (λ none. drafts.1 (sym same ∙ entries.0 none)));
  same_outcomes = λ data_ canon left right entry other whole solved outcome is_canon sides e f.
      let is = is_joined data_.signature left right whole e in
      let are = is_joined data_.signature (as_draft entry) (as_draft other) solved f in
      let same : SameOutcomes canon (joined_draft left right) (joined_draft (as_draft entry) (as_draft other)) =
      same_both data_ canon is_canon left right sides.left_order sides.right_order is.0 entry other sides.left_solves sides.right_solves in
      subst (λ (d : Draft). SolvesTo canon d outcome ↔ SolvesTo canon solved outcome) is.1
      (subst (λ (d : Draft). SolvesTo canon (joined_draft left right) outcome ↔ SolvesTo canon d outcome) are.1 (same outcome));
  left_nothing = λ data_ canon left right whole is_canon left_order right_order e solves.
      let is = is_joined data_.signature left right whole e in
      subst (λ (d : Draft). SolvesTo canon d None) is.1 (nothing_left data_ canon is_canon left right left_order right_order is.0 solves);
  right_nothing = λ data_ canon left right whole is_canon left_order right_order e solves.
      let is = is_joined data_.signature left right whole e in
      subst (λ (d : Draft). SolvesTo canon d None) is.1 (nothing_right data_ canon is_canon left right left_order right_order is.0 solves);
}
