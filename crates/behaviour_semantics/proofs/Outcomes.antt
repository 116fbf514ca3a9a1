-- Each draft in order has an outcome, which loses no values and adds none: a replacement leaves fewer variables.
use Rattle.std.proofs.Common.{◌≡◌, ◌<◌, ◌≤◌, ◌⊎◌, inl, inr, ℕ, zero, suc, List, [], ◌∷◌, length, map, Option, None, Some, Bool, true, false, ◌&&◌, not, cond, refl, sym, ◌∙◌, arith}
use Rattle.std.proofs.lemmas.Bool.{or_cases, and_parts}
use Rattle.std.proofs.lemmas.List.{length-map}
use Rattle.lotos_base.specs.Term.{Term}
use Rattle.lotos_base.specs.Tests.{term_eq, is_ground}
use Rattle.lotos_base.specs.Sorting.{IsGround}
use Rattle.lotos_base.specs.Equation.{Data}
use Rattle.lotos_base.specs.Equality.{Equal}
use Rattle.lotos_base.specs.Substitution.{Substitution, substituted, followed_by}
use Rattle.lotos_base.specs.Canon.{IsCanon}
use Rattle.lotos_base.proofs.SubstitutionLemmas.{substituted_ground}
use Rattle.lotos_base.proofs.EqualityLemmas.{equal_then, equal_same}
use Rattle.lotos_base.proofs.TestLemmas.{Decides-term_eq, Decides-is_ground}
use Rattle.behaviour_semantics.specs.Behaviour.{Test}
use Rattle.behaviour_semantics.specs.Replacement.{test_with}
use Rattle.behaviour_semantics.specs.Rule.{AllHold}
use Rattle.behaviour_semantics.specs.Draft.{Draft, label_with}
use Rattle.behaviour_semantics.specs.Solving.{Entry, entry_of, variables_left, test_in, differing, has_closed, tidied, first_replacement, replaced, SolvesTo, unsolvable, settled, replacing}
use Rattle.behaviour_semantics.specs.Menu.{EqualTerms, EqualLabels, Meets, label_at, derivation_at}
use Rattle.behaviour_semantics.specs.WellFormed.{Every}
use Rattle.behaviour_semantics.specs.DraftOrder.{IsLeaf, IsDraftTest, IsInOrder}
use Rattle.behaviour_semantics.proofs.DraftsInOrder.{came_from, canon_changes, tidied_in_order}
use Rattle.behaviour_semantics.proofs.ReplacementsInOrder.{put_for, Replaces, replacement_changes, rests_on, replaced_in_order, was_leaf, gone}
use Rattle.behaviour_semantics.proofs.LeftVariables.{fewer, less}
use Rattle.behaviour_semantics.proofs.SolvedValues.{equal_labels_then, equal_labels_same, SolvedBy, tidied_solves, untidied_solves, tidied_label, replaced_solves, unreplaced_solves, unreplaced_label, replaced_label}
use Rattle.behaviour_semantics.proofs.SettledEntries.{EntryOf, settled_entry}

module _ (data_ : Data) (canon : Term → Term) (is_canon : IsCanon data_ canon) where
  -- No values meet a closed condition whose canonical sides differ.
  no_closed : (leaves : List Term) (values : Substitution) (tests : List Test) → Every (IsDraftTest data_.signature leaves) tests
      → AllHold data_ (map (test_with values) (differing (map (test_in canon) tests)))
      → has_closed (differing (map (test_in canon) tests)) ≡ true → ⊥
  no_closed leaves values [] f h e = absurd (cc e)
  no_closed leaves values (test ∷ tests) f h e = by (term_eq (canon test.left) (canon test.right)) refl
      (no_closed leaves values tests f.1) h e
    where
      differ : term_eq (canon test.left) (canon test.right) ≡ false → Equal data_ (substituted values (canon test.left))
          (substituted values (canon test.right)) → (is_ground (canon test.left) && is_ground (canon test.right)) ≡ true → ⊥
      differ apart equal closed =
          let grounds : (is_ground (canon test.left) ≡ true) × (is_ground (canon test.right) ≡ true) =
          and_parts (is_ground (canon test.left)) (is_ground (canon test.right)) closed in
          let left : IsGround (canon test.left) = (Decides-is_ground (canon test.left)).0 grounds.0 in
          let right : IsGround (canon test.right) = (Decides-is_ground (canon test.right)).0 grounds.1 in
          let here : Equal data_ (canon test.left) (canon test.right) =
          equal_then (equal_same data_ _ _ (sym (substituted_ground values (canon test.left) left)))
          (equal_then equal (equal_same data_ _ _ (substituted_ground values (canon test.right) right))) in
          let same : canon (canon test.left) ≡ canon (canon test.right) =
          is_canon.decides (canon test.left) (canon test.right) f.0.0
          (record { ground = left; sorted = is_canon.sorts test.left f.0.0 f.0.1.sorted })
          (record { ground = right; sorted = is_canon.sorts test.right f.0.0 f.0.2.sorted }) here in
          let identical : canon test.left ≡ canon test.right = sym (is_canon.settled test.left (f.0.0, f.0.1.sorted))
          ∙ (same ∙ is_canon.settled test.right (f.0.0, f.0.2.sorted)) in
          absurd (cc (apart, (Decides-term_eq (canon test.left) (canon test.right)).1 identical))

      either : (AllHold data_ (map (test_with values) (differing (map (test_in canon) tests)))
          → has_closed (differing (map (test_in canon) tests)) ≡ true → ⊥) → term_eq (canon test.left) (canon test.right) ≡ false
          → AllHold data_ (map (test_with values) (test_in canon test ∷ differing (map (test_in canon) tests)))
          → ((is_ground (canon test.left) && is_ground (canon test.right)) ≡ true)
          ⊎ (has_closed (differing (map (test_in canon) tests)) ≡ true) → ⊥
      either rest apart k (inl closed) = differ apart k.0 closed
      either rest apart k (inr later) = rest k.1 later

      by : (same : Bool) → term_eq (canon test.left) (canon test.right) ≡ same
          → (AllHold data_ (map (test_with values) (differing (map (test_in canon) tests)))
          → has_closed (differing (map (test_in canon) tests)) ≡ true → ⊥)
          → AllHold data_ (map (test_with values) (cond (not same) (test_in canon test ∷ differing (map (test_in canon) tests))
          (differing (map (test_in canon) tests)))) → has_closed (cond (not same)
          (test_in canon test ∷ differing (map (test_in canon) tests)) (differing (map (test_in canon) tests))) ≡ true → ⊥
      by true apart rest k c = rest k c
      by false apart rest k c = either rest apart k (or_cases (is_ground (canon test.left) && is_ground (canon test.right))
          (has_closed (differing (map (test_in canon) tests))) c)

  -- What an outcome says of a draft.
  abbrev pub Outcome : Draft → Option Entry → Type 0
  Outcome draft None = (values : Substitution) (leaves : List Term) → SolvedBy data_ draft values leaves → ⊥
  Outcome draft (Some entry) = EntryOf data_ draft entry

  from_tidied : (draft : Draft) (outcome : Option Entry) → IsInOrder data_.signature draft → Outcome (tidied canon draft) outcome
      → Outcome draft outcome
  from_tidied draft None order h = λ values leaves s. h values leaves (tidied_solves data_ canon is_canon draft order values leaves s)
  from_tidied draft (Some entry) order h = record {
    shape = h.shape;
    sound = λ ws meets.
        let s : (values : Substitution) × SolvedBy data_ (tidied canon draft) values (derivation_at entry ws).leaves
        × EqualLabels data_ (label_at entry ws) (label_with values (tidied canon draft).label) = h.sound ws meets in
        let back : SolvedBy data_ draft s.0 (derivation_at entry ws).leaves =
        untidied_solves data_ canon is_canon draft order s.0 (derivation_at entry ws).leaves s.1 in
        (s.0, back, equal_labels_then data_ _ _ _ s.2 (tidied_label data_ canon is_canon draft order s.0 back.grounds));
    complete = λ values leaves s.
        let c : (ws : List Term) × Meets data_ entry ws × EqualTerms data_ (derivation_at entry ws).leaves leaves
        × EqualLabels data_ (label_at entry ws) (label_with values (tidied canon draft).label) =
        h.complete values leaves (tidied_solves data_ canon is_canon draft order values leaves s) in
        (c.0, c.1, c.2, equal_labels_then data_ _ _ _ c.3 (tidied_label data_ canon is_canon draft order values s.grounds));
  }

  from_replaced : (draft : Draft) (found : ℕ × Term) (outcome : Option Entry) → IsInOrder data_.signature draft
      → first_replacement draft.conditions ≡ Some found → Outcome (replaced found draft) outcome → Outcome draft outcome
  from_replaced draft found None order gives h = λ values leaves s. h values leaves
      (replaced_solves data_ draft found order gives values leaves s)
  from_replaced draft found (Some entry) order gives h = record {
    shape = h.shape;
    sound = λ ws meets.
        let s : (values : Substitution) × SolvedBy data_ (replaced found draft) values (derivation_at entry ws).leaves
        × EqualLabels data_ (label_at entry ws) (label_with values (replaced found draft).label) = h.sound ws meets in (
          followed_by (put_for found) s.0,
          unreplaced_solves data_ draft found order gives s.0 (derivation_at entry ws).leaves s.1,
          equal_labels_then data_ _ _ _ s.2 (equal_labels_same data_ _ _ (sym (unreplaced_label data_ draft found order gives s.0))),
        );
    complete = λ values leaves s.
        let c : (ws : List Term) × Meets data_ entry ws × EqualTerms data_ (derivation_at entry ws).leaves leaves
        × EqualLabels data_ (label_at entry ws) (label_with values (replaced found draft).label) =
        h.complete values leaves (replaced_solves data_ draft found order gives values leaves s) in
        (c.0, c.1, c.2, equal_labels_then data_ _ _ _ c.3 (replaced_label data_ draft found order gives values s.met));
  }

  pub outcome_of : {draft : Draft} {outcome : Option Entry} → SolvesTo canon draft outcome → IsInOrder data_.signature draft
      → Outcome draft outcome
  outcome_of (unsolvable draft closed) order = λ values leaves s.
      no_closed draft.leaves values draft.conditions order.conditions
      (tidied_solves data_ canon is_canon draft order values leaves s).met closed
  outcome_of (settled draft not_closed none) order =
      from_tidied draft (Some (entry_of (tidied canon draft))) order (settled_entry data_ (tidied canon draft)
      (tidied_in_order data_ canon is_canon draft order))
  outcome_of (replacing draft found outcome not_closed gives rest) order =
      let order' : IsInOrder data_.signature (tidied canon draft) = tidied_in_order data_ canon is_canon draft order in
      from_tidied draft outcome order
      (from_replaced (tidied canon draft) found outcome order' gives
      (outcome_of rest (replaced_in_order data_ (tidied canon draft) found order' gives)))

  -- ---- There is an outcome.

  -- the variables that are left
  abbrev left : Draft → ℕ
  left draft = length (variables_left 0 draft.leaves draft.leaves)

  tidied_fewer : (draft : Draft) → IsInOrder data_.signature draft → left (tidied canon draft) ≤ left draft
  tidied_fewer draft order = fewer draft.leaves (map canon draft.leaves) (length-map draft.leaves canon)
      (came_from data_.signature draft.leaves canon (canon_changes data_ canon is_canon draft.leaves) order.leaves)

  replaced_less : (draft : Draft) (found : ℕ × Term) → IsInOrder data_.signature draft → first_replacement draft.conditions ≡ Some found
      → left (replaced found draft) < left draft
  replaced_less draft found order gives =
      let r : Replaces data_ draft.leaves order.one_sort draft.conditions found = rests_on data_ draft found order gives in
      let leaf : IsLeaf draft.leaves found.0 r.sort = was_leaf data_ draft found order gives in
      less draft.leaves (map (substituted (put_for found)) draft.leaves) (length-map draft.leaves (substituted (put_for found)))
      (came_from data_.signature draft.leaves (substituted (put_for found))
      (replacement_changes data_ draft.leaves order.one_sort draft.conditions found r) order.leaves)
      found.0 r.sort leaf (order.below found.0 r.sort leaf) (gone data_ draft found order gives)

  after : (draft : Draft) → ((found : ℕ × Term) → first_replacement (tidied canon draft).conditions ≡ Some found
      → (outcome : Option Entry) × SolvesTo canon (replaced found (tidied canon draft)) outcome) → (outcome : Option Entry)
      × SolvesTo canon draft outcome
  after draft next = at (has_closed (tidied canon draft).conditions) refl
    where
      then_ : has_closed (tidied canon draft).conditions ≡ false → (o : Option (ℕ × Term))
          → first_replacement (tidied canon draft).conditions ≡ o → (outcome : Option Entry) × SolvesTo canon draft outcome
      then_ not_closed None e = (Some (entry_of (tidied canon draft)), settled draft not_closed e)
      then_ not_closed (Some found) e = let rest : (outcome : Option Entry)
          × SolvesTo canon (replaced found (tidied canon draft)) outcome = next found e in
          (rest.0, replacing draft found rest.0 not_closed e rest.1)

      at : (closed : Bool) → has_closed (tidied canon draft).conditions ≡ closed → (outcome : Option Entry) × SolvesTo canon draft outcome
      at true e = (None, unsolvable draft e)
      at false e = then_ e (first_replacement (tidied canon draft).conditions) refl

  ends : (steps : ℕ) (draft : Draft) → IsInOrder data_.signature draft → left draft ≤ steps → (outcome : Option Entry)
      × SolvesTo canon draft outcome
  ends zero draft order le = after draft (λ found e.
      let lt : left (replaced found (tidied canon draft)) < left (tidied canon draft) =
      replaced_less (tidied canon draft) found (tidied_in_order data_ canon is_canon draft order) e in
      let le' : left (tidied canon draft) ≤ left draft = tidied_fewer draft order in
      absurd (omega arith))
  ends (suc steps) draft order le = after draft (λ found e.
      let order' : IsInOrder data_.signature (tidied canon draft) = tidied_in_order data_ canon is_canon draft order in
      let lt : left (replaced found (tidied canon draft)) < left (tidied canon draft) = replaced_less (tidied canon draft) found order' e in
      let le' : left (tidied canon draft) ≤ left draft = tidied_fewer draft order in
      ends steps (replaced found (tidied canon draft)) (replaced_in_order data_ (tidied canon draft) found order' e) (omega arith))

  pub has_outcome : (draft : Draft) → IsInOrder data_.signature draft → (outcome : Option Entry) × SolvesTo canon draft outcome
  has_outcome draft order = ends (left draft) draft order (let le : left draft ≤ left draft = omega arith in le)
