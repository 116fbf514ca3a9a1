-- The entry of a draft on which nothing is left to do stands for the same values as the draft.
use Rattle.std.proofs.Common.{◌≡◌, ℕ, zero, suc, List, [], ◌∷◌, map, slice_get, Some, refl, ap, sym, ◌∙◌, subst}
use Rattle.lotos_base.proofs.Members.{at_map}
use Rattle.lotos_base.specs.Signature.{Signature}
use Rattle.lotos_base.specs.Term.{Term, variable}
use Rattle.lotos_base.specs.Sorting.{IsGroundOf}
use Rattle.lotos_base.specs.Equation.{Data}
use Rattle.lotos_base.specs.Substitution.{Substitution, substituted, followed_by}
use Rattle.lotos_base.proofs.SubstitutionLemmas.{substituted_twice, substituted_agree, ground_instance}
use Rattle.behaviour_semantics.specs.Behaviour.{Test}
use Rattle.behaviour_semantics.specs.Label.{Label, inner_event, gate_event, exit_event}
use Rattle.behaviour_semantics.specs.Replacement.{test_with}
use Rattle.behaviour_semantics.specs.Rule.{AllHold, AreValues, label_values}
use Rattle.behaviour_semantics.specs.Derives.{leaves_in}
use Rattle.behaviour_semantics.specs.Draft.{Draft, label_with}
use Rattle.behaviour_semantics.specs.Solving.{Entry, variables_left, place_of_number, entry_of}
use Rattle.behaviour_semantics.specs.Menu.{EqualTerms, EqualLabels, Meets, label_at, derivation_at}
use Rattle.behaviour_semantics.specs.WellFormed.{Every}
use Rattle.behaviour_semantics.specs.DraftOrder.{IsLeaf, HasLeafVariables, IsDraftTerm, IsDraftTest, IsInOrder, AreGroundLeaves}
use Rattle.behaviour_semantics.proofs.OptionLemmas.{some_value}
use Rattle.behaviour_semantics.proofs.LeftVariables.{placed, is_leaf}
use Rattle.behaviour_semantics.proofs.SolvedValues.{equal_terms_then, equal_terms_same, equal_labels_same, GroundsLeaves, SolvedBy}

-- The numbers that variables get.
abbrev pub renumbered : List Term → Substitution
renumbered leaves n s = variable (place_of_number 0 (variables_left 0 leaves leaves) n) s

pub leaves_in-at : (ts : List Term) (n q : ℕ) (v : Term) → slice_get ts n ≡ Some v → leaves_in ts n q ≡ v
leaves_in-at [] n q v e = absurd (cc e)
leaves_in-at (t ∷ ts) zero q v e = some_value e
leaves_in-at (t ∷ ts) (suc n) q v e = leaves_in-at ts n q v e

value_at : (signature : Signature) (kept : List (ℕ × ℕ)) (ws : List Term) (j n r q : ℕ)
    → AreValues signature (map (λ (v : ℕ × ℕ). v.1) kept) ws → slice_get kept j ≡ Some (n, r)
    → IsGroundOf signature r (leaves_in ws j q)
value_at signature [] ws j n r q h e = absurd (cc e)
value_at signature (v ∷ kept) (w ∷ ws) zero n r q h e = subst (λ (p : ℕ × ℕ). IsGroundOf signature p.1 w) (some_value e) h.0
value_at signature (v ∷ kept) (w ∷ ws) (suc j) n r q h e = value_at signature kept ws j n r q h.1 e
value_at signature (v ∷ kept) [] j n r q h e = absurd h

-- The values of the variables that are left are ground, each of its sort.
kept_values : (signature : Signature) (values : Substitution) (kept : List (ℕ × ℕ))
    → ((i : ℕ) (v : ℕ × ℕ) → slice_get kept i ≡ Some v → IsGroundOf signature v.1 (values v.0 v.1))
    → AreValues signature (map (λ (v : ℕ × ℕ). v.1) kept) (map (λ (v : ℕ × ℕ). values v.0 v.1) kept)
kept_values signature values [] h = tt
kept_values signature values (v ∷ kept) h = (h 0 v refl, kept_values signature values kept (λ i w at. h (suc i) w at))

-- Values of an entry's variables and of a draft's variables that fit one another.
abbrev pub Matches : List Term → List Term → Substitution → Type 0
Matches leaves ws values =
    (n r : ℕ) → IsLeaf leaves n r → leaves_in ws (place_of_number 0 (variables_left 0 leaves leaves) n) r ≡ values n r

module _ (signature : Signature) (leaves ws : List Term) (values : Substitution) (matches : Matches leaves ws values) where
  same_value : (s : ℕ) (t : Term) → HasLeafVariables signature leaves s t
      → substituted (leaves_in ws) (substituted (renumbered leaves) t) ≡ substituted values t
  same_value s t fine =
      substituted_twice (renumbered leaves) (leaves_in ws) t
      ∙ substituted_agree (followed_by (renumbered leaves) (leaves_in ws)) values t (λ n r o. matches n r (fine.own n r o))

  same_values : (ts : List Term) → Every (IsDraftTerm signature leaves) ts
      → map (substituted (leaves_in ws)) (map (substituted (renumbered leaves)) ts) ≡ map (substituted values) ts
  same_values [] h = refl
  same_values (t ∷ ts) h =
      ap (λ (u : Term). u ∷ map (substituted (leaves_in ws)) (map (substituted (renumbered leaves)) ts)) (same_value h.0.0 t h.0.1)
      ∙ ap (λ (us : List Term). substituted values t ∷ us) (same_values ts h.1)

  same_tests : (tests : List Test) → Every (IsDraftTest signature leaves) tests
      → map (test_with (leaves_in ws)) (map (test_with (renumbered leaves)) tests) ≡ map (test_with values) tests
  same_tests [] h = refl
  same_tests (test ∷ tests) h =
      let left : substituted (leaves_in ws) (substituted (renumbered leaves) test.left) ≡ substituted values test.left =
      same_value h.0.0 test.left h.0.1 in
      let right : substituted (leaves_in ws) (substituted (renumbered leaves) test.right) ≡ substituted values test.right =
      same_value h.0.0 test.right h.0.2 in
      let rest : map (test_with (leaves_in ws)) (map (test_with (renumbered leaves)) tests) ≡ map (test_with values) tests =
      same_tests tests h.1 in
      cc (left, right, rest)

  same_label : (label : Label) → Every (IsDraftTerm signature leaves) (label_values label)
      → label_with (leaves_in ws) (label_with (renumbered leaves) label) ≡ label_with values label
  same_label inner_event h = refl
  same_label (gate_event g ts) h = ap (gate_event g) (same_values ts h)
  same_label (exit_event ts) h = ap exit_event (same_values ts h)

-- What an entry says of a draft.
pub record EntryOf (data_ : Data) (draft : Draft) (entry : Entry) : Type 0 where
  pub shape : entry.shape ≡ draft.shape
  pub sound : (ws : List Term) → Meets data_ entry ws → (values : Substitution)
      × SolvedBy data_ draft values (derivation_at entry ws).leaves × EqualLabels data_ (label_at entry ws)
      (label_with values draft.label)
  pub complete : (values : Substitution) (leaves : List Term) → SolvedBy data_ draft values leaves → (ws : List Term)
      × Meets data_ entry ws × EqualTerms data_ (derivation_at entry ws).leaves leaves
      × EqualLabels data_ (label_at entry ws) (label_with values draft.label)

module _ (data_ : Data) (draft : Draft) (order : IsInOrder data_.signature draft) where
  abbrev left : List (ℕ × ℕ)
  left = variables_left 0 draft.leaves draft.leaves

  at_place : (n r : ℕ) → IsLeaf draft.leaves n r → slice_get (variables_left 0 draft.leaves draft.leaves)
      (place_of_number 0 (variables_left 0 draft.leaves draft.leaves) n) ≡ Some (n, r)
  at_place = placed draft.leaves order.below order.one_sort

  -- the entry's leaves with ground values put in have the sorts of the draft's leaves
  ground_leaves : (ws : List Term) (values : Substitution) → GroundsLeaves data_ draft.leaves values → Matches draft.leaves ws values
      → (ts : List Term) → Every (IsDraftTerm data_.signature draft.leaves) ts
      → AreGroundLeaves data_.signature ts (map (substituted (leaves_in ws)) (map (substituted (renumbered draft.leaves)) ts))
  ground_leaves ws values grounds matches [] h = tt
  ground_leaves ws values grounds matches (t ∷ ts) h = (
    (
      h.0.0,
      h.0.1.sorted,
      subst (IsGroundOf data_.signature h.0.0) (sym (same_value data_.signature draft.leaves ws values matches h.0.0 t h.0.1))
          (ground_instance data_.signature values t h.0.0 h.0.1.sorted (λ n r o. grounds n r (h.0.1.own n r o))),
    ),
    ground_leaves ws values grounds matches ts h.1,
  )

  sound_entry : (ws : List Term) → Meets data_ (entry_of draft) ws → (values : Substitution)
      × SolvedBy data_ draft values (derivation_at (entry_of draft) ws).leaves
      × EqualLabels data_ (label_at (entry_of draft) ws) (label_with values draft.label)
  sound_entry ws meets =
      let values : Substitution = λ n r. leaves_in ws (place_of_number 0 (variables_left 0 draft.leaves draft.leaves) n) r in
      let matches : Matches draft.leaves ws values = λ n r leaf. refl in
      let grounds : GroundsLeaves data_ draft.leaves values =
      λ n r leaf. value_at data_.signature (variables_left 0 draft.leaves draft.leaves) ws
      (place_of_number 0 (variables_left 0 draft.leaves draft.leaves) n) n r r meets.sorted (at_place n r leaf) in (
        values,
        record {
          grounds = grounds;
          ground = ground_leaves ws values grounds matches draft.leaves order.leaves;
          agree = equal_terms_same data_ _ _ (sym (same_values data_.signature draft.leaves ws values matches draft.leaves order.leaves));
          met = subst (AllHold data_) (same_tests data_.signature draft.leaves ws values matches draft.conditions order.conditions)
              meets.met;
        },
        equal_labels_same data_ _ _ (same_label data_.signature draft.leaves ws values matches draft.label order.values),
      )

  complete_entry : (values : Substitution) (leaves : List Term) → SolvedBy data_ draft values leaves → (ws : List Term)
      × Meets data_ (entry_of draft) ws × EqualTerms data_ (derivation_at (entry_of draft) ws).leaves leaves
      × EqualLabels data_ (label_at (entry_of draft) ws) (label_with values draft.label)
  complete_entry values leaves s =
      let ws : List Term = map (λ (v : ℕ × ℕ). values v.0 v.1) (variables_left 0 draft.leaves draft.leaves) in
      let matches : Matches draft.leaves ws values = λ n r leaf.
      leaves_in-at (map (λ (v : ℕ × ℕ). values v.0 v.1) (variables_left 0 draft.leaves draft.leaves))
      (place_of_number 0 (variables_left 0 draft.leaves draft.leaves) n) r (values n r)
      (at_map (λ (v : ℕ × ℕ). values v.0 v.1) (variables_left 0 draft.leaves draft.leaves)
      (place_of_number 0 (variables_left 0 draft.leaves draft.leaves) n) (n, r) (at_place n r leaf)) in (
        ws,
        record {
          sorted = kept_values data_.signature values (variables_left 0 draft.leaves draft.leaves)
              (λ i v at. s.grounds v.0 v.1 (is_leaf draft.leaves order.below order.one_sort i v at));
          met = subst (AllHold data_) (sym (same_tests data_.signature draft.leaves ws values matches draft.conditions
              order.conditions)) s.met;
        },
        equal_terms_then data_ _ _ _ (equal_terms_same data_ _ _ (same_values data_.signature draft.leaves ws values matches
            draft.leaves order.leaves)) s.agree,
        equal_labels_same data_ _ _ (same_label data_.signature draft.leaves ws values matches draft.label order.values),
      )

  pub settled_entry : EntryOf data_ draft (entry_of draft)
  settled_entry = record { shape = refl; sound = sound_entry; complete = complete_entry }
