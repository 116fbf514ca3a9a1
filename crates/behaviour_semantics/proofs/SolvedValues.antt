-- Values that solve a draft: tidying and replacing neither lose nor add any.
use Rattle.std.proofs.Common.{◌≡◌, ℕ, List, [], ◌∷◌, map, Some, Bool, true, false, not, cond, nat_eq, refl, ap, sym, ◌∙◌, subst, eqb-true}
use Rattle.lotos_base.proofs.Members.{at_map}
use Rattle.lotos_base.specs.Signature.{Signature}
use Rattle.lotos_base.specs.Term.{Term, variable}
use Rattle.lotos_base.specs.Tests.{term_eq}
use Rattle.lotos_base.specs.Sorting.{IsGroundOf, Occurs}
use Rattle.lotos_base.specs.Equation.{Data}
use Rattle.lotos_base.specs.Equality.{Equal, same_term}
use Rattle.lotos_base.specs.Substitution.{Substitution, substituted, followed_by}
use Rattle.lotos_base.specs.Canon.{IsCanon}
use Rattle.lotos_base.proofs.SubstitutionLemmas.{substituted_twice, ground_instance}
use Rattle.lotos_base.proofs.EqualityLemmas.{equal_then, equal_back, equal_same}
use Rattle.lotos_base.proofs.SortLemmas.{one_sort}
use Rattle.lotos_base.proofs.TestLemmas.{Decides-term_eq}
use Rattle.behaviour_semantics.specs.Behaviour.{Test}
use Rattle.behaviour_semantics.specs.Label.{Label, inner_event, gate_event, exit_event}
use Rattle.behaviour_semantics.specs.Replacement.{test_with}
use Rattle.behaviour_semantics.specs.Rule.{AllHold, label_values}
use Rattle.behaviour_semantics.specs.Draft.{Draft, label_with}
use Rattle.behaviour_semantics.specs.Solving.{label_in, test_in, differing, tidied, first_replacement, replaced}
use Rattle.behaviour_semantics.specs.Menu.{EqualTerms, EqualLabels}
use Rattle.behaviour_semantics.specs.WellFormed.{Every}
use Rattle.behaviour_semantics.specs.DraftOrder.{IsLeaf, HasLeafVariables, IsDraftTerm, IsDraftTest, IsInOrder, AreGroundLeaves}
use Rattle.behaviour_semantics.proofs.DraftsInOrder.{IsChange, came_from, canon_changes}
use Rattle.behaviour_semantics.proofs.ReplacementsInOrder.{put_for, put_for-same, put_for-other, Replaces, replacement_changes, replaced_equal, rests_on, stays}

-- Equal lists of terms.
pub equal_terms_then : (data_ : Data) (ts us vs : List Term) → EqualTerms data_ ts us → EqualTerms data_ us vs → EqualTerms data_ ts vs
equal_terms_then data_ [] [] [] h k = tt
equal_terms_then data_ (t ∷ ts) (u ∷ us) (v ∷ vs) h k = (equal_then h.0 k.0, equal_terms_then data_ ts us vs h.1 k.1)
equal_terms_then data_ [] (u ∷ us) vs h k = absurd h
equal_terms_then data_ (t ∷ ts) [] vs h k = absurd h
equal_terms_then data_ [] [] (v ∷ vs) h k = absurd k
equal_terms_then data_ (t ∷ ts) (u ∷ us) [] h k = absurd k

pub equal_terms_back : (data_ : Data) (ts us : List Term) → EqualTerms data_ ts us → EqualTerms data_ us ts
equal_terms_back data_ [] [] h = tt
equal_terms_back data_ (t ∷ ts) (u ∷ us) h = (equal_back h.0, equal_terms_back data_ ts us h.1)
equal_terms_back data_ [] (u ∷ us) h = absurd h
equal_terms_back data_ (t ∷ ts) [] h = absurd h

pub equal_terms_same : (data_ : Data) (ts us : List Term) → ts ≡ us → EqualTerms data_ ts us
equal_terms_same data_ ts us e = subst (EqualTerms data_ ts) e (same ts)
  where
    same : (ts : List Term) → EqualTerms data_ ts ts
    same [] = tt
    same (t ∷ ts) = (same_term t, same ts)

-- Equal labels.
pub equal_labels_same : (data_ : Data) (label other : Label) → label ≡ other → EqualLabels data_ label other
equal_labels_same data_ label other e = subst (EqualLabels data_ label) e (same label)
  where
    same : (l : Label) → EqualLabels data_ l l
    same inner_event = tt
    same (gate_event g ts) = (refl, equal_terms_same data_ ts ts refl)
    same (exit_event ts) = equal_terms_same data_ ts ts refl

pub equal_labels_then : (data_ : Data) (label other last : Label) → EqualLabels data_ label other → EqualLabels data_ other last
    → EqualLabels data_ label last
equal_labels_then data_ inner_event inner_event inner_event h k = tt
equal_labels_then data_ (gate_event g ts) (gate_event g' us) (gate_event g'' vs) h k = (h.0 ∙ k.0, equal_terms_then data_ ts us vs h.1 k.1)
equal_labels_then data_ (exit_event ts) (exit_event us) (exit_event vs) h k = equal_terms_then data_ ts us vs h k
equal_labels_then data_ inner_event (gate_event g us) last h k = absurd h
equal_labels_then data_ inner_event (exit_event us) last h k = absurd h
equal_labels_then data_ inner_event inner_event (gate_event g us) h k = absurd k
equal_labels_then data_ inner_event inner_event (exit_event us) h k = absurd k
equal_labels_then data_ (gate_event g ts) inner_event last h k = absurd h
equal_labels_then data_ (gate_event g ts) (exit_event us) last h k = absurd h
equal_labels_then data_ (gate_event g ts) (gate_event g' us) inner_event h k = absurd k
equal_labels_then data_ (gate_event g ts) (gate_event g' us) (exit_event vs) h k = absurd k
equal_labels_then data_ (exit_event ts) inner_event last h k = absurd h
equal_labels_then data_ (exit_event ts) (gate_event g us) last h k = absurd h
equal_labels_then data_ (exit_event ts) (exit_event us) inner_event h k = absurd k
equal_labels_then data_ (exit_event ts) (exit_event us) (gate_event g vs) h k = absurd k

-- Each variable among the leaves has a ground value of its sort.
abbrev pub GroundsLeaves : Data → List Term → Substitution → Type 0
GroundsLeaves data_ leaves values = (n r : ℕ) → IsLeaf leaves n r → IsGroundOf data_.signature r (values n r)

-- The values solve the draft with these ground leaves: they are ground, the draft's leaves are equal to these, and the
-- conditions hold.
pub record SolvedBy (data_ : Data) (draft : Draft) (values : Substitution) (leaves : List Term) : Type 0 where
  pub grounds : GroundsLeaves data_ draft.leaves values
  pub ground : AreGroundLeaves data_.signature draft.leaves leaves
  pub agree : EqualTerms data_ (map (substituted values) draft.leaves) leaves
  pub met : AllHold data_ (map (test_with values) draft.conditions)

-- A change of terms that leaves their values.
module _ (data_ : Data) (values : Substitution) (leaves : List Term) (f : Term → Term) (equal : (s : ℕ) (t : Term)
    → HasLeafVariables data_.signature leaves s t → Equal data_ (substituted values (f t)) (substituted values t)) where
  pub changed_values : (ts : List Term) → Every (IsDraftTerm data_.signature leaves) ts
      → EqualTerms data_ (map (substituted values) (map f ts)) (map (substituted values) ts)
  changed_values [] h = tt
  changed_values (t ∷ ts) h = (equal h.0.0 t h.0.1, changed_values ts h.1)

  pub changed_hold : (tests : List Test) → Every (IsDraftTest data_.signature leaves) tests
      → AllHold data_ (map (test_with values) tests) → AllHold data_ (map (test_with values) (map (test_in f) tests))
  changed_hold [] h k = tt
  changed_hold (test ∷ tests) h k =
      (equal_then (equal h.0.0 test.left h.0.1) (equal_then k.0 (equal_back (equal h.0.0 test.right h.0.2))), changed_hold tests h.1 k.1)

  pub unchanged_hold : (tests : List Test) → Every (IsDraftTest data_.signature leaves) tests
      → AllHold data_ (map (test_with values) (map (test_in f) tests)) → AllHold data_ (map (test_with values) tests)
  unchanged_hold [] h k = tt
  unchanged_hold (test ∷ tests) h k =
      (equal_then (equal_back (equal h.0.0 test.left h.0.1)) (equal_then k.0 (equal h.0.0 test.right h.0.2)), unchanged_hold tests h.1 k.1)

-- A change that keeps sorts leaves it as it is which ground leaves have the sorts of the draft's.
module _ (signature : Signature) (leaves : List Term) (f : Term → Term) (change : IsChange signature leaves f) where
  pub changed_ground : (ts vs : List Term) → Every (IsDraftTerm signature leaves) ts → AreGroundLeaves signature ts vs
      → AreGroundLeaves signature (map f ts) vs
  changed_ground [] [] h g = tt
  changed_ground (t ∷ ts) (v ∷ vs) h g =
      let same : h.0.0 ≡ g.0.0 = one_sort signature t h.0.0 g.0.0 h.0.1.sorted g.0.1 in
      ((h.0.0, change.sorted h.0.0 t h.0.1, subst (λ (s : ℕ). IsGroundOf signature s v) (sym same) g.0.2), changed_ground ts vs h.1 g.1)
  changed_ground [] (v ∷ vs) h g = absurd g
  changed_ground (t ∷ ts) [] h g = absurd g

  pub unchanged_ground : (ts vs : List Term) → Every (IsDraftTerm signature leaves) ts → AreGroundLeaves signature (map f ts) vs
      → AreGroundLeaves signature ts vs
  unchanged_ground [] [] h g = tt
  unchanged_ground (t ∷ ts) (v ∷ vs) h g =
      let same : h.0.0 ≡ g.0.0 = one_sort signature (f t) h.0.0 g.0.0 (change.sorted h.0.0 t h.0.1) g.0.1 in
      ((h.0.0, h.0.1.sorted, subst (λ (s : ℕ). IsGroundOf signature s v) (sym same) g.0.2), unchanged_ground ts vs h.1 g.1)
  unchanged_ground [] (v ∷ vs) h g = absurd g
  unchanged_ground (t ∷ ts) [] h g = absurd g

-- Conditions with identical sides hold.
hold_differing : (data_ : Data) (values : Substitution) (tests : List Test) → AllHold data_ (map (test_with values) tests)
    → AllHold data_ (map (test_with values) (differing tests))
hold_differing data_ values [] h = tt
hold_differing data_ values (test ∷ tests) h = by (not (term_eq test.left test.right)) (hold_differing data_ values tests h.1)
  where
    by : (keep : Bool) → AllHold data_ (map (test_with values) (differing tests))
        → AllHold data_ (map (test_with values) (cond keep (test ∷ differing tests) (differing tests)))
    by true rest = (h.0, rest)
    by false rest = rest

hold_all : (data_ : Data) (values : Substitution) (tests : List Test) → AllHold data_ (map (test_with values) (differing tests))
    → AllHold data_ (map (test_with values) tests)
hold_all data_ values [] h = tt
hold_all data_ values (test ∷ tests) h = by (term_eq test.left test.right) refl (λ k. hold_all data_ values tests k) h
  where
    by : (same : Bool) → term_eq test.left test.right ≡ same → (AllHold data_ (map (test_with values) (differing tests))
        → AllHold data_ (map (test_with values) tests)) → AllHold data_
        (map (test_with values) (cond (not same) (test ∷ differing tests) (differing tests)))
        → AllHold data_ (map (test_with values) (test ∷ tests))
    by true e rest k = (equal_same data_ _ _ (ap (substituted values) ((Decides-term_eq test.left test.right).0 e)), rest k)
    by false e rest k = (k.0, rest k.1)

-- ---- Tidying
module _ (data_ : Data) (canon : Term → Term) (is_canon : IsCanon data_ canon) (draft : Draft) (order : IsInOrder data_.signature draft)
    (values : Substitution) where
  pub canon_equal : GroundsLeaves data_ draft.leaves values → (s : ℕ) (t : Term) → HasLeafVariables data_.signature draft.leaves s t
      → Equal data_ (substituted values (canon t)) (substituted values t)
  canon_equal grounds s t h = is_canon.instances t values (s, h.sorted) (λ n r o. grounds n r (h.own n r o))

  pub tidied_solves : (leaves : List Term) → SolvedBy data_ draft values leaves → SolvedBy data_ (tidied canon draft) values leaves
  tidied_solves leaves s =
      let same : (q : ℕ) (t : Term) → HasLeafVariables data_.signature draft.leaves q t
      → Equal data_ (substituted values (canon t)) (substituted values t) = canon_equal s.grounds in
      record {
        grounds = λ n r leaf. s.grounds n r (came_from data_.signature draft.leaves canon
            (canon_changes data_ canon is_canon draft.leaves) order.leaves n r leaf);
        ground = changed_ground data_.signature draft.leaves canon (canon_changes data_ canon is_canon draft.leaves) draft.leaves leaves
            order.leaves s.ground;
        agree = equal_terms_then data_ _ _ _ (changed_values data_ values draft.leaves canon same draft.leaves order.leaves) s.agree;
        met = hold_differing data_ values (map (test_in canon) draft.conditions)
            (changed_hold data_ values draft.leaves canon same draft.conditions order.conditions s.met);
      }

  -- variables stay leaves
  untidied_grounds : GroundsLeaves data_ (map canon draft.leaves) values → GroundsLeaves data_ draft.leaves values
  untidied_grounds grounds n r (i, at) = grounds n r (
    i,
    at_map canon draft.leaves i (variable n r) at
        ∙ ap (λ (u : Term). Some u) (is_canon.variables n r),
  )

  pub untidied_solves : (leaves : List Term) → SolvedBy data_ (tidied canon draft) values leaves → SolvedBy data_ draft values leaves
  untidied_solves leaves s =
      let same : (q : ℕ) (t : Term) → HasLeafVariables data_.signature draft.leaves q t
      → Equal data_ (substituted values (canon t)) (substituted values t) = canon_equal (untidied_grounds s.grounds) in
      record {
        grounds = untidied_grounds s.grounds;
        ground = unchanged_ground data_.signature draft.leaves canon (canon_changes data_ canon is_canon draft.leaves) draft.leaves
            leaves order.leaves s.ground;
        agree = equal_terms_then data_ _ _ _ (equal_terms_back data_ _ _
            (changed_values data_ values draft.leaves canon same draft.leaves order.leaves)) s.agree;
        met = unchanged_hold data_ values draft.leaves canon same draft.conditions order.conditions
            (hold_all data_ values (map (test_in canon) draft.conditions) s.met);
      }

  pub tidied_label : GroundsLeaves data_ draft.leaves values → EqualLabels data_ (label_with values (label_in canon draft.label))
      (label_with values draft.label)
  tidied_label grounds = by draft.label (changed_values data_ values draft.leaves canon (canon_equal grounds)
      (label_values draft.label) order.values)
    where
      by : (label : Label) → EqualTerms data_ (map (substituted values) (map canon (label_values label)))
          (map (substituted values) (label_values label)) → EqualLabels data_ (label_with values (label_in canon label))
          (label_with values label)
      by inner_event h = tt
      by (gate_event g ts) h = (refl, h)
      by (exit_event ts) h = h

-- ---- Replacing
module _ (data_ : Data) (draft : Draft) (found : ℕ × Term) (order : IsInOrder data_.signature draft)
    (gives : first_replacement draft.conditions ≡ Some found) where
  abbrev rests : Replaces data_ draft.leaves order.one_sort draft.conditions found
  rests = rests_on data_ draft found order gives

  pub replaced_same : (values : Substitution) → AllHold data_ (map (test_with values) draft.conditions) → (s : ℕ) (t : Term)
      → HasLeafVariables data_.signature draft.leaves s t → Equal data_ (substituted values (substituted (put_for found) t))
      (substituted values t)
  replaced_same values met = replaced_equal data_ draft.leaves order.one_sort draft.conditions found
      (rests_on data_ draft found order gives) values ((rests_on data_ draft found order gives).holds values met)

  pub replaced_solves : (values : Substitution) (leaves : List Term) → SolvedBy data_ draft values leaves
      → SolvedBy data_ (replaced found draft) values leaves
  replaced_solves values leaves s = record {
    grounds = λ n r leaf. s.grounds n r (came_from data_.signature draft.leaves (substituted (put_for found))
        (replacement_changes data_ draft.leaves order.one_sort draft.conditions found (rests_on data_ draft found order gives))
        order.leaves n r leaf);
    ground = changed_ground data_.signature draft.leaves (substituted (put_for found))
        (replacement_changes data_ draft.leaves order.one_sort draft.conditions found (rests_on data_ draft found order gives))
        draft.leaves leaves order.leaves s.ground;
    agree = equal_terms_then data_ _ _ _ (changed_values data_ values draft.leaves (substituted (put_for found))
        (replaced_same values s.met) draft.leaves order.leaves) s.agree;
    met = changed_hold data_ values draft.leaves (substituted (put_for found))
        (replaced_same values s.met) draft.conditions order.conditions s.met;
  }

  -- what solves the changed draft solves the draft, once the term is put for the variable
  put_back : (values : Substitution) → GroundsLeaves data_ (map (substituted (put_for found)) draft.leaves) values
      → GroundsLeaves data_ draft.leaves (followed_by (put_for found) values)
  put_back values grounds n r leaf = by (nat_eq found.0 n) refl
    where
      -- the value that is put has the variable's sort, and its variables are leaves still
      value_ground : found.0 ≡ n → IsGroundOf data_.signature r (substituted values found.1)
      value_ground same =
          let sort : r ≡ (rests_on data_ draft found order gives).sort =
          order.one_sort n r (rests_on data_ draft found order gives).sort leaf
          (subst (λ (m : ℕ). IsLeaf draft.leaves m (rests_on data_ draft found order gives).sort) same
          ((rests_on data_ draft found order gives).is_variable.own found.0 (rests_on data_ draft found order gives).sort (
            refl,
            refl,
          ))) in
          subst (λ (q : ℕ). IsGroundOf data_.signature q (substituted values found.1)) (sym sort)
          (ground_instance data_.signature values found.1 (rests_on data_ draft found order gives).sort
          (rests_on data_ draft found order gives).value.sorted
          (λ m q o. grounds m q (still m q o)))
        where
          apart : (m q : ℕ) → Occurs m q found.1 → (b : Bool) → nat_eq found.0 m ≡ b → nat_eq found.0 m ≡ false
          apart m q o true e = let same : found.0 ≡ m = eqb-true found.0 m e in
              absurd ((rests_on data_ draft found order gives).lacks q (subst (λ (k : ℕ). Occurs k q found.1) (sym same) o))
          apart m q o false e = e

          still : (m q : ℕ) → Occurs m q found.1 → IsLeaf (map (substituted (put_for found)) draft.leaves) m q
          still m q o =
              let leaf : IsLeaf draft.leaves m q = (rests_on data_ draft found order gives).value.own m q o in (
                leaf.0,
                stays data_ draft.leaves order.one_sort draft.conditions found
                    (rests_on data_ draft found order gives) m q leaf.0 leaf.1 (apart m q o (nat_eq found.0 m) refl),
              )

      by : (same : Bool) → nat_eq found.0 n ≡ same → IsGroundOf data_.signature r (substituted values (put_for found n r))
      by true e = subst (λ (t : Term). IsGroundOf data_.signature r (substituted values t))
          (sym (put_for-same found n r (eqb-true found.0 n e))) (value_ground (eqb-true found.0 n e))
      by false e = subst (λ (t : Term). IsGroundOf data_.signature r (substituted values t)) (sym (put_for-other found n r e))
          (grounds n r (
            leaf.0,
            stays data_ draft.leaves order.one_sort draft.conditions found
                (rests_on data_ draft found order gives) n r leaf.0 leaf.1 e,
          ))

  pub unreplaced_solves : (values : Substitution) (leaves : List Term) → SolvedBy data_ (replaced found draft) values leaves
      → SolvedBy data_ draft (followed_by (put_for found) values) leaves
  unreplaced_solves values leaves s = record {
    grounds = put_back values s.grounds;
    ground = unchanged_ground data_.signature draft.leaves (substituted (put_for found))
        (replacement_changes data_ draft.leaves order.one_sort draft.conditions found (rests_on data_ draft found order gives))
        draft.leaves leaves order.leaves s.ground;
    agree = subst (λ (ts : List Term). EqualTerms data_ ts leaves) (twice draft.leaves) s.agree;
    met = subst (AllHold data_) (twice_tests draft.conditions) s.met;
  }
    where
      twice : (ts : List Term) → map (substituted values) (map (substituted (put_for found)) ts) ≡ map
          (substituted (followed_by (put_for found) values)) ts
      twice [] = refl
      twice (t ∷ ts) = ap (λ (u : Term). u ∷ map (substituted values) (map (substituted (put_for found)) ts))
          (substituted_twice (put_for found) values t) ∙ ap (λ (us : List Term). substituted (followed_by (put_for found) values) t
          ∷ us) (twice ts)

      twice_tests : (tests : List Test) → map (test_with values) (map (test_with (put_for found)) tests) ≡ map
          (test_with (followed_by (put_for found) values)) tests
      twice_tests [] = refl
      twice_tests (test ∷ tests) =
          let left = substituted_twice (put_for found) values test.left in
          let right = substituted_twice (put_for found) values test.right in
          let rest = twice_tests tests in
          cc (left, right, rest)

  pub unreplaced_label : (values : Substitution) → label_with (followed_by (put_for found) values) draft.label ≡ label_with values
      (label_with (put_for found) draft.label)
  unreplaced_label values = by draft.label
    where
      twice : (ts : List Term) → map (substituted (followed_by (put_for found) values)) ts ≡ map (substituted values)
          (map (substituted (put_for found)) ts)
      twice [] = refl
      twice (t ∷ ts) = ap (λ (u : Term). u ∷ map (substituted (followed_by (put_for found) values)) ts)
          (sym (substituted_twice (put_for found) values t)) ∙ ap (λ (us : List Term). substituted values
          (substituted (put_for found) t) ∷ us) (twice ts)

      by : (label : Label) → label_with (followed_by (put_for found) values) label ≡ label_with values (label_with (put_for found) label)
      by inner_event = refl
      by (gate_event g ts) = ap (gate_event g) (twice ts)
      by (exit_event ts) = ap exit_event (twice ts)

  pub replaced_label : (values : Substitution) → AllHold data_ (map (test_with values) draft.conditions)
      → EqualLabels data_ (label_with values (label_with (put_for found) draft.label)) (label_with values draft.label)
  replaced_label values met = by draft.label (changed_values data_ values draft.leaves (substituted (put_for found))
      (replaced_same values met) (label_values draft.label) order.values)
    where
      by : (label : Label) → EqualTerms data_ (map (substituted values) (map (substituted (put_for found)) (label_values label)))
          (map (substituted values) (label_values label)) → EqualLabels data_ (label_with values (label_with (put_for found) label))
          (label_with values label)
      by inner_event h = tt
      by (gate_event g ts) h = (refl, h)
      by (exit_event ts) h = h
