-- Ground leaves meet a draft in order exactly where some ground values solve it with them.
use Rattle.std.proofs.Common.{◌≡◌, ℕ, zero, suc, List, [], ◌∷◌, map, slice_get, Some, Bool, true, false, nat_eq, if◌then◌else◌, refl, ap, sym, ◌∙◌, subst, eqb-true, eq-eqb}
use Rattle.lotos_base.specs.Signature.{Signature}
use Rattle.lotos_base.specs.Term.{Term, variable, node}
use Rattle.lotos_base.specs.Sorting.{HasSort, IsGroundOf}
use Rattle.lotos_base.specs.Equation.{Data}
use Rattle.lotos_base.specs.Equality.{Equal}
use Rattle.lotos_base.specs.Substitution.{Substitution, substituted}
use Rattle.lotos_base.proofs.EqualityLemmas.{equal_then, equal_back, equal_same, equal_values}
use Rattle.behaviour_semantics.specs.Behaviour.{Test}
use Rattle.behaviour_semantics.specs.Label.{Label, inner_event, gate_event, exit_event}
use Rattle.behaviour_semantics.specs.Replacement.{test_with}
use Rattle.behaviour_semantics.specs.Rule.{AllHold, label_values}
use Rattle.behaviour_semantics.specs.Derives.{leaves_in}
use Rattle.behaviour_semantics.specs.Draft.{Draft, label_with}
use Rattle.behaviour_semantics.specs.Menu.{EqualTerms, EqualLabels}
use Rattle.behaviour_semantics.specs.WellFormed.{Every}
use Rattle.behaviour_semantics.specs.DraftOrder.{IsLeaf, HasLeafVariables, IsDraftTerm, IsDraftTest, IsInOrder, values_from, AreGroundLeaves, LeavesMeet, label_from}
use Rattle.behaviour_semantics.proofs.OptionLemmas.{some_value}
use Rattle.behaviour_semantics.proofs.SolvedValues.{equal_terms_then, SolvedBy}

-- Each leaf that is the variable with this number has this sort.
abbrev HasSortAt : List Term → ℕ → ℕ → Type 0
HasSortAt ts n r = (j q : ℕ) → slice_get ts j ≡ Some (variable n q) → q ≡ r

later : (t : Term) (ts : List Term) (n r : ℕ) → HasSortAt (t ∷ ts) n r → HasSortAt ts n r
later t ts n r h j q at = h (suc j) q at

-- the value of the first leaf that is a variable equals each value with which the leaves are equal
first_value : (data_ : Data) (values : Substitution) (ts vs : List Term) (n r i : ℕ) → EqualTerms data_ (map (substituted values) ts) vs
    → HasSortAt ts n r → slice_get ts i ≡ Some (variable n r) → Equal data_ (values_from ts vs n r) (values n r)
first_value data_ values [] vs n r i equal sort at = absurd (cc at)
first_value data_ values (t ∷ ts) [] n r i equal sort at = absurd equal
first_value data_ values (node f us ∷ ts) (v ∷ vs) n r zero equal sort at = absurd (cc at)
first_value data_ values (node f us ∷ ts) (v ∷ vs) n r (suc i) equal sort at =
    first_value data_ values ts vs n r i equal.1 (later (node f us) ts n r sort) at
first_value data_ values (variable m q ∷ ts) (v ∷ vs) n r i equal sort at =
    by (nat_eq m n) refl i at (λ j at'. first_value data_ values ts vs n r j equal.1 (later (variable m q) ts n r sort) at')
  where
    by : (same : Bool) → nat_eq m n ≡ same → (i : ℕ) → slice_get (variable m q ∷ ts) i ≡ Some (variable n r)
        → ((j : ℕ) → slice_get ts j ≡ Some (variable n r) → Equal data_ (values_from ts vs n r) (values n r))
        → Equal data_ (if nat_eq m n then v else values_from ts vs n r) (values n r)
    by true e i at rest =
        let number : m ≡ n = eqb-true m n e in
        let sorts : q ≡ r = sort 0 q (ap (λ (k : ℕ). Some (variable k q)) number) in
        let here : values m q ≡ values n r = ap (λ (k : ℕ). values k q) number ∙ ap (values n) sorts in
        rw e (equal_then (equal_back equal.0) (equal_same data_ _ _ here))
    by false e zero at rest =
        let pair : variable m q ≡ variable n r = some_value at in
        let number : m ≡ n = cc pair in
        absurd (cc (e, eq-eqb m n number))
    by false e (suc j) at rest = rw e (rest j at)

-- the value of a variable's first leaf is ground and of its sort
first_ground : (signature : Signature) (ts vs : List Term) (n r i : ℕ) → AreGroundLeaves signature ts vs → HasSortAt ts n r
    → slice_get ts i ≡ Some (variable n r) → IsGroundOf signature r (values_from ts vs n r)
first_ground signature [] vs n r i ground sort at = absurd (cc at)
first_ground signature (t ∷ ts) [] n r i ground sort at = absurd ground
first_ground signature (node f us ∷ ts) (v ∷ vs) n r zero ground sort at = absurd (cc at)
first_ground signature (node f us ∷ ts) (v ∷ vs) n r (suc i) ground sort at =
    first_ground signature ts vs n r i ground.1 (later (node f us) ts n r sort) at
first_ground signature (variable m q ∷ ts) (v ∷ vs) n r i ground sort at =
    by (nat_eq m n) refl i at (λ j at'. first_ground signature ts vs n r j ground.1 (later (variable m q) ts n r sort) at')
  where
    by : (same : Bool) → nat_eq m n ≡ same → (i : ℕ) → slice_get (variable m q ∷ ts) i ≡ Some (variable n r)
        → ((j : ℕ) → slice_get ts j ≡ Some (variable n r) → IsGroundOf signature r (values_from ts vs n r))
        → IsGroundOf signature r (if nat_eq m n then v else values_from ts vs n r)
    by true e i at rest =
        let number : m ≡ n = eqb-true m n e in
        let sorts : q ≡ r = sort 0 q (ap (λ (k : ℕ). Some (variable k q)) number) in
        let own : HasSort signature (variable m q) ground.0.0 = ground.0.1 in
        rw e (subst (λ (s : ℕ). IsGroundOf signature s v) (sym own.0 ∙ sorts) ground.0.2)
    by false e zero at rest =
        let pair : variable m q ≡ variable n r = some_value at in
        let number : m ≡ n = cc pair in
        absurd (cc (e, eq-eqb m n number))
    by false e (suc j) at rest = rw e (rest j at)

-- Terms whose variables have equal values have equal instances.
module _ (data_ : Data) (leaves : List Term) (values others : Substitution) (equal : (n r : ℕ) → IsLeaf leaves n r
    → Equal data_ (values n r) (others n r)) where
  alike_term : (s : ℕ) (t : Term) → HasLeafVariables data_.signature leaves s t → Equal data_ (substituted values t) (substituted others t)
  alike_term s t h = equal_values data_ values others t (λ n r o. equal n r (h.own n r o))

  pub alike_terms : (ts : List Term) → Every (IsDraftTerm data_.signature leaves) ts
      → EqualTerms data_ (map (substituted values) ts) (map (substituted others) ts)
  alike_terms [] h = tt
  alike_terms (t ∷ ts) h = (alike_term h.0.0 t h.0.1, alike_terms ts h.1)

  pub alike_hold : (tests : List Test) → Every (IsDraftTest data_.signature leaves) tests → AllHold data_ (map (test_with others) tests)
      → AllHold data_ (map (test_with values) tests)
  alike_hold [] h k = tt
  alike_hold (test ∷ tests) h k = (
    equal_then (alike_term h.0.0 test.left h.0.1) (equal_then k.0 (equal_back (alike_term h.0.0 test.right h.0.2))),
    alike_hold tests h.1 k.1,
  )

  pub alike_label : (label : Label) → Every (IsDraftTerm data_.signature leaves) (label_values label)
      → EqualLabels data_ (label_with values label) (label_with others label)
  alike_label inner_event h = tt
  alike_label (gate_event g ts) h = (refl, alike_terms ts h)
  alike_label (exit_event ts) h = alike_terms ts h

module _ (data_ : Data) (draft : Draft) (order : IsInOrder data_.signature draft) where
  sort_at : (n r : ℕ) → IsLeaf draft.leaves n r → HasSortAt draft.leaves n r
  sort_at n r leaf j q at = order.one_sort n q r (j, at) leaf

  -- the values that the leaves give are equal to those that solve the draft with them
  pub given_equal : (values : Substitution) (leaves : List Term) → SolvedBy data_ draft values leaves → (n r : ℕ)
      → IsLeaf draft.leaves n r → Equal data_ (values_from draft.leaves leaves n r) (values n r)
  given_equal values leaves s n r leaf = first_value data_ values draft.leaves leaves n r leaf.0 s.agree (sort_at n r leaf) leaf.1

  pub solved_meets : (values : Substitution) (leaves : List Term) → SolvedBy data_ draft values leaves → LeavesMeet data_ draft leaves
  solved_meets values leaves s =
      let equal = given_equal values leaves s in
      record {
        ground = s.ground;
        agree = equal_terms_then data_ _ _ _ (alike_terms data_ draft.leaves
            (values_from draft.leaves leaves) values equal draft.leaves order.leaves) s.agree;
        met = alike_hold data_ draft.leaves (values_from draft.leaves leaves) values equal draft.conditions order.conditions s.met;
      }

  pub solved_label : (values : Substitution) (leaves : List Term) → SolvedBy data_ draft values leaves
      → EqualLabels data_ (label_with values draft.label) (label_from draft leaves)
  solved_label values leaves s =
      alike_label data_ draft.leaves values (values_from draft.leaves leaves)
      (λ n r leaf. equal_back (given_equal values leaves s n r leaf)) draft.label order.values

  pub meets_solved : (leaves : List Term) → LeavesMeet data_ draft leaves → SolvedBy data_ draft (values_from draft.leaves leaves) leaves
  meets_solved leaves meets = record {
    grounds = λ n r leaf. first_ground data_.signature draft.leaves leaves n r leaf.0 meets.ground (sort_at n r leaf) leaf.1;
    ground = meets.ground;
    agree = meets.agree;
    met = meets.met;
  }

pub equal_at : (data_ : Data) (ts us : List Term) (n s : ℕ) (t : Term) → EqualTerms data_ ts us → slice_get ts n ≡ Some t
    → Equal data_ t (leaves_in us n s)
equal_at data_ [] us n s t h at = absurd (cc at)
equal_at data_ (u ∷ ts) [] n s t h at = absurd h
equal_at data_ (u ∷ ts) (v ∷ us) zero s t h at = subst (λ (w : Term). Equal data_ w v) (some_value at) h.0
equal_at data_ (u ∷ ts) (v ∷ us) (suc n) s t h at = equal_at data_ ts us n s t h.1 at
