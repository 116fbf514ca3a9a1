-- The draft of a shape in a closed well-formed behaviour is in order, and the leaves that meet it as such meet it.
use Rattle.std.proofs.Common.{◌≡◌, ◌<◌, ◌≤◌, inr, ℕ, zero, suc, ◌+◌, ◌-◌, true, false, nat_eq, eq-eqb, ne_eqb, length, List, [], ◌∷◌, map, slice_get, Option, Some, option_map, refl, ap, sym, ◌∙◌, subst, arith}
use Rattle.lotos_base.proofs.Options.{mapped}
use Rattle.lotos_base.specs.Signature.{Signature, IsSort}
use Rattle.lotos_base.specs.Term.{Term, variable}
use Rattle.lotos_base.specs.Equation.{Data}
use Rattle.lotos_base.specs.Sorting.{HasSort, IsGroundOf}
use Rattle.lotos_base.specs.Equality.{Equal, same_term}
use Rattle.lotos_base.proofs.EqualityLemmas.{equal_same, equal_back}
use Rattle.lotos_base.specs.Substitution.{Substitution, substituted}
use Rattle.lotos_base.proofs.SubstitutionLemmas.{substituted_sort, substituted_occurs, ComesFrom}
use Rattle.behaviour_semantics.specs.Behaviour.{Behaviour, Test, Process, Specification}
use Rattle.behaviour_semantics.specs.Label.{Label}
use Rattle.behaviour_semantics.specs.Replacement.{test_with}
use Rattle.behaviour_semantics.specs.Rule.{AreValues, label_values}
use Rattle.behaviour_semantics.specs.Shape.{Shape}
use Rattle.behaviour_semantics.specs.Move.{Setting, Move, move_of, taken}
use Rattle.behaviour_semantics.specs.Derives.{leaves_in}
use Rattle.behaviour_semantics.specs.Draft.{Draft, draft_of, draft_by, label_with, leaves_from, numbered_from_zero, above, above_processes, first_apart, variable_sorts, MeetsDraft}
use Rattle.behaviour_semantics.specs.WellFormed.{AreOver, Every}
use Rattle.behaviour_semantics.proofs.OptionLemmas.{some_value}
use Rattle.behaviour_semantics.proofs.SupplyLemmas.{taken-supplied, Supplies-leaves_in}
use Rattle.behaviour_semantics.proofs.RelatedTerms.{Side, occurs_sort, Related, only_leaf, canon_represents, RelatedTerms, none_related, one_related}
use Rattle.behaviour_semantics.proofs.SameBehaviours.{low_nothing, same_beside}
use Rattle.behaviour_semantics.proofs.RelatedMoves.{RelatedLeaves, RelatedLabels, both_inner_events, both_gate_events, both_exit_events, RelatedAsked, none_asked, one_asked, Answer, setting_of, follows}
use Rattle.behaviour_semantics.proofs.InstanceLemmas.{bodies_of}
use Rattle.behaviour_semantics.proofs.DraftLemmas.{numbered-taken, draft_sorts}
use Rattle.behaviour_semantics.specs.Menu.{EqualTerms, EqualLabels}
use Rattle.behaviour_semantics.specs.DraftOrder.{IsLeaf, HasLeafVariables, IsDraftTerm, IsDraftTest, IsInOrder, values_from, AreGroundLeaves, LeavesMeet, label_from}
use Rattle.behaviour_semantics.proofs.SolvedValues.{equal_terms_same, equal_terms_then}
use Rattle.behaviour_semantics.proofs.MeetingLeaves.{alike_terms, alike_hold, alike_label}
use Rattle.behaviour_semantics.proofs.MoveSorts.{move_sorts}

-- Leaf variables of any sort, and leaf variables of the sorts of a list.
abbrev loose : (Term → Term) → ℕ → Side
loose canon base = record { represent = canon; leaves = leaves_from base; values = variable; leaf = λ n r. Unit {0} }

abbrev formal : (Term → Term) → ℕ → List ℕ → Side
formal canon base sorts = record {
  represent = canon;
  leaves = leaves_from base;
  values = variable;
  leaf =
      λ n r. slice_get sorts (n - base) ≡ Some r;
}

loose_leaf : (data_ : Data) (canon : Term → Term) (base next s : ℕ) → IsSort data_.signature s
    → Related data_ base (loose canon base) (loose canon base) [] s (variable (base + next) s) (variable (base + next) s)
loose_leaf data_ canon base next s is_sort = record {
  left_sorted = (refl, is_sort);
  right_sorted = (refl, is_sort);
  left_free = λ n r o. inr (le_of n o.0, tt);
  right_free = λ n r o. inr (le_of n o.0, tt);
  equal = λ left right others grounds. same_term _;
}
  where
    le_of : (n : ℕ) → base + next ≡ n → base ≤ n
    le_of n e = omega arith

formal_leaf : (data_ : Data) (canon : Term → Term) (base : ℕ) (sorts : List ℕ) (next s : ℕ) → IsSort data_.signature s
    → slice_get sorts next ≡ Some s → Related data_ base (formal canon base sorts) (formal canon base sorts) [] s (variable (base + next) s)
    (variable (base + next) s)
formal_leaf data_ canon base sorts next s is_sort at = record {
  left_sorted = (refl, is_sort);
  right_sorted = (refl, is_sort);
  left_free = λ n r o. inr (le_of n o.0, leaf n r o.0 o.1);
  right_free = λ n r o. inr (le_of n o.0, leaf n r o.0 o.1);
  equal = λ left right others grounds. same_term _;
}
  where
    le_of : (n : ℕ) → base + next ≡ n → base ≤ n
    le_of n e = omega arith

    leaf : (n r : ℕ) → base + next ≡ n → s ≡ r → slice_get sorts (n - base) ≡ Some r
    leaf n r e e' = subst (λ (k : ℕ). slice_get sorts (n - base) ≡ Some k) e'
        (subst (λ (k : ℕ). slice_get sorts k ≡ Some s) (let h : next ≡ n - base = omega arith in h) at)

formal_leaves : (data_ : Data) (canon : Term → Term) (processes : List Process) (base : ℕ) (sorts : List ℕ) (next : ℕ) (ss : List ℕ)
    → Every (IsSort data_.signature) ss → ((i s : ℕ) → slice_get ss i ≡ Some s → slice_get sorts (next + i) ≡ Some s)
    → RelatedLeaves data_ base processes (formal canon base sorts) (formal canon base sorts) next ss
formal_leaves data_ canon processes base sorts next [] h at = tt
formal_leaves data_ canon processes base sorts next (s ∷ ss) h at = (
  formal_leaf data_ canon base sorts next s h.0 (subst (λ (k : ℕ). slice_get sorts k ≡ Some s) (let e : next + 0 ≡ next = omega arith in e)
      (at 0 s refl)),
  formal_leaves data_ canon processes base sorts (suc next) ss h.1
      (λ i q e. subst (λ (k : ℕ). slice_get sorts k ≡ Some q) (let k : next + suc i ≡ suc next + i = omega arith in k) (at (suc i) q e)),
)

taken_at : (next : ℕ) (ss : List ℕ) (i s : ℕ) → slice_get ss i ≡ Some s
    → slice_get (taken variable next ss) i ≡ Some (variable (next + i) s)
taken_at next [] i s e = absurd (cc e)
taken_at next (q ∷ ss) zero s e = ap (λ (o : Option ℕ). option_map (variable next) o) e
    ∙ ap (λ (n : ℕ). Some (variable n s)) (let k : next ≡ next + 0 = omega arith in k)
taken_at next (q ∷ ss) (suc i) s e = taken_at (suc next) ss i s e
    ∙ ap (λ (n : ℕ). Some (variable n s)) (let k : suc next + i ≡ next + suc i = omega arith in k)

module _ (data_ : Data) (canon : Term → Term) (base : ℕ) (sorts : List ℕ) where
  -- the leaves of the draft
  abbrev drafts : List Term
  drafts = map (substituted (numbered_from_zero base)) (taken (leaves_from base) 0 sorts)

  own_leaf : (i s : ℕ) → slice_get sorts i ≡ Some s → slice_get
      (map (substituted (numbered_from_zero base)) (taken (leaves_from base) 0 sorts)) i ≡ Some (variable i s)
  own_leaf i s e =
      ap (λ (ts : List Term). slice_get ts i) (numbered-taken base 0 sorts)
      ∙ (taken_at 0 sorts i s e ∙ ap (λ (n : ℕ). Some (variable n s)) (let k : 0 + i ≡ i = omega arith in k))

  fine_term : (s : ℕ) (t u : Term) → Related data_ base (formal canon base sorts) (formal canon base sorts) [] s t u
      → HasLeafVariables data_.signature (map (substituted (numbered_from_zero base)) (taken (leaves_from base) 0 sorts)) s
      (substituted (numbered_from_zero base) t)
  fine_term s t u r = record {
    sorted = substituted_sort data_.signature (numbered_from_zero base) t s r.left_sorted
        (λ n q o. (refl, occurs_sort data_.signature t s n q r.left_sorted o));
    own = λ n q o.
        let from : ComesFrom n q (numbered_from_zero base) t = substituted_occurs n q (numbered_from_zero base) t o in
        let leaf : (base ≤ from.number) × (slice_get sorts (from.number - base) ≡ Some from.sort) =
        only_leaf data_ base (formal canon base sorts) from.number from.sort (r.left_free from.number from.sort from.occurs) in (
          n,
          own_leaf n q (subst (λ (k : ℕ). slice_get sorts n ≡ Some k) from.inside.1
              (subst (λ (k : ℕ). slice_get sorts k ≡ Some from.sort) from.inside.0 leaf.1)),
        );
  }

  fine_list : {ss : List ℕ} {ts us : List Term} → RelatedTerms data_ base (formal canon base sorts)
      (formal canon base sorts) [] ss ts us → Every (IsDraftTerm data_.signature
      (map (substituted (numbered_from_zero base)) (taken (leaves_from base) 0 sorts))) (map (substituted (numbered_from_zero base)) ts)
  fine_list none_related = tt
  fine_list (one_related {s = s} {t = t} {u = u} r rest) = ((s, fine_term s t u r), fine_list rest)

  fine_label : {processes : List Process} {label other : Label} → RelatedLabels data_ base processes (formal canon base sorts)
      (formal canon base sorts) label other → Every (IsDraftTerm data_.signature
      (map (substituted (numbered_from_zero base)) (taken (leaves_from base) 0 sorts)))
      (label_values (label_with (numbered_from_zero base) label))
  fine_label both_inner_events = tt
  fine_label (both_gate_events ss r) = fine_list r
  fine_label (both_exit_events ss r) = fine_list r

  fine_asked : {processes : List Process} {tests others : List Test} → RelatedAsked data_ base processes (formal canon base sorts)
      (formal canon base sorts) tests others → Every (IsDraftTest data_.signature
      (map (substituted (numbered_from_zero base)) (taken (leaves_from base) 0 sorts)))
      (map (test_with (numbered_from_zero base)) tests)
  fine_asked none_asked = tt
  fine_asked (one_asked r rest) = ((r.sort, fine_term r.sort _ _ r.left, fine_term r.sort _ _ r.right), fine_asked rest)

  fine_taken : (next : ℕ) (ss : List ℕ) → Every (IsSort data_.signature) ss
      → ((i s : ℕ) → slice_get ss i ≡ Some s → slice_get sorts (next + i) ≡ Some s)
      → Every (IsDraftTerm data_.signature (map (substituted (numbered_from_zero base)) (taken (leaves_from base) 0 sorts)))
      (taken variable next ss)
  fine_taken next [] h at = tt
  fine_taken next (s ∷ ss) h at = (
    (
      s,
      record {
        sorted = (refl, h.0);
        own = λ n q o. (
          n,
          own_leaf n q (subst (λ (k : ℕ). slice_get sorts n ≡ Some k) o.1
              (subst (λ (k : ℕ). slice_get sorts k ≡ Some s) (let e : next + 0 ≡ n = omega (arith, o.0) in e) (at 0 s refl))),
        );
      },
    ),
    fine_taken (suc next) ss h.1 (λ i q e. subst (λ (k : ℕ). slice_get sorts k ≡ Some q)
        (let k : next + suc i ≡ suc next + i = omega arith in k) (at (suc i) q e)),
  )

-- Leaf number `k` is the variable number `k`.
taken_leaf : (next : ℕ) (ss : List ℕ) (n r i : ℕ) → slice_get (taken variable next ss) i ≡ Some (variable n r) → (next + i ≡ n)
    × (i < length (taken variable next ss))
taken_leaf next [] n r i at = absurd (cc at)
taken_leaf next (s ∷ ss) n r zero at =
    let same : variable next s ≡ variable n r = some_value at in
    let number : next ≡ n = cc same in
    (omega arith, omega arith)
taken_leaf next (s ∷ ss) n r (suc i) at =
    let rest : (suc next + i ≡ n) × (i < length (taken variable (suc next) ss)) = taken_leaf (suc next) ss n r i at in
    (omega (arith, rest.0), omega (arith, rest.1))

taken_below : (ss : List ℕ) (n r : ℕ) → IsLeaf (taken variable 0 ss) n r → n < length (taken variable 0 ss)
taken_below ss n r (i, at) = let own : (0 + i ≡ n) × (i < length (taken variable 0 ss)) = taken_leaf 0 ss n r i at in
    omega (arith, own.0, own.1)

taken_one_sort : (ss : List ℕ) (n r s : ℕ) → IsLeaf (taken variable 0 ss) n r → IsLeaf (taken variable 0 ss) n s → r ≡ s
taken_one_sort ss n r s (i, at) (j, at') =
    let own : (0 + i ≡ n) × (i < length (taken variable 0 ss)) = taken_leaf 0 ss n r i at in
    let other : (0 + j ≡ n) × (j < length (taken variable 0 ss)) = taken_leaf 0 ss n s j at' in
    let same : variable n r ≡ variable n s = some_value (sym at ∙ (ap (slice_get (taken variable 0 ss)) (let e : i ≡ j =
    omega (arith, own.0, other.0) in e) ∙ at')) in
    cc same

-- A draft that is in order, with the sorts of its leaves.
pub record FineDraft (data_ : Data) (draft : Draft) : Type 0 where
  pub sorts : List ℕ
  pub order : IsInOrder data_.signature draft
  pub leaves : draft.leaves ≡ taken variable 0 sorts
  pub are_sorts : variable_sorts draft.leaves ≡ sorts

made_fine : (data_ : Data) (canon : Term → Term) (specification : Specification) (b : Behaviour) → AreOver data_ canon specification b
    → (shape : Shape) (m : Move) → move_of (record {
      signature = data_.signature;
      represent = canon;
      processes =
          specification.processes;
    }) (leaves_from (first_apart specification.processes b)) shape 0 b ≡ Some m
    → FineDraft data_ (draft_by shape (first_apart specification.processes b) m)
made_fine data_ canon specification b over shape m e =
    let base : ℕ = first_apart specification.processes b in
    let le_processes : above_processes specification.processes ≤ base = omega arith in
    let le_b : above b ≤ base = omega arith in
    let x : Side = loose canon base in
    let y : Side = formal canon base m.sorts in
    let are_sorts : Every (IsSort data_.signature) m.sorts =
    move_sorts data_ base specification.processes x (canon_represents data_ canon over.is_canon) (loose_leaf data_ canon base)
    (bodies_of data_ base x x specification over.well_formed le_processes) shape 0 b b
    (same_beside data_ base x x _ specification.processes [] b (low_nothing data_ base) le_b over.closed) m e in
    let answer : Answer data_ base specification.processes y y
    (move_of (setting_of data_ base specification.processes y) y.leaves shape 0 b) m =
    follows data_ base specification.processes y y (canon_represents data_ canon over.is_canon)
    (canon_represents data_ canon over.is_canon) (bodies_of data_ base y y specification over.well_formed le_processes) shape 0 b b
    (same_beside data_ base y y _ specification.processes [] b (low_nothing data_ base) le_b over.closed) m e
    (formal_leaves data_ canon specification.processes base m.sorts 0 m.sorts are_sorts
    (λ i s at. subst (λ (k : ℕ). slice_get m.sorts k ≡ Some s) (let h : i ≡ 0 + i = omega arith in h) at)) in
    record {
      sorts = m.sorts;
      order = record {
        values = fine_label data_ canon base m.sorts answer.2.label;
        leaves = subst (Every (IsDraftTerm data_.signature (map (substituted (numbered_from_zero base))
            (taken (leaves_from base) 0 m.sorts)))) (sym (numbered-taken base 0 m.sorts))
            (fine_taken data_ canon base m.sorts 0 m.sorts are_sorts
            (λ i s at. subst (λ (k : ℕ). slice_get m.sorts k ≡ Some s) (let h : i ≡ 0 + i = omega arith in h) at));
        conditions = fine_asked data_ canon base m.sorts answer.2.asked;
        below = subst (λ (ts : List Term). (n s : ℕ) → IsLeaf ts n s → n < length ts) (sym (numbered-taken base 0 m.sorts))
            (taken_below m.sorts);
        one_sort = subst (λ (ts : List Term). (n r s : ℕ) → IsLeaf ts n r → IsLeaf ts n s → r ≡ s) (sym (numbered-taken base 0 m.sorts))
            (taken_one_sort m.sorts);
      };
      leaves = numbered-taken base 0 m.sorts;
      are_sorts = draft_sorts shape base m;
    }

pub fine_draft : (data_ : Data) (canon : Term → Term) (specification : Specification) (b : Behaviour) → AreOver data_ canon specification b
    → (shape : Shape) (draft : Draft) → draft_of data_ canon specification.processes shape b ≡ Some draft → FineDraft data_ draft
fine_draft data_ canon specification b over shape draft e =
    let base : ℕ = first_apart specification.processes b in
    let setting : Setting = record { signature = data_.signature; represent = canon; processes = specification.processes } in
    let from : (m : Move) × (move_of setting (leaves_from base) shape 0 b ≡ Some m)
    × (draft_by shape base m ≡ draft) = mapped (draft_by shape base) (move_of setting (leaves_from base) shape 0 b) e in
    subst (FineDraft data_) from.2 (made_fine data_ canon specification b over shape from.0 from.1)

pub shape_of_draft : (data_ : Data) (canon : Term → Term) (processes : List Process) (shape : Shape) (b : Behaviour) (draft : Draft)
    → draft_of data_ canon processes shape b ≡ Some draft → draft.shape ≡ shape
shape_of_draft data_ canon processes shape b draft e =
    let base : ℕ = first_apart processes b in
    let setting : Setting = record { signature = data_.signature; represent = canon; processes = processes } in
    let from : (m : Move) × (move_of setting (leaves_from base) shape 0 b ≡ Some m)
    × (draft_by shape base m ≡ draft) = mapped (draft_by shape base) (move_of setting (leaves_from base) shape 0 b) e in
    ap (λ (d : Draft). d.shape) (sym from.2)

-- The values that leaves give the variables of such a draft are these leaves, by their numbers.
values_by_number : (signature : Signature) (next : ℕ) (ss : List ℕ) (vs : List Term) (n r : ℕ) → AreValues signature ss vs
    → n < length ss → values_from (taken variable next ss) vs (next + n) r ≡ leaves_in vs n r
values_by_number signature next [] vs n r values lt = absurd (omega arith)
values_by_number signature next (s ∷ ss) [] n r values lt = absurd values
values_by_number signature next (s ∷ ss) (v ∷ vs) zero r values lt =
    let here : nat_eq next (next + zero) ≡ true = eq-eqb next (next + zero) (let e : next ≡ next + zero = omega arith in e) in
    rw here refl
values_by_number signature next (s ∷ ss) (v ∷ vs) (suc n) r values lt =
    let other : nat_eq next (next + suc n) ≡ false = ne_eqb next (next + suc n) (λ e. omega arith) in
    let rest : values_from (taken variable (suc next) ss) vs (suc next + n) r ≡ leaves_in vs n r =
    values_by_number signature (suc next) ss vs n r values.1 (omega arith) in
    rw other (ap (λ (k : ℕ). values_from (taken variable (suc next) ss) vs k r) (let e : next + suc n ≡ suc next + n = omega arith in e)
    ∙ rest)

length_taken : (next : ℕ) (ss : List ℕ) → length (taken variable next ss) ≡ length ss
length_taken next [] = refl
length_taken next (s ∷ ss) = ap suc (length_taken (suc next) ss)

ground_values : (data_ : Data) (next : ℕ) (ss : List ℕ) (vs : List Term) → AreGroundLeaves data_.signature (taken variable next ss) vs
    → AreValues data_.signature ss vs
ground_values data_ next [] [] h = tt
ground_values data_ next [] (v ∷ vs) h = absurd h
ground_values data_ next (s ∷ ss) [] h = absurd h
ground_values data_ next (s ∷ ss) (v ∷ vs) h =
    let own : HasSort data_.signature (variable next s) h.0.0 = h.0.1 in
    (subst (λ (q : ℕ). IsGroundOf data_.signature q v) (sym own.0) h.0.2, ground_values data_ (suc next) ss vs h.1)

values_ground : (signature : Signature) (leaves : List Term) (next : ℕ) (ss : List ℕ) (vs : List Term)
    → Every (IsDraftTerm signature leaves) (taken variable next ss) → AreValues signature ss vs
    → AreGroundLeaves signature (taken variable next ss) vs
values_ground signature leaves next [] [] sorted h = tt
values_ground signature leaves next [] (v ∷ vs) sorted h = absurd h
values_ground signature leaves next (s ∷ ss) [] sorted h = absurd h
values_ground signature leaves next (s ∷ ss) (v ∷ vs) sorted h =
    let own : HasSort signature (variable next s) sorted.0.0 = sorted.0.1.sorted in
    ((sorted.0.0, own, subst (λ (q : ℕ). IsGroundOf signature q v) own.0 h.0), values_ground signature leaves (suc next) ss vs sorted.1 h.1)

module _ (data_ : Data) (draft : Draft) (f : FineDraft data_ draft) (vs : List Term) where
  by_number : AreValues data_.signature f.sorts vs → (n r : ℕ) → IsLeaf draft.leaves n r
      → values_from draft.leaves vs n r ≡ leaves_in vs n r
  by_number values n r leaf =
      let lt : n < length draft.leaves = f.order.below n r leaf in
      let long : length draft.leaves ≡ length f.sorts = ap length f.leaves ∙ length_taken 0 f.sorts in
      ap (λ (ts : List Term). values_from ts vs n r) f.leaves
      ∙ (ap (λ (k : ℕ). values_from (taken variable 0 f.sorts) vs k r) (let e : n ≡ 0 + n = omega arith in e)
      ∙ values_by_number data_.signature 0 f.sorts vs n r values (omega (arith, lt, long)))

  pub given_equal : AreValues data_.signature f.sorts vs → (n r : ℕ) → IsLeaf draft.leaves n r
      → Equal data_ (values_from draft.leaves vs n r) (leaves_in vs n r)
  given_equal values n r leaf = equal_same data_ _ _ (by_number values n r leaf)

  map_taken : (values : Substitution) (next : ℕ) (ss : List ℕ) → map (substituted values) (taken variable next ss) ≡ taken values next ss
  map_taken values next [] = refl
  map_taken values next (s ∷ ss) = ap (λ (ts : List Term). values next s ∷ ts) (map_taken values (suc next) ss)

  -- leaves that meet the draft of a shape meet it as a draft in order, and the other way round
  pub meets_leaves : MeetsDraft data_ draft vs → LeavesMeet data_ draft vs
  meets_leaves meets =
      let values : AreValues data_.signature f.sorts vs = subst (λ (ss : List ℕ). AreValues data_.signature ss vs) f.are_sorts
      meets.sorted in
      let leaves : EqualTerms data_ (map (substituted (leaves_in vs)) draft.leaves) vs =
      equal_terms_same data_ _ _ (ap (map (substituted (leaves_in vs))) f.leaves
      ∙ (map_taken (leaves_in vs) 0 f.sorts ∙ taken-supplied data_.signature (leaves_in vs) 0 f.sorts vs values
      (Supplies-leaves_in vs))) in
      record {
        ground = subst (λ (ts : List Term). AreGroundLeaves data_.signature ts vs) (sym f.leaves)
            (values_ground data_.signature draft.leaves 0 f.sorts vs (subst
            (Every (IsDraftTerm data_.signature draft.leaves)) f.leaves f.order.leaves) values);
        agree = equal_terms_then data_ _ _ _ (alike_terms data_ draft.leaves (values_from draft.leaves vs) (leaves_in vs)
            (given_equal values) draft.leaves f.order.leaves) leaves;
        met = alike_hold data_ draft.leaves (values_from draft.leaves vs) (leaves_in vs)
            (given_equal values) draft.conditions f.order.conditions meets.met;
      }

  pub values_of : LeavesMeet data_ draft vs → AreValues data_.signature f.sorts vs
  values_of meets = ground_values data_ 0 f.sorts vs (subst (λ (ts : List Term). AreGroundLeaves data_.signature ts vs) f.leaves
      meets.ground)

  pub leaves_meets : LeavesMeet data_ draft vs → MeetsDraft data_ draft vs
  leaves_meets meets = record {
    sorted = subst (λ (ss : List ℕ). AreValues data_.signature ss vs) (sym f.are_sorts) (values_of meets);
    met = alike_hold data_ draft.leaves (leaves_in vs) (values_from draft.leaves vs)
        (λ n r leaf. equal_back (given_equal (values_of meets) n r leaf)) draft.conditions f.order.conditions meets.met;
  }

  pub label_by_number : LeavesMeet data_ draft vs → EqualLabels data_ (label_from draft vs) (label_with (leaves_in vs) draft.label)
  label_by_number meets = alike_label data_ draft.leaves (values_from draft.leaves vs) (leaves_in vs)
      (given_equal (values_of meets)) draft.label f.order.values

-- A variable stands at the leaf of its number.
pub own_number : (data_ : Data) (draft : Draft) → FineDraft data_ draft → (n r : ℕ) → IsLeaf draft.leaves n r
    → slice_get draft.leaves n ≡ Some (variable n r)
own_number data_ draft f n r (i, at) =
    let own : (0 + i ≡ n) × (i < length (taken variable 0 f.sorts)) =
    taken_leaf 0 f.sorts n r i (subst (λ (ts : List Term). slice_get ts i ≡ Some (variable n r)) f.leaves at) in
    subst (λ (k : ℕ). slice_get draft.leaves k ≡ Some (variable n r)) (let e : i ≡ n = omega (arith, own.0) in e) at
