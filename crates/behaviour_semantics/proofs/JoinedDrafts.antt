-- The draft of both sides of a parallel is the join of the drafts of the two sides.
use Rattle.std.proofs.Common.{◌≡◌, ◌≤◌, ℕ, suc, ◌+◌, ◌-◌, List, [], ◌∷◌, ◌++◌, length, map, Bool, true, false, ◌&&◌, nat_eq, if◌then◌else◌, Option, None, Some, option_map, option_and_then, refl, ap, sym, ◌∙◌, arith, le-ltb}
use Rattle.std.proofs.lemmas.List.{map-append}
use Rattle.std.proofs.Math.Nat.{le_refl}
use Rattle.lotos_base.specs.Signature.{Signature}
use Rattle.lotos_base.specs.Term.{Term, variable, node}
use Rattle.lotos_base.specs.Sorting.{head_sort_of}
use Rattle.lotos_base.specs.Equation.{Data}
use Rattle.lotos_base.specs.Substitution.{Substitution, substituted, followed_by, renaming}
use Rattle.lotos_base.proofs.SubstitutionLemmas.{substituted_twice, substituted_agree}
use Rattle.behaviour_semantics.specs.Behaviour.{Behaviour, parallel, Test, SynchronisationSet, all_gates, Specification}
use Rattle.behaviour_semantics.specs.Label.{Label, inner_event, gate_event, exit_event}
use Rattle.behaviour_semantics.specs.Replacement.{test_with}
use Rattle.behaviour_semantics.specs.Rule.{is_same_known_sort, synchronises, have_same_sorts, move_together, label_values, pairwise}
use Rattle.behaviour_semantics.specs.Shape.{Shape, both_sides}
use Rattle.behaviour_semantics.specs.Move.{Move, taken, together}
use Rattle.behaviour_semantics.specs.Draft.{Draft, draft_of, draft_by, draft_with, label_with, leaves_from, numbered_from_zero, above, above_processes, first_apart}
use Rattle.behaviour_semantics.specs.Join.{move_with, raised_from, raised, both_drafts, meets_with}
use Rattle.behaviour_semantics.specs.NumberingLaws.{open_move, joined_at}
use Rattle.behaviour_semantics.specs.WellFormed.{Every, AreOver}
use Rattle.behaviour_semantics.proofs.DraftLemmas.{numbered-taken}
use Rattle.behaviour_semantics.proofs.DraftsInOrder.{label_values-with}
use Rattle.behaviour_semantics.proofs.SameBehaviours.{low_nothing, same_beside}
use Rattle.behaviour_semantics.proofs.RaisedTerms.{IsFar, AreFar, pairwise-with}
use Rattle.behaviour_semantics.proofs.RaisedMoves.{open_side, far_move}
use Rattle.behaviour_semantics.proofs.RaisedDrafts.{later_leaf, same_drafts}

-- Renamed values have the sorts that they had.
module _ (signature : Signature) where
  sort_renamed : (f : ℕ → ℕ → ℕ) (t : Term) → head_sort_of signature (substituted (renaming f) t) ≡ head_sort_of signature t
  sort_renamed f (variable n s) = refl
  sort_renamed f (node g ts) = refl

  right_renamed : (f : ℕ → ℕ → ℕ) (ts us : List Term) → have_same_sorts signature ts (map (substituted (renaming f)) us)
      ≡ have_same_sorts signature ts us
  right_renamed f [] [] = refl
  right_renamed f [] (u ∷ us) = refl
  right_renamed f (t ∷ ts) [] = refl
  right_renamed f (t ∷ ts) (u ∷ us) =
      ap (λ (o : Option ℕ). is_same_known_sort (head_sort_of signature t) o
      && have_same_sorts signature ts (map (substituted (renaming f)) us))
      (sort_renamed f u)
      ∙ ap (λ (b : Bool). is_same_known_sort (head_sort_of signature t) (head_sort_of signature u) && b) (right_renamed f ts us)

  left_renamed : (f : ℕ → ℕ → ℕ) (ts us : List Term) → have_same_sorts signature (map (substituted (renaming f)) ts) us
      ≡ have_same_sorts signature ts us
  left_renamed f [] [] = refl
  left_renamed f [] (u ∷ us) = refl
  left_renamed f (t ∷ ts) [] = refl
  left_renamed f (t ∷ ts) (u ∷ us) =
      ap (λ (o : Option ℕ). is_same_known_sort o (head_sort_of signature u)
      && have_same_sorts signature (map (substituted (renaming f)) ts) us)
      (sort_renamed f t)
      ∙ ap (λ (b : Bool). is_same_known_sort (head_sort_of signature t) (head_sort_of signature u) && b) (left_renamed f ts us)

  together_right : (f : ℕ → ℕ → ℕ) (meet : SynchronisationSet) (label other : Label)
      → move_together signature meet label (label_with (renaming f) other) ≡ move_together signature meet label other
  together_right f meet inner_event other = refl
  together_right f meet (gate_event g ts) inner_event = refl
  together_right f meet (gate_event g ts) (gate_event h us) = ap (λ (b : Bool). nat_eq g h && synchronises meet g && b)
      (right_renamed f ts us)
  together_right f meet (gate_event g ts) (exit_event us) = refl
  together_right f meet (exit_event ts) inner_event = refl
  together_right f meet (exit_event ts) (gate_event h us) = refl
  together_right f meet (exit_event ts) (exit_event us) = right_renamed f ts us

  together_left : (f : ℕ → ℕ → ℕ) (meet : SynchronisationSet) (label other : Label)
      → move_together signature meet (label_with (renaming f) label) other ≡ move_together signature meet label other
  together_left f meet inner_event other = refl
  together_left f meet (gate_event g ts) inner_event = refl
  together_left f meet (gate_event g ts) (gate_event h us) = ap (λ (b : Bool). nat_eq g h && synchronises meet g && b)
      (left_renamed f ts us)
  together_left f meet (gate_event g ts) (exit_event us) = refl
  together_left f meet (exit_event ts) inner_event = refl
  together_left f meet (exit_event ts) (gate_event h us) = refl
  together_left f meet (exit_event ts) (exit_event us) = left_renamed f ts us

  -- Where the sides meet with the label, they move together as they would with all gates.
  three : (a b c : Bool) → (a && b && c) ≡ (b && (a && true && c))
  three true true c = refl
  three true false c = refl
  three false true c = refl
  three false false c = refl

  together_met : (meet : SynchronisationSet) (label other : Label) → move_together signature meet label other ≡
      (meets_with meet label && move_together signature all_gates label other)
  together_met meet inner_event other = refl
  together_met meet (gate_event g ts) inner_event = never (synchronises meet g)
    where
      never : (b : Bool) → false ≡ (b && false)
      never true = refl
      never false = refl
  together_met meet (gate_event g ts) (gate_event h us) = three (nat_eq g h) (synchronises meet g) (have_same_sorts signature ts us)
  together_met meet (gate_event g ts) (exit_event us) = never (synchronises meet g)
    where
      never : (b : Bool) → false ≡ (b && false)
      never true = refl
      never false = refl
  together_met meet (exit_event ts) inner_event = refl
  together_met meet (exit_event ts) (gate_event h us) = refl
  together_met meet (exit_event ts) (exit_event us) = refl

meets-with : (values : Substitution) (meet : SynchronisationSet) (label : Label)
    → meets_with meet (label_with values label) ≡ meets_with meet label
meets-with values meet inner_event = refl
meets-with values meet (gate_event g ts) = refl
meets-with values meet (exit_event ts) = refl

both_tests : {X Y : Type 0} (f : X → Y) (a b : Bool) (x : X) → option_map f (if a && b then Some x else None) ≡ (if a then if b then
    Some (f x) else None else None)
both_tests f true true x = refl
both_tests f true false x = refl
both_tests f false true x = refl
both_tests f false false x = refl

-- Leaves of both sides.
taken-append : (next : ℕ) (ss rs : List ℕ) → taken variable next (ss ++ rs) ≡ taken variable next ss ++ taken variable (next + length ss) rs
taken-append next [] rs = ap (λ (n : ℕ). taken variable n rs) (let e : next ≡ next + 0 = omega arith in e)
taken-append next (s ∷ ss) rs =
    ap (λ (ts : List Term). variable next s ∷ ts) (taken-append (suc next) ss rs)
    ∙ ap (λ (n : ℕ). variable next s ∷ (taken variable (suc next) ss ++ taken variable n rs))
    (let e : suc next + length ss ≡ next + suc (length ss) = omega arith in e)

taken-raised : (count next : ℕ) (sorts : List ℕ) → map (substituted (raised count)) (taken variable next sorts) ≡ taken variable
    (next + count) sorts
taken-raised count next [] = refl
taken-raised count next (s ∷ sorts) =
    ap (λ (ts : List Term). variable (next + count) s ∷ ts) (taken-raised count (suc next) sorts)
    ∙ ap (λ (n : ℕ). variable (next + count) s ∷ taken variable n sorts) (let e : suc next + count ≡ suc (next + count) = omega arith in e)

length-taken : (next : ℕ) (sorts : List ℕ) → length (taken variable next sorts) ≡ length sorts
length-taken next [] = refl
length-taken next (s ∷ sorts) = ap suc (length-taken (suc next) sorts)

-- Far terms: raised and then numbered from zero, or the other way round.
module _ (base count : ℕ) where
  far_term : (t : Term) → IsFar base t → substituted (numbered_from_zero base) (substituted (raised_from base count) t) ≡ substituted
      (raised count) (substituted (numbered_from_zero base) t)
  far_term t far =
      substituted_twice (raised_from base count) (numbered_from_zero base) t
      ∙ (substituted_agree (followed_by (raised_from base count) (numbered_from_zero base))
      (followed_by (numbered_from_zero base) (raised count)) t
      (λ n s o.
      let le : base ≤ n = far n s o in
      ap (λ (b : Bool). variable ((if b then n else n + count) - base) s) (le-ltb n base le)
      ∙ ap (λ (k : ℕ). variable k s) (let e : (n + count) - base ≡ (n - base) + count = omega (arith, le) in e))
      ∙ sym (substituted_twice (numbered_from_zero base) (raised count) t))

  far_terms : (ts : List Term) → AreFar base ts → map (substituted (numbered_from_zero base))
      (map (substituted (raised_from base count)) ts) ≡ map (substituted (raised count))
      (map (substituted (numbered_from_zero base)) ts)
  far_terms [] h = refl
  far_terms (t ∷ ts) h =
      ap (λ (u : Term). u ∷ map (substituted (numbered_from_zero base)) (map (substituted (raised_from base count)) ts)) (far_term t h.0)
      ∙ ap (λ (us : List Term). substituted (raised count) (substituted (numbered_from_zero base) t) ∷ us) (far_terms ts h.1)

  abbrev FarTests : List Test → Type 0
  FarTests tests = Every (λ (test : Test). IsFar base test.left × IsFar base test.right) tests

  far_tests : (tests : List Test) → FarTests tests → map (test_with (numbered_from_zero base))
      (map (test_with (raised_from base count)) tests) ≡ map (test_with (raised count))
      (map (test_with (numbered_from_zero base)) tests)
  far_tests [] h = refl
  far_tests (test ∷ tests) h =
      let left : _ ≡ _ = far_term test.left h.0.0 in
      let right : _ ≡ _ = far_term test.right h.0.1 in
      let rest : map (test_with (numbered_from_zero base)) (map (test_with (raised_from base count)) tests) ≡ map
      (test_with (raised count)) (map (test_with (numbered_from_zero base)) tests) = far_tests tests h.1 in
      λ i. record { left = left i; right = right i } ∷ rest i

-- The drafts of two moves, and that of the move of both sides.
module _ (base : ℕ) (s t : Shape) (meet : SynchronisationSet) (m n : Move) where
  abbrev count : ℕ
  count = length m.sorts

  abbrev zeroed : Substitution
  zeroed = numbered_from_zero base

  -- the right move, with its leaves behind those of the left one
  abbrev later : Move
  later = move_with (raised_from base count) n

  abbrev whole : Move
  whole = record {
    label = m.label;
    target = parallel meet m.target later.target;
    asked = m.asked ++ later.asked ++ pairwise (label_values m.label) (label_values later.label);
    sorts = m.sorts ++ n.sorts;
  }

  module _ (far_values : AreFar base (label_values n.label)) (far_asked : Every (λ (test : Test). IsFar base test.left
      × IsFar base test.right) n.asked) where
    whole_leaves : map (substituted zeroed) (taken (leaves_from base) 0 (m.sorts ++ n.sorts)) ≡ map (substituted zeroed)
        (taken (leaves_from base) 0 m.sorts) ++ map (substituted (raised count))
        (map (substituted zeroed) (taken (leaves_from base) 0 n.sorts))
    whole_leaves =
        numbered-taken base 0 (m.sorts ++ n.sorts)
        ∙ (taken-append 0 m.sorts n.sorts
        ∙ sym (ap (λ (ts : List Term). ts ++ map (substituted (raised count))
        (map (substituted zeroed) (taken (leaves_from base) 0 n.sorts))) (numbered-taken base 0 m.sorts)
        ∙ ap (λ (ts : List Term). taken variable 0 m.sorts ++ ts) (ap (map (substituted (raised count))) (numbered-taken base 0 n.sorts)
        ∙ taken-raised count 0 n.sorts)))

    right_values : map (substituted zeroed) (label_values (label_with (raised_from base count) n.label)) ≡ label_values
        (label_with (raised count) (label_with zeroed n.label))
    right_values =
        ap (map (substituted zeroed)) (label_values-with (raised_from base count) n.label)
        ∙ (far_terms base count (label_values n.label) far_values
        ∙ sym (label_values-with (raised count) (label_with zeroed n.label)
        ∙ ap (map (substituted (raised count))) (label_values-with zeroed n.label)))

    whole_pairs : map (test_with zeroed) (pairwise (label_values m.label) (label_values later.label)) ≡ pairwise
        (label_values (label_with zeroed m.label)) (label_values (label_with (raised count) (label_with zeroed n.label)))
    whole_pairs =
        sym (pairwise-with zeroed (label_values m.label) (label_values later.label))
        ∙ (ap (λ (ts : List Term). pairwise ts (map (substituted zeroed) (label_values later.label)))
        (sym (label_values-with zeroed m.label))
        ∙ ap (pairwise (label_values (label_with zeroed m.label))) right_values)

    whole_conditions : map (test_with zeroed) whole.asked ≡ map (test_with zeroed) m.asked ++ map (test_with (raised count))
        (map (test_with zeroed) n.asked) ++ pairwise (label_values (label_with zeroed m.label))
        (label_values (label_with (raised count) (label_with zeroed n.label)))
    whole_conditions =
        map-append (test_with zeroed) (m.asked ++ later.asked) (pairwise (label_values m.label) (label_values later.label))
        ∙ (ap (λ (tests : List Test). tests ++ map (test_with zeroed) (pairwise (label_values m.label) (label_values later.label)))
        (map-append (test_with zeroed) m.asked later.asked)
        ∙ (ap (λ (tests : List Test). map (test_with zeroed) m.asked ++ tests ++ map (test_with zeroed)
        (pairwise (label_values m.label) (label_values later.label))) (far_tests base count n.asked far_asked)
        ∙ ap (λ (tests : List Test). map (test_with zeroed) m.asked ++ map (test_with (raised count)) (map (test_with zeroed) n.asked)
        ++ tests) whole_pairs))

    leaf_count : length (draft_by s base m).leaves ≡ count
    leaf_count = ap length (numbered-taken base 0 m.sorts) ∙ length-taken 0 m.sorts

    pub whole_draft : draft_by (both_sides s t) base whole ≡ both_drafts (draft_by s base m)
        (draft_with (raised (length (draft_by s base m).leaves)) (draft_by t base n))
    whole_draft =
        (λ i. record {
          shape = both_sides s t;
          label = label_with zeroed m.label;
          leaves = whole_leaves i;
          conditions =
              whole_conditions i;
        })
        ∙ ap (λ (k : ℕ). both_drafts (draft_by s base m) (draft_with (raised k) (draft_by t base n))) (sym leaf_count)

  module _ (data_ : Data) (far_values : AreFar base (label_values n.label))
      (far_asked : Every (λ (test : Test). IsFar base test.left × IsFar base test.right) n.asked) where
    pub joined_draft : option_map (draft_by (both_sides s t) base) (together data_.signature meet m later) ≡ joined_at data_ meet
        (draft_by s base m) (draft_by t base n)
    joined_draft =
        let right_label : move_together data_.signature all_gates m.label later.label ≡ move_together data_.signature all_gates
        (label_with zeroed m.label) (label_with zeroed n.label) =
        together_right data_.signature _ all_gates m.label n.label
        ∙ sym (together_left data_.signature (λ k q. k - base) all_gates m.label (label_with zeroed n.label)
        ∙ together_right data_.signature (λ k q. k - base) all_gates m.label n.label) in
        ap (λ (b : Bool). option_map (draft_by (both_sides s t) base) (if b then Some whole else None))
        (together_met data_.signature meet m.label later.label)
        ∙ (both_tests (draft_by (both_sides s t) base) (meets_with meet m.label)
        (move_together data_.signature all_gates m.label later.label) whole
        ∙ (ap (λ (b : Bool). if b then if move_together data_.signature all_gates m.label later.label then
        Some (draft_by (both_sides s t) base whole) else None else None) (sym (meets-with zeroed meet m.label))
        ∙ (ap (λ (b : Bool). if meets_with meet (label_with zeroed m.label) then if b then
        Some (draft_by (both_sides s t) base whole) else None else None) right_label
        ∙ ap (λ (d : Draft). if meets_with meet (label_with zeroed m.label) then
        if move_together data_.signature all_gates (label_with zeroed m.label) (label_with zeroed n.label) then Some d else
        None else None) (whole_draft far_values far_asked))))

module _ (data_ : Data) (canon : Term → Term) (specification : Specification) (meet : SynchronisationSet) (b c : Behaviour)
    (over : AreOver data_ canon specification (parallel meet b c)) (s t : Shape) where
  abbrev base : ℕ
  base = first_apart specification.processes (parallel meet b c)

  over_left : AreOver data_ canon specification b
  over_left = record { signature = over.signature; is_canon = over.is_canon; well_formed = over.well_formed; closed = over.closed.1 }

  over_right : AreOver data_ canon specification c
  over_right = record { signature = over.signature; is_canon = over.is_canon; well_formed = over.well_formed; closed = over.closed.2 }

  abbrev rights : ℕ → Option Move
  rights next = open_move data_ canon specification.processes base t next c

  le_processes : above_processes specification.processes ≤ base
  le_processes = omega arith

  le_left : first_apart specification.processes b ≤ base
  le_left = omega arith

  le_right : first_apart specification.processes c ≤ base
  le_right = omega arith

  le_above : above c ≤ base
  le_above = omega arith

  far_right : (n : Move) → open_move data_ canon specification.processes base t 0 c ≡ Some n → AreFar base (label_values n.label)
      × Every (λ (test : Test). IsFar base test.left × IsFar base test.right) n.asked
  far_right n e =
      far_move data_ base base 0 (le_refl base) specification over.well_formed le_processes canon over.is_canon variable t 0 c c
      (same_beside data_ base (open_side data_ base base 0 (le_refl base) specification over.well_formed le_processes canon
      over.is_canon variable) (open_side data_ base base 0 (le_refl base) specification over.well_formed le_processes canon
      over.is_canon variable) _ specification.processes [] c (low_nothing data_ base) le_above over.closed.2) n e

  by_right : (m : Move) (o : Option Move) → open_move data_ canon specification.processes base t 0 c ≡ o
      → option_map (draft_by (both_sides s t) base) (option_and_then (together data_.signature meet m)
      (option_map (move_with (raised_from base (length m.sorts))) o)) ≡ option_and_then (joined_at data_ meet (draft_by s base m))
      (option_map (draft_by t base) o)
  by_right m None e = refl
  by_right m (Some n) e = let far : _ × _ = far_right n e in joined_draft base s t meet m n data_ far.0 far.1

  by_left : (o : Option Move) → option_map (draft_by (both_sides s t) base)
      (option_and_then (λ (m : Move). option_and_then (together data_.signature meet m) (rights (0 + length m.sorts))) o)
      ≡ option_and_then (λ (left : Draft). option_and_then (joined_at data_ meet left) (option_map (draft_by t base) (rights 0)))
      (option_map (draft_by s base) o)
  by_left None = refl
  by_left (Some m) =
      ap (λ (p : Option Move). option_map (draft_by (both_sides s t) base) (option_and_then (together data_.signature meet m) p))
      (later_leaf data_ canon specification c over_right base (length m.sorts) t 0 le_right)
      ∙ by_right m (rights 0) refl

  pub joined_drafts : draft_of data_ canon specification.processes (both_sides s t) (parallel meet b c) ≡ option_and_then
      (λ (left : Draft). option_and_then (joined_at data_ meet left) (draft_of data_ canon specification.processes t c))
      (draft_of data_ canon specification.processes s b)
  joined_drafts =
      by_left (open_move data_ canon specification.processes base s 0 b)
      ∙ sym (ap (option_and_then (λ (left : Draft). option_and_then (joined_at data_ meet left)
      (draft_of data_ canon specification.processes t c))) (same_drafts data_ canon specification b over_left base s le_left)
      ∙ ap (λ (o : Option Draft). option_and_then (λ (left : Draft). option_and_then (joined_at data_ meet left) o)
      (option_map (draft_by s base) (open_move data_ canon specification.processes base s 0 b)))
      (same_drafts data_ canon specification c over_right base t le_right))
