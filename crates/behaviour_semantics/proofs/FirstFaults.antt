-- The fault of a shape is the faulty node that comes first in preorder: by induction on the shape.
use Rattle.std.proofs.Common.{◌≡◌, ◌<◌, ◌≤◌, ◌⊎◌, inl, inr, ℕ, suc, ◌+◌, List, [], ◌∷◌, length, map, slice_get, Option, None, Some, option_and_then, refl, ap, sym, ◌∙◌, subst, arith}
use Rattle.lotos_base.proofs.Options.{mapped}
use Rattle.lotos_base.specs.Term.{Term}
use Rattle.lotos_base.specs.Equation.{Data}
use Rattle.lotos_base.specs.Canon.{IsCanon}
use Rattle.behaviour_semantics.specs.Behaviour.{Behaviour, guard, choice, parallel, hide, enable, disable, let_be, choose_value, choose_gate, call, relabel, SynchronisationSet, Process, Specification, let_variables, let_terms}
use Rattle.behaviour_semantics.specs.Replacement.{with_values, binding_of}
use Rattle.behaviour_semantics.specs.Shape.{Shape, act, quit, inner_step, guarded, left_side, right_side, both_sides, hidden, enabled, passed, let_bound, with_value, at_gate, called, relabelled}
use Rattle.behaviour_semantics.specs.Move.{Setting, Move, move_of, opened}
use Rattle.behaviour_semantics.specs.Derives.{leaves_in}
use Rattle.behaviour_semantics.specs.WellFormed.{AreTermsIn, IsDefinition, IsSpecification, IsClosedBehaviour, AreOver}
use Rattle.behaviour_semantics.specs.Fault.{Wrong, not_fitting, Fault, size, first_of_two, at_node, unless_there, guarded_part, left_part, right_part, both_part, hidden_part, enable_part, let_part, value_part, gate_part, called_part, relabelled_part, part_of, value_wrong, own_wrong, label_wrong, match_wrong, node_of, one_part, SidesFault, right_and_match, both_parts, fault_from}
use Rattle.behaviour_semantics.specs.FaultyNode.{NodePlace, part_shape, part_next, wrong_by_itself, IsPart, is_first_part, is_right_part, at_root, HasSoundMove, IsSoundMove, LabelsWrong, part_label, both_labels, IsFaulty, by_itself, by_labels}
use Rattle.behaviour_semantics.specs.FaultLaws.{kept_setting, root_of, IsFirstFault}
use Rattle.behaviour_semantics.proofs.OptionLemmas.{some_value}
use Rattle.behaviour_semantics.proofs.ListLemmas.{Every-at}
use Rattle.behaviour_semantics.proofs.SupplyLemmas.{AreValues-taken}
use Rattle.behaviour_semantics.proofs.PutTerms.{closed_by}
use Rattle.behaviour_semantics.proofs.ClosedTargets.{represented_terms, opened_closed}
use Rattle.behaviour_semantics.proofs.FaultParts.{leaves_right, Sound, Same, sound, faulty}
use Rattle.behaviour_semantics.proofs.FaultRows.{keeps, put_in}
use Rattle.behaviour_semantics.proofs.FaultLemmas.{supplied_taken, same_faults}
use Rattle.behaviour_semantics.proofs.FaultyNodes.{faulty_within, faulty_lifted, Faulty, itself, labels, below, faulty_from}

-- The right shape of both sides, and the right part of a parallel.
abbrev right_of : Shape → Shape
right_of (both_sides s t) = t
right_of s = s

abbrev meet_of : SynchronisationSet → Behaviour → SynchronisationSet
meet_of other (parallel meet b c) = meet
meet_of other b = other

abbrev other_of : Behaviour → Behaviour
other_of (parallel meet b c) = c
other_of b = b

module _ (data_ : Data) (specification : Specification) (well_formed : IsSpecification data_.signature specification) (canon : Term
    → Term) (is_canon : IsCanon data_ canon) (leaves : List Term) where
  abbrev kept : Setting
  kept = kept_setting data_ canon specification.processes

  abbrev FaultOf : NodePlace → Fault → Type 0
  FaultOf root g = IsFaulty data_ kept leaves root g

  -- There is no fault, or this one is the first.
  abbrev First : NodePlace → Option Fault → Type 0
  First root None = (g : Fault) → IsFaulty data_ kept leaves root g → ⊥
  First root (Some f) = IsFaulty data_ kept leaves root f × ((g : Fault) → IsFaulty data_ kept leaves root g → (g ≡ f) ⊎ (f.node < g.node))

  abbrev Closed : Behaviour → Type 0
  Closed b = IsClosedBehaviour data_.signature specification b

  to_sound : (next : ℕ) (m : Move) → IsSoundMove data_ leaves next m → Sound data_ leaves next m
  to_sound next m h = record {
    supplied = supplied_taken data_.signature (leaves_in leaves) next m.sorts h.values;
    enough = h.enough;
    holds = h.holds;
  }

  is_sound : (next : ℕ) (m : Move) → Sound data_ leaves next m → IsSoundMove data_ leaves next m
  is_sound next m h = record {
    enough = h.enough;
    values = AreValues-taken data_.signature (leaves_in leaves) next m.sorts h.supplied;
    holds = h.holds;
  }

  -- What is wrong at the first node by itself is its one fault.
  own_first : (root : NodePlace) (w : Wrong) → wrong_by_itself data_ kept leaves root ≡ Some w
      → First root (Some (record { node = root.number; wrong = w }))
  own_first root w e = (by_itself root w at_root e, λ g i. only g (faulty_from data_ kept leaves i))
    where
      only : (g : Fault) → Faulty data_ kept leaves root g → (g ≡ record { node = root.number; wrong = w }) ⊎ (root.number < g.node)
      only g (itself w' e') = inl (ap (λ (v : Wrong). record { node = root.number; wrong = v }) (some_value (sym e' ∙ e)))
      only g (labels w' none parts wrong) = let both : None ≡ Some w = sym none ∙ e in absurd (cc both)
      only g (below q g' none part i) = let both : None ≡ Some w = sym none ∙ e in absurd (cc both)

  -- A node without parts.
  leaf_first : (root : NodePlace) → part_shape root.shape ≡ None → ((r t : Shape) → root.shape ≡ both_sides r t → ⊥) → (w : Option Wrong)
      → wrong_by_itself data_ kept leaves root ≡ w → First root (at_node root.number w)
  leaf_first root no_part not_both (Some w) e = own_first root w e
  leaf_first root no_part not_both None e = λ g i. never g (faulty_from data_ kept leaves i)
    where
      no_label : (w : Wrong) → LabelsWrong data_ kept leaves root w → ⊥
      no_label w (part_label s b m w' e1 e2 e3 e4) = let both : None ≡ Some s = sym no_part ∙ e1 in cc both
      no_label w (both_labels s t meet b c m n w' e1 e2 e3 e4 e5) = not_both s t e1

      no_parts : (q : NodePlace) → IsPart data_ kept leaves root q → ⊥
      no_parts q (is_first_part s b e1 e2) = let both : None ≡ Some s = sym no_part ∙ e1 in cc both
      no_parts q (is_right_part s t meet b c m e1 e2 e3) = not_both s t e1

      never : (g : Fault) → Faulty data_ kept leaves root g → ⊥
      never g (itself w e') = let both : None ≡ Some w = sym e ∙ e' in cc both
      never g (labels w none parts wrong) = no_label w wrong
      never g (below q g' none part i) = no_parts q part

  -- A node with one part.
  module _ (root : NodePlace) (s : Shape) (part_is : part_shape root.shape ≡ Some s) (not_both : (r t : Shape) → root.shape ≡ both_sides r t
      → ⊥) (faults : Behaviour → Option Fault) where
    abbrev part_at : Behaviour → NodePlace
    part_at c = record { shape = s; number = suc root.number; next = part_next root.shape root.next; behaviour = c }

    abbrev moves : Behaviour → Option Move
    moves c = move_of kept (leaves_in leaves) s (part_next root.shape root.next) c

    the_part : (c : Behaviour) → part_of kept leaves root.shape root.next (opened root.behaviour) ≡ Some c → (q : NodePlace)
        → IsPart data_ kept leaves root q → q ≡ part_at c
    the_part c at q (is_first_part s' b' e1 e2) =
        let shapes : s' ≡ s = some_value (sym e1 ∙ part_is) in
        let behaviours : b' ≡ c = some_value (sym e2 ∙ at) in
        λ i. record { shape = shapes i; number = suc root.number; next = part_next root.shape root.next; behaviour = behaviours i }
    the_part c at q (is_right_part s' t meet b c' m e1 e2 e3) = absurd (not_both s' t e1)

    -- what is wrong with the label of the part's move
    the_label : (c : Behaviour) (m : Move) → part_of kept leaves root.shape root.next (opened root.behaviour) ≡ Some c
        → moves c ≡ Some m → (w : Wrong) → LabelsWrong data_ kept leaves root w
        → label_wrong kept root.shape (opened root.behaviour) m.label ≡ Some w
    the_label c m at mp w (part_label s' b' m' w' e1 e2 e3 e4) =
        let shapes : s' ≡ s = some_value (sym e1 ∙ part_is) in
        let behaviours : b' ≡ c = some_value (sym e2 ∙ at) in
        let there : move_of kept (leaves_in leaves) s (part_next root.shape root.next) c ≡ Some m' =
        subst (λ (r : Shape). move_of kept (leaves_in leaves) r (part_next root.shape root.next) c ≡ Some m') shapes
        (subst (λ (d : Behaviour). move_of kept (leaves_in leaves) s' (part_next root.shape root.next) d ≡ Some m') behaviours e3) in
        let same : m' ≡ m = some_value (sym there ∙ mp) in
        subst (λ (k : Move). label_wrong kept root.shape (opened root.behaviour) k.label ≡ Some w) same e4
    the_label c m at mp w (both_labels s' t meet b d m' n w' e1 e2 e3 e4 e5) = absurd (not_both s' t e1)

    no_part_none : part_of kept leaves root.shape root.next (opened root.behaviour) ≡ None
        → wrong_by_itself data_ kept leaves root ≡ None → (g : Fault) → FaultOf root g → ⊥
    no_part_none at e g i = never g (faulty_from data_ kept leaves i)
      where
        no_label : (w : Wrong) → LabelsWrong data_ kept leaves root w → ⊥
        no_label w (part_label s' b m w' e1 e2 e3 e4) = let both : None ≡ Some b = sym at ∙ e2 in cc both
        no_label w (both_labels s' t meet b c m n w' e1 e2 e3 e4 e5) = not_both s' t e1

        no_parts : (q : NodePlace) → IsPart data_ kept leaves root q → ⊥
        no_parts q (is_first_part s' b e1 e2) = let both : None ≡ Some b = sym at ∙ e2 in cc both
        no_parts q (is_right_part s' t meet b c m e1 e2 e3) = not_both s' t e1

        never : (h : Fault) → Faulty data_ kept leaves root h → ⊥
        never h (itself w e') = let both : None ≡ Some w = sym e ∙ e' in cc both
        never h (labels w none parts wrong) = no_label w wrong
        never h (below q h' none part j) = no_parts q part

    -- the label of a sound part
    label_first : (c : Behaviour) (m : Move) → wrong_by_itself data_ kept leaves root ≡ None
        → part_of kept leaves root.shape root.next (opened root.behaviour) ≡ Some c → moves c ≡ Some m
        → Sound data_ leaves (part_next root.shape root.next) m → ((g : Fault) → FaultOf (part_at c) g → ⊥) → (w : Option Wrong)
        → label_wrong kept root.shape (opened root.behaviour) m.label ≡ w → First root (at_node root.number w)
    label_first c m e at mp s_ none_below None lw = λ g i. never g (faulty_from data_ kept leaves i)
      where
        never : (h : Fault) → Faulty data_ kept leaves root h → ⊥
        never h (itself w e') = let both : None ≡ Some w = sym e ∙ e' in cc both
        never h (labels w none parts wrong) = let both : None ≡ Some w = sym lw ∙ the_label c m at mp w wrong in cc both
        never h (below q h' none part j) = none_below h (subst (λ (p : NodePlace). FaultOf p h) (the_part c at q part) j)
    label_first c m e at mp s_ none_below (Some w) lw = (
      by_labels root w at_root e (λ q part. subst (λ (p : NodePlace). HasSoundMove data_ kept leaves p) (sym (the_part c at q part)) (
        m,
        mp,
        is_sound (part_next root.shape root.next) m s_,
      )) (part_label s c m w part_is at mp lw),
      λ g i. only g (faulty_from data_ kept leaves i),
    )
      where
        only : (g : Fault) → Faulty data_ kept leaves root g → (g ≡ record { node = root.number; wrong = w }) ⊎ (root.number < g.node)
        only g (itself w' e') = let both : None ≡ Some w' = sym e ∙ e' in absurd (cc both)
        only g (labels w' none parts wrong) = inl (ap (λ (v : Wrong). record { node = root.number; wrong = v })
            (some_value (sym (the_label c m at mp w' wrong) ∙ lw)))
        only g (below q g' none part j) = absurd (none_below g (subst (λ (p : NodePlace). FaultOf p g) (the_part c at q part) j))

    part_first : (c : Behaviour) → wrong_by_itself data_ kept leaves root ≡ None
        → part_of kept leaves root.shape root.next (opened root.behaviour) ≡ Some c → {o : Option Fault} {p : Option Move}
        → Same data_ leaves (part_next root.shape root.next) o p → moves c ≡ p → First (part_at c) o
        → First root (first_of_two o (at_node root.number (option_and_then
        (λ (m : Move). label_wrong kept root.shape (opened root.behaviour) m.label) p)))
    part_first c e at (sound m s_) mp first = label_first c m e at mp s_ first
        (label_wrong kept root.shape (opened root.behaviour) m.label) refl
    part_first c e at (faulty f {o = p} none) mp first =
        (faulty_lifted data_ kept leaves e (is_first_part s c part_is at) first.0, λ g i. only g (faulty_from data_ kept leaves i))
      where
        only : (g : Fault) → Faulty data_ kept leaves root g → (g ≡ f) ⊎ (f.node < g.node)
        only g (itself w e') = let both : None ≡ Some w = sym e ∙ e' in absurd (cc both)
        only g (labels w none_ parts wrong) =
            let has : HasSoundMove data_ kept leaves (part_at c) = parts (part_at c) (is_first_part s c part_is at) in
            absurd (none has.0 (sym mp ∙ has.1) (to_sound (part_next root.shape root.next) has.0 has.2))
        only g (below q g' none_ part j) = first.1 g (subst (λ (r : NodePlace). FaultOf r g) (the_part c at q part) j)

    one_first : (w : Option Wrong) → wrong_by_itself data_ kept leaves root ≡ w → (o : Option Behaviour)
        → part_of kept leaves root.shape root.next (opened root.behaviour) ≡ o
        → ((c : Behaviour) → w ≡ None → o ≡ Some c → First (part_at c) (faults c)
        × Same data_ leaves (part_next root.shape root.next) (faults c) (moves c))
        → First root (one_part (record {
          number = root.number;
          own = w;
          part = o;
          label =
              label_wrong kept root.shape (opened root.behaviour);
        }) faults moves)
    one_first (Some w) e o at h = own_first root w e
    one_first None e None at h = no_part_none at e
    one_first None e (Some c) at h = let both : _ × _ = h c refl refl in part_first c e at both.1 refl both.0

  -- Both sides.
  module _ (s t : Shape) (node next : ℕ) (b : Behaviour) where
    abbrev whole : NodePlace
    whole = record { shape = both_sides s t; number = node; next = next; behaviour = b }

    module _ (meet : SynchronisationSet) (x y : Behaviour) (at : opened b ≡ parallel meet x y) where
      abbrev left : NodePlace
      left = record { shape = s; number = suc node; next = next; behaviour = x }

      abbrev right : Move → NodePlace
      right m = record { shape = t; number = suc (node + size s); next = next + length m.sorts; behaviour = y }

      abbrev lefts : Option Move
      lefts = move_of kept (leaves_in leaves) s next x

      abbrev rights : Move → Option Move
      rights m = move_of kept (leaves_in leaves) t (next + length m.sorts) y

      nothing_wrong : wrong_by_itself data_ kept leaves whole ≡ None
      nothing_wrong = ap (λ (d : Behaviour). unless_there (both_part d)) at

      left_is_part : IsPart data_ kept leaves whole left
      left_is_part = is_first_part s x refl (ap both_part at)

      right_is_part : (m : Move) → lefts ≡ Some m → IsPart data_ kept leaves whole (right m)
      right_is_part m mp = is_right_part s t meet x y m refl at mp

      abbrev IsRight : NodePlace → Type 0
      IsRight q = (m : Move) × (lefts ≡ Some m) × (q ≡ right m)

      left_or_right : (q : NodePlace) → IsPart data_ kept leaves whole q → (q ≡ left) ⊎ IsRight q
      left_or_right q (is_first_part s' b' e1 e2) =
          let shapes : s' ≡ s = some_value (sym e1) in
          let behaviours : b' ≡ x = some_value (sym e2 ∙ ap both_part at) in
          inl (λ i. record { shape = shapes i; number = suc node; next = next; behaviour = behaviours i })
      left_or_right q (is_right_part s' t' meet' b' c' m e1 e2 e3) =
          let shapes : s' ≡ s = some_value (sym (ap part_shape e1)) in
          let others : t' ≡ t = sym (ap right_of e1) in
          let pair : parallel meet' b' c' ≡ parallel meet x y = sym e2 ∙ at in
          let behaviours : b' ≡ x = some_value (ap both_part pair) in
          let right_ones : c' ≡ y = ap other_of pair in
          inr (
            m,
            subst (λ (r : Shape). move_of kept (leaves_in leaves) r next x ≡ Some m) shapes
                (subst (λ (d : Behaviour). move_of kept (leaves_in leaves) s' next d ≡ Some m) behaviours e3),
            λ i. record { shape = others i; number = suc (node + size (shapes i)); next = next + length m.sorts; behaviour = right_ones i },
          )

      -- what is wrong with the labels of the sides' moves
      the_match : (m n : Move) → lefts ≡ Some m → rights m ≡ Some n → (w : Wrong) → LabelsWrong data_ kept leaves whole w
          → match_wrong kept meet m.label n.label ≡ Some w
      the_match m n mp np w (part_label s' b' m' w' e1 e2 e3 e4) = let both : None ≡ Some w = e4 in absurd (cc both)
      the_match m n mp np w (both_labels s' t' meet' b' c' m' n' w' e1 e2 e3 e4 e5) =
          let shapes : s' ≡ s = some_value (sym (ap part_shape e1)) in
          let others : t' ≡ t = sym (ap right_of e1) in
          let pair : parallel meet' b' c' ≡ parallel meet x y = sym e2 ∙ at in
          let behaviours : b' ≡ x = some_value (ap both_part pair) in
          let right_ones : c' ≡ y = ap other_of pair in
          let meets : meet' ≡ meet = ap (meet_of meet) pair in
          let there : move_of kept (leaves_in leaves) s next x ≡ Some m' =
          subst (λ (r : Shape). move_of kept (leaves_in leaves) r next x ≡ Some m') shapes
          (subst (λ (d : Behaviour). move_of kept (leaves_in leaves) s' next d ≡ Some m') behaviours e3) in
          let same : m' ≡ m = some_value (sym there ∙ mp) in
          let there' : move_of kept (leaves_in leaves) t (next + length m'.sorts) y ≡ Some n' =
          subst (λ (r : Shape). move_of kept (leaves_in leaves) r (next + length m'.sorts) y ≡ Some n') others
          (subst (λ (d : Behaviour). move_of kept (leaves_in leaves) t' (next + length m'.sorts) d ≡ Some n') right_ones e4) in
          let there'' : rights m ≡ Some n' = subst (λ (k : Move). move_of kept (leaves_in leaves) t (next + length k.sorts) y ≡ Some n')
          same there' in
          let same' : n' ≡ n = some_value (sym there'' ∙ np) in
          subst (λ (k : Move). match_wrong kept meet k.label n.label ≡ Some w) same
          (subst (λ (k : Move). match_wrong kept meet m'.label k.label ≡ Some w) same'
          (subst (λ (z : SynchronisationSet). match_wrong kept z m'.label n'.label ≡ Some w) meets e5))

      the_right : (m : Move) → lefts ≡ Some m → (q : NodePlace) → IsRight q → q ≡ right m
      the_right m mp q r = let same : r.0 ≡ m = some_value (sym r.1 ∙ mp) in r.2 ∙ ap right same

      -- each fault of the whole, where none is on the left
      match_first : (m n : Move) → lefts ≡ Some m → rights m ≡ Some n → Sound data_ leaves next m
          → Sound data_ leaves (next + length m.sorts) n → ((g : Fault) → FaultOf left g → ⊥) → ((g : Fault) → FaultOf (right m) g → ⊥)
          → (w : Option Wrong) → match_wrong kept meet m.label n.label ≡ w → First whole (at_node node w)
      match_first m n mp np s_ t_ no_left no_right None lw = λ g i. never g (faulty_from data_ kept leaves i)
        where
          side : (h : Fault) (q : NodePlace) → FaultOf q h → (q ≡ left) ⊎ IsRight q → ⊥
          side h q j (inl same) = no_left h (subst (λ (p : NodePlace). FaultOf p h) same j)
          side h q j (inr r) = no_right h (subst (λ (p : NodePlace). FaultOf p h) (the_right m mp q r) j)

          never : (h : Fault) → Faulty data_ kept leaves whole h → ⊥
          never h (itself w e') = let both : None ≡ Some w = sym nothing_wrong ∙ e' in cc both
          never h (labels w none parts wrong) = let both : None ≡ Some w = sym lw ∙ the_match m n mp np w wrong in cc both
          never h (below q h' none part j) = side h q j (left_or_right q part)
      match_first m n mp np s_ t_ no_left no_right (Some w) lw = (
        by_labels whole w at_root nothing_wrong (λ q part. has q (left_or_right q part)) (both_labels s t meet x y m n w refl at mp np lw),
        λ g i. only g (faulty_from data_ kept leaves i),
      )
        where
          has : (q : NodePlace) → (q ≡ left) ⊎ IsRight q → HasSoundMove data_ kept leaves q
          has q (inl same) = subst (λ (p : NodePlace). HasSoundMove data_ kept leaves p) (sym same) (m, mp, is_sound next m s_)
          has q (inr r) = subst (λ (p : NodePlace). HasSoundMove data_ kept leaves p) (sym (the_right m mp q r)) (
            n,
            np,
            is_sound (next + length m.sorts) n t_,
          )

          side : (g : Fault) (q : NodePlace) → FaultOf q g → (q ≡ left) ⊎ IsRight q → ⊥
          side g q j (inl same) = no_left g (subst (λ (p : NodePlace). FaultOf p g) same j)
          side g q j (inr r) = no_right g (subst (λ (p : NodePlace). FaultOf p g) (the_right m mp q r) j)

          only : (g : Fault) → Faulty data_ kept leaves whole g → (g ≡ record { node = node; wrong = w }) ⊎ (node < g.node)
          only g (itself w' e') = let both : None ≡ Some w' = sym nothing_wrong ∙ e' in absurd (cc both)
          only g (labels w' none parts wrong) = inl (ap (λ (v : Wrong). record { node = node; wrong = v })
              (some_value (sym (the_match m n mp np w' wrong) ∙ lw)))
          only g (below q g' none part j) = absurd (side g q j (left_or_right q part))

      right_first : (m : Move) → lefts ≡ Some m → Sound data_ leaves next m → ((g : Fault) → FaultOf left g → ⊥)
          → {o : Option Fault} {p : Option Move} → Same data_ leaves (next + length m.sorts) o p → rights m ≡ p → First (right m) o
          → First whole (first_of_two o (at_node node (option_and_then (λ (n : Move). match_wrong kept meet m.label n.label) p)))
      right_first m mp s_ no_left (sound n t_) np first = match_first m n mp np s_ t_ no_left first
          (match_wrong kept meet m.label n.label) refl
      right_first m mp s_ no_left (faulty f {o = p} none) np first =
          (faulty_lifted data_ kept leaves nothing_wrong (right_is_part m mp) first.0, λ g i. only g (faulty_from data_ kept leaves i))
        where
          side : (g : Fault) (q : NodePlace) → FaultOf q g → (q ≡ left) ⊎ IsRight q → (g ≡ f) ⊎ (f.node < g.node)
          side g q j (inl same) = absurd (no_left g (subst (λ (r : NodePlace). FaultOf r g) same j))
          side g q j (inr r) = first.1 g (subst (λ (z : NodePlace). FaultOf z g) (the_right m mp q r) j)

          only : (g : Fault) → Faulty data_ kept leaves whole g → (g ≡ f) ⊎ (f.node < g.node)
          only g (itself w e') = let both : None ≡ Some w = sym nothing_wrong ∙ e' in absurd (cc both)
          only g (labels w none_ parts wrong) =
              let has : HasSoundMove data_ kept leaves (right m) = parts (right m) (right_is_part m mp) in
              absurd (none has.0 (sym np ∙ has.1) (to_sound (next + length m.sorts) has.0 has.2))
          only g (below q g' none_ part j) = side g q j (left_or_right q part)

      left_first : (rest : Move → Option Fault) → ((m : Move) → lefts ≡ Some m → Sound data_ leaves next m
          → ((g : Fault) → FaultOf left g → ⊥) → First whole (rest m)) → {o : Option Fault} {p : Option Move}
          → Same data_ leaves next o p → lefts ≡ p → First left o → First whole (first_of_two o (option_and_then rest p))
      left_first rest then_ (sound m s_) mp first = then_ m mp s_ first
      left_first rest then_ (faulty f {o = p} none) mp first =
          (faulty_lifted data_ kept leaves nothing_wrong left_is_part first.0, λ g i. only g (faulty_from data_ kept leaves i))
        where
          side : (g : Fault) (q : NodePlace) → FaultOf q g → (q ≡ left) ⊎ IsRight q → (g ≡ f) ⊎ (f.node < g.node)
          side g q j (inl same) = first.1 g (subst (λ (r : NodePlace). FaultOf r g) same j)
          side g q j (inr r) =
              let mine : (suc node ≤ f.node) × (f.node < suc node + size s) = faulty_within data_ kept leaves first.0 in
              let its : (q.number ≤ g.node) × (g.node < q.number + size q.shape) = faulty_within data_ kept leaves j in
              let number : q.number ≡ suc (node + size s) = ap (λ (z : NodePlace). z.number) r.2 in
              inr (omega (arith, mine.1, its.0, number))

          only : (g : Fault) → Faulty data_ kept leaves whole g → (g ≡ f) ⊎ (f.node < g.node)
          only g (itself w e') = let both : None ≡ Some w = sym nothing_wrong ∙ e' in absurd (cc both)
          only g (labels w none_ parts wrong) =
              let has : HasSoundMove data_ kept leaves left = parts left left_is_part in
              absurd (none has.0 (sym mp ∙ has.1) (to_sound next has.0 has.2))
          only g (below q g' none_ part j) = side g q j (left_or_right q part)

    both_first : (sides : SidesFault) → ((c : Behaviour) → Closed c → First
        (record { shape = s; number = suc node; next = next; behaviour = c }) (sides.left_faults c)
        × Same data_ leaves next (sides.left_faults c) (move_of kept (leaves_in leaves) s next c))
        → ((n : ℕ) → n ≤ length leaves → (c : Behaviour) → Closed c → First
        (record { shape = t; number = suc (node + size s); next = n; behaviour = c }) (sides.right_faults n c)
        × Same data_ leaves n (sides.right_faults n c) (move_of kept (leaves_in leaves) t n c))
        → ((c : Behaviour) → sides.left_moves c ≡ move_of kept (leaves_in leaves) s next c)
        → ((n : ℕ) (c : Behaviour) → sides.right_moves n c ≡ move_of kept (leaves_in leaves) t n c) → (d : Behaviour) → opened b ≡ d
        → Closed d → First whole (both_parts kept node next sides d)
    both_first sides lefts_ rights_ left_same right_same (parallel meet x y) at c =
        let one : _ × _ = lefts_ x c.1 in
        subst (λ (p : Option Move). First whole (first_of_two (sides.left_faults x)
        (option_and_then (right_and_match kept node next sides meet y) p))) (sym (left_same x))
        (left_first meet x y at (right_and_match kept node next sides meet y)
        (λ m mp s_ no_left.
        let other : _ × _ = rights_ (next + length m.sorts) s_.enough y c.2 in
        subst (λ (p : Option Move). First whole (first_of_two (sides.right_faults (next + length m.sorts) y)
        (at_node node (option_and_then (λ (n : Move). match_wrong kept meet m.label n.label) p))))
        (sym (right_same (next + length m.sorts) y))
        (right_first meet x y at m mp s_ no_left other.1 refl other.0)) one.1 refl one.0)
    both_first sides lefts_ rights_ left_same right_same _ at c = own_first whole not_fitting
        (ap (λ (d : Behaviour). unless_there (both_part d)) at)

  -- The parts of closed behaviours are closed, where nothing is wrong by itself.
  abbrev Defined : Process → Type 0
  Defined p = IsDefinition data_.signature (length specification.gate_names) specification.processes p.gates p.parameters p.exit p.body

  guarded_closed : (d c : Behaviour) → Closed d → guarded_part d ≡ Some c → Closed c
  guarded_closed (guard test x) c h e = subst Closed (some_value e) h.1
  guarded_closed _ c h e = absurd (cc e)

  left_closed : (d c : Behaviour) → Closed d → left_part d ≡ Some c → Closed c
  left_closed (choice x y) c h e = subst Closed (some_value e) h.0
  left_closed (parallel meet x y) c h e = subst Closed (some_value e) h.1
  left_closed (disable x y) c h e = subst Closed (some_value e) h.0
  left_closed _ c h e = absurd (cc e)

  right_closed : (d c : Behaviour) → Closed d → right_part d ≡ Some c → Closed c
  right_closed (choice x y) c h e = subst Closed (some_value e) h.1
  right_closed (parallel meet x y) c h e = subst Closed (some_value e) h.2
  right_closed (disable x y) c h e = subst Closed (some_value e) h.1
  right_closed _ c h e = absurd (cc e)

  both_closed : (d c : Behaviour) → Closed d → both_part d ≡ Some c → Closed c
  both_closed (parallel meet x y) c h e = subst Closed (some_value e) h.1
  both_closed _ c h e = absurd (cc e)

  hidden_closed : (d c : Behaviour) → Closed d → hidden_part d ≡ Some c → Closed c
  hidden_closed (hide gates x) c h e = subst Closed (some_value e) h.1
  hidden_closed _ c h e = absurd (cc e)

  enable_closed : (d c : Behaviour) → Closed d → enable_part d ≡ Some c → Closed c
  enable_closed (enable x variables y) c h e = subst Closed (some_value e) h.0
  enable_closed _ c h e = absurd (cc e)

  let_closed : (d c : Behaviour) → Closed d → let_part kept d ≡ Some c → Closed c
  let_closed (let_be bindings x) c h e =
      subst Closed (some_value e)
      (put_in data_ specification well_formed canon is_canon leaves (let_variables bindings) (map canon (let_terms bindings)) x
      (represented_terms data_.signature canon (keeps data_ specification well_formed canon is_canon leaves) (let_variables bindings)
      (let_terms bindings) h.1) h.2)
  let_closed _ c h e = absurd (cc e)

  value_closed : (next : ℕ) (d c : Behaviour) → Closed d → value_wrong kept leaves next d ≡ None
      → value_part kept (leaves_in leaves) next d ≡ Some c → Closed c
  value_closed next (choose_value z x) c h own e =
      let right : _ × _ = leaves_right data_.signature leaves next (z.sort ∷ []) own in
      subst Closed (some_value e)
      (put_in data_ specification well_formed canon is_canon leaves (z ∷ []) (canon (leaves_in leaves next z.sort) ∷ []) x
      (keeps data_ specification well_formed canon is_canon leaves (leaves_in leaves next z.sort) z.sort right.0.0, tt) h.1)
  value_closed next _ c h own e = absurd (cc e)

  gate_closed : (k : ℕ) (d c : Behaviour) → Closed d → gate_part k d ≡ Some c → Closed c
  gate_closed k (choose_gate g gates x) c h e = let from : _ = mapped (λ (a : ℕ). x) (slice_get gates k) e in subst Closed from.2 h.2
  gate_closed k _ c h e = absurd (cc e)

  called_closed : (d c : Behaviour) → Closed d → called_part kept d ≡ Some c → Closed c
  called_closed (call number gates arguments) c h e =
      let from : _ = mapped (λ (process : Process). with_values (binding_of process.parameters (map canon arguments)) process.body)
      (slice_get specification.processes number) e in
      let process : Process = from.0 in
      let same : h.1.process ≡ process = some_value (sym h.1.exists ∙ from.1) in
      let defined : Defined process = Every-at Defined specification.processes number process well_formed.each from.1 in
      let terms : AreTermsIn data_.signature [] process.parameters arguments =
      subst (λ (p : Process). AreTermsIn data_.signature [] p.parameters arguments) same h.1.values in
      subst Closed from.2
      (closed_by data_.signature (length specification.gate_names) specification.processes process.parameters
      (map canon arguments) process.body
      (represented_terms data_.signature canon (keeps data_ specification well_formed canon is_canon leaves) process.parameters
      arguments terms) defined.behaviour)
  called_closed _ c h e = absurd (cc e)

  relabelled_closed : (d c : Behaviour) → Closed d → relabelled_part d ≡ Some c → Closed c
  relabelled_closed (relabel pairs x) c h e = subst Closed (some_value e) h.1
  relabelled_closed _ c h e = absurd (cc e)

  closed_part : (shape : Shape) (next : ℕ) (d c : Behaviour) → Closed d → own_wrong kept leaves shape next d ≡ None
      → part_of kept leaves shape next d ≡ Some c → Closed c
  closed_part act next d c h own e = absurd (cc e)
  closed_part quit next d c h own e = absurd (cc e)
  closed_part inner_step next d c h own e = absurd (cc e)
  closed_part (guarded s) next d c h own e = guarded_closed d c h e
  closed_part (left_side s) next d c h own e = left_closed d c h e
  closed_part (right_side s) next d c h own e = right_closed d c h e
  closed_part (both_sides s t) next d c h own e = both_closed d c h e
  closed_part (hidden s) next d c h own e = hidden_closed d c h e
  closed_part (enabled s) next d c h own e = enable_closed d c h e
  closed_part (passed s) next d c h own e = enable_closed d c h e
  closed_part (let_bound s) next d c h own e = let_closed d c h e
  closed_part (with_value s) next d c h own e = value_closed next d c h own e
  closed_part (at_gate k s) next d c h own e = gate_closed k d c h e
  closed_part (called s) next d c h own e = called_closed d c h e
  closed_part (relabelled s) next d c h own e = relabelled_closed d c h e

  -- a value choice has its leaf
  leaf_there : (next : ℕ) (d : Behaviour) → value_wrong kept leaves next d ≡ None → suc next ≤ length leaves
  leaf_there next (choose_value z x) own =
      let right : _ × _ = leaves_right data_.signature leaves next (z.sort ∷ []) own in
      let le : next + 1 ≤ length leaves = right.1 in omega (arith, le)
  leaf_there next _ own = absurd (cc own)

  open_first : (b : Behaviour) → Closed b → Closed (opened b)
  open_first = opened_closed data_ specification well_formed canon (keeps data_ specification well_formed canon is_canon leaves)
      (leaves_in leaves)

  abbrev place_of : Shape → ℕ → ℕ → Behaviour → NodePlace
  place_of s node next b = record { shape = s; number = node; next = next; behaviour = b }

  abbrev faults_of : Shape → ℕ → ℕ → Behaviour → Option Fault
  faults_of s node next = fault_from kept leaves s node next

  abbrev FirstOf : Shape → Type 0
  FirstOf s = (node next : ℕ) (b : Behaviour) → next ≤ length leaves → Closed b
      → First (place_of s node next b) (fault_from kept leaves s node next b)

  same_at : (s : Shape) (node next : ℕ) → next ≤ length leaves → (c : Behaviour) → Closed c
      → Same data_ leaves next (fault_from kept leaves s node next c) (move_of kept (leaves_in leaves) s next c)
  same_at s node next le c h = same_faults data_ specification well_formed canon is_canon leaves s node next le c h

  -- a node with one part, from its part
  one_more : (whole_shape s : Shape) (node next : ℕ) (b : Behaviour) → part_shape whole_shape ≡ Some s
      → ((r t : Shape) → whole_shape ≡ both_sides r t → ⊥) → Closed b
      → (own_wrong kept leaves whole_shape next (opened b) ≡ None → part_next whole_shape next ≤ length leaves) → FirstOf s
      → First (place_of whole_shape node next b) (one_part (node_of kept leaves whole_shape node next b)
      (fault_from kept leaves s (suc node) (part_next whole_shape next))
      (move_of kept (leaves_in leaves) s (part_next whole_shape next)))
  one_more whole_shape s node next b part_is not_both closed le first =
      one_first (place_of whole_shape node next b) s part_is not_both (fault_from kept leaves s (suc node) (part_next whole_shape next))
      (own_wrong kept leaves whole_shape next (opened b)) refl (part_of kept leaves whole_shape next (opened b)) refl
      (λ c own at.
      let inside : Closed c = closed_part whole_shape next (opened b) c (open_first b closed) own at in (
        first (suc node) (part_next whole_shape next) c (le own) inside,
        same_at s (suc node) (part_next whole_shape next) (le own) c inside,
      ))

  first_faults : (s : Shape) → FirstOf s
  first_faults act node next b le closed = leaf_first (place_of act node next b) refl (λ r t e. absurd (cc e))
      (own_wrong kept leaves act next (opened b)) refl
  first_faults quit node next b le closed = leaf_first (place_of quit node next b) refl (λ r t e. absurd (cc e))
      (own_wrong kept leaves quit next (opened b)) refl
  first_faults inner_step node next b le closed = leaf_first (place_of inner_step node next b) refl (λ r t e. absurd (cc e))
      (own_wrong kept leaves inner_step next (opened b)) refl
  first_faults (guarded s) node next b le closed = one_more (guarded s) s node next b refl (λ r t e. absurd (cc e)) closed (λ own. le)
      (first_faults s)
  first_faults (left_side s) node next b le closed = one_more (left_side s) s node next b refl (λ r t e. absurd (cc e)) closed
      (λ own. le) (first_faults s)
  first_faults (right_side s) node next b le closed = one_more (right_side s) s node next b refl (λ r t e. absurd (cc e)) closed
      (λ own. le) (first_faults s)
  first_faults (both_sides s t) node next b le closed =
      both_first s t node next b
      (record {
        left_faults = fault_from kept leaves s (suc node) next;
        left_moves = move_of kept (leaves_in leaves) s next;
        right_faults = fault_from kept leaves t (suc (node + size s));
        right_moves = move_of kept (leaves_in leaves) t;
      })
      (λ c h. (first_faults s (suc node) next c le h, same_at s (suc node) next le c h))
      (λ n n_le c h. (first_faults t (suc (node + size s)) n c n_le h, same_at t (suc (node + size s)) n n_le c h))
      (λ c. refl) (λ n c. refl) (opened b) refl (open_first b closed)
  first_faults (hidden s) node next b le closed = one_more (hidden s) s node next b refl (λ r t e. absurd (cc e)) closed (λ own. le)
      (first_faults s)
  first_faults (enabled s) node next b le closed = one_more (enabled s) s node next b refl (λ r t e. absurd (cc e)) closed (λ own. le)
      (first_faults s)
  first_faults (passed s) node next b le closed = one_more (passed s) s node next b refl (λ r t e. absurd (cc e)) closed (λ own. le)
      (first_faults s)
  first_faults (let_bound s) node next b le closed = one_more (let_bound s) s node next b refl (λ r t e. absurd (cc e)) closed
      (λ own. le) (first_faults s)
  first_faults (with_value s) node next b le closed = one_more (with_value s) s node next b refl (λ r t e. absurd (cc e)) closed
      (leaf_there next (opened b)) (first_faults s)
  first_faults (at_gate k s) node next b le closed = one_more (at_gate k s) s node next b refl (λ r t e. absurd (cc e)) closed
      (λ own. le) (first_faults s)
  first_faults (called s) node next b le closed = one_more (called s) s node next b refl (λ r t e. absurd (cc e)) closed (λ own. le)
      (first_faults s)
  first_faults (relabelled s) node next b le closed = one_more (relabelled s) s node next b refl (λ r t e. absurd (cc e)) closed
      (λ own. le) (first_faults s)

module _ (data_ : Data) (canon : Term → Term) (specification : Specification) (b : Behaviour)
    (over : AreOver data_ canon specification b) (leaves : List Term) (shape : Shape) where
  all_first : First data_ specification over.well_formed canon over.is_canon leaves (root_of shape b)
      (fault_from (kept_setting data_ canon specification.processes) leaves shape 0 0 b)
  all_first = first_faults data_ specification over.well_formed canon over.is_canon leaves shape 0 0 b (omega arith) over.closed

  pub the_first : (f : Fault) → fault_from (kept_setting data_ canon specification.processes) leaves shape 0 0 b ≡ Some f
      → IsFirstFault data_ (kept_setting data_ canon specification.processes) leaves (root_of shape b) f
  the_first f e =
      let first : First data_ specification over.well_formed canon over.is_canon leaves (root_of shape b) (Some f) =
      subst (First data_ specification over.well_formed canon over.is_canon leaves (root_of shape b)) e all_first in
      record { is_fault = first.0; first = first.1 }

  pub none_there : fault_from (kept_setting data_ canon specification.processes) leaves shape 0 0 b ≡ None → (g : Fault)
      → IsFaulty data_ (kept_setting data_ canon specification.processes) leaves (root_of shape b) g → ⊥
  none_there e =
      subst (First data_ specification over.well_formed canon over.is_canon leaves (root_of shape b)) e all_first

pub nodes_there : (data_ : Data) (setting : Setting) (leaves : List Term) (shape : Shape) (b : Behaviour) (g : Fault)
    → IsFaulty data_ setting leaves (root_of shape b) g → g.node < size shape
nodes_there data_ setting leaves shape b g i =
    let within : (0 ≤ g.node) × (g.node < 0 + size shape) = faulty_within data_ setting leaves i in
    omega (arith, within.1)
