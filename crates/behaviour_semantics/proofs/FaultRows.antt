-- The rows of the table of moves and those of the faults, side by side.
use Rattle.std.proofs.Common.{◌≡◌, ◌≤◌, ◌⊎◌, inl, inr, ℕ, suc, ◌+◌, List, [], ◌∷◌, ◌++◌, length, map, zip, slice_get, Bool, true, false, not, if◌then◌else◌, Option, None, Some, option_map, option_and_then, refl, ap, sym, ◌∙◌, subst, arith}
use Rattle.std.specs.Prelude.{◌&&◌, nat_eq}
use Rattle.std.specs.Cmp.{second_so}
use Rattle.std.proofs.lemmas.List.{length-append}
use Rattle.lotos_base.proofs.Options.{mapped, chained}
use Rattle.lotos_base.specs.Term.{Term}
use Rattle.lotos_base.specs.Sorting.{IsGroundOf}
use Rattle.lotos_base.specs.Equation.{Data, Variable}
use Rattle.lotos_base.specs.Canon.{IsCanon}
use Rattle.lotos_base.specs.Substitution.{Substitution}
use Rattle.lotos_base.proofs.CanonLemmas.{canon_ground}
use Rattle.behaviour_semantics.specs.Behaviour.{Behaviour, exit_with, action, inner_action, guard, choice, parallel, hide, enable, disable, let_be, choose_value, choose_gate, call, relabel, Test, SynchronisationSet, Process, Specification, asked_variables, open_sorts, sorts_of, let_variables, let_terms}
use Rattle.behaviour_semantics.specs.Label.{Label, inner_event, gate_event, exit_event}
use Rattle.behaviour_semantics.specs.Replacement.{test_with, with_values, binding_of}
use Rattle.behaviour_semantics.specs.Rule.{tests_of, synchronises, moves_alone, have_sorts, have_same_sorts, move_together, label_values, pairwise, is_exit, AllHold, AreValues}
use Rattle.behaviour_semantics.specs.Shape.{Shape, guarded, left_side, right_side, hidden, enabled, passed, let_bound, with_value, at_gate, called, relabelled}
use Rattle.behaviour_semantics.specs.Move.{Setting, Move, taken, alone, together, passing, enabling, disabling, hiding, asking, relabelling, after_leaf, act_move, quit_move, inner_move, guarded_move, left_move, right_move, both_move, hidden_move, enabled_move, passed_move, let_move, value_move, gate_move, called_move, relabelled_move}
use Rattle.behaviour_semantics.specs.Derives.{leaves_in}
use Rattle.behaviour_semantics.specs.WellFormed.{Every, IsTestIn, IsTestOption, AreTermsIn, IsBehaviour, IsDefinition, IsSpecification, IsClosedLabel, IsClosedBehaviour}
use Rattle.behaviour_semantics.specs.Fault.{Wrong, not_fitting, Fault, first_of_two, at_node, wrong_leaves, first_unmet, unless_there, unless, part_of, act_wrong, quit_wrong, inner_wrong, own_wrong, ends_with, label_wrong, match_wrong, Node, one_part, SidesFault, right_and_match, both_parts}
use Rattle.behaviour_semantics.proofs.OptionLemmas.{some_value, tested}
use Rattle.behaviour_semantics.proofs.ListLemmas.{Every-at}
use Rattle.behaviour_semantics.proofs.SupplyLemmas.{Supplied, Supplied-append, AreValues-taken, AllHold-parts, AllHold-append}
use Rattle.behaviour_semantics.proofs.PutTerms.{put_option, inner_puts, closed_by}
use Rattle.behaviour_semantics.proofs.ClosedTargets.{ground_of, represented_values, represented_terms, inside}
use Rattle.behaviour_semantics.proofs.FaultParts.{first_none, none_first, leaves_right, right_leaves, IsGroundTest, tests_held, held_tests, pairs_ground, Sound, Same, sound, faulty, Kept, unfit, node_same, part_same, map_same, Fits, demand_same}

module _ (data_ : Data) (specification : Specification) (well_formed : IsSpecification data_.signature specification) (canon : Term
    → Term) (is_canon : IsCanon data_ canon) (leaves : List Term) where
  abbrev pub setting : Setting
  setting = record { signature = data_.signature; represent = canon; processes = specification.processes }

  abbrev pub values : Substitution
  values = leaves_in leaves

  abbrev pub Closed : Behaviour → Type 0
  Closed b = IsClosedBehaviour data_.signature specification b

  pub keeps : (t : Term) (s : ℕ) → IsGroundOf data_.signature s t → IsGroundOf data_.signature s (canon t)
  keeps t s h = canon_ground data_ canon t s is_canon h

  pub put_in : (variables : List Variable) (terms : List Term) (b : Behaviour) → AreValues data_.signature (sorts_of variables) terms
      → IsBehaviour data_.signature (length specification.gate_names) specification.processes (variables ++ []) b
      → Closed (with_values (binding_of variables terms) b)
  put_in = inside data_ specification well_formed canon keeps values

  -- For each closed behaviour the faults and the moves stand side by side.
  abbrev pub AllSame : ℕ → (Behaviour → Option Fault) → (Behaviour → Option Move) → Type 0
  AllSame next faults moves = (b : Behaviour) → Closed b → Same data_ leaves next (faults b) (moves b)

  -- The node of a shape at a behaviour that is not opened any more.
  abbrev here : ℕ → ℕ → Shape → Behaviour → Node
  here node next s b = record {
    number = node;
    own = own_wrong setting leaves s next b;
    part = part_of setting leaves s next b;
    label = label_wrong setting s b;
  }

  abbrev nothing_wrong : Option Wrong
  nothing_wrong = None

  quiet : (label : Label) → nothing_wrong ≡ None
  quiet label = refl

  -- The label of each sound move is closed.
  abbrev pub AllClosed : ℕ → (Behaviour → Option Move) → Type 0
  AllClosed next moves = (b : Behaviour) (m : Move) → Closed b → moves b ≡ Some m → Sound data_ leaves next m
      → IsClosedLabel data_.signature specification m.label

  -- The tests of closed behaviours are ground.
  closed_test : (test : Test) → IsTestIn data_.signature [] test → IsGroundTest data_.signature test
  closed_test test h = (h.sort, ground_of data_.signature h.sort test.left h.left, ground_of data_.signature h.sort test.right h.right)

  act_tests : (variables : List Variable) (chosen : List Term) (test : Option Test)
      → AreValues data_.signature (sorts_of variables) chosen → IsTestOption data_.signature (variables ++ []) test
      → Every (IsGroundTest data_.signature) (tests_of (binding_of variables (map canon chosen)) test)
  act_tests variables chosen None h t = tt
  act_tests variables chosen (Some test) h t =
      let represented : AreValues data_.signature (sorts_of variables) (map canon chosen) =
      represented_values data_.signature canon keeps (sorts_of variables) chosen h in
      let put : IsTestOption data_.signature [] (Some (test_with (binding_of variables (map canon chosen)) test)) =
      put_option data_.signature (variables ++ []) [] (binding_of variables (map canon chosen))
      (inner_puts data_.signature variables [] (map canon chosen) represented) (Some test) t in
      (closed_test (test_with (binding_of variables (map canon chosen)) test) put, tt)

  pub act_same : (next node : ℕ) → next ≤ length leaves → AllSame next
      (λ (b : Behaviour). at_node node (act_wrong setting leaves next b)) (act_move setting values next)
  act_same next node le (action g offers test b) c =
      let variables : List Variable = asked_variables offers in
      let chosen : List Term = taken values next (sorts_of variables) in
      let tests : List Test = tests_of (binding_of variables (map canon chosen)) test in
      let wrong : Option Wrong = wrong_leaves data_.signature leaves next (sorts_of variables) in
      node_same data_ leaves next node _ (first_of_two wrong (first_unmet canon tests))
      (λ e.
      let none : _ × _ = first_none wrong (first_unmet canon tests) e in
      let right : _ × _ = leaves_right data_.signature leaves next (sorts_of variables) none.0 in
      record {
        supplied = right.0;
        enough = right.1;
        holds = tests_held data_ canon is_canon tests (act_tests variables chosen test
            (AreValues-taken data_.signature values next (sorts_of variables) right.0) c.3) none.1;
      })
      (λ s.
      none_first wrong (first_unmet canon tests) (right_leaves data_.signature leaves next (sorts_of variables) s.supplied s.enough)
      (held_tests data_ canon is_canon tests (act_tests variables chosen test
      (AreValues-taken data_.signature values next (sorts_of variables) s.supplied) c.3) s.holds))
  act_same next node le _ c = unfit data_ leaves next node

  pub quit_same : (next node : ℕ) → AllSame next (λ (b : Behaviour). at_node node (quit_wrong setting leaves next b))
      (quit_move setting values next)
  quit_same next node (exit_with results) c =
      node_same data_ leaves next node _ (wrong_leaves data_.signature leaves next (open_sorts results))
      (λ e. let right : _ × _ = leaves_right data_.signature leaves next (open_sorts results) e in
      record { supplied = right.0; enough = right.1; holds = tt })
      (λ s. right_leaves data_.signature leaves next (open_sorts results) s.supplied s.enough)
  quit_same next node _ c = unfit data_ leaves next node

  pub inner_same : (next node : ℕ) → next ≤ length leaves → AllSame next (λ (b : Behaviour). at_node node (inner_wrong b)) inner_move
  inner_same next node le (inner_action b) c = sound _ (record { supplied = tt; enough = omega arith; holds = tt })
  inner_same next node le _ c = unfit data_ leaves next node

  -- The test of a guard, and then the part.
  asking_same : {next : ℕ} {o : Option Fault} {p : Option Move} (node : ℕ) (test : Test) → IsGroundTest data_.signature test
      → (w : Option Wrong) → first_unmet canon (test ∷ []) ≡ w → Same data_ leaves next o p
      → Same data_ leaves next (first_of_two (at_node node w) o) (option_map (asking test) p)
  asking_same {next = next} node test g None e (sound m s) =
      let holds : AllHold data_ (test ∷ []) = tests_held data_ canon is_canon (test ∷ []) (g, tt) e in
      sound (asking test m) (record { supplied = s.supplied; enough = s.enough; holds = (holds.0, s.holds) })
  asking_same {next = next} node test g None e (faulty f {o = p} none) =
      faulty f (λ k h s.
      let from : _ = mapped (asking test) p h in
      let above : Sound data_ leaves next (asking test from.0) = subst (Sound data_ leaves next) (sym from.2) s in
      none from.0 from.1 (record { supplied = above.supplied; enough = above.enough; holds = above.holds.1 }))
  asking_same {next = next} {p = p} node test g (Some w) e same =
      faulty (record { node = node; wrong = w }) (λ k h s.
      let from : _ = mapped (asking test) p h in
      let above : Sound data_ leaves next (asking test from.0) = subst (Sound data_ leaves next) (sym from.2) s in
      let held : first_unmet canon (test ∷ []) ≡ None = held_tests data_ canon is_canon (test ∷ []) (g, tt) (above.holds.0, tt) in
      let both : Some w ≡ None = sym e ∙ held in absurd (cc both))

  pub guarded_same : (next node : ℕ) (s : Shape) (faults : Behaviour → Option Fault) (moves : Behaviour → Option Move)
      → AllSame next faults moves → AllSame next (λ (b : Behaviour). one_part (here node next (guarded s) b) faults moves)
      (guarded_move moves)
  guarded_same next node s faults moves same (guard test b) c = asking_same node test (closed_test test c.0)
      (first_unmet canon (test ∷ [])) refl (part_same data_ leaves node (λ (label : Label). None) quiet (same b c.1))
  guarded_same next node s faults moves same _ c = unfit data_ leaves next node

  alone_fits : (meet : SynchronisationSet) (beside : Behaviour → Behaviour) (m : Move)
      → Fits data_ leaves (λ (label : Label). unless (moves_alone meet label)) (alone meet beside) m
  alone_fits meet beside m = by (moves_alone meet m.label) refl
    where
      by : (b : Bool) → moves_alone meet m.label ≡ b → Fits data_ leaves (λ (label : Label). unless (moves_alone meet label))
          (alone meet beside) m
      by true e = inl (
        ap unless e,
        (
          record m { target = beside m.target },
          ap (λ (b : Bool). if b then Some (record m { target = beside m.target }) else None) e,
          (refl, refl),
        ),
      )
      by false e = inr (not_fitting, ap unless e, ap (λ (b : Bool). if b then Some (record m { target = beside m.target }) else None) e)

  pub left_same : (next node : ℕ) (s : Shape) (faults : Behaviour → Option Fault) (moves : Behaviour → Option Move)
      → AllSame next faults moves → AllSame next (λ (b : Behaviour). one_part (here node next (left_side s) b) faults moves)
      (left_move moves)
  left_same next node s faults moves same (choice b d) c = part_same data_ leaves node (λ (label : Label). None) quiet (same b c.0)
  left_same next node s faults moves same (parallel meet b d) c =
      demand_same data_ leaves node (λ (label : Label). unless (moves_alone meet label)) (alone meet (λ target. parallel meet target d))
      (alone_fits meet (λ target. parallel meet target d)) (same b c.1)
  left_same next node s faults moves same (disable b d) c = map_same data_ leaves node (λ (label : Label). None) quiet (disabling d)
      (λ m. (refl, refl)) (same b c.0)
  left_same next node s faults moves same _ c = unfit data_ leaves next node

  pub right_same : (next node : ℕ) (s : Shape) (faults : Behaviour → Option Fault) (moves : Behaviour → Option Move)
      → AllSame next faults moves → AllSame next (λ (b : Behaviour). one_part (here node next (right_side s) b) faults moves)
      (right_move moves)
  right_same next node s faults moves same (choice b d) c = part_same data_ leaves node (λ (label : Label). None) quiet (same d c.1)
  right_same next node s faults moves same (parallel meet b d) c =
      demand_same data_ leaves node (λ (label : Label). unless (moves_alone meet label)) (alone meet (λ target. parallel meet b target))
      (alone_fits meet (λ target. parallel meet b target)) (same d c.2)
  right_same next node s faults moves same (disable b d) c = part_same data_ leaves node (λ (label : Label). None) quiet (same d c.1)
  right_same next node s faults moves same _ c = unfit data_ leaves next node

  pub hidden_same : (next node : ℕ) (s : Shape) (faults : Behaviour → Option Fault) (moves : Behaviour → Option Move)
      → AllSame next faults moves → AllSame next (λ (b : Behaviour). one_part (here node next (hidden s) b) faults moves)
      (hidden_move moves)
  hidden_same next node s faults moves same (hide gates b) c = map_same data_ leaves node (λ (label : Label). None) quiet (hiding gates)
      (λ m. (refl, refl)) (same b c.1)
  hidden_same next node s faults moves same _ c = unfit data_ leaves next node

  -- The rule of a left side of `>>` that ended asks for an `exit` with values of the sorts.
  abbrev FitsAt : List Variable → Behaviour → Move → Label → Type 0
  FitsAt variables d m label =
      ((unless (ends_with data_.signature (sorts_of variables) label) ≡ None)
      × ((k : Move) × (enabling data_.signature variables d m label ≡ Some k) × Kept data_ leaves m k))
      ⊎ ((w : Wrong) × (unless (ends_with data_.signature (sorts_of variables) label) ≡ Some w)
      × (enabling data_.signature variables d m label ≡ None))

  enabling_fits : (variables : List Variable) (d : Behaviour) (m : Move)
      → Fits data_ leaves (λ (label : Label). unless (ends_with data_.signature (sorts_of variables) label))
      (λ (k : Move). enabling data_.signature variables d k k.label) m
  enabling_fits variables d m = by_label m.label
    where
      by : (vs : List Term) (b : Bool) → have_sorts data_.signature vs (sorts_of variables) ≡ b → FitsAt variables d m (exit_event vs)
      by vs true e = inl (
        ap unless e,
        (
          record m { label = inner_event; target = with_values (binding_of variables vs) d },
          ap (λ (b : Bool). if b then Some (record m { label = inner_event; target = with_values (binding_of variables vs) d }) else
              None) e,
          (refl, refl),
        ),
      )
      by vs false e = inr (
        not_fitting,
        ap unless e,
        ap (λ (b : Bool). if b then
            Some (record m { label = inner_event; target = with_values (binding_of variables vs) d }) else None) e,
      )

      by_label : (label : Label) → FitsAt variables d m label
      by_label (exit_event vs) = by vs (have_sorts data_.signature vs (sorts_of variables)) refl
      by_label inner_event = inr (not_fitting, refl, refl)
      by_label (gate_event g vs) = inr (not_fitting, refl, refl)

  pub enabled_same : (next node : ℕ) (s : Shape) (faults : Behaviour → Option Fault) (moves : Behaviour → Option Move)
      → AllSame next faults moves → AllSame next (λ (b : Behaviour). one_part (here node next (enabled s) b) faults moves)
      (enabled_move setting moves)
  enabled_same next node s faults moves same (enable b variables d) c =
      demand_same data_ leaves node (λ (label : Label). unless (ends_with data_.signature (sorts_of variables) label))
      (λ (k : Move). enabling data_.signature variables d k k.label) (enabling_fits variables d) (same b c.0)
  enabled_same next node s faults moves same _ c = unfit data_ leaves next node

  passing_fits : (variables : List Variable) (d : Behaviour) (m : Move)
      → Fits data_ leaves (λ (label : Label). unless (not (is_exit label))) (passing variables d) m
  passing_fits variables d m = by (is_exit m.label) refl
    where
      by : (b : Bool) → is_exit m.label ≡ b → Fits data_ leaves (λ (label : Label). unless (not (is_exit label))) (passing variables d) m
      by true e = inr (
        not_fitting,
        ap (λ (b : Bool). unless (not b)) e,
        ap (λ (b : Bool). if b then None else Some (record m { target = enable m.target variables d })) e,
      )
      by false e = inl (
        ap (λ (b : Bool). unless (not b)) e,
        (
          record m { target = enable m.target variables d },
          ap (λ (b : Bool). if b then None else Some (record m { target = enable m.target variables d })) e,
          (refl, refl),
        ),
      )

  pub passed_same : (next node : ℕ) (s : Shape) (faults : Behaviour → Option Fault) (moves : Behaviour → Option Move)
      → AllSame next faults moves → AllSame next (λ (b : Behaviour). one_part (here node next (passed s) b) faults moves)
      (passed_move moves)
  passed_same next node s faults moves same (enable b variables d) c =
      demand_same data_ leaves node (λ (label : Label). unless (not (is_exit label))) (passing variables d) (passing_fits variables d)
      (same b c.0)
  passed_same next node s faults moves same _ c = unfit data_ leaves next node

  pub let_same : (next node : ℕ) (s : Shape) (faults : Behaviour → Option Fault) (moves : Behaviour → Option Move)
      → AllSame next faults moves → AllSame next (λ (b : Behaviour). one_part (here node next (let_bound s) b) faults moves)
      (let_move setting moves)
  let_same next node s faults moves same (let_be bindings b) c =
      part_same data_ leaves node (λ (label : Label). None) quiet
      (same (with_values (binding_of (let_variables bindings) (map canon (let_terms bindings))) b)
      (put_in (let_variables bindings) (map canon (let_terms bindings)) b
      (represented_terms data_.signature canon keeps (let_variables bindings) (let_terms bindings) c.1) c.2))
  let_same next node s faults moves same _ c = unfit data_ leaves next node

  -- A leaf, and then the part.
  leaf_same : (next node sort : ℕ) {o : Option Fault} {p : Option Move} (w : Option Wrong)
      → wrong_leaves data_.signature leaves next (sort ∷ []) ≡ w → (w ≡ None → Same data_ leaves (suc next) o p)
      → Same data_ leaves next (first_of_two (at_node node w) o) (option_map (after_leaf sort) p)
  leaf_same next node sort {p = p} (Some w) e same =
      faulty (record { node = node; wrong = w }) (λ k h s.
      let from : _ = mapped (after_leaf sort) p h in
      let above : Sound data_ leaves next (after_leaf sort from.0) = subst (Sound data_ leaves next) (sym from.2) s in
      let le : next + 1 ≤ length leaves = let more : next + suc (length from.0.sorts) ≤ length leaves = above.enough in
      omega (arith, more) in
      let right : wrong_leaves data_.signature leaves next (sort ∷ []) ≡ None =
      right_leaves data_.signature leaves next (sort ∷ []) (above.supplied.0, tt) le in
      let both : Some w ≡ None = sym e ∙ right in absurd (cc both))
  leaf_same next node sort {o = o} {p = p} None e same = by (same refl)
    where
      leaf : IsGroundOf data_.signature sort (values next sort)
      leaf = (leaves_right data_.signature leaves next (sort ∷ []) e).0.0

      by : {o' : Option Fault} {p' : Option Move} → Same data_ leaves (suc next) o' p'
          → Same data_ leaves next o' (option_map (after_leaf sort) p')
      by (sound m s) =
          sound (after_leaf sort m)
          (record {
            supplied = (leaf, s.supplied);
            enough = (let le : suc next + length m.sorts ≤ length leaves = s.enough in
                omega (arith, le));
            holds = s.holds;
          })
      by (faulty f {o = q} none) =
          faulty f (λ k h s.
          let from : _ = mapped (after_leaf sort) q h in
          let above : Sound data_ leaves next (after_leaf sort from.0) = subst (Sound data_ leaves next) (sym from.2) s in
          none from.0 from.1
          (record {
            supplied = above.supplied.1;
            enough = (let le : next + suc (length from.0.sorts) ≤ length leaves = above.enough in
                omega (arith, le));
            holds = above.holds;
          }))

  pub value_same : (next node : ℕ) (s : Shape) (faults : Behaviour → Option Fault) (moves : Behaviour → Option Move)
      → (suc next ≤ length leaves → AllSame (suc next) faults moves) → AllSame next
      (λ (b : Behaviour). one_part (here node next (with_value s) b) faults moves) (value_move setting values next moves)
  value_same next node s faults moves same (choose_value x b) c =
      leaf_same next node x.sort (wrong_leaves data_.signature leaves next (x.sort ∷ [])) refl (λ e.
      let right : _ × _ = leaves_right data_.signature leaves next (x.sort ∷ []) e in
      let le : suc next ≤ length leaves = let more : next + 1 ≤ length leaves = right.1 in omega (arith, more) in
      part_same data_ leaves node (λ (label : Label). None) quiet
      (same le (with_values (binding_of (x ∷ []) (canon (values next x.sort) ∷ [])) b)
      (put_in (x ∷ []) (canon (values next x.sort) ∷ []) b (keeps (values next x.sort) x.sort right.0.0, tt) c.1)))
  value_same next node s faults moves same _ c = unfit data_ leaves next node

  pub gate_same : (next node k : ℕ) (s : Shape) (faults : Behaviour → Option Fault) (moves : Behaviour → Option Move)
      → AllSame next faults moves → AllSame next (λ (b : Behaviour). one_part (here node next (at_gate k s) b) faults moves)
      (gate_move k moves)
  gate_same next node k s faults moves same (choose_gate g gates b) c = by (slice_get gates k)
    where
      by : (o : Option ℕ) → Same data_ leaves next (one_part (record {
        number = node;
        own = unless_there (option_map (λ (a : ℕ). b) o);
        part = option_map (λ (a : ℕ). b) o;
        label = λ (label : Label). None;
      }) faults moves)
          (option_and_then (λ (a : ℕ). option_map (relabelling ((g, a) ∷ [])) (moves b)) o)
      by None = unfit data_ leaves next node
      by (Some a) = map_same data_ leaves node (λ (label : Label). None) quiet (relabelling ((g, a) ∷ [])) (λ m. (refl, refl)) (same b c.2)
  gate_same next node k s faults moves same _ c = unfit data_ leaves next node

  abbrev Defined : Process → Type 0
  Defined p = IsDefinition data_.signature (length specification.gate_names) specification.processes p.gates p.parameters p.exit p.body

  pub called_same : (next node : ℕ) (s : Shape) (faults : Behaviour → Option Fault) (moves : Behaviour → Option Move)
      → AllSame next faults moves → AllSame next (λ (b : Behaviour). one_part (here node next (called s) b) faults moves)
      (called_move setting moves)
  called_same next node s faults moves same (call number gates arguments) c = by (slice_get specification.processes number) refl
    where
      called_body : Process → Behaviour
      called_body process = with_values (binding_of process.parameters (map canon arguments)) process.body

      closed_body : (process : Process) → slice_get specification.processes number ≡ Some process → Closed (called_body process)
      closed_body process at =
          let same_process : c.1.process ≡ process = some_value (sym c.1.exists ∙ at) in
          let defined : Defined process = Every-at Defined specification.processes number process well_formed.each at in
          let terms : AreTermsIn data_.signature [] process.parameters arguments =
          subst (λ (p : Process). AreTermsIn data_.signature [] p.parameters arguments) same_process c.1.values in
          closed_by data_.signature (length specification.gate_names) specification.processes process.parameters
          (map canon arguments) process.body (represented_terms data_.signature canon keeps process.parameters arguments terms)
          defined.behaviour

      by : (o : Option Process) → slice_get specification.processes number ≡ o
          → Same data_ leaves next (one_part (record {
            number = node;
            own = unless_there (option_map called_body o);
            part =
                option_map called_body o;
            label = λ (label : Label). None;
          }) faults moves)
          (option_and_then (λ (process : Process). option_map (relabelling (zip process.gates gates)) (moves (called_body process))) o)
      by None at = unfit data_ leaves next node
      by (Some process) at = map_same data_ leaves node (λ (label : Label). None) quiet (relabelling (zip process.gates gates))
          (λ m. (refl, refl)) (same (called_body process) (closed_body process at))
  called_same next node s faults moves same _ c = unfit data_ leaves next node

  pub relabelled_same : (next node : ℕ) (s : Shape) (faults : Behaviour → Option Fault) (moves : Behaviour → Option Move)
      → AllSame next faults moves → AllSame next (λ (b : Behaviour). one_part (here node next (relabelled s) b) faults moves)
      (relabelled_move moves)
  relabelled_same next node s faults moves same (relabel pairs b) c =
      map_same data_ leaves node (λ (label : Label). None) quiet (relabelling pairs) (λ m. (refl, refl)) (same b c.1)
  relabelled_same next node s faults moves same _ c = unfit data_ leaves next node

  -- Both sides of a parallel.

  abbrev joined : SynchronisationSet → Move → Move → Move
  joined meet m n = record {
    label = m.label;
    target = parallel meet m.target n.target;
    asked = m.asked ++ n.asked ++ pairwise (label_values m.label) (label_values n.label);
    sorts = m.sorts ++ n.sorts;
  }

  -- What is sound of both sides together is sound of each, and the values match.
  abbrev Parts : ℕ → Move → Move → Type 0
  Parts next m n = Sound data_ leaves next m × (Sound data_ leaves (next + length m.sorts) n
      × AllHold data_ (pairwise (label_values m.label) (label_values n.label)))

  parts_of : (next : ℕ) (meet : SynchronisationSet) (m n : Move) → Sound data_ leaves next (joined meet m n) → Parts next m n
  parts_of next meet m n s =
      let supplied : _ × _ = Supplied-append data_.signature values next m.sorts n.sorts s.supplied in
      let holds : _ × _ = AllHold-parts data_ (m.asked ++ n.asked) (pairwise (label_values m.label) (label_values n.label)) s.holds in
      let earlier : _ × _ = AllHold-parts data_ m.asked n.asked holds.0 in
      let count : length (m.sorts ++ n.sorts) ≡ length m.sorts + length n.sorts = length-append m.sorts n.sorts in
      let le : next + length (m.sorts ++ n.sorts) ≤ length leaves = s.enough in (
        record { supplied = supplied.0; enough = omega (arith, count, le); holds = earlier.0 },
        (record { supplied = supplied.1; enough = omega (arith, count, le); holds = earlier.1 }, holds.1),
      )

  whole_of : (next : ℕ) (meet : SynchronisationSet) (m n : Move) → Sound data_ leaves next m
      → Sound data_ leaves (next + length m.sorts) n → AllHold data_ (pairwise (label_values m.label) (label_values n.label))
      → Sound data_ leaves next (joined meet m n)
  whole_of next meet m n s t h =
      let count : length (m.sorts ++ n.sorts) ≡ length m.sorts + length n.sorts = length-append m.sorts n.sorts in
      let le : next + length m.sorts + length n.sorts ≤ length leaves = t.enough in
      record {
        supplied = supplied_both next m.sorts n.sorts s.supplied t.supplied;
        enough = omega (arith, count, le);
        holds = AllHold-append data_ (m.asked ++ n.asked) (pairwise (label_values m.label) (label_values n.label))
            (AllHold-append data_ m.asked n.asked s.holds t.holds) h;
      }
    where
      supplied_both : (k : ℕ) (ss rs : List ℕ) → Supplied data_.signature values k ss
          → Supplied data_.signature values (k + length ss) rs → Supplied data_.signature values k (ss ++ rs)
      supplied_both k [] rs h' k' = let e : k + 0 ≡ k = omega arith in subst (λ (n' : ℕ). Supplied data_.signature values n' rs) e k'
      supplied_both k (q ∷ ss) rs h' k' =
          let e : k + suc (length ss) ≡ suc k + length ss = omega arith in
          (h'.0, supplied_both (suc k) ss rs h'.1 (subst (λ (n' : ℕ). Supplied data_.signature values n' rs) e k'))

  -- Closed labels that move together have ground values of the same sorts.
  matching_ground : (meet : SynchronisationSet) (label other : Label) → IsClosedLabel data_.signature specification label
      → IsClosedLabel data_.signature specification other → move_together data_.signature meet label other ≡ true
      → Every (IsGroundTest data_.signature) (pairwise (label_values label) (label_values other))
  matching_ground meet inner_event other h k e = tt
  matching_ground meet (gate_event g us) (gate_event g' vs) h k e =
      pairs_ground data_.signature us vs h.1 k.1
      (second_so (nat_eq g g' && synchronises meet g) (have_same_sorts data_.signature us vs) e)
  matching_ground meet (exit_event us) (exit_event vs) h k e = pairs_ground data_.signature us vs h k e
  matching_ground meet (gate_event g us) inner_event h k e = absurd (cc e)
  matching_ground meet (gate_event g us) (exit_event vs) h k e = absurd (cc e)
  matching_ground meet (exit_event us) inner_event h k e = absurd (cc e)
  matching_ground meet (exit_event us) (gate_event g vs) h k e = absurd (cc e)

  match_same : (next node : ℕ) (meet : SynchronisationSet) (m n : Move) → Sound data_ leaves next m
      → Sound data_ leaves (next + length m.sorts) n → IsClosedLabel data_.signature specification m.label
      → IsClosedLabel data_.signature specification n.label → Same data_ leaves next
      (at_node node (match_wrong setting meet m.label n.label)) (together data_.signature meet m n)
  match_same next node meet m n s t h k = by (move_together data_.signature meet m.label n.label) refl
    where
      by : (b : Bool) → move_together data_.signature meet m.label n.label ≡ b
          → Same data_ leaves next (at_node node (match_wrong setting meet m.label n.label)) (together data_.signature meet m n)
      by true e =
          let ground_pairs : Every (IsGroundTest data_.signature) (pairwise (label_values m.label) (label_values n.label)) =
          matching_ground meet m.label n.label h k e in
          rw e
          (node_same data_ leaves next node (joined meet m n) (first_unmet canon (pairwise (label_values m.label) (label_values n.label)))
          (λ none. whole_of next meet m n s t (tests_held data_ canon is_canon
          (pairwise (label_values m.label) (label_values n.label)) ground_pairs none))
          (λ whole. held_tests data_ canon is_canon (pairwise (label_values m.label) (label_values n.label)) ground_pairs
          (parts_of next meet m n whole).1.1))
      by false e = rw e (unfit data_ leaves next node)

  -- a sound move of both sides has sound moves of the sides
  sides_of : (next : ℕ) (meet : SynchronisationSet) (p : Option Move) (rights : ℕ → Option Move) (k : Move)
      → option_and_then (λ (m : Move). option_and_then (together data_.signature meet m) (rights (next + length m.sorts))) p ≡ Some k
      → Sound data_ leaves next k → (m : Move) × (p ≡ Some m) × ((n : Move) × (rights (next + length m.sorts) ≡ Some n)
      × Parts next m n)
  sides_of next meet p rights k e s =
      let from : _ = chained (λ (m : Move). option_and_then (together data_.signature meet m) (rights (next + length m.sorts))) p e in
      let then_ : _ = chained (together data_.signature meet from.0) (rights (next + length from.0.sorts)) from.2 in
      let test : _ = tested (move_together data_.signature meet from.0.label then_.0.label) (joined meet from.0 then_.0) then_.2 in
      (from.0, from.1, (then_.0, then_.1, parts_of next meet from.0 then_.0 (subst (Sound data_ leaves next) (sym test.1) s)))

  right_then_match : (next node : ℕ) (meet : SynchronisationSet) (m : Move) → Sound data_ leaves next m
      → IsClosedLabel data_.signature specification m.label → {o : Option Fault} {p : Option Move}
      → Same data_ leaves (next + length m.sorts) o p → ((n : Move) → p ≡ Some n → Sound data_ leaves (next + length m.sorts) n
      → IsClosedLabel data_.signature specification n.label) → Same data_ leaves next
      (first_of_two o (at_node node (option_and_then (λ (n : Move). match_wrong setting meet m.label n.label) p)))
      (option_and_then (together data_.signature meet m) p)
  right_then_match next node meet m s h (sound n t) closed = match_same next node meet m n s t h (closed n refl t)
  right_then_match next node meet m s h (faulty f {o = p} none) closed =
      faulty f (λ k e whole.
      let from : _ = chained (together data_.signature meet m) p e in
      let test : _ = tested (move_together data_.signature meet m.label from.0.label) (joined meet m from.0) from.2 in
      none from.0 from.1 (parts_of next meet m from.0 (subst (Sound data_ leaves next) (sym test.1) whole)).1.0)

  both_by : (next node : ℕ) (meet : SynchronisationSet) (sides : SidesFault) (d : Behaviour) {o : Option Fault} {p : Option Move}
      → Same data_ leaves next o p → ((m : Move) → p ≡ Some m → Sound data_ leaves next m
      → IsClosedLabel data_.signature specification m.label) → ((n : ℕ) → n ≤ length leaves
      → Same data_ leaves n (sides.right_faults n d) (sides.right_moves n d))
      → ((n : ℕ) (m : Move) → sides.right_moves n d ≡ Some m → Sound data_ leaves n m
      → IsClosedLabel data_.signature specification m.label) → Same data_ leaves next
      (first_of_two o (option_and_then (right_and_match setting node next sides meet d) p))
      (option_and_then (λ (m : Move). option_and_then (together data_.signature meet m) (sides.right_moves (next + length m.sorts) d))
      p)
  both_by next node meet sides d (sound m s) closed same closed' =
      right_then_match next node meet m s (closed m refl s) (same (next + length m.sorts) s.enough) (closed' (next + length m.sorts))
  both_by next node meet sides d (faulty f {o = p} none) closed same closed' =
      faulty f (λ k e s. let from : _ = sides_of next meet p (λ (n : ℕ). sides.right_moves n d) k e s in none from.0 from.1 from.2.2.0)

  pub both_same : (next node : ℕ) (sides : SidesFault) → AllSame next sides.left_faults sides.left_moves → AllClosed next sides.left_moves
      → ((n : ℕ) → n ≤ length leaves → AllSame n (sides.right_faults n) (sides.right_moves n))
      → ((n : ℕ) → AllClosed n (sides.right_moves n)) → AllSame next (both_parts setting node next sides)
      (both_move setting next sides.left_moves sides.right_moves)
  both_same next node sides same closed same' closed' (parallel meet b d) c =
      both_by next node meet sides d (same b c.1) (λ m e s. closed b m c.1 e s) (λ n le. same' n le d c.2)
      (λ n m e s. closed' n d m c.2 e s)
  both_same next node sides same closed same' closed' _ c = unfit data_ leaves next node
