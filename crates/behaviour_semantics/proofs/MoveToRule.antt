-- Each move of the table is a transition: by induction on the shape, and for each variant by cases on the behaviour.
use Rattle.std.proofs.Common.{◌≡◌, ℕ, suc, ◌+◌, List, [], ◌∷◌, ◌++◌, length, map, zip, slice_get, Option, Some, option_map, option_and_then, refl, sym, subst, Bool, true, false, ◌&&◌, nat_eq, eqb-true}
pub use Rattle.std.proofs.lemmas.Bool.{and_parts}
use Rattle.lotos_base.proofs.Options.{mapped, chained}
use Rattle.lotos_base.specs.Term.{Term}
use Rattle.lotos_base.specs.Equation.{Data, Variable}
use Rattle.lotos_base.specs.Substitution.{Substitution, is_listed}
use Rattle.behaviour_semantics.specs.Behaviour.{Behaviour, exit_with, action, inner_action, guard, choice, parallel, hide, enable, disable, let_be, choose_value, choose_gate, par_gate, call, relabel, SynchronisationSet, Process, asked_variables, open_sorts, sorts_of, let_variables, let_terms}
use Rattle.behaviour_semantics.specs.Label.{Label, inner_event, gate_event, exit_event}
use Rattle.behaviour_semantics.specs.Replacement.{with_values, binding_of}
use Rattle.behaviour_semantics.specs.Rule.{as_given, synchronises, moves_alone, have_sorts, have_same_sorts, move_together, label_values, pairwise, hidden_label, is_exit, still_disabled, AllHold}
use Rattle.behaviour_semantics.specs.Shape.{Shape, act, quit, inner_step, guarded, left_side, right_side, both_sides, hidden, enabled, passed, let_bound, with_value, at_gate, called, relabelled}
use Rattle.behaviour_semantics.specs.Move.{Setting, Move, move_of, taken, opened, alone, together, passing, enabling, disabling, hiding, asking, relabelling, after_leaf, act_move, quit_move, inner_move, guarded_move, left_move, right_move, both_move, hidden_move, enabled_move, passed_move, let_move, value_move, gate_move, called_move, relabelled_move}
use Rattle.behaviour_semantics.specs.Transition.{Transition, exits, acts, acts_inside, guard_holds, chooses_left, chooses_right, left_alone, right_alone, both_act, both_exit, hides, shows, inside_hide, exit_of_hide, goes_on, enables, left_goes_on, left_ends, disables, lets, chooses_value, chooses_gate, par_copies, calls, relabels}
use Rattle.behaviour_semantics.proofs.OptionLemmas.{some_value, tested, tested_not}
use Rattle.behaviour_semantics.proofs.SupplyLemmas.{Supplied, Supplied-append, AreValues-taken, AllHold-parts}
use Rattle.behaviour_semantics.proofs.RuleToMove.{given, map-as_given}

module _ (data_ : Data) (processes : List Process) (values : Substitution) where
  -- The move is a transition, if its leaves are values and what it asks holds.
  abbrev pub IsRule : ℕ → Behaviour → Move → Type 0
  IsRule next b m = Supplied data_.signature values next m.sorts → AllHold data_ m.asked → Transition data_ processes b m.label m.target

  -- Each move of these is a transition.
  abbrev pub AreRules : ℕ → (Behaviour → Option Move) → Type 0
  AreRules next moves = (b : Behaviour) (m : Move) → moves b ≡ Some m → IsRule next b m

  setting : Setting
  setting = given data_ processes

  act_rule : (next : ℕ) (b : Behaviour) (m : Move) → act_move (given data_ processes) values next b ≡ Some m → IsRule next b m
  act_rule next (action g offers test b) m e =
      subst (IsRule next (action g offers test b)) (some_value e) (λ sorted holds.
      let chosen : List Term = taken values next (sorts_of (asked_variables offers)) in
      let plain : map as_given chosen ≡ chosen = map-as_given chosen in
      rw plain (acts g offers test b chosen (AreValues-taken data_.signature values next (sorts_of (asked_variables offers)) sorted)
      (rw plain at holds)))
  act_rule next _ m e = absurd cc

  quit_rule : (next : ℕ) (b : Behaviour) (m : Move) → quit_move (given data_ processes) values next b ≡ Some m → IsRule next b m
  quit_rule next (exit_with results) m e =
      subst (IsRule next (exit_with results)) (some_value e) (λ sorted holds.
      exits results (taken values next (open_sorts results)) (AreValues-taken data_.signature values next (open_sorts results) sorted))
  quit_rule next _ m e = absurd cc

  inner_rule : (next : ℕ) (b : Behaviour) (m : Move) → inner_move b ≡ Some m → IsRule next b m
  inner_rule next (inner_action b) m e = subst (IsRule next (inner_action b)) (some_value e) (λ sorted holds. acts_inside b)
  inner_rule next _ m e = absurd cc

  guarded_rule : (next : ℕ) (moves : Behaviour → Option Move) → AreRules next moves → (b : Behaviour) (m : Move)
      → guarded_move moves b ≡ Some m → IsRule next b m
  guarded_rule next moves rules (guard test b) m e =
      let from : (n : Move) × (moves b ≡ Some n) × (asking test n ≡ m) = mapped (asking test) (moves b) e in
      subst (IsRule next (guard test b)) from.2 (λ sorted holds. guard_holds holds.0 (rules b from.0 from.1 sorted holds.1))
  guarded_rule next moves rules _ m e = absurd cc

  -- a side of a parallel that moves alone
  left_rule : (next : ℕ) (moves : Behaviour → Option Move) → AreRules next moves → (b : Behaviour) (m : Move) → left_move moves b ≡ Some m
      → IsRule next b m
  left_rule next moves rules (choice b c) m e = λ sorted holds. chooses_left (rules b m e sorted holds)
  left_rule next moves rules (parallel meet b c) m e =
      let from : (n : Move) × (moves b ≡ Some n) × (alone meet (λ target. parallel meet target c) n ≡ Some m) =
      chained (alone meet (λ target. parallel meet target c)) (moves b) e in
      let test : (moves_alone meet from.0.label ≡ true) × _ =
      tested (moves_alone meet from.0.label) (record from.0 { target = parallel meet from.0.target c }) from.2 in
      subst (IsRule next (parallel meet b c)) test.1 (λ sorted holds. left_alone (rules b from.0 from.1 sorted holds) test.0)
  left_rule next moves rules (disable b c) m e =
      let from : (n : Move) × (moves b ≡ Some n) × (disabling c n ≡ m) = mapped (disabling c) (moves b) e in
      subst (IsRule next (disable b c)) from.2 (λ sorted holds.
      disabled_rule from.0.label from.0.target (rules b from.0 from.1 sorted holds))
    where
      disabled_rule : {b c : Behaviour} (label : Label) (target : Behaviour) → Transition data_ processes b label target
          → Transition data_ processes (disable b c) label (still_disabled label target c)
      disabled_rule inner_event target t = left_goes_on t refl
      disabled_rule (gate_event g us) target t = left_goes_on t refl
      disabled_rule (exit_event us) target t = left_ends t
  left_rule next moves rules _ m e = absurd cc

  right_rule : (next : ℕ) (moves : Behaviour → Option Move) → AreRules next moves → (b : Behaviour) (m : Move) → right_move moves b ≡ Some m
      → IsRule next b m
  right_rule next moves rules (choice b c) m e = λ sorted holds. chooses_right (rules c m e sorted holds)
  right_rule next moves rules (parallel meet b c) m e =
      let from : (n : Move) × (moves c ≡ Some n) × (alone meet (λ target. parallel meet b target) n ≡ Some m) =
      chained (alone meet (λ target. parallel meet b target)) (moves c) e in
      let test : (moves_alone meet from.0.label ≡ true) × _ =
      tested (moves_alone meet from.0.label) (record from.0 { target = parallel meet b from.0.target }) from.2 in
      subst (IsRule next (parallel meet b c)) test.1 (λ sorted holds. right_alone (rules c from.0 from.1 sorted holds) test.0)
  right_rule next moves rules (disable b c) m e = λ sorted holds. disables (rules c m e sorted holds)
  right_rule next moves rules _ m e = absurd cc

  meeting : (meet : SynchronisationSet) {b c left right : Behaviour} (label other : Label)
      → move_together data_.signature meet label other ≡ true → AllHold data_ (pairwise (label_values label) (label_values other))
      → Transition data_ processes b label left → Transition data_ processes c other right
      → Transition data_ processes (parallel meet b c) label (parallel meet left right)
  meeting meet {b = b} {c = c} {left = left} {right = right} (gate_event g us) (gate_event h vs) e holds t u =
      let outer : _ × _ = and_parts (nat_eq g h && synchronises meet g) (have_same_sorts data_.signature us vs) e in
      let inner : _ × _ = and_parts (nat_eq g h) (synchronises meet g) outer.0 in
      let gates : h ≡ g = sym (eqb-true g h inner.0) in
      both_act t (subst (λ k. Transition data_ processes c (gate_event k vs) right) gates u) inner.1 outer.1 holds
  meeting meet (exit_event us) (exit_event vs) e holds t u = both_exit t u e holds
  meeting meet _ _ e holds t u = absurd cc

  both_rule : (next : ℕ) (moves : Behaviour → Option Move) → AreRules next moves → (others : ℕ → Behaviour → Option Move)
      → ((n : ℕ) → AreRules n (others n)) → (b : Behaviour) (m : Move) → both_move (given data_ processes) next moves others b ≡ Some m
      → IsRule next b m
  both_rule next moves rules others other_rules (parallel meet b c) m e =
      let from : (n : Move) × (moves b ≡ Some n) × (option_and_then (together data_.signature meet n) (others (next + length n.sorts) c)
      ≡ Some m) =
      chained (λ (n : Move). option_and_then (together data_.signature meet n) (others (next + length n.sorts) c)) (moves b) e in
      let n : Move = from.0 in
      let then_ : (k : Move) × (others (next + length n.sorts) c ≡ Some k) × (together data_.signature meet n k ≡ Some m) =
      chained (together data_.signature meet n) (others (next + length n.sorts) c) from.2 in
      let k : Move = then_.0 in
      let test : (move_together data_.signature meet n.label k.label ≡ true) × _ =
      tested (move_together data_.signature meet n.label k.label)
      (record {
        label = n.label;
        target = parallel meet n.target k.target;
        asked = n.asked ++ k.asked ++ pairwise (label_values n.label) (label_values k.label);
        sorts = n.sorts ++ k.sorts;
      }) then_.2 in
      subst (IsRule next (parallel meet b c)) test.1 (λ sorted holds.
      let leaves : _ × _ = Supplied-append data_.signature values next n.sorts k.sorts sorted in
      let asked : _ × _ = AllHold-parts data_ (n.asked ++ k.asked) (pairwise (label_values n.label) (label_values k.label)) holds in
      let below : _ × _ = AllHold-parts data_ n.asked k.asked asked.0 in
      meeting meet n.label k.label test.0 asked.1 (rules b n from.1 leaves.0 below.0)
      (other_rules (next + length n.sorts) c k then_.1 leaves.1 below.1))
  both_rule next moves rules others other_rules _ m e = absurd cc

  hidden_step : (gates : List ℕ) {b : Behaviour} (label : Label) (target : Behaviour) → Transition data_ processes b label target
      → Transition data_ processes (hide gates b) (hidden_label gates label) (hide gates target)
  hidden_step gates inner_event target t = inside_hide t
  hidden_step gates {b = b} (gate_event g us) target t = by (is_listed gates g) refl
    where
      by : (listed : Bool) → is_listed gates g ≡ listed → Transition data_ processes (hide gates b) (hidden_label gates (gate_event g us))
          (hide gates target)
      by true e = rw e (hides t e)
      by false e = rw e (shows t e)
  hidden_step gates (exit_event us) target t = exit_of_hide t

  hidden_rule : (next : ℕ) (moves : Behaviour → Option Move) → AreRules next moves → (b : Behaviour) (m : Move)
      → hidden_move moves b ≡ Some m → IsRule next b m
  hidden_rule next moves rules (hide gates b) m e =
      let from : (n : Move) × (moves b ≡ Some n) × (hiding gates n ≡ m) = mapped (hiding gates) (moves b) e in
      subst (IsRule next (hide gates b)) from.2 (λ sorted holds.
      hidden_step gates from.0.label from.0.target (rules b from.0 from.1 sorted holds))
  hidden_rule next moves rules _ m e = absurd cc

  enabling_rule : (next : ℕ) (b : Behaviour) (variables : List Variable) (c : Behaviour) (n : Move) (label : Label) (m : Move)
      → enabling data_.signature variables c n label ≡ Some m
      → (Supplied data_.signature values next n.sorts → AllHold data_ n.asked → Transition data_ processes b label n.target)
      → IsRule next (enable b variables c) m
  enabling_rule next b variables c n (exit_event us) m e rule =
      let test : (have_sorts data_.signature us (sorts_of variables) ≡ true) × _ =
      tested (have_sorts data_.signature us (sorts_of variables))
      (record n { label = inner_event; target = with_values (binding_of variables us) c }) e in
      subst (IsRule next (enable b variables c)) test.1 (λ sorted holds. enables (rule sorted holds) test.0)
  enabling_rule next b variables c n _ m e rule = absurd cc

  enabled_rule : (next : ℕ) (moves : Behaviour → Option Move) → AreRules next moves → (b : Behaviour) (m : Move)
      → enabled_move (given data_ processes) moves b ≡ Some m → IsRule next b m
  enabled_rule next moves rules (enable b variables c) m e =
      let from : (n : Move) × (moves b ≡ Some n) × (enabling data_.signature variables c n n.label ≡ Some m) =
      chained (λ (n : Move). enabling data_.signature variables c n n.label) (moves b) e in
      enabling_rule next b variables c from.0 from.0.label m from.2 (rules b from.0 from.1)
  enabled_rule next moves rules _ m e = absurd cc

  passed_rule : (next : ℕ) (moves : Behaviour → Option Move) → AreRules next moves → (b : Behaviour) (m : Move)
      → passed_move moves b ≡ Some m → IsRule next b m
  passed_rule next moves rules (enable b variables c) m e =
      let from : (n : Move) × (moves b ≡ Some n) × (passing variables c n ≡ Some m) = chained (passing variables c) (moves b) e in
      let test : (is_exit from.0.label ≡ false) × _ = tested_not (is_exit from.0.label)
      (record from.0 { target = enable from.0.target variables c }) from.2 in
      subst (IsRule next (enable b variables c)) test.1 (λ sorted holds. goes_on (rules b from.0 from.1 sorted holds) test.0)
  passed_rule next moves rules _ m e = absurd cc

  let_rule : (next : ℕ) (moves : Behaviour → Option Move) → AreRules next moves → (b : Behaviour) (m : Move)
      → let_move (given data_ processes) moves b ≡ Some m → IsRule next b m
  let_rule next moves rules (let_be bindings b) m e = λ sorted holds.
      lets (rules (with_values (binding_of (let_variables bindings) (let_terms bindings)) b) m (rw (map-as_given (let_terms bindings)) at e)
      sorted holds)
  let_rule next moves rules _ m e = absurd cc

  value_rule : (next : ℕ) (moves : Behaviour → Option Move) → AreRules (suc next) moves → (b : Behaviour) (m : Move)
      → value_move (given data_ processes) values next moves b ≡ Some m → IsRule next b m
  value_rule next moves rules (choose_value x b) m e =
      let inside : Behaviour = with_values (binding_of (x ∷ []) (values next x.sort ∷ [])) b in
      let from : (n : Move) × (moves inside ≡ Some n) × (after_leaf x.sort n ≡ m) = mapped (after_leaf x.sort) (moves inside) e in
      subst (IsRule next (choose_value x b)) from.2 (λ sorted holds.
      chooses_value (values next x.sort) sorted.0 (rules inside from.0 from.1 sorted.1 holds))
  value_rule next moves rules _ m e = absurd cc

  gate_rule : (next k : ℕ) (moves : Behaviour → Option Move) → AreRules next moves → (b : Behaviour) (m : Move)
      → gate_move k moves b ≡ Some m → IsRule next b m
  gate_rule next k moves rules (choose_gate g gates b) m e =
      let at : (a : ℕ) × (slice_get gates k ≡ Some a) × (option_map (relabelling ((g, a) ∷ [])) (moves b) ≡ Some m) =
      chained (λ (a : ℕ). option_map (relabelling ((g, a) ∷ [])) (moves b)) (slice_get gates k) e in
      let from : (n : Move) × (moves b ≡ Some n) × (relabelling ((g, at.0) ∷ []) n ≡ m) =
      mapped (relabelling ((g, at.0) ∷ [])) (moves b) at.2 in
      subst (IsRule next (choose_gate g gates b)) from.2 (λ sorted holds. chooses_gate k at.0 at.1 (rules b from.0 from.1 sorted holds))
  gate_rule next k moves rules _ m e = absurd cc

  called_rule : (next : ℕ) (moves : Behaviour → Option Move) → AreRules next moves → (b : Behaviour) (m : Move)
      → called_move (given data_ processes) moves b ≡ Some m → IsRule next b m
  called_rule next moves rules (call number gates arguments) m e =
      let at : (process : Process) × (slice_get processes number ≡ Some process)
      × (option_map (relabelling (zip process.gates gates))
      (moves (with_values (binding_of process.parameters (map as_given arguments)) process.body)) ≡ Some m) =
      chained (λ (process : Process). option_map (relabelling (zip process.gates gates))
      (moves (with_values (binding_of process.parameters (map as_given arguments)) process.body))) (slice_get processes number) e in
      let process : Process = at.0 in
      let inside : Behaviour = with_values (binding_of process.parameters arguments) process.body in
      let found : option_map (relabelling (zip process.gates gates)) (moves inside) ≡ Some m =
      subst (λ ts. option_map (relabelling (zip process.gates gates))
      (moves (with_values (binding_of process.parameters ts) process.body)) ≡ Some m) (map-as_given arguments) at.2 in
      let from : (n : Move) × (moves inside ≡ Some n) × (relabelling (zip process.gates gates) n ≡ m) =
      mapped (relabelling (zip process.gates gates)) (moves inside) found in
      subst (IsRule next (call number gates arguments)) from.2
      (λ sorted holds. calls process at.1 (rules inside from.0 from.1 sorted holds))
  called_rule next moves rules _ m e = absurd cc

  relabelled_rule : (next : ℕ) (moves : Behaviour → Option Move) → AreRules next moves → (b : Behaviour) (m : Move)
      → relabelled_move moves b ≡ Some m → IsRule next b m
  relabelled_rule next moves rules (relabel pairs b) m e =
      let from : (n : Move) × (moves b ≡ Some n) × (relabelling pairs n ≡ m) = mapped (relabelling pairs) (moves b) e in
      subst (IsRule next (relabel pairs b)) from.2 (λ sorted holds. relabels (rules b from.0 from.1 sorted holds))
  relabelled_rule next moves rules _ m e = absurd cc

  -- A transition of the copies of a gate `par` is one of the `par`.
  closed : (b : Behaviour) (label : Label) (target : Behaviour) → Transition data_ processes (opened b) label target
      → Transition data_ processes b label target
  closed (par_gate g gates meet b) label target t = par_copies t
  closed _ label target t = t

  by_row : (row : Behaviour → Option Move) (next : ℕ) → AreRules next row → (b : Behaviour) (m : Move) → row (opened b) ≡ Some m
      → IsRule next b m
  by_row row next rules b m e = λ sorted holds. closed b m.label m.target (rules (opened b) m e sorted holds)

  pub rules_of : (s : Shape) (next : ℕ) → AreRules next (move_of (given data_ processes) values s next)
  rules_of act next b m e = by_row (act_move (given data_ processes) values next) next (act_rule next) b m e
  rules_of quit next b m e = by_row (quit_move (given data_ processes) values next) next (quit_rule next) b m e
  rules_of inner_step next b m e = by_row inner_move next (inner_rule next) b m e
  rules_of (guarded s) next b m e = by_row (guarded_move (move_of (given data_ processes) values s next)) next
      (guarded_rule next (move_of (given data_ processes) values s next) (rules_of s next)) b m e
  rules_of (left_side s) next b m e = by_row (left_move (move_of (given data_ processes) values s next)) next
      (left_rule next (move_of (given data_ processes) values s next) (rules_of s next)) b m e
  rules_of (right_side s) next b m e = by_row (right_move (move_of (given data_ processes) values s next)) next
      (right_rule next (move_of (given data_ processes) values s next) (rules_of s next)) b m e
  rules_of (both_sides s t) next b m e = by_row (both_move (given data_ processes) next (move_of (given data_ processes) values s next)
      (move_of (given data_ processes) values t)) next (both_rule next (move_of (given data_ processes) values s next) (rules_of s next)
      (move_of (given data_ processes) values t) (rules_of t)) b m e
  rules_of (hidden s) next b m e = by_row (hidden_move (move_of (given data_ processes) values s next)) next
      (hidden_rule next (move_of (given data_ processes) values s next) (rules_of s next)) b m e
  rules_of (enabled s) next b m e = by_row (enabled_move (given data_ processes) (move_of (given data_ processes) values s next)) next
      (enabled_rule next (move_of (given data_ processes) values s next) (rules_of s next)) b m e
  rules_of (passed s) next b m e = by_row (passed_move (move_of (given data_ processes) values s next)) next
      (passed_rule next (move_of (given data_ processes) values s next) (rules_of s next)) b m e
  rules_of (let_bound s) next b m e = by_row (let_move (given data_ processes) (move_of (given data_ processes) values s next)) next
      (let_rule next (move_of (given data_ processes) values s next) (rules_of s next)) b m e
  rules_of (with_value s) next b m e = by_row (value_move (given data_ processes) values next
      (move_of (given data_ processes) values s (suc next))) next
      (value_rule next (move_of (given data_ processes) values s (suc next)) (rules_of s (suc next))) b m e
  rules_of (at_gate k s) next b m e = by_row (gate_move k (move_of (given data_ processes) values s next)) next
      (gate_rule next k (move_of (given data_ processes) values s next) (rules_of s next)) b m e
  rules_of (called s) next b m e = by_row (called_move (given data_ processes) (move_of (given data_ processes) values s next)) next
      (called_rule next (move_of (given data_ processes) values s next) (rules_of s next)) b m e
  rules_of (relabelled s) next b m e = by_row (relabelled_move (move_of (given data_ processes) values s next)) next
      (relabelled_rule next (move_of (given data_ processes) values s next) (rules_of s next)) b m e
