-- The table of moves: what a shape makes of a behaviour (ISO 8807, dynamic semantics of behaviour expressions).
-- It goes by the shape. For each variant one small function goes by cases on the behaviour and gets the moves of
-- the parts as an argument; a behaviour that the variant does not suit has no move.
use Rattle.std.specs.Prelude.{ℕ, suc, ◌+◌, List, [], ◌∷◌, ◌++◌, length, map, zip, slice_get, Option, None, Some, option_map, option_and_then, if◌then◌else◌}
use Rattle.lotos_base.specs.Signature.{Signature}
use Rattle.lotos_base.specs.Term.{Term}
use Rattle.lotos_base.specs.Equation.{Variable}
use Rattle.lotos_base.specs.Substitution.{Substitution}
use Rattle.behaviour_semantics.specs.Behaviour.{Behaviour, stop, exit_with, action, inner_action, guard, choice, parallel, hide, enable, disable, let_be, choose_value, choose_gate, par_gate, call, relabel, Test, SynchronisationSet, Process, Relabelling, asked_variables, open_sorts, sorts_of, let_variables, let_terms}
use Rattle.behaviour_semantics.specs.Label.{Label, inner_event, gate_event, exit_event, label_under, under}
use Rattle.behaviour_semantics.specs.Replacement.{with_values, binding_of}
use Rattle.behaviour_semantics.specs.Rule.{offered, results_of, tests_of, moves_alone, have_sorts, move_together, label_values, pairwise, hidden_label, is_exit, still_disabled, copies}
use Rattle.behaviour_semantics.specs.Shape.{Shape, act, quit, inner_step, guarded, left_side, right_side, both_sides, hidden, enabled, passed, let_bound, with_value, at_gate, called, relabelled}

-- What a move depends on besides behaviour, shape and leaves: the signature, the term that represents a bound
-- value or a value of a label (the value as given, or its canonical form), and the processes.
pub record Setting : Type 0 where
  pub signature : Signature
  pub represent : Term → Term
  pub processes : List Process

-- A move: its label, its target, the equations that it asks, in order, and the sorts that its leaves have.
pub record Move : Type 0 where
  pub label : Label
  pub target : Behaviour
  pub asked : List Test
  pub sorts : List ℕ

-- The leaves of these sorts from a number on. Leaf number `k` of sort `s` is `leaves k s`.
abbrev pub taken : Substitution → ℕ → List ℕ → List Term
taken leaves next [] = []
taken leaves next (s ∷ sorts) = leaves next s ∷ taken leaves (suc next) sorts

-- What becomes of the move of a part.

-- The test is asked before what is asked below.
abbrev pub asking : Test → Move → Move
asking test m = record m { asked = test ∷ m.asked }

-- A side of a parallel moves alone.
abbrev pub alone : SynchronisationSet → (Behaviour → Behaviour) → Move → Option Move
alone meet beside m = if moves_alone meet m.label then Some (record m { target = beside m.target }) else None

-- Both sides of a parallel move together, with the label of the left one.
abbrev pub together : Signature → SynchronisationSet → Move → Move → Option Move
together signature meet m n =
    if move_together signature meet m.label n.label
    then Some (record {
      label = m.label;
      target = parallel meet m.target n.target;
      asked = m.asked ++ n.asked ++ pairwise (label_values m.label) (label_values n.label);
      sorts = m.sorts ++ n.sorts;
    })
    else None

-- The move stays under `hide`.
abbrev pub hiding : List ℕ → Move → Move
hiding gates m = record m { label = hidden_label gates m.label; target = hide gates m.target }

-- The left side of `>>` goes on.
abbrev pub passing : List Variable → Behaviour → Move → Option Move
passing variables c m = if is_exit m.label then None else Some (record m { target = enable m.target variables c })

-- The left side of `>>` ends with this label, and the right side gets the values.
abbrev pub enabling : Signature → List Variable → Behaviour → Move → Label → Option Move
enabling signature variables c m (exit_event values) =
    if have_sorts signature values (sorts_of variables)
    then Some (record m { label = inner_event; target = with_values (binding_of variables values) c })
    else None
enabling signature variables c m _ = None

-- The left side of `[>` moves.
abbrev pub disabling : Behaviour → Move → Move
disabling c m = record m { target = still_disabled m.label m.target c }

-- The move happens under a relabelling.
abbrev pub relabelling : Relabelling → Move → Move
relabelling pairs m = record m { label = label_under pairs m.label; target = under m.target pairs }

-- One more leaf, before those of the part.
abbrev pub after_leaf : ℕ → Move → Move
after_leaf sort m = record m { sorts = sort ∷ m.sorts }

-- The rows of the table, by the variant of the shape. A gate `par` stands for its copies side by side.

abbrev pub opened : Behaviour → Behaviour
opened (par_gate g gates meet b) = copies g gates meet b
opened b = b

abbrev pub act_move : Setting → Substitution → ℕ → Behaviour → Option Move
act_move setting leaves next (action g offers test b) =
    let variables : List Variable = asked_variables offers in
    let chosen : List Term = taken leaves next (sorts_of variables) in
    let values : Substitution = binding_of variables (map setting.represent chosen) in
    Some (record {
      label = gate_event g (offered setting.represent offers chosen);
      target = with_values values b;
      asked = tests_of values test;
      sorts = sorts_of variables;
    })
act_move setting leaves next _ = None

abbrev pub quit_move : Setting → Substitution → ℕ → Behaviour → Option Move
quit_move setting leaves next (exit_with results) =
    Some (record {
      label = exit_event (results_of setting.represent results (taken leaves next (open_sorts results)));
      target = stop;
      asked = [];
      sorts = open_sorts results;
    })
quit_move setting leaves next _ = None

abbrev pub inner_move : Behaviour → Option Move
inner_move (inner_action b) = Some (record { label = inner_event; target = b; asked = []; sorts = [] })
inner_move _ = None

abbrev pub guarded_move : (Behaviour → Option Move) → Behaviour → Option Move
guarded_move moves (guard test b) = option_map (asking test) (moves b)
guarded_move moves _ = None

abbrev pub left_move : (Behaviour → Option Move) → Behaviour → Option Move
left_move moves (choice b c) = moves b
left_move moves (parallel meet b c) = option_and_then (alone meet (λ target. parallel meet target c)) (moves b)
left_move moves (disable b c) = option_map (disabling c) (moves b)
left_move moves _ = None

abbrev pub right_move : (Behaviour → Option Move) → Behaviour → Option Move
right_move moves (choice b c) = moves c
right_move moves (parallel meet b c) = option_and_then (alone meet (λ target. parallel meet b target)) (moves c)
right_move moves (disable b c) = moves c
right_move moves _ = None

-- The right side's leaves come after those of the left side.
abbrev pub both_move : Setting → ℕ → (Behaviour → Option Move) → (ℕ → Behaviour → Option Move) → Behaviour → Option Move
both_move setting next left_moves right_moves (parallel meet b c) =
    option_and_then (λ (m : Move). option_and_then (together setting.signature meet m) (right_moves (next + length m.sorts) c))
    (left_moves b)
both_move setting next left_moves right_moves _ = None

abbrev pub hidden_move : (Behaviour → Option Move) → Behaviour → Option Move
hidden_move moves (hide gates b) = option_map (hiding gates) (moves b)
hidden_move moves _ = None

abbrev pub enabled_move : Setting → (Behaviour → Option Move) → Behaviour → Option Move
enabled_move setting moves (enable b variables c) =
    option_and_then (λ (m : Move). enabling setting.signature variables c m m.label) (moves b)
enabled_move setting moves _ = None

abbrev pub passed_move : (Behaviour → Option Move) → Behaviour → Option Move
passed_move moves (enable b variables c) = option_and_then (passing variables c) (moves b)
passed_move moves _ = None

abbrev pub let_move : Setting → (Behaviour → Option Move) → Behaviour → Option Move
let_move setting moves (let_be bindings b) =
    moves (with_values (binding_of (let_variables bindings) (map setting.represent (let_terms bindings))) b)
let_move setting moves _ = None

abbrev pub value_move : Setting → Substitution → ℕ → (Behaviour → Option Move) → Behaviour → Option Move
value_move setting leaves next moves (choose_value x b) =
    option_map (after_leaf x.sort) (moves (with_values (binding_of (x ∷ []) (setting.represent (leaves next x.sort) ∷ [])) b))
value_move setting leaves next moves _ = None

abbrev pub gate_move : ℕ → (Behaviour → Option Move) → Behaviour → Option Move
gate_move k moves (choose_gate g gates b) =
    option_and_then (λ (a : ℕ). option_map (relabelling ((g, a) ∷ [])) (moves b)) (slice_get gates k)
gate_move k moves _ = None

abbrev pub called_move : Setting → (Behaviour → Option Move) → Behaviour → Option Move
called_move setting moves (call number gates arguments) =
    option_and_then
    (λ (process : Process). option_map (relabelling (zip process.gates gates))
    (moves (with_values (binding_of process.parameters (map setting.represent arguments)) process.body)))
    (slice_get setting.processes number)
called_move setting moves _ = None

abbrev pub relabelled_move : (Behaviour → Option Move) → Behaviour → Option Move
relabelled_move moves (relabel pairs b) = option_map (relabelling pairs) (moves b)
relabelled_move moves _ = None

-- The table. The shape's leaves are numbered in preorder, the first one by `next`.
abbrev pub move_of : Setting → Substitution → Shape → ℕ → Behaviour → Option Move
move_of setting leaves act next b = act_move setting leaves next (opened b)
move_of setting leaves quit next b = quit_move setting leaves next (opened b)
move_of setting leaves inner_step next b = inner_move (opened b)
move_of setting leaves (guarded s) next b = guarded_move (move_of setting leaves s next) (opened b)
move_of setting leaves (left_side s) next b = left_move (move_of setting leaves s next) (opened b)
move_of setting leaves (right_side s) next b = right_move (move_of setting leaves s next) (opened b)
move_of setting leaves (both_sides s t) next b =
    both_move setting next (move_of setting leaves s next) (move_of setting leaves t) (opened b)
move_of setting leaves (hidden s) next b = hidden_move (move_of setting leaves s next) (opened b)
move_of setting leaves (enabled s) next b = enabled_move setting (move_of setting leaves s next) (opened b)
move_of setting leaves (passed s) next b = passed_move (move_of setting leaves s next) (opened b)
move_of setting leaves (let_bound s) next b = let_move setting (move_of setting leaves s next) (opened b)
move_of setting leaves (with_value s) next b = value_move setting leaves next (move_of setting leaves s (suc next)) (opened b)
move_of setting leaves (at_gate k s) next b = gate_move k (move_of setting leaves s next) (opened b)
move_of setting leaves (called s) next b = called_move setting (move_of setting leaves s next) (opened b)
move_of setting leaves (relabelled s) next b = relabelled_move (move_of setting leaves s next) (opened b)
