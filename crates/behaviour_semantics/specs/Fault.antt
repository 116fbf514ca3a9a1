-- Faults of a derivation: the first node of its shape, in preorder, at which it is no derivation of the behaviour, and
-- what is wrong there. The nodes are looked at one by one. Nothing is looked at below a node that does not fit, has a
-- bad leaf, or has a test of its own that fails; what a node asks of the labels below it is looked at only where no
-- node below it has a fault. Nodes and leaves are numbered from 0 in preorder.
use Rattle.std.specs.Prelude.{ℕ, suc, ◌+◌, List, [], ◌∷◌, Bool, not, nat_lt, length, map, slice_get, Option, None, Some, option_map, option_and_then, if◌then◌else◌}
use Rattle.lotos_base.specs.Signature.{Signature}
use Rattle.lotos_base.specs.Term.{Term}
use Rattle.lotos_base.specs.Tests.{term_eq}
use Rattle.lotos_base.specs.Equation.{Data, Variable}
use Rattle.lotos_base.specs.Substitution.{Substitution}
use Rattle.behaviour_semantics.specs.Behaviour.{Behaviour, exit_with, action, inner_action, guard, choice, parallel, hide, enable, disable, let_be, choose_value, choose_gate, call, relabel, Test, SynchronisationSet, Process, asked_variables, open_sorts, sorts_of, let_variables, let_terms}
use Rattle.behaviour_semantics.specs.Label.{Label, exit_event}
use Rattle.behaviour_semantics.specs.Replacement.{with_values, binding_of}
use Rattle.behaviour_semantics.specs.Rule.{tests_of, moves_alone, have_sorts, move_together, label_values, pairwise, is_exit}
use Rattle.behaviour_semantics.specs.Shape.{Shape, act, quit, inner_step, guarded, left_side, right_side, both_sides, hidden, enabled, passed, let_bound, with_value, at_gate, called, relabelled, Derivation}
use Rattle.behaviour_semantics.specs.Move.{Setting, Move, move_of, taken, opened}
use Rattle.behaviour_semantics.specs.Derives.{leaves_in}
use Rattle.behaviour_semantics.specs.SortTest.{is_value}

-- What is wrong at a node: it does not fit; the leaf with this number is not ground or has another sort; or the two
-- sides, in canonical form, of its test, or of the first pair of values that it matches, differ.
pub data Wrong : Type 0 where
  not_fitting : Wrong
  bad_value : ℕ → Wrong
  unmet : Term → Term → Wrong

-- A fault: the number of the node, and what is wrong there.
pub record Fault : Type 0 where
  pub node : ℕ
  pub wrong : Wrong

-- How many nodes a shape has.
abbrev pub size : Shape → ℕ
size act = 1
size quit = 1
size inner_step = 1
size (guarded s) = suc (size s)
size (left_side s) = suc (size s)
size (right_side s) = suc (size s)
size (both_sides s t) = suc (size s + size t)
size (hidden s) = suc (size s)
size (enabled s) = suc (size s)
size (passed s) = suc (size s)
size (let_bound s) = suc (size s)
size (with_value s) = suc (size s)
size (at_gate k s) = suc (size s)
size (called s) = suc (size s)
size (relabelled s) = suc (size s)

-- The first of two things that is there.
abbrev pub first_of_two : {X : Type 0} → Option X → Option X → Option X
first_of_two (Some x) later = Some x
first_of_two None later = later

-- What is wrong, as a fault at the node.
abbrev pub at_node : ℕ → Option Wrong → Option Fault
at_node node wrong = option_map (λ (w : Wrong). record { node = node; wrong = w }) wrong

-- The first leaf from a number on that is no value of its sort.
abbrev pub first_bad : Signature → Substitution → ℕ → List ℕ → Option Wrong
first_bad signature leaves next [] = None
first_bad signature leaves next (s ∷ sorts) =
    if is_value signature s (leaves next s) then first_bad signature leaves (suc next) sorts else Some (bad_value next)

-- What is wrong with the leaves of a node, which has leaves of these sorts from a number on: there are too few, or one
-- is bad.
abbrev pub wrong_leaves : Signature → List Term → ℕ → List ℕ → Option Wrong
wrong_leaves signature leaves next sorts =
    if nat_lt (length leaves) (next + length sorts) then Some not_fitting else first_bad signature (leaves_in leaves) next sorts

-- The first test that fails: its sides have different canonical forms.
abbrev pub first_unmet : (Term → Term) → List Test → Option Wrong
first_unmet canon [] = None
first_unmet canon (test ∷ tests) =
    if term_eq (canon test.left) (canon test.right) then first_unmet canon tests else Some (unmet (canon test.left) (canon test.right))

-- Nothing is wrong where the thing is there, or the test holds; else the node does not fit.
abbrev pub unless_there : {X : Type 0} → Option X → Option Wrong
unless_there None = Some not_fitting
unless_there (Some x) = None

abbrev pub unless : Bool → Option Wrong
unless holds = if holds then None else Some not_fitting

-- The part of the behaviour that a node with one part goes on with, or both sides with on the left, by the variant of the
-- shape. A behaviour that the variant does not suit has none, nor has a gate or a process that is not there.

abbrev pub guarded_part : Behaviour → Option Behaviour
guarded_part (guard test b) = Some b
guarded_part _ = None

abbrev pub left_part : Behaviour → Option Behaviour
left_part (choice b c) = Some b
left_part (parallel meet b c) = Some b
left_part (disable b c) = Some b
left_part _ = None

abbrev pub right_part : Behaviour → Option Behaviour
right_part (choice b c) = Some c
right_part (parallel meet b c) = Some c
right_part (disable b c) = Some c
right_part _ = None

abbrev pub both_part : Behaviour → Option Behaviour
both_part (parallel meet b c) = Some b
both_part _ = None

abbrev pub hidden_part : Behaviour → Option Behaviour
hidden_part (hide gates b) = Some b
hidden_part _ = None

abbrev pub enable_part : Behaviour → Option Behaviour
enable_part (enable b variables c) = Some b
enable_part _ = None

abbrev pub let_part : Setting → Behaviour → Option Behaviour
let_part setting (let_be bindings b) =
    Some (with_values (binding_of (let_variables bindings) (map setting.represent (let_terms bindings))) b)
let_part setting _ = None

abbrev pub value_part : Setting → Substitution → ℕ → Behaviour → Option Behaviour
value_part setting leaves next (choose_value x b) =
    Some (with_values (binding_of (x ∷ []) (setting.represent (leaves next x.sort) ∷ [])) b)
value_part setting leaves next _ = None

abbrev pub gate_part : ℕ → Behaviour → Option Behaviour
gate_part k (choose_gate g gates b) = option_map (λ (a : ℕ). b) (slice_get gates k)
gate_part k _ = None

abbrev pub called_part : Setting → Behaviour → Option Behaviour
called_part setting (call number gates arguments) =
    option_map (λ (process : Process). with_values (binding_of process.parameters (map setting.represent arguments)) process.body)
    (slice_get setting.processes number)
called_part setting _ = None

abbrev pub relabelled_part : Behaviour → Option Behaviour
relabelled_part (relabel pairs b) = Some b
relabelled_part _ = None

abbrev pub part_of : Setting → List Term → Shape → ℕ → Behaviour → Option Behaviour
part_of setting leaves act next b = None
part_of setting leaves quit next b = None
part_of setting leaves inner_step next b = None
part_of setting leaves (guarded s) next b = guarded_part b
part_of setting leaves (left_side s) next b = left_part b
part_of setting leaves (right_side s) next b = right_part b
part_of setting leaves (both_sides s t) next b = both_part b
part_of setting leaves (hidden s) next b = hidden_part b
part_of setting leaves (enabled s) next b = enable_part b
part_of setting leaves (passed s) next b = enable_part b
part_of setting leaves (let_bound s) next b = let_part setting b
part_of setting leaves (with_value s) next b = value_part setting (leaves_in leaves) next b
part_of setting leaves (at_gate k s) next b = gate_part k b
part_of setting leaves (called s) next b = called_part setting b
part_of setting leaves (relabelled s) next b = relabelled_part b

-- What is wrong at a node by itself: it does not suit the behaviour, its leaves, or its test.

abbrev pub act_wrong : Setting → List Term → ℕ → Behaviour → Option Wrong
act_wrong setting leaves next (action g offers test b) =
    let variables : List Variable = asked_variables offers in
    let values : Substitution = binding_of variables (map setting.represent (taken (leaves_in leaves) next (sorts_of variables))) in
    first_of_two (wrong_leaves setting.signature leaves next (sorts_of variables)) (first_unmet setting.represent (tests_of values test))
act_wrong setting leaves next _ = Some not_fitting

abbrev pub quit_wrong : Setting → List Term → ℕ → Behaviour → Option Wrong
quit_wrong setting leaves next (exit_with results) = wrong_leaves setting.signature leaves next (open_sorts results)
quit_wrong setting leaves next _ = Some not_fitting

abbrev pub inner_wrong : Behaviour → Option Wrong
inner_wrong (inner_action b) = None
inner_wrong _ = Some not_fitting

abbrev pub guarded_wrong : Setting → Behaviour → Option Wrong
guarded_wrong setting (guard test b) = first_unmet setting.represent (test ∷ [])
guarded_wrong setting _ = Some not_fitting

abbrev pub value_wrong : Setting → List Term → ℕ → Behaviour → Option Wrong
value_wrong setting leaves next (choose_value x b) = wrong_leaves setting.signature leaves next (x.sort ∷ [])
value_wrong setting leaves next _ = Some not_fitting

abbrev pub own_wrong : Setting → List Term → Shape → ℕ → Behaviour → Option Wrong
own_wrong setting leaves act next b = act_wrong setting leaves next b
own_wrong setting leaves quit next b = quit_wrong setting leaves next b
own_wrong setting leaves inner_step next b = inner_wrong b
own_wrong setting leaves (guarded s) next b = guarded_wrong setting b
own_wrong setting leaves (with_value s) next b = value_wrong setting leaves next b
own_wrong setting leaves s next b = unless_there (part_of setting leaves s next b)

-- What is wrong with the labels below a node: they are not as its rule asks.

-- A side of a parallel moves alone; a choice and a disabling ask nothing.
abbrev pub side_label : Behaviour → Label → Option Wrong
side_label (parallel meet b c) label = unless (moves_alone meet label)
side_label _ label = None

-- The left side of `>>` has ended, with values of these sorts.
abbrev pub ends_with : Signature → List ℕ → Label → Bool
ends_with signature sorts (exit_event values) = have_sorts signature values sorts
ends_with signature sorts _ = Bool.false

abbrev pub ended_label : Signature → Behaviour → Label → Option Wrong
ended_label signature (enable b variables c) label = unless (ends_with signature (sorts_of variables) label)
ended_label signature _ label = None

-- The label of the one part.
abbrev pub label_wrong : Setting → Shape → Behaviour → Label → Option Wrong
label_wrong setting (left_side s) b label = side_label b label
label_wrong setting (right_side s) b label = side_label b label
label_wrong setting (enabled s) b label = ended_label setting.signature b label
label_wrong setting (passed s) b label = unless (not (is_exit label))
label_wrong setting s b label = None

-- The labels of both sides of a parallel: they move together, and the values of each pair are equal.
abbrev pub match_wrong : Setting → SynchronisationSet → Label → Label → Option Wrong
match_wrong setting meet label other =
    if move_together setting.signature meet label other
    then first_unmet setting.represent (pairwise (label_values label) (label_values other))
    else Some not_fitting

-- The first fault of a node with one part: what is wrong at the node by itself, or else the first fault of its part, or else
-- what is wrong with the label of the part.
pub record Node : Type 0 where
  pub number : ℕ
  pub own : Option Wrong
  pub part : Option Behaviour
  pub label : Label → Option Wrong

abbrev pub node_of : Setting → List Term → Shape → ℕ → ℕ → Behaviour → Node
node_of setting leaves s node next b = record {
  number = node;
  own = own_wrong setting leaves s next (opened b);
  part = part_of setting leaves s next (opened b);
  label = label_wrong setting s (opened b);
}

abbrev pub one_part : Node → (Behaviour → Option Fault) → (Behaviour → Option Move) → Option Fault
one_part node faults moves =
    first_of_two (at_node node.number node.own)
    (first_of_two (option_and_then faults node.part)
    (at_node node.number (option_and_then (λ (m : Move). node.label m.label) (option_and_then moves node.part))))

-- The first fault of both sides: the node does not suit, or else the first fault of the left side, or else that of the
-- right side, whose first leaf comes after those of the left side, or else the labels do not match.
pub record SidesFault : Type 0 where
  pub left_faults : Behaviour → Option Fault
  pub left_moves : Behaviour → Option Move
  pub right_faults : ℕ → Behaviour → Option Fault
  pub right_moves : ℕ → Behaviour → Option Move

abbrev pub right_and_match : Setting → ℕ → ℕ → SidesFault → SynchronisationSet → Behaviour → Move → Option Fault
right_and_match setting node next sides meet c m =
    first_of_two (sides.right_faults (next + length m.sorts) c)
    (at_node node (option_and_then (λ (n : Move). match_wrong setting meet m.label n.label) (sides.right_moves (next + length m.sorts) c)))

abbrev pub both_parts : Setting → ℕ → ℕ → SidesFault → Behaviour → Option Fault
both_parts setting node next sides (parallel meet b c) =
    first_of_two (sides.left_faults b) (option_and_then (right_and_match setting node next sides meet c) (sides.left_moves b))
both_parts setting node next sides _ = at_node node (Some not_fitting)

-- The first fault of a shape whose first node and whose first leaf have these numbers.
abbrev pub fault_from : Setting → List Term → Shape → ℕ → ℕ → Behaviour → Option Fault
fault_from setting leaves act node next b = at_node node (act_wrong setting leaves next (opened b))
fault_from setting leaves quit node next b = at_node node (quit_wrong setting leaves next (opened b))
fault_from setting leaves inner_step node next b = at_node node (inner_wrong (opened b))
fault_from setting leaves (guarded s) node next b =
    one_part (node_of setting leaves (guarded s) node next b)
    (fault_from setting leaves s (suc node) next) (move_of setting (leaves_in leaves) s next)
fault_from setting leaves (left_side s) node next b =
    one_part (node_of setting leaves (left_side s) node next b)
    (fault_from setting leaves s (suc node) next) (move_of setting (leaves_in leaves) s next)
fault_from setting leaves (right_side s) node next b =
    one_part (node_of setting leaves (right_side s) node next b)
    (fault_from setting leaves s (suc node) next) (move_of setting (leaves_in leaves) s next)
fault_from setting leaves (both_sides s t) node next b =
    both_parts setting node next
    (record {
      left_faults = fault_from setting leaves s (suc node) next;
      left_moves = move_of setting (leaves_in leaves) s next;
      right_faults = fault_from setting leaves t (suc (node + size s));
      right_moves = move_of setting (leaves_in leaves) t;
    }) (opened b)
fault_from setting leaves (hidden s) node next b =
    one_part (node_of setting leaves (hidden s) node next b)
    (fault_from setting leaves s (suc node) next) (move_of setting (leaves_in leaves) s next)
fault_from setting leaves (enabled s) node next b =
    one_part (node_of setting leaves (enabled s) node next b)
    (fault_from setting leaves s (suc node) next) (move_of setting (leaves_in leaves) s next)
fault_from setting leaves (passed s) node next b =
    one_part (node_of setting leaves (passed s) node next b)
    (fault_from setting leaves s (suc node) next) (move_of setting (leaves_in leaves) s next)
fault_from setting leaves (let_bound s) node next b =
    one_part (node_of setting leaves (let_bound s) node next b)
    (fault_from setting leaves s (suc node) next) (move_of setting (leaves_in leaves) s next)
fault_from setting leaves (with_value s) node next b =
    one_part (node_of setting leaves (with_value s) node next b)
    (fault_from setting leaves s (suc node) (suc next)) (move_of setting (leaves_in leaves) s (suc next))
fault_from setting leaves (at_gate k s) node next b =
    one_part (node_of setting leaves (at_gate k s) node next b)
    (fault_from setting leaves s (suc node) next) (move_of setting (leaves_in leaves) s next)
fault_from setting leaves (called s) node next b =
    one_part (node_of setting leaves (called s) node next b)
    (fault_from setting leaves s (suc node) next) (move_of setting (leaves_in leaves) s next)
fault_from setting leaves (relabelled s) node next b =
    one_part (node_of setting leaves (relabelled s) node next b)
    (fault_from setting leaves s (suc node) next) (move_of setting (leaves_in leaves) s next)

-- Leaves left over do not fit at the number just past the last node.
abbrev pub left_over : Derivation → Option Move → Option Fault
left_over d None = None
left_over d (Some m) = if nat_lt (length m.sorts) (length d.leaves) then at_node (size d.shape) (Some not_fitting) else None

-- The first fault of a derivation of the behaviour, with values in canonical form.
abbrev pub fault_of : Data → (Term → Term) → List Process → Behaviour → Derivation → Option Fault
fault_of data_ canon processes b d =
    let setting : Setting = record { signature = data_.signature; represent = canon; processes = processes } in
    first_of_two (fault_from setting d.leaves d.shape 0 0 b) (left_over d (move_of setting (leaves_in d.leaves) d.shape 0 b))
