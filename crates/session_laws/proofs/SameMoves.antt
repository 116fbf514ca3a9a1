-- Settings that differ in names and origins alone have the same table of moves.
use Rattle.std.proofs.Common.{◌≡◌, ◌+◌, ℕ, suc, List, ◌++◌, length, map, Bool, if◌then◌else◌, Option, None, Some, option_map, refl, ap, ◌∙◌}
use Rattle.std.specs.Prelude.{◌&&◌, nat_eq, slice_get, zip, option_and_then}
use Rattle.lotos_base.specs.Term.{Term}
use Rattle.lotos_base.specs.Equation.{Data, Variable}
use Rattle.lotos_base.specs.Substitution.{Substitution}
use Rattle.behaviour_semantics.specs.Behaviour.{Behaviour, stop, exit_with, action, inner_action, guard, choice, parallel, hide, enable, disable, let_be, choose_value, choose_gate, par_gate, call, relabel, SynchronisationSet, Process, sorts_of}
use Rattle.behaviour_semantics.specs.Label.{Label, inner_event, gate_event, exit_event}
use Rattle.behaviour_semantics.specs.Replacement.{with_values, binding_of}
use Rattle.behaviour_semantics.specs.Rule.{move_together, pairwise, label_values, synchronises}
use Rattle.behaviour_semantics.specs.Shape.{Shape, act, quit, inner_step, guarded, left_side, right_side, both_sides, hidden, enabled, passed, let_bound, with_value, at_gate, called, relabelled}
use Rattle.behaviour_semantics.specs.Move.{Setting, Move, opened, together, enabling, relabelling, act_move, quit_move, guarded_move, left_move, right_move, both_move, hidden_move, enabled_move, passed_move, let_move, value_move, gate_move, called_move, relabelled_move, move_of}
use Rattle.certificate_theory.specs.SameData.{AreSameData}
use Rattle.certificate_theory.proofs.SameSignatures.{AgreeSignatures, sorts_asked, same_sorts_asked}
use Rattle.certificate_theory.proofs.InterchangeableData.{signatures_agree}
use Rattle.declaration_laws.specs.SameSpecification.{AreOneProcess, AreSameProcesses}
use Rattle.session_laws.proofs.SamePlaces.{Both, processes_found}

-- two functions that have the same values are the same
pub pointwise : {X Y : Type 0} (f g : X → Y) → ((x : X) → f x ≡ g x) → f ≡ g
pointwise f g same = λ i x. same x i

module _ (data_ other : Data) (same : AreSameData data_ other) (processes others : List Process)
    (alike : AreSameProcesses processes others) (represent : Term → Term) where
  abbrev agree : AgreeSignatures data_.signature other.signature
  agree = signatures_agree data_ other same

  abbrev first : Setting
  first = record { signature = data_.signature; represent = represent; processes = processes }

  abbrev second : Setting
  second = record { signature = other.signature; represent = represent; processes = others }

  -- ---- Where sorts are asked.

  meet_alike : (meet : SynchronisationSet) (l k : Label)
      → move_together data_.signature meet l k ≡ move_together other.signature meet l k
  meet_alike meet (gate_event g us) (gate_event h vs) =
      ap (λ (b : Bool). nat_eq g h && synchronises meet g && b) (same_sorts_asked data_.signature other.signature agree us vs)
  meet_alike meet (exit_event us) (exit_event vs) = same_sorts_asked data_.signature other.signature agree us vs
  meet_alike meet inner_event inner_event = refl
  meet_alike meet inner_event (gate_event h vs) = refl
  meet_alike meet inner_event (exit_event vs) = refl
  meet_alike meet (gate_event g us) inner_event = refl
  meet_alike meet (gate_event g us) (exit_event vs) = refl
  meet_alike meet (exit_event us) inner_event = refl
  meet_alike meet (exit_event us) (gate_event h vs) = refl

  together_alike : (meet : SynchronisationSet) (m n : Move) → together data_.signature meet m n ≡ together other.signature meet m n
  together_alike meet m n = ap (λ (b : Bool).
      if b
      then Some (record {
        label = m.label;
        target = parallel meet m.target n.target;
        asked = m.asked ++ n.asked ++ pairwise (label_values m.label) (label_values n.label);
        sorts = m.sorts ++ n.sorts;
      })
      else None)
      (meet_alike meet m.label n.label)

  enabling_alike : (variables : List Variable) (c : Behaviour) (m : Move) (l : Label)
      → enabling data_.signature variables c m l ≡ enabling other.signature variables c m l
  enabling_alike variables c m (exit_event values) = ap (λ (b : Bool).
      if b then Some (record m { label = inner_event; target = with_values (binding_of variables values) c }) else None)
      (sorts_asked data_.signature other.signature agree values (sorts_of variables))
  enabling_alike variables c m inner_event = refl
  enabling_alike variables c m (gate_event g us) = refl

  -- ---- The rows that look at the setting.

  act_alike : (leaves : Substitution) (next : ℕ) (b : Behaviour) → act_move first leaves next b ≡ act_move second leaves next b
  act_alike leaves next stop = refl
  act_alike leaves next (exit_with results) = refl
  act_alike leaves next (action g offers test b) = refl
  act_alike leaves next (inner_action b) = refl
  act_alike leaves next (guard test b) = refl
  act_alike leaves next (choice b c) = refl
  act_alike leaves next (parallel meet b c) = refl
  act_alike leaves next (hide gates b) = refl
  act_alike leaves next (enable b variables c) = refl
  act_alike leaves next (disable b c) = refl
  act_alike leaves next (let_be bindings b) = refl
  act_alike leaves next (choose_value x b) = refl
  act_alike leaves next (choose_gate g gates b) = refl
  act_alike leaves next (par_gate g gates meet b) = refl
  act_alike leaves next (call number gates arguments) = refl
  act_alike leaves next (relabel pairs b) = refl

  quit_alike : (leaves : Substitution) (next : ℕ) (b : Behaviour) → quit_move first leaves next b ≡ quit_move second leaves next b
  quit_alike leaves next stop = refl
  quit_alike leaves next (exit_with results) = refl
  quit_alike leaves next (action g offers test b) = refl
  quit_alike leaves next (inner_action b) = refl
  quit_alike leaves next (guard test b) = refl
  quit_alike leaves next (choice b c) = refl
  quit_alike leaves next (parallel meet b c) = refl
  quit_alike leaves next (hide gates b) = refl
  quit_alike leaves next (enable b variables c) = refl
  quit_alike leaves next (disable b c) = refl
  quit_alike leaves next (let_be bindings b) = refl
  quit_alike leaves next (choose_value x b) = refl
  quit_alike leaves next (choose_gate g gates b) = refl
  quit_alike leaves next (par_gate g gates meet b) = refl
  quit_alike leaves next (call number gates arguments) = refl
  quit_alike leaves next (relabel pairs b) = refl

  both_alike : (next : ℕ) (left : Behaviour → Option Move) (right : ℕ → Behaviour → Option Move) (b : Behaviour)
      → both_move first next left right b ≡ both_move second next left right b
  both_alike next left right stop = refl
  both_alike next left right (exit_with results) = refl
  both_alike next left right (action g offers test b) = refl
  both_alike next left right (inner_action b) = refl
  both_alike next left right (guard test b) = refl
  both_alike next left right (choice b c) = refl
  both_alike next left right (parallel meet b c) = ap (λ (f : Move → Option Move). option_and_then f (left b))
      (pointwise (λ (m : Move). option_and_then (together data_.signature meet m) (right (next + length m.sorts) c))
      (λ (m : Move). option_and_then (together other.signature meet m) (right (next + length m.sorts) c))
      (λ m. ap (λ (f : Move → Option Move). option_and_then f (right (next + length m.sorts) c))
      (pointwise (together data_.signature meet m) (together other.signature meet m) (together_alike meet m))))
  both_alike next left right (hide gates b) = refl
  both_alike next left right (enable b variables c) = refl
  both_alike next left right (disable b c) = refl
  both_alike next left right (let_be bindings b) = refl
  both_alike next left right (choose_value x b) = refl
  both_alike next left right (choose_gate g gates b) = refl
  both_alike next left right (par_gate g gates meet b) = refl
  both_alike next left right (call number gates arguments) = refl
  both_alike next left right (relabel pairs b) = refl

  enabled_alike : (moves : Behaviour → Option Move) (b : Behaviour) → enabled_move first moves b ≡ enabled_move second moves b
  enabled_alike moves stop = refl
  enabled_alike moves (exit_with results) = refl
  enabled_alike moves (action g offers test b) = refl
  enabled_alike moves (inner_action b) = refl
  enabled_alike moves (guard test b) = refl
  enabled_alike moves (choice b c) = refl
  enabled_alike moves (parallel meet b c) = refl
  enabled_alike moves (hide gates b) = refl
  enabled_alike moves (enable b variables c) = ap (λ (f : Move → Option Move). option_and_then f (moves b))
      (pointwise (λ (m : Move). enabling data_.signature variables c m m.label)
      (λ (m : Move). enabling other.signature variables c m m.label) (λ m. enabling_alike variables c m m.label))
  enabled_alike moves (disable b c) = refl
  enabled_alike moves (let_be bindings b) = refl
  enabled_alike moves (choose_value x b) = refl
  enabled_alike moves (choose_gate g gates b) = refl
  enabled_alike moves (par_gate g gates meet b) = refl
  enabled_alike moves (call number gates arguments) = refl
  enabled_alike moves (relabel pairs b) = refl

  let_alike : (moves : Behaviour → Option Move) (b : Behaviour) → let_move first moves b ≡ let_move second moves b
  let_alike moves stop = refl
  let_alike moves (exit_with results) = refl
  let_alike moves (action g offers test b) = refl
  let_alike moves (inner_action b) = refl
  let_alike moves (guard test b) = refl
  let_alike moves (choice b c) = refl
  let_alike moves (parallel meet b c) = refl
  let_alike moves (hide gates b) = refl
  let_alike moves (enable b variables c) = refl
  let_alike moves (disable b c) = refl
  let_alike moves (let_be bindings b) = refl
  let_alike moves (choose_value x b) = refl
  let_alike moves (choose_gate g gates b) = refl
  let_alike moves (par_gate g gates meet b) = refl
  let_alike moves (call number gates arguments) = refl
  let_alike moves (relabel pairs b) = refl

  value_alike : (leaves : Substitution) (next : ℕ) (moves : Behaviour → Option Move) (b : Behaviour)
      → value_move first leaves next moves b ≡ value_move second leaves next moves b
  value_alike leaves next moves stop = refl
  value_alike leaves next moves (exit_with results) = refl
  value_alike leaves next moves (action g offers test b) = refl
  value_alike leaves next moves (inner_action b) = refl
  value_alike leaves next moves (guard test b) = refl
  value_alike leaves next moves (choice b c) = refl
  value_alike leaves next moves (parallel meet b c) = refl
  value_alike leaves next moves (hide gates b) = refl
  value_alike leaves next moves (enable b variables c) = refl
  value_alike leaves next moves (disable b c) = refl
  value_alike leaves next moves (let_be bindings b) = refl
  value_alike leaves next moves (choose_value x b) = refl
  value_alike leaves next moves (choose_gate g gates b) = refl
  value_alike leaves next moves (par_gate g gates meet b) = refl
  value_alike leaves next moves (call number gates arguments) = refl
  value_alike leaves next moves (relabel pairs b) = refl

  -- the move of a call, with the process that is called
  abbrev call_with : (Behaviour → Option Move) → List ℕ → List Term → List ℕ → List Variable → Behaviour → Option Move
  call_with moves gates arguments formals parameters body = option_map (relabelling (zip formals gates))
      (moves (with_values (binding_of parameters (map represent arguments)) body))

  call_alike : (moves : Behaviour → Option Move) (gates : List ℕ) (arguments : List Term) (p q : Option Process) → Both AreOneProcess p q
      → option_and_then (λ (process : Process). call_with moves gates arguments process.gates process.parameters process.body) p
      ≡ option_and_then (λ (process : Process). call_with moves gates arguments process.gates process.parameters process.body) q
  call_alike moves gates arguments None None one = refl
  call_alike moves gates arguments (Some p) (Some q) one =
      ap (λ (z : List ℕ). call_with moves gates arguments z p.parameters p.body) one.gates
      ∙ (ap (λ (z : List Variable). call_with moves gates arguments q.gates z p.body) one.parameters
      ∙ ap (λ (z : Behaviour). call_with moves gates arguments q.gates q.parameters z) one.body)
  call_alike moves gates arguments None (Some q) one = absurd one
  call_alike moves gates arguments (Some p) None one = absurd one

  called_alike : (moves : Behaviour → Option Move) (b : Behaviour) → called_move first moves b ≡ called_move second moves b
  called_alike moves stop = refl
  called_alike moves (exit_with results) = refl
  called_alike moves (action g offers test b) = refl
  called_alike moves (inner_action b) = refl
  called_alike moves (guard test b) = refl
  called_alike moves (choice b c) = refl
  called_alike moves (parallel meet b c) = refl
  called_alike moves (hide gates b) = refl
  called_alike moves (enable b variables c) = refl
  called_alike moves (disable b c) = refl
  called_alike moves (let_be bindings b) = refl
  called_alike moves (choose_value x b) = refl
  called_alike moves (choose_gate g gates b) = refl
  called_alike moves (par_gate g gates meet b) = refl
  called_alike moves (call number gates arguments) = call_alike moves gates arguments (slice_get processes number) (slice_get others number)
      (processes_found processes others alike number)
  called_alike moves (relabel pairs b) = refl

  -- ---- The table.

  pub moves_alike : (leaves : Substitution) (shape : Shape) (next : ℕ) (b : Behaviour)
      → move_of first leaves shape next b ≡ move_of second leaves shape next b
  moves_alike leaves act next b = act_alike leaves next (opened b)
  moves_alike leaves quit next b = quit_alike leaves next (opened b)
  moves_alike leaves inner_step next b = refl
  moves_alike leaves (guarded s) next b =
      ap (λ (m : Behaviour → Option Move). guarded_move m (opened b))
      (pointwise (move_of first leaves s next) (move_of second leaves s next)
      (moves_alike leaves s next))
  moves_alike leaves (left_side s) next b =
      ap (λ (m : Behaviour → Option Move). left_move m (opened b))
      (pointwise (move_of first leaves s next) (move_of second leaves s next)
      (moves_alike leaves s next))
  moves_alike leaves (right_side s) next b =
      ap (λ (m : Behaviour → Option Move). right_move m (opened b))
      (pointwise (move_of first leaves s next) (move_of second leaves s next)
      (moves_alike leaves s next))
  moves_alike leaves (hidden s) next b =
      ap (λ (m : Behaviour → Option Move). hidden_move m (opened b))
      (pointwise (move_of first leaves s next) (move_of second leaves s next)
      (moves_alike leaves s next))
  moves_alike leaves (passed s) next b =
      ap (λ (m : Behaviour → Option Move). passed_move m (opened b))
      (pointwise (move_of first leaves s next) (move_of second leaves s next)
      (moves_alike leaves s next))
  moves_alike leaves (at_gate k s) next b =
      ap (λ (m : Behaviour → Option Move). gate_move k m (opened b))
      (pointwise (move_of first leaves s next) (move_of second leaves s next)
      (moves_alike leaves s next))
  moves_alike leaves (relabelled s) next b =
      ap (λ (m : Behaviour → Option Move). relabelled_move m (opened b))
      (pointwise (move_of first leaves s next) (move_of second leaves s next)
      (moves_alike leaves s next))
  moves_alike leaves (enabled s) next b =
      enabled_alike (move_of first leaves s next) (opened b)
      ∙ ap (λ (m : Behaviour → Option Move). enabled_move second m (opened b))
      (pointwise (move_of first leaves s next) (move_of second leaves s next)
      (moves_alike leaves s next))
  moves_alike leaves (let_bound s) next b =
      let_alike (move_of first leaves s next) (opened b)
      ∙ ap (λ (m : Behaviour → Option Move). let_move second m (opened b))
      (pointwise (move_of first leaves s next) (move_of second leaves s next)
      (moves_alike leaves s next))
  moves_alike leaves (called s) next b =
      called_alike (move_of first leaves s next) (opened b)
      ∙ ap (λ (m : Behaviour → Option Move). called_move second m (opened b))
      (pointwise (move_of first leaves s next) (move_of second leaves s next)
      (moves_alike leaves s next))
  moves_alike leaves (with_value s) next b =
      value_alike leaves next (move_of first leaves s (suc next)) (opened b)
      ∙ ap (λ (m : Behaviour → Option Move). value_move second leaves next m (opened b))
      (pointwise (move_of first leaves s (suc next)) (move_of second leaves s (suc next))
      (moves_alike leaves s (suc next)))
  moves_alike leaves (both_sides s t) next b =
      both_alike next (move_of first leaves s next) (move_of first leaves t) (opened b)
      ∙ (ap (λ (m : Behaviour → Option Move). both_move second next m (move_of first leaves t) (opened b))
      (pointwise (move_of first leaves s next) (move_of second leaves s next)
      (moves_alike leaves s next))
      ∙ ap (λ (m : ℕ → Behaviour → Option Move). both_move second next (move_of second leaves s next) m (opened b))
      (pointwise (move_of first leaves t) (move_of second leaves t)
      (λ n. pointwise (move_of first leaves t n) (move_of second leaves t n) (moves_alike leaves t n))))
