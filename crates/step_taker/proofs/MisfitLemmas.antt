-- Shapes that do not fit, and gates `par`, which have the faults and the moves of their copies.
use Rattle.std.proofs.Common.{◌≡◌, ℕ, suc, ◌+◌, List, Option, Some, refl, ap}
use Rattle.lotos_base.specs.Term.{Term}
use Rattle.behaviour_semantics.specs.Behaviour.{Behaviour, par_gate, parallel, SynchronisationSet}
use Rattle.behaviour_semantics.specs.Derives.{leaves_in}
use Rattle.behaviour_semantics.specs.Fault.{act_wrong, at_node, both_part, both_parts, Fault, fault_from, inner_wrong, label_wrong, Node, node_of, not_fitting, one_part, own_wrong, part_of, quit_wrong, SidesFault, size, unless_there, Wrong}
use Rattle.behaviour_semantics.specs.Move.{Move, move_of, opened, Setting}
use Rattle.behaviour_semantics.specs.Rule.{copies}
use Rattle.behaviour_semantics.specs.Shape.{act, at_gate, both_sides, called, enabled, guarded, hidden, inner_step, left_side, let_bound, passed, quit, relabelled, right_side, Shape, with_value}
use Rattle.behaviour_semantics.proofs.OpenedLemmas.{move_of-copies, opened-copies}
use Rattle.step_taker.specs.Stands.{fault_at_stand, move_at, stand}

own_first : (node : Node) (faults : Behaviour → Option Fault) (moves : Behaviour → Option Move) → node.own ≡ Some not_fitting
    → one_part node faults moves ≡ Some (record { node = node.number; wrong = not_fitting })
own_first node faults moves e =
    ap (λ (own : Option Wrong). one_part (record { number = node.number; own = own; part = node.part; label = node.label }) faults
    moves) e

not_both : (setting : Setting) (n k : ℕ) (sides : SidesFault) (b : Behaviour) → unless_there (both_part b) ≡ Some not_fitting
    → both_parts setting n k sides b ≡ Some (record { node = n; wrong = not_fitting })
not_both setting n k sides (parallel meet b c) e = absurd (cc e)
not_both setting n k sides _ e = refl

module _ (setting : Setting) (leaves : List Term) where
  pub misfits : (s : Shape) (n k : ℕ) (b : Behaviour) → own_wrong setting leaves s k (opened b) ≡ Some not_fitting
      → fault_at_stand setting leaves (stand b s n k) ≡ Some (record { node = n; wrong = not_fitting })
  misfits act n k b e = ap (at_node n) e
  misfits quit n k b e = ap (at_node n) e
  misfits inner_step n k b e = ap (at_node n) e
  misfits (both_sides s t) n k b e = not_both setting n k (record {
    left_faults = fault_from setting leaves s (suc n) k;
    left_moves = move_of setting (leaves_in leaves) s k;
    right_faults = fault_from setting leaves t (suc (n + size s));
    right_moves = move_of setting (leaves_in leaves) t;
  }) (opened b) e
  misfits (guarded s) n k b e = own_first (node_of setting leaves (guarded s) n k b) (fault_from setting leaves s (suc n) k) (move_of
      setting (leaves_in leaves) s k) e
  misfits (left_side s) n k b e = own_first (node_of setting leaves (left_side s) n k b) (fault_from setting leaves s (suc n) k) (move_of
      setting (leaves_in leaves) s k) e
  misfits (right_side s) n k b e = own_first (node_of setting leaves (right_side s) n k b) (fault_from setting leaves s (suc n) k)
      (move_of setting (leaves_in leaves) s k) e
  misfits (hidden s) n k b e = own_first (node_of setting leaves (hidden s) n k b) (fault_from setting leaves s (suc n) k) (move_of
      setting (leaves_in leaves) s k) e
  misfits (enabled s) n k b e = own_first (node_of setting leaves (enabled s) n k b) (fault_from setting leaves s (suc n) k) (move_of
      setting (leaves_in leaves) s k) e
  misfits (passed s) n k b e = own_first (node_of setting leaves (passed s) n k b) (fault_from setting leaves s (suc n) k) (move_of
      setting (leaves_in leaves) s k) e
  misfits (let_bound s) n k b e = own_first (node_of setting leaves (let_bound s) n k b) (fault_from setting leaves s (suc n) k) (move_of
      setting (leaves_in leaves) s k) e
  misfits (with_value s) n k b e = own_first (node_of setting leaves (with_value s) n k b) (fault_from setting leaves s (suc n) (suc k))
      (move_of setting (leaves_in leaves) s (suc k)) e
  misfits (at_gate g s) n k b e = own_first (node_of setting leaves (at_gate g s) n k b) (fault_from setting leaves s (suc n) k) (move_of
      setting (leaves_in leaves) s k) e
  misfits (called s) n k b e = own_first (node_of setting leaves (called s) n k b) (fault_from setting leaves s (suc n) k) (move_of
      setting (leaves_in leaves) s k) e
  misfits (relabelled s) n k b e = own_first (node_of setting leaves (relabelled s) n k b) (fault_from setting leaves s (suc n) k)
      (move_of setting (leaves_in leaves) s k) e

  -- the node of a behaviour that is opened already
  abbrev open_node : Shape → ℕ → ℕ → Behaviour → Node
  open_node s n k b = record {
    number = n;
    own = own_wrong setting leaves s k b;
    part = part_of setting leaves s k b;
    label = label_wrong setting s b;
  }

  abbrev open_part : Shape → ℕ → ℕ → (Behaviour → Option Fault) → (Behaviour → Option Move) → Behaviour → Option Fault
  open_part s n k faults moves b = one_part (open_node s n k b) faults moves

  module _ (g : ℕ) (gates : List ℕ) (meet : SynchronisationSet) (b : Behaviour) where
    pub moves_of_copies : (s : Shape) (n k : ℕ)
        → move_at setting leaves (stand (copies g gates meet b) s n k) ≡ move_at setting leaves (stand (par_gate g gates meet b) s n k)
    moves_of_copies s n k = move_of-copies setting (leaves_in leaves) s k g gates meet b

    pub faults_of_copies : (s : Shape) (n k : ℕ)
        → fault_at_stand setting leaves (stand (copies g gates meet b) s n k)
        ≡ fault_at_stand setting leaves (stand (par_gate g gates meet b) s n k)
    faults_of_copies act n k = ap (λ (o : Behaviour). at_node n (act_wrong setting leaves k o)) (opened-copies g gates meet b)
    faults_of_copies quit n k = ap (λ (o : Behaviour). at_node n (quit_wrong setting leaves k o)) (opened-copies g gates meet b)
    faults_of_copies inner_step n k = ap (λ (o : Behaviour). at_node n (inner_wrong o)) (opened-copies g gates meet b)
    faults_of_copies (both_sides s t) n k = ap (both_parts setting n k (record {
      left_faults = fault_from setting leaves s (suc n) k;
      left_moves = move_of setting (leaves_in leaves) s k;
      right_faults = fault_from setting leaves t (suc (n + size s));
      right_moves = move_of setting (leaves_in leaves) t;
    })) (opened-copies g gates meet b)
    faults_of_copies (guarded s) n k = ap (open_part (guarded s) n k (fault_from setting leaves s (suc n) k) (move_of setting (leaves_in
        leaves) s k)) (opened-copies g gates meet b)
    faults_of_copies (left_side s) n k = ap (open_part (left_side s) n k (fault_from setting leaves s (suc n) k) (move_of setting
        (leaves_in leaves) s k)) (opened-copies g gates meet b)
    faults_of_copies (right_side s) n k = ap (open_part (right_side s) n k (fault_from setting leaves s (suc n) k) (move_of setting
        (leaves_in leaves) s k)) (opened-copies g gates meet b)
    faults_of_copies (hidden s) n k = ap (open_part (hidden s) n k (fault_from setting leaves s (suc n) k) (move_of setting (leaves_in
        leaves) s k)) (opened-copies g gates meet b)
    faults_of_copies (enabled s) n k = ap (open_part (enabled s) n k (fault_from setting leaves s (suc n) k) (move_of setting (leaves_in
        leaves) s k)) (opened-copies g gates meet b)
    faults_of_copies (passed s) n k = ap (open_part (passed s) n k (fault_from setting leaves s (suc n) k) (move_of setting (leaves_in
        leaves) s k)) (opened-copies g gates meet b)
    faults_of_copies (let_bound s) n k = ap (open_part (let_bound s) n k (fault_from setting leaves s (suc n) k) (move_of setting
        (leaves_in leaves) s k)) (opened-copies g gates meet b)
    faults_of_copies (with_value s) n k = ap (open_part (with_value s) n k (fault_from setting leaves s (suc n) (suc k)) (move_of setting
        (leaves_in leaves) s (suc k))) (opened-copies g gates meet b)
    faults_of_copies (at_gate i s) n k = ap (open_part (at_gate i s) n k (fault_from setting leaves s (suc n) k) (move_of setting
        (leaves_in leaves) s k)) (opened-copies g gates meet b)
    faults_of_copies (called s) n k = ap (open_part (called s) n k (fault_from setting leaves s (suc n) k) (move_of setting (leaves_in
        leaves) s k)) (opened-copies g gates meet b)
    faults_of_copies (relabelled s) n k = ap (open_part (relabelled s) n k (fault_from setting leaves s (suc n) k) (move_of setting
        (leaves_in leaves) s k)) (opened-copies g gates meet b)
