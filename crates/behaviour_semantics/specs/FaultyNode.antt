-- The faulty nodes of a derivation, in no order: which nodes are looked at, and what is wrong at each of them. The first
-- fault of a derivation (`Fault`) is the one whose node has the least number, which a law says.
use Rattle.std.specs.Prelude.{◌≡◌, ◌≤◌, ℕ, suc, ◌+◌, List, length, Option, None, Some}
use Rattle.lotos_base.specs.Term.{Term}
use Rattle.lotos_base.specs.Equation.{Data}
use Rattle.behaviour_semantics.specs.Behaviour.{Behaviour, parallel, SynchronisationSet}
use Rattle.behaviour_semantics.specs.Rule.{AreValues, AllHold}
use Rattle.behaviour_semantics.specs.Shape.{Shape, act, quit, inner_step, guarded, left_side, right_side, both_sides, hidden, enabled, passed, let_bound, with_value, at_gate, called, relabelled}
use Rattle.behaviour_semantics.specs.Move.{Setting, Move, move_of, taken, opened}
use Rattle.behaviour_semantics.specs.Derives.{leaves_in}
use Rattle.behaviour_semantics.specs.Fault.{Wrong, Fault, size, part_of, own_wrong, label_wrong, match_wrong}

-- A node of a derivation: the shape below it, its number and that of its first leaf, and its behaviour.
pub record NodePlace : Type 0 where
  pub shape : Shape
  pub number : ℕ
  pub next : ℕ
  pub behaviour : Behaviour

-- The shape of the one part, or of the left one.
abbrev pub part_shape : Shape → Option Shape
part_shape act = None
part_shape quit = None
part_shape inner_step = None
part_shape (guarded s) = Some s
part_shape (left_side s) = Some s
part_shape (right_side s) = Some s
part_shape (both_sides s t) = Some s
part_shape (hidden s) = Some s
part_shape (enabled s) = Some s
part_shape (passed s) = Some s
part_shape (let_bound s) = Some s
part_shape (with_value s) = Some s
part_shape (at_gate k s) = Some s
part_shape (called s) = Some s
part_shape (relabelled s) = Some s

-- The number of its first leaf: a value choice has a leaf before it.
abbrev pub part_next : Shape → ℕ → ℕ
part_next (with_value s) next = suc next
part_next s next = next

-- The leaves from a number on are enough for the move, values of its sorts, and what it asks holds.
pub record IsSoundMove (data_ : Data) (leaves : List Term) (next : ℕ) (m : Move) : Type 0 where
  pub enough : next + length m.sorts ≤ length leaves
  pub values : AreValues data_.signature m.sorts (taken (leaves_in leaves) next m.sorts)
  pub holds : AllHold data_ m.asked

module _ (data_ : Data) (setting : Setting) (leaves : List Term) where
  -- What is wrong at the node by itself.
  abbrev pub wrong_by_itself : NodePlace → Option Wrong
  wrong_by_itself p = own_wrong setting leaves p.shape p.next (opened p.behaviour)

  -- The move that the shape of the node makes of its behaviour.
  abbrev pub move_at : NodePlace → Option Move
  move_at p = move_of setting (leaves_in leaves) p.shape p.next p.behaviour

  -- The parts of a node: the one part, or the left one; and the right one, whose first leaf comes after those of the left.
  pub data IsPart (whole : NodePlace) : NodePlace → Type 0 where
    is_first_part :
        (s : Shape) (b : Behaviour) →
        part_shape whole.shape ≡ Some s →
        part_of setting leaves whole.shape whole.next (opened whole.behaviour) ≡ Some b →
        IsPart whole (record { shape = s; number = suc whole.number; next = part_next whole.shape whole.next; behaviour = b })
    is_right_part :
        (s t : Shape) (meet : SynchronisationSet) (b c : Behaviour) (m : Move) →
        whole.shape ≡ both_sides s t →
        opened whole.behaviour ≡ parallel meet b c →
        move_of setting (leaves_in leaves) s whole.next b ≡ Some m →
        IsPart whole (record { shape = t; number = suc (whole.number + size s); next = whole.next + length m.sorts; behaviour = c })

  -- The nodes that are looked at: the first one, and the parts of those at which nothing is wrong by itself.
  pub data IsLookedAt (root : NodePlace) : NodePlace → Type 0 where
    at_root : IsLookedAt root root
    at_part : {above below : NodePlace} → IsLookedAt root above → wrong_by_itself above ≡ None → IsPart above below → IsLookedAt root below

  -- The node's part has a sound move.
  abbrev pub HasSoundMove : NodePlace → Type 0
  HasSoundMove p = (m : Move) × (move_at p ≡ Some m) × IsSoundMove data_ leaves p.next m

  -- What is wrong with the labels of the moves of the parts.
  pub data LabelsWrong (p : NodePlace) : Wrong → Type 0 where
    part_label :
        (s : Shape) (b : Behaviour) (m : Move) (w : Wrong) →
        part_shape p.shape ≡ Some s →
        part_of setting leaves p.shape p.next (opened p.behaviour) ≡ Some b →
        move_of setting (leaves_in leaves) s (part_next p.shape p.next) b ≡ Some m →
        label_wrong setting p.shape (opened p.behaviour) m.label ≡ Some w →
        LabelsWrong p w
    both_labels :
        (s t : Shape) (meet : SynchronisationSet) (b c : Behaviour) (m n : Move) (w : Wrong) →
        p.shape ≡ both_sides s t →
        opened p.behaviour ≡ parallel meet b c →
        move_of setting (leaves_in leaves) s p.next b ≡ Some m →
        move_of setting (leaves_in leaves) t (p.next + length m.sorts) c ≡ Some n →
        match_wrong setting meet m.label n.label ≡ Some w →
        LabelsWrong p w

  -- The faults: at a node that is looked at something is wrong by itself; or nothing is, all its parts have sound moves,
  -- and something is wrong with their labels.
  pub data IsFaulty (root : NodePlace) : Fault → Type 0 where
    by_itself : (p : NodePlace) (w : Wrong) → IsLookedAt root p → wrong_by_itself p ≡ Some w
        → IsFaulty root (record { node = p.number; wrong = w })
    by_labels :
        (p : NodePlace) (w : Wrong) →
        IsLookedAt root p →
        wrong_by_itself p ≡ None →
        ((q : NodePlace) → IsPart p q → HasSoundMove q) →
        LabelsWrong p w →
        IsFaulty root (record { node = p.number; wrong = w })
