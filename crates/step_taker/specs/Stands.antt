-- Where a part of a derivation stands, its first fault and its move there, and how those of a node with one part follow
-- from those of the part.
use Rattle.std.specs.Prelude.{◌≡◌, ℕ, List, Option, option_and_then}
use Rattle.lotos_base.specs.Term.{Term}
use Rattle.behaviour_semantics.specs.Behaviour.{Behaviour}
use Rattle.behaviour_semantics.specs.Derives.{leaves_in}
use Rattle.behaviour_semantics.specs.Fault.{at_node, Fault, fault_from, first_of_two, Wrong}
use Rattle.behaviour_semantics.specs.Label.{Label}
use Rattle.behaviour_semantics.specs.Move.{Move, move_of, Setting}
use Rattle.behaviour_semantics.specs.Shape.{Shape}

-- Where a part stands: its behaviour, its shape, and the numbers of its first node and of its first leaf.
pub record Stand : Type 0 where
  pub behaviour : Behaviour
  pub shape : Shape
  pub number : ℕ
  pub next : ℕ

abbrev pub stand : Behaviour → Shape → ℕ → ℕ → Stand
stand behaviour shape number next = record { behaviour = behaviour; shape = shape; number = number; next = next }

-- its first fault, and its move
abbrev pub fault_at_stand : Setting → List Term → Stand → Option Fault
fault_at_stand setting leaves at = fault_from setting leaves at.shape at.number at.next at.behaviour

abbrev pub move_at : Setting → List Term → Stand → Option Move
move_at setting leaves at = move_of setting (leaves_in leaves) at.shape at.next at.behaviour

-- What is wrong at a node by itself, what its rule asks of the label of its part, and what it makes of the move of its part.
pub record Row : Type 0 where
  pub own : Option Wrong
  pub label : Label → Option Wrong
  pub after : Move → Option Move

-- The node has this part, and its rule is this one.
pub record HasRow (setting : Setting) (leaves : List Term) (whole part : Stand) (row : Row) : Type 0 where
  pub fault : fault_at_stand setting leaves whole ≡ first_of_two (at_node whole.number row.own)
      (first_of_two (fault_at_stand setting leaves part)
      (at_node whole.number (option_and_then (λ (m : Move). row.label m.label) (move_at setting leaves part))))
  pub move : move_at setting leaves whole ≡ option_and_then row.after (move_at setting leaves part)
