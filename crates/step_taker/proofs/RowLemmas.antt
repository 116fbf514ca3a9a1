-- What a node with one part comes to: what is wrong with it by itself, the first fault of its part, what is wrong with the
-- label of its part, or its move.
use Rattle.std.proofs.Common.{◌≡◌, List, Option, None, Some, option_map, option_and_then, refl, ap, ◌∙◌}
use Rattle.lotos_base.specs.Term.{Term}
use Rattle.behaviour_semantics.specs.Fault.{at_node, Fault, first_of_two, Wrong}
use Rattle.behaviour_semantics.specs.Move.{Move, Setting}
use Rattle.step_taker.specs.Stands.{fault_at_stand, HasRow, move_at, Row, Stand}

-- what a mapped and an unchanged option are as chained ones
pub mapped_on : {X Y : Type 0} (f : X → Y) (o : Option X) → option_map f o ≡ option_and_then (λ (x : X). Some (f x)) o
mapped_on f None = refl
mapped_on f (Some x) = refl

pub handed_on : {X : Type 0} (o : Option X) → o ≡ option_and_then (λ (x : X). Some x) o
handed_on None = refl
handed_on (Some x) = refl

module _ (setting : Setting) (leaves : List Term) (whole part : Stand) (row : Row) (has : HasRow setting leaves whole part row) where
  abbrev asked : Option Move → Option Wrong
  asked moves = option_and_then (λ (m : Move). row.label m.label) moves

  abbrev first : Option Wrong → Option Fault → Option Move → Option Fault
  first own faults moves = first_of_two (at_node whole.number own) (first_of_two faults (at_node whole.number (asked moves)))

  pub own_fault : (w : Wrong) → row.own ≡ Some w → fault_at_stand setting leaves whole ≡ Some (record { node = whole.number; wrong = w })
  own_fault w e =
      has.fault ∙ ap (λ (own : Option Wrong). first own (fault_at_stand setting leaves part) (move_at setting leaves part)) e

  below_own : row.own ≡ None → fault_at_stand setting leaves whole
      ≡ first None (fault_at_stand setting leaves part) (move_at setting leaves part)
  below_own e =
      has.fault ∙ ap (λ (own : Option Wrong). first own (fault_at_stand setting leaves part) (move_at setting leaves part)) e

  pub part_fault : row.own ≡ None → (f : Fault) → fault_at_stand setting leaves part ≡ Some f → fault_at_stand setting leaves whole ≡ Some f
  part_fault e f at = below_own e ∙ ap (λ (faults : Option Fault). first None faults (move_at setting leaves part)) at

  behind_part : row.own ≡ None → fault_at_stand setting leaves part ≡ None → (m : Move) → move_at setting leaves part ≡ Some m
      → fault_at_stand setting leaves whole ≡ at_node whole.number (row.label m.label)
  behind_part e none m at =
      below_own e ∙ ap (λ (faults : Option Fault). first None faults (move_at setting leaves part)) none
      ∙ ap (λ (moves : Option Move). first None None moves) at

  pub label_fault : row.own ≡ None → fault_at_stand setting leaves part ≡ None → (m : Move) → move_at setting leaves part ≡ Some m
      → (w : Wrong) → row.label m.label ≡ Some w → fault_at_stand setting leaves whole ≡ Some (record { node = whole.number; wrong = w })
  label_fault e none m at w is = behind_part e none m at ∙ ap (at_node whole.number) is

  pub no_fault : row.own ≡ None → fault_at_stand setting leaves part ≡ None → (m : Move) → move_at setting leaves part ≡ Some m
      → row.label m.label ≡ None → fault_at_stand setting leaves whole ≡ None
  no_fault e none m at is = behind_part e none m at ∙ ap (at_node whole.number) is

  pub moved_after : (m n : Move) → move_at setting leaves part ≡ Some m → row.after m ≡ Some n → move_at setting leaves whole ≡ Some n
  moved_after m n at is = has.move ∙ ap (option_and_then row.after) at ∙ is
