-- What can be wrong with the types of a text once their names are right, each fault with its place and name.
use Rattle.std.specs.Prelude.{ℕ, List, [], ◌∷◌, Option, None, Some, if◌then◌else◌, Bool}
use Rattle.lotos_base.specs.Equation.{Place}

-- A fault, at its place, with the name as it is spelled there. An unknown sort behind `of` in a term comes without a name.
pub data TypeFault : Type 0 where
  double_sort double_operation unknown_operation not_formal missing_actual too_large : Place → List ℕ → TypeFault
  unknown_sort : Place → Option (List ℕ) → TypeFault
  premised unknown_name no_reading two_readings : Place → TypeFault

-- the fault, if the test says so
abbrev pub fault_if : Bool → TypeFault → Option TypeFault
fault_if test fault = if test then Some fault else None

-- the first of two faults, the second of which is looked for only where the first is none
abbrev pub first_fault : Option TypeFault → Option TypeFault → Option TypeFault
first_fault None later = later
first_fault (Some fault) later = Some fault

-- The first fault on a way of steps: each step has its own faults in the state that the steps before it led to.
abbrev pub fault_along : {S D : Type 0} → (S → D → Option TypeFault) → (S → D → S) → S → List D → Option TypeFault
fault_along fault_of after state [] = None
fault_along fault_of after state (d ∷ ds) = first_fault (fault_of state d) (fault_along fault_of after (after state d) ds)
