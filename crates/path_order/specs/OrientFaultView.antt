-- What a fault of orientation says.
use Rattle.std.specs.Prelude.{◌≡◌, ℕ, List}
use Rattle.lotos_base.specs.Equation.{Equation}
use Rattle.rewriting_theory.specs.Precedence.{Precedence}
use Rattle.rewriting_theory.specs.Orientation.{IsUnorientable, IsFirstUnorientable}
use Rattle.path_order.specs.declared.orient_fault.OrientFault.{OrientFault}
use Rattle.path_order.specs.declared.orient_fault.OrientFault.TheVariants.{Unorientable, NoMemory}

-- The equation with the number that the fault tells is the first one that cannot be oriented. Want of memory says nothing.
abbrev pub IsOrientFault : Precedence → List Equation → OrientFault → Type 0
IsOrientFault precedence equations (Unorientable number) = IsFirstUnorientable precedence equations number
IsOrientFault precedence equations NoMemory = Unit {0}

-- The same of one equation, which has this number.
abbrev pub IsFaultAt : Precedence → ℕ → Equation → OrientFault → Type 0
IsFaultAt precedence n equation (Unorientable number) = (number ≡ n) × IsUnorientable precedence equation
IsFaultAt precedence n equation NoMemory = Unit {0}
