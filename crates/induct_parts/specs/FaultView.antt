-- What the faults of the code say.
use Rattle.std.specs.Prelude.{◌≡◌, ◌+◌, ℕ}
use Rattle.certificate_theory.specs.Faults.{InductionFault, bad_line, no_variable, no_cover, no_tree, not_reducible, bad_use, not_same}
use Rattle.induct_parts.specs.StatementView.{statement_of}
use Rattle.induct_parts.specs.declared.line_fault.LineFault.{LineFault}
use Rattle.induct_parts.specs.declared.line_fault.LineFault.TheVariants.{BadLine, NoVariable, NoCover, NoTree, NotReducible, BadUse, NotSame, NoMemory}
use Rattle.induct_parts.specs.declared.at_line.AtLine.{AtLine}

-- What is said of a fault holds of the one that the code tells. Want of memory says nothing.
abbrev pub HoldsOfLineFault : (InductionFault → Type 0) → LineFault → Type 0
HoldsOfLineFault P BadLine = P bad_line
HoldsOfLineFault P NoVariable = P no_variable
HoldsOfLineFault P NoCover = P no_cover
HoldsOfLineFault P (NoTree f) = P (no_tree f)
HoldsOfLineFault P NotReducible = P not_reducible
HoldsOfLineFault P BadUse = P bad_use
HoldsOfLineFault P (NotSame statement) = P (not_same (statement_of statement))
HoldsOfLineFault P NoMemory = Unit {0}

-- And of one at a line.
abbrev pub HoldsAtLine : (ℕ → InductionFault → Type 0) → AtLine → Type 0
HoldsAtLine P at = HoldsOfLineFault (P at.line) at.fault

-- What is said of lines that are counted from 0 is said of these, of which the first has this number.
abbrev pub FromLine : ℕ → (ℕ → InductionFault → Type 0) → ℕ → InductionFault → Type 0
FromLine begin P line fault = (k : ℕ) × P k fault × (line ≡ begin + k)
