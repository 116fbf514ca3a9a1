use Rattle.std.proofs.Common.{◌≡◌, ◌<◌, ◌≤◌, ℕ, length, Some, slice_get}
use Rattle.sort_terms.specs.declared.equations.Equation.{Equation}
use Rattle.flat_text.proofs.equation_names.most_variables.Given as goal

-- no equation so far has more variables
abbrev pub invariant-loop-equation : goal.invariant-loop-equation
invariant-loop-equation l = (i : ℕ) (equation : Equation) → i < l.equation-index → slice_get l.equation-items i ≡ Some equation
    → length equation.variables.items ≤ l.most
