use Rattle.std.proofs.Common.{◌≡◌, ◌++◌, map, drop}
use Rattle.sort_terms.specs.EquationView.{equation_of}
use Rattle.spec_acceptance.proofs.copies.flat_copy.Given as goal

-- the equations so far with those that are left
abbrev pub invariant-loop-equation : goal.invariant-loop-equation
invariant-loop-equation l =
    map equation_of l.equations.items ++ map equation_of (drop l.equation-index l.equation-items) ≡ map equation_of l.equation-items
