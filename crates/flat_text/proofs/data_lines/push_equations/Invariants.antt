use Rattle.std.proofs.Common.{◌≡◌, ◌++◌, drop, map}
use Rattle.std.specs.List.{concat}
use Rattle.sort_terms.specs.EquationView.{equation_of}
use Rattle.sort_terms.specs.SignatureView.{signature_of}
use Rattle.flat_text.specs.DataText.{equation_line}
use Rattle.flat_text.proofs.data_lines.push_equations.Given as goal

-- the equations so far are written
abbrev pub invariant-loop-equation : goal.invariant-loop-equation
invariant-loop-equation l =
    l.into.items ++ concat (map (equation_line (signature_of l.flat.signature)) (map equation_of (drop l.equation-index l.equation-items)))
    ≡ l.initial.into.items ++ concat (map (equation_line (signature_of l.flat.signature)) (map equation_of l.equation-items))
