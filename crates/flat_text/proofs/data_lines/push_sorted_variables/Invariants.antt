use Rattle.std.proofs.Common.{◌≡◌, ◌++◌, drop, map}
use Rattle.report_text.specs.HandedOn.{commas, listed}
use Rattle.sort_terms.specs.EquationView.{variable_of}
use Rattle.sort_terms.specs.SignatureView.{signature_of}
use Rattle.sort_terms.specs.declared.equations.Variable.{Variable}
use Rattle.flat_text.specs.DataText.{sorted_variable}
use Rattle.flat_text.proofs.data_lines.push_sorted_variables.Given as goal

-- the variables so far are written
abbrev pub invariant-loop-index : goal.invariant-loop-index
invariant-loop-index l =
    l.into.items ++ listed l.index
    (map (λ (v : Variable). sorted_variable (signature_of l.signature) (variable_of v)) (drop l.index l.variables.items))
    ≡ l.initial.into.items ++ commas (map (λ (v : Variable). sorted_variable (signature_of l.signature) (variable_of v)) l.variables.items)
