use Rattle.std.proofs.Common.{◌≡◌, map, drop}
use Rattle.sort_terms.specs.EquationView.{variable_of}
use Rattle.printed_texts.specs.TermText.{variable_text}
use Rattle.printed_texts.proofs.terms.push_variable.Given as goal

-- the variables so far have other numbers
abbrev pub invariant-loop-variable : goal.invariant-loop-variable
invariant-loop-variable l =
    (variable_text (map variable_of (drop l.variable-index l.names)) l.number ≡ variable_text (map variable_of l.names) l.number)
    × (l.into.items ≡ l.initial.into.items)
