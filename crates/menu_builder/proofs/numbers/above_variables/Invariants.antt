use Rattle.std.proofs.Common.{◌≤◌, List}
use Rattle.behaviour_semantics.specs.Draft.{above_variables}
use Rattle.sort_terms.specs.declared.equations.Variable.{Variable}
use Rattle.behaviour_tree.specs.BehaviourView.{variables_of}
use Rattle.menu_builder.proofs.NumberLemmas.{Covers}
use Rattle.menu_builder.proofs.numbers.above_variables.Given as goal

abbrev pub invariant-loop-variable : goal.invariant-loop-variable
invariant-loop-variable l = (l.least ≤ l.above) × Covers (λ (xs : List (Variable)). above_variables (variables_of xs))
    l.variable-items l.variable-index l.above
