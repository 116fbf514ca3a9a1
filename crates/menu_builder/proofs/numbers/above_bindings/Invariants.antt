use Rattle.std.proofs.Common.{◌≤◌, List, map}
use Rattle.behaviour_semantics.specs.Behaviour.{let_variables}
use Rattle.behaviour_semantics.specs.Draft.{above_variables}
use Rattle.sort_terms.specs.declared.equations.Variable.{Variable}
use Rattle.sort_terms.specs.declared.sorted.Sorted.{Sorted}
use Rattle.behaviour_tree.specs.BehaviourView.{let_of}
use Rattle.menu_builder.proofs.NumberLemmas.{Covers}
use Rattle.menu_builder.proofs.numbers.above_bindings.Given as goal

abbrev pub invariant-loop-binding : goal.invariant-loop-binding
invariant-loop-binding l = (l.least ≤ l.above) × Covers (λ (xs : List (Variable × Sorted)). above_variables (let_variables
    (map let_of xs))) l.binding-items l.binding-index l.above
