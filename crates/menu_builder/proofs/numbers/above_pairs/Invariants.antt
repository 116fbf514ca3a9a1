use Rattle.std.proofs.Common.{◌≤◌, ℕ, List}
use Rattle.behaviour_semantics.specs.Draft.{above_variables}
use Rattle.sort_terms.specs.declared.sorted.Sorted.{Sorted}
use Rattle.term_match.specs.SubstView.{profiled_pairs}
use Rattle.menu_builder.specs.ClosedParts.{variables_given}
use Rattle.menu_builder.proofs.NumberLemmas.{Covers}
use Rattle.menu_builder.proofs.numbers.above_pairs.Given as goal

abbrev pub invariant-loop-pair : goal.invariant-loop-pair
invariant-loop-pair l = (l.least ≤ l.above) × Covers (λ (xs : List (ℕ × Sorted)). above_variables (variables_given
    (profiled_pairs xs))) l.pair-items l.pair-index l.above
