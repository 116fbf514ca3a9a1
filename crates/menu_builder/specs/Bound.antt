-- Terms that binders bind to variables, ready to get those of an environment.
use Rattle.std.specs.Prelude.{ℕ, List}
use Rattle.lotos_base.specs.Signature.{Signature}
use Rattle.behaviour_semantics.specs.WellFormed.{Every}
use Rattle.sort_terms.specs.ProfiledTerm.{ProfiledTerm}
use Rattle.sort_terms.specs.SortedView.{profiled_in}
use Rattle.sort_terms.specs.declared.equations.Variable.{Variable}
use Rattle.sort_terms.specs.declared.sorted.Sorted.{Sorted}
use Rattle.draft_parts.specs.Environments.{IsReadyForPairs}

-- Each term of a `let`, and each value of a call, is ready for the pairs.
abbrev pub AreBindingsReady : Signature → List (ℕ × ProfiledTerm) → List (Variable × Sorted) → Type 0
AreBindingsReady signature pairs bindings = Every (λ (b : Variable × Sorted). IsReadyForPairs signature pairs (profiled_in b.1)) bindings

abbrev pub AreValuesReady : Signature → List (ℕ × ProfiledTerm) → List Sorted → Type 0
AreValuesReady signature pairs terms = Every (λ (t : Sorted). IsReadyForPairs signature pairs (profiled_in t)) terms
