-- What an environment puts for variables: terms of their sorts.
use Rattle.std.specs.Prelude.{◌≡◌, ℕ, List}
use Rattle.sort_terms.specs.ProfiledTerm.{ProfiledTerm, head_sort}
use Rattle.term_match.specs.ProfiledInstance.{profiled_binding}

-- What the pairs put for each variable that occurs has the sort of that variable.
abbrev pub SuitsWhere : List (ℕ × ProfiledTerm) → (ℕ → ℕ → Type 0) → Type 0
SuitsWhere pairs Occurs_ = (n s : ℕ) → Occurs_ n s → head_sort (profiled_binding pairs n s) ≡ s
