-- The pairs that a search has found, as the code keeps them by reference.
use Rattle.std.specs.Prelude.{ℕ, List, map}
use Rattle.std.proofs.Common.{Bor}
use Rattle.sort_terms.specs.ProfiledTerm.{ProfiledTerm}
use Rattle.sort_terms.specs.TermView.{profiled_of}
use Rattle.sort_terms.specs.declared.terms.Term.{Term}

-- a pair
abbrev pub found_pair : ℕ × Bor Term → ℕ × ProfiledTerm
found_pair pair = (pair.0, profiled_of pair.1.now)

-- the pairs
abbrev pub found_pairs : List (ℕ × Bor Term) → List (ℕ × ProfiledTerm)
found_pairs pairs = map found_pair pairs
