-- What solving puts for a variable, as the code keeps it by reference, and what a condition gives that may be there.
use Rattle.std.specs.Prelude.{ℕ, Option, None, Some}
use Rattle.std.proofs.Common.{Bor}
use Rattle.lotos_base.specs.Term.{Term}
use Rattle.behaviour_semantics.specs.Behaviour.{Test}
use Rattle.behaviour_semantics.specs.Solving.{replacement_of}
use Rattle.sort_terms.specs.SortedView.{term_in}
use Rattle.sort_terms.specs.declared.sorted.Sorted.{Sorted}

abbrev pub found_term : ℕ × Bor Sorted → ℕ × Term
found_term found = (found.0, term_in found.1.now)

abbrev pub given_in : Option Test → Option (ℕ × Term)
given_in None = None
given_in (Some test) = replacement_of test.left test.right
