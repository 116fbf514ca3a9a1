-- How many variables and operations a term has, and how a turn of the loop that drops terms makes them fewer.
use Rattle.std.specs.Prelude.{◌≡◌, ℕ, ◌+◌, ◌<◌, List, Option, Some, None}
use Rattle.sort_terms.specs.ProfiledTerm.{ProfiledTerms}
use Rattle.sort_terms.specs.TermView.{all_profiled, profiled_of}
use Rattle.sort_terms.specs.declared.terms.Term.{Term}
use Rattle.sort_terms.specs.declared.terms.Term.TheVariants.{Node, Var}
use Rattle.sort_terms.specs.declared.terms.Parts.{Parts}
use Rattle.sort_terms.specs.declared.terms.Parts.TheVariants.{Variable, Operation}
use Rattle.sort_terms.specs.declared.discarding.Turn.{Turn}
use Rattle.sort_terms.specs.declared.discarding.Turn.TheVariants.{Further, Done}
pub use Rattle.sort_terms.specs.ProfiledSize.{profiled_size, profiled_sizes}

-- of a term and of a list of the code
abbrev pub size_of : Term → ℕ
size_of t = profiled_size (profiled_of t)

abbrev pub sizes_of : List Term → ℕ
sizes_of ts = profiled_sizes (all_profiled ts)

-- and of arguments that may have other owners, if there are some
abbrev pub shared_sizes : Option ProfiledTerms → ℕ
shared_sizes None = 0
shared_sizes (Some shared) = profiled_sizes shared

-- Of a first term of so many, and others, one is dropped; or all are there and the next term has fewer.
abbrev pub IsTurnOf : ℕ → ℕ → Turn → Type 0
IsTurnOf first others (Further next list) = (size_of next < first) × (size_of next + sizes_of list.items ≡ first + others)
IsTurnOf first others (Done left shared) = sizes_of left.items + shared_sizes shared < first + others

-- the term that is made of the parts
abbrev pub whole_of_parts : Parts → Term
whole_of_parts (Variable number sort) = Var number sort
whole_of_parts (Operation op profile arguments) = Node op profile arguments
