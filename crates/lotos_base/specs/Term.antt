-- Terms over the numbers of operations. A type cannot hold a list of itself, so a term and the list of the
-- arguments of an operation are declared together.
use Rattle.std.specs.Prelude.{ℕ, List, [], ◌∷◌}

mutual
  -- A term is a variable with its number and sort, or an operation with its number and its argument terms.
  pub data Term : Type 0 where
    variable : ℕ → ℕ → Term
    node : ℕ → Terms → Term

  -- A list of terms: the end, or one more term before the rest.
  pub data Terms : Type 0 where
    no_terms : Terms
    term_then : Term → Terms → Terms

-- The argument list with the members of a list.
abbrev pub argument_list_of : List Term → Terms
argument_list_of [] = no_terms
argument_list_of (t ∷ ts) = term_then t (argument_list_of ts)

-- The list of the members of an argument list.
abbrev pub list_of : Terms → List Term
list_of no_terms = []
list_of (term_then t ts) = t ∷ list_of ts
