-- A test whether a term is a ground term of a sort, which computes.
use Rattle.std.specs.Prelude.{ℕ, List, [], ◌∷◌, Bool, true, false, nat_eq, nat_lt, ◌&&◌, length, slice_get, Option, None, Some}
use Rattle.lotos_base.specs.Signature.{Signature, Operation}
use Rattle.lotos_base.specs.Term.{Term, variable, node, Terms, no_terms, term_then}
use Rattle.lotos_base.specs.Tests.{is_ground}

-- Whether there is an operation, its result has the sort, and its arguments pass the test.
abbrev pub has_profile : Option Operation → (List ℕ → Bool) → ℕ → Bool
has_profile None arguments sort = false
has_profile (Some operation) arguments sort = nat_eq operation.result sort && arguments operation.arguments

abbrev mutual
  -- Whether the term is well sorted over the signature and has the sort.
  pub is_of_sort : Signature → Term → ℕ → Bool
  is_of_sort signature (variable n s) sort = nat_eq s sort && nat_lt s (length signature.sorts)
  is_of_sort signature (node f ts) sort = has_profile (slice_get signature.operations f) (are_of_sorts signature ts) sort

  -- Whether the terms are well sorted and have the sorts, one by one.
  pub are_of_sorts : Signature → Terms → List ℕ → Bool
  are_of_sorts signature no_terms [] = true
  are_of_sorts signature no_terms (s ∷ ss) = false
  are_of_sorts signature (term_then t ts) [] = false
  are_of_sorts signature (term_then t ts) (s ∷ ss) = is_of_sort signature t s && are_of_sorts signature ts ss

-- Whether the term is a ground term of the sort.
abbrev pub is_value : Signature → ℕ → Term → Bool
is_value signature sort t = is_ground t && is_of_sort signature t sort
