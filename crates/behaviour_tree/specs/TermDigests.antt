-- Digests of terms: numbers that identical terms have in common.
use Rattle.std.specs.Prelude.{ℕ, List, [], ◌∷◌}
use Rattle.lotos_base.specs.Term.{Term, variable, node, Terms, no_terms, term_then}
use Rattle.behaviour_tree.specs.Mixing.{mixed}

abbrev mutual
  -- that of a term, behind a number for what stands before it
  pub digest_behind : ℕ → Term → ℕ
  digest_behind before (variable n s) = mixed (mixed before n) s
  digest_behind before (node f ts) = arguments_digest (mixed before f) ts

  -- that of arguments, likewise
  pub arguments_digest : ℕ → Terms → ℕ
  arguments_digest before no_terms = before
  arguments_digest before (term_then t ts) = arguments_digest (digest_behind before t) ts

-- that of a term alone
abbrev pub term_digest : Term → ℕ
term_digest t = digest_behind 0 t

-- that of a list of terms
abbrev pub list_digest : ℕ → List Term → ℕ
list_digest before [] = before
list_digest before (t ∷ ts) = list_digest (mixed before (term_digest t)) ts
