-- The size of a term, and the order in which values are listed: by size, then by the place of the operation at the head,
-- then by the arguments from the left in this same order.
use Rattle.std.specs.Prelude.{◌≡◌, ◌<◌, ◌⊎◌, ℕ, suc, ◌+◌}
use Rattle.lotos_base.specs.Term.{Term, variable, node, Terms, no_terms, term_then}

abbrev mutual
  -- The size of a term is the number of its operations.
  pub term_size : Term → ℕ
  term_size (variable n s) = 0
  term_size (node f ts) = suc (term_sizes ts)

  -- The sizes of the terms of a list together.
  pub term_sizes : Terms → ℕ
  term_sizes no_terms = 0
  term_sizes (term_then t ts) = term_size t + term_sizes ts

abbrev mutual
  -- The first term comes before the second one: it is smaller; or both have one size, and its operation stands earlier in
  -- the signature; or both have one size and one operation, and its arguments come first. Terms without variables are
  -- meant: a variable comes before nothing and after nothing.
  pub ComesBefore : Term → Term → Type 0
  ComesBefore (variable n s) (variable m r) = ⊥
  ComesBefore (variable n s) (node g us) = ⊥
  ComesBefore (node f ts) (variable m r) = ⊥
  ComesBefore (node f ts) (node g us) =
      (term_sizes ts < term_sizes us)
      ⊎ ((term_sizes ts ≡ term_sizes us) × ((f < g) ⊎ ((f ≡ g) × ComeBefore ts us)))

  -- The terms of the first list come before those of the second one: at the first place where they differ it does.
  pub ComeBefore : Terms → Terms → Type 0
  ComeBefore no_terms no_terms = ⊥
  ComeBefore no_terms (term_then u us) = ⊥
  ComeBefore (term_then t ts) no_terms = ⊥
  ComeBefore (term_then t ts) (term_then u us) = ComesBefore t u ⊎ ((t ≡ u) × ComeBefore ts us)
