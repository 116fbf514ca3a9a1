-- How deep a term is nested: a constant is one deep, and an operation one deeper than the deepest of its arguments.
use Rattle.std.specs.Prelude.{ℕ, suc, max}
use Rattle.lotos_base.specs.Term.{Term, Terms, variable, node, no_terms, term_then}

abbrev mutual
  pub term_depth : Term → ℕ
  term_depth (variable n s) = 1
  term_depth (node f ts) = suc (depth_among ts)

  pub depth_among : Terms → ℕ
  depth_among no_terms = 0
  depth_among (term_then t ts) = max (term_depth t) (depth_among ts)
