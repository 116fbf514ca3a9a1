-- The theory that the worked certificates speak of: natural numbers with 0 + x = x and Succ(x) + y = Succ(x + y), and what
-- puts their terms in normal form.
use Rattle.std.specs.Prelude.{ℕ, zero, suc}
use Rattle.lotos_base.specs.Term.{Term, variable, node, Terms, no_terms, term_then}
use Rattle.lotos_base.specs.SmallData.{natural_data, successor, plus}
use Rattle.rewriting_theory.specs.OrientationCases.{addition_rules}
use Rattle.certificate_theory.specs.Splits.{Theory}

-- The normal form of the sum of two terms in normal form: Succ is taken out of the left one.
abbrev pub added : Term → Term → Term
added (node zero no_terms) u = u
added (node (suc zero) (term_then t no_terms)) u = successor (added t u)
added t u = plus t u

-- The operation on arguments in normal form.
abbrev pub with_sum : ℕ → Terms → Term
with_sum (suc (suc zero)) (term_then t (term_then u no_terms)) = added t u
with_sum f ts = node f ts

abbrev mutual
  -- The normal form of a term.
  pub summed : Term → Term
  summed (variable n s) = variable n s
  summed (node f ts) = with_sum f (all_summed ts)

  pub all_summed : Terms → Terms
  all_summed no_terms = no_terms
  all_summed (term_then t ts) = term_then (summed t) (all_summed ts)

abbrev pub addition : Theory
addition = record { data_ = natural_data; rules = addition_rules; canon = summed }
