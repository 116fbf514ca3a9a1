-- Terms below an operation: a term with it at the head is greater where their variables stand in it.
use Rattle.std.specs.Prelude.{ℕ, Bool, true, ◌&&◌, nat_lt}
use Rattle.lotos_base.specs.Term.{Term, variable, node, Terms, no_terms, term_then}
use Rattle.lotos_base.specs.Tests.{occurs}
use Rattle.rewriting_theory.specs.Precedence.{Precedence}

abbrev mutual
  -- whether the operation is above each one of the second term, whose variables all stand in the first one
  pub below_head : Precedence → ℕ → Term → Term → Bool
  below_head precedence f t (variable n s) = occurs n s t
  below_head precedence f t (node g us) = nat_lt (precedence.rank g) (precedence.rank f) && all_terms_below precedence f t us

  -- the same of each term of a list
  pub all_terms_below : Precedence → ℕ → Term → Terms → Bool
  all_terms_below precedence f t no_terms = true
  all_terms_below precedence f t (term_then u us) = below_head precedence f t u && all_terms_below precedence f t us
