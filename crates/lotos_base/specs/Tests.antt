-- Tests of terms that compute: identity, groundness, occurrence.
use Rattle.std.specs.Prelude.{ℕ, Bool, true, false, nat_eq, ◌&&◌, ◌||◌}
use Rattle.lotos_base.specs.Term.{Term, variable, node, Terms, no_terms, term_then}

abbrev mutual
  -- Whether the terms are identical.
  pub term_eq : Term → Term → Bool
  term_eq (variable n s) (variable m r) = nat_eq n m && nat_eq s r
  term_eq (variable n s) (node g us) = false
  term_eq (node f ts) (variable m r) = false
  term_eq (node f ts) (node g us) = nat_eq f g && terms_eq ts us

  -- Whether the lists of terms are identical.
  pub terms_eq : Terms → Terms → Bool
  terms_eq no_terms no_terms = true
  terms_eq no_terms (term_then u us) = false
  terms_eq (term_then t ts) no_terms = false
  terms_eq (term_then t ts) (term_then u us) = term_eq t u && terms_eq ts us

abbrev mutual
  -- Whether the term has no variable.
  pub is_ground : Term → Bool
  is_ground (variable n s) = false
  is_ground (node f ts) = are_ground ts

  -- Whether no term of the list has a variable.
  pub are_ground : Terms → Bool
  are_ground no_terms = true
  are_ground (term_then t ts) = is_ground t && are_ground ts

abbrev mutual
  -- Whether the variable with this number and sort occurs in the term.
  pub occurs : ℕ → ℕ → Term → Bool
  occurs n s (variable m r) = nat_eq m n && nat_eq r s
  occurs n s (node f ts) = occurs_among n s ts

  -- Whether the variable occurs in one of the terms.
  pub occurs_among : ℕ → ℕ → Terms → Bool
  occurs_among n s no_terms = false
  occurs_among n s (term_then t ts) = occurs n s t || occurs_among n s ts
