-- A test of the path order that computes. The outer recursion is on the greater term, the inner one on the lesser.
use Rattle.std.specs.Prelude.{ℕ, Bool, true, false, nat_eq, nat_lt, ◌&&◌, ◌||◌}
use Rattle.lotos_base.specs.Term.{Term, variable, node, Terms, no_terms, term_then}
use Rattle.lotos_base.specs.Tests.{term_eq, terms_eq, occurs_among}
use Rattle.rewriting_theory.specs.Precedence.{Status, from_left, from_right, Precedence}

-- Whether the lists have one length.
abbrev pub same_length : Terms → Terms → Bool
same_length no_terms no_terms = true
same_length no_terms (term_then u us) = false
same_length (term_then t ts) no_terms = false
same_length (term_then t ts) (term_then u us) = same_length ts us

abbrev mutual
  -- Whether a node is greater than a term, where `reaches` tells whether one of its arguments is a given term or
  -- greater, and `lists_exceed` whether its arguments are greater than given ones in the order of its status.
  pub node_exceeds : Precedence → ℕ → Terms → (Term → Bool) → (Terms → Bool) → Term → Bool
  node_exceeds precedence f ts reaches lists_exceed (variable n s) = occurs_among n s ts
  node_exceeds precedence f ts reaches lists_exceed (node g us) =
      reaches (node g us)
      || (node_exceeds_all precedence f ts reaches lists_exceed us
      && (nat_lt (precedence.rank g) (precedence.rank f) || (nat_eq f g && lists_exceed us)))

  -- Whether it is greater than each of the terms.
  pub node_exceeds_all : Precedence → ℕ → Terms → (Term → Bool) → (Terms → Bool) → Terms → Bool
  node_exceeds_all precedence f ts reaches lists_exceed no_terms = true
  node_exceeds_all precedence f ts reaches lists_exceed (term_then u us) =
      node_exceeds precedence f ts reaches lists_exceed u && node_exceeds_all precedence f ts reaches lists_exceed us

abbrev mutual
  -- Whether the first term is greater than the second one.
  pub is_greater : Precedence → Term → Term → Bool
  is_greater precedence (variable n s) u = false
  is_greater precedence (node f ts) u =
      node_exceeds precedence f ts (some_reaches precedence ts) (list_exceeds precedence (precedence.status f) ts) u

  -- Whether one of the terms is the other term or greater.
  pub some_reaches : Precedence → Terms → Term → Bool
  some_reaches precedence no_terms u = false
  some_reaches precedence (term_then t ts) u = term_eq t u || (is_greater precedence t u || some_reaches precedence ts u)

  -- Whether the lists have one length and where they first differ, as the status counts, the first is greater.
  pub list_exceeds : Precedence → Status → Terms → Terms → Bool
  list_exceeds precedence status no_terms us = false
  list_exceeds precedence status (term_then t ts) no_terms = false
  list_exceeds precedence from_left (term_then t ts) (term_then u us) =
      (is_greater precedence t u && same_length ts us) || (term_eq t u && list_exceeds precedence from_left ts us)
  list_exceeds precedence from_right (term_then t ts) (term_then u us) =
      (is_greater precedence t u && terms_eq ts us) || list_exceeds precedence from_right ts us

-- Whether the term is greater than each of the terms.
abbrev pub exceeds_all : Precedence → Term → Terms → Bool
exceeds_all precedence t no_terms = true
exceeds_all precedence t (term_then u us) = is_greater precedence t u && exceeds_all precedence t us
