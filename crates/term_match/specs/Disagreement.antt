-- The first place, from left to right, at which two terms differ, as unification looks for it (Baader and Nipkow, 4.5).
use Rattle.std.specs.Prelude.{ℕ, Bool, true, false, nat_eq, ◌||◌, if◌then◌else◌}
use Rattle.sort_terms.specs.ProfiledTerm.{ProfiledTerm, ProfiledTerms, profiled_variable, profiled_node, no_profiled_terms, profiled_term_then}

-- Two terms agree, or clash at a place, or have at a place a variable, with its number and sort, and a term without it.
pub data TermDisagreement : Type 0 where
  agreed : TermDisagreement
  clashing : TermDisagreement
  binds : ℕ → ℕ → ProfiledTerm → TermDisagreement

abbrev mutual
  -- Whether a variable with this number stands in the term.
  pub has_number : ℕ → ProfiledTerm → Bool
  has_number n (profiled_variable m r) = nat_eq m n
  has_number n (profiled_node f operation ts) = have_number n ts

  -- Whether one stands in one of the terms.
  pub have_number : ℕ → ProfiledTerms → Bool
  have_number n no_profiled_terms = false
  have_number n (profiled_term_then t ts) = has_number n t || have_number n ts

-- Whether the term is the variable with this number.
abbrev pub is_variable_numbered : ℕ → ProfiledTerm → Bool
is_variable_numbered n (profiled_variable m r) = nat_eq m n
is_variable_numbered n (profiled_node f operation ts) = false

-- A variable and a term.
abbrev pub against : ℕ → ℕ → ProfiledTerm → TermDisagreement
against n s t = if is_variable_numbered n t then agreed else (if has_number n t then clashing else binds n s t)

-- The first one where there is one, else the second one.
abbrev pub disagreement_or_else : TermDisagreement → TermDisagreement → TermDisagreement
disagreement_or_else agreed rest = rest
disagreement_or_else clashing rest = clashing
disagreement_or_else (binds n s t) rest = binds n s t

abbrev mutual
  -- The first disagreement of two terms.
  pub disagreement : ProfiledTerm → ProfiledTerm → TermDisagreement
  disagreement (profiled_variable n s) t = against n s t
  disagreement (profiled_node f operation ts) (profiled_variable m r) = against m r (profiled_node f operation ts)
  disagreement (profiled_node f operation ts) (profiled_node g other us) = if nat_eq f g then disagreement_of_lists ts us else clashing

  -- That of the terms of two lists.
  pub disagreement_of_lists : ProfiledTerms → ProfiledTerms → TermDisagreement
  disagreement_of_lists no_profiled_terms no_profiled_terms = agreed
  disagreement_of_lists no_profiled_terms (profiled_term_then u us) = clashing
  disagreement_of_lists (profiled_term_then t ts) no_profiled_terms = clashing
  disagreement_of_lists (profiled_term_then t ts) (profiled_term_then u us) =
      disagreement_or_else (disagreement t u) (disagreement_of_lists ts us)

abbrev mutual
  -- Two operations clash at a place, whatever the variables stand for.
  pub clashes : ProfiledTerm → ProfiledTerm → Bool
  clashes (profiled_variable n s) t = false
  clashes (profiled_node f operation ts) (profiled_variable m r) = false
  clashes (profiled_node f operation ts) (profiled_node g other us) = if nat_eq f g then terms_clash ts us else true

  -- The same of the terms of two lists, which clash where their lengths differ, too.
  pub terms_clash : ProfiledTerms → ProfiledTerms → Bool
  terms_clash no_profiled_terms no_profiled_terms = false
  terms_clash no_profiled_terms (profiled_term_then u us) = true
  terms_clash (profiled_term_then t ts) no_profiled_terms = true
  terms_clash (profiled_term_then t ts) (profiled_term_then u us) = clashes t u || terms_clash ts us
