-- Instances of terms that carry profiles: terms put for variables, with their profiles.
use Rattle.std.specs.Prelude.{ℕ, List, [], ◌∷◌, nat_eq, if◌then◌else◌, map}
use Rattle.lotos_base.specs.Term.{Term}
use Rattle.sort_terms.specs.ProfiledTerm.{ProfiledTerm, ProfiledTerms, profiled_variable, profiled_node, no_profiled_terms, profiled_term_then, bare}

-- A term with profiles for each variable, which has a number and a sort.
abbrev pub ProfiledSubstitution : Type 0
ProfiledSubstitution = ℕ → ℕ → ProfiledTerm

abbrev mutual
  -- The term with the substitution's terms put for its variables.
  pub profiled_instance : ProfiledSubstitution → ProfiledTerm → ProfiledTerm
  profiled_instance values (profiled_variable n s) = values n s
  profiled_instance values (profiled_node f operation ts) = profiled_node f operation (profiled_instances values ts)

  -- The terms with the substitution's terms put for their variables.
  pub profiled_instances : ProfiledSubstitution → ProfiledTerms → ProfiledTerms
  profiled_instances values no_profiled_terms = no_profiled_terms
  profiled_instances values (profiled_term_then t ts) = profiled_term_then (profiled_instance values t) (profiled_instances values ts)

-- The substitution of a list of variable numbers with their terms. The first pair with a number counts, and a
-- variable without a pair stays.
abbrev pub profiled_binding : List (ℕ × ProfiledTerm) → ProfiledSubstitution
profiled_binding [] n s = profiled_variable n s
profiled_binding (pair ∷ pairs) n s = if nat_eq pair.0 n then pair.1 else profiled_binding pairs n s

-- a pair without the profiles
abbrev pub bare_pair : ℕ × ProfiledTerm → ℕ × Term
bare_pair pair = (pair.0, bare pair.1)

-- the pairs without the profiles
abbrev pub bare_pairs : List (ℕ × ProfiledTerm) → List (ℕ × Term)
bare_pairs pairs = map bare_pair pairs
