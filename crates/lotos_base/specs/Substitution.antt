-- Substitutions: terms put for variables (Baader and Nipkow, 3.1).
use Rattle.std.specs.Prelude.{ℕ, List, [], ◌∷◌, Bool, nat_eq, if◌then◌else◌}
use Rattle.lotos_base.specs.Signature.{Signature}
use Rattle.lotos_base.specs.Term.{Term, variable, node, Terms, no_terms, term_then}
use Rattle.lotos_base.specs.Sorting.{HasSort, IsGroundOf, Occurs}

-- A substitution gives a term for each variable, which has a number and a sort.
abbrev pub Substitution : Type 0
Substitution = ℕ → ℕ → Term

abbrev mutual
  -- The term with the substitution's terms put for its variables.
  pub substituted : Substitution → Term → Term
  substituted values (variable n s) = values n s
  substituted values (node f ts) = node f (all_substituted values ts)

  -- The terms with the substitution's terms put for their variables.
  pub all_substituted : Substitution → Terms → Terms
  all_substituted values no_terms = no_terms
  all_substituted values (term_then t ts) = term_then (substituted values t) (all_substituted values ts)

-- The first substitution and then the second one, as one substitution.
abbrev pub followed_by : Substitution → Substitution → Substitution
followed_by first second n s = substituted second (first n s)

-- The substitution of a list of variable numbers with their terms. The first pair with a number counts, and a
-- variable without a pair stays.
abbrev pub binding : List (ℕ × Term) → Substitution
binding [] n s = variable n s
binding (pair ∷ pairs) n s = if nat_eq pair.0 n then pair.1 else binding pairs n s

-- The number is in the list.
abbrev pub is_listed : List ℕ → ℕ → Bool
is_listed [] n = Bool.false
is_listed (m ∷ ms) n = if nat_eq m n then Bool.true else is_listed ms n

-- The substitution that leaves the variables with the listed numbers, as a binder of these numbers wants it.
abbrev pub without : List ℕ → Substitution → Substitution
without numbers values n s = if is_listed numbers n then variable n s else values n s

-- The substitution that gives each variable another number and leaves its sort.
abbrev pub renaming : (ℕ → ℕ → ℕ) → Substitution
renaming number n s = variable (number n s) s

-- Each variable that occurs in the term is given a term of its sort.
abbrev pub KeepsSorts : Signature → Term → Substitution → Type 0
KeepsSorts signature t values = (n s : ℕ) → Occurs n s t → HasSort signature (values n s) s

-- Each variable that occurs in the term is given a ground term of its sort. Nothing is asked of a variable that
-- does not occur.
abbrev pub IsGrounding : Signature → Term → Substitution → Type 0
IsGrounding signature t values = (n s : ℕ) → Occurs n s t → IsGroundOf signature s (values n s)
