-- Unification: substitutions that make two terms one (Baader and Nipkow, 4.5).
use Rattle.std.specs.Prelude.{◌≡◌, ◌⊎◌, ℕ}
use Rattle.lotos_base.specs.Term.{Term, variable}
use Rattle.lotos_base.specs.Sorting.{Occurs}
use Rattle.lotos_base.specs.Substitution.{Substitution, substituted}

-- The substitution makes the two terms one.
abbrev pub IsUnifier : Term → Term → Substitution → Type 0
IsUnifier s t values = substituted values s ≡ substituted values t

-- The second substitution is an instance of the first one at the variables that matter: terms put for the variables of
-- the first one's terms make them the second one's.
abbrev pub IsMoreGeneral : (ℕ → ℕ → Type 0) → Substitution → Substitution → Type 0
IsMoreGeneral Matters values others =
    (rest : Substitution) × ((n s : ℕ) → Matters n s → substituted rest (values n s) ≡ others n s)

-- The variable occurs in one of the two terms.
abbrev pub OccursInEither : Term → Term → ℕ → ℕ → Type 0
OccursInEither s t n r = Occurs n r s ⊎ Occurs n r t

-- The substitution is a most general unifier of the two terms: it makes them one, and every unifier is an instance of it
-- at the variables that matter.
pub record IsMostGeneral (Matters : ℕ → ℕ → Type 0) (s t : Term) (values : Substitution) : Type 0 where
  pub unifies : IsUnifier s t values
  pub general : (others : Substitution) → IsUnifier s t others → IsMoreGeneral Matters values others

-- The two terms have a common instance, their variables taken apart: one substitution for each makes them one term.
pub record HasCommonInstance (s t : Term) : Type 0 where
  pub values : Substitution
  pub others : Substitution
  pub same : substituted values s ≡ substituted others t

-- No variable occurs in both terms.
abbrev pub AreApart : Term → Term → Type 0
AreApart s t = (n r : ℕ) → Occurs n r s → ¬ Occurs n r t

-- The substitution keeps to the variables of the two terms: a variable whose number neither of them has stays, and what
-- is given for a variable that occurs in one of them has no other variables than they have.
pub record KeepsTo (s t : Term) (values : Substitution) : Type 0 where
  pub others_stay : (n r : ℕ) → ((q : ℕ) → ¬ OccursInEither s t n q) → values n r ≡ variable n r
  pub inside : (n r m q : ℕ) → OccursInEither s t n r → Occurs m q (values n r) → OccursInEither s t m q
