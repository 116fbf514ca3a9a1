-- The chosen form of a term: the arguments are put in their chosen forms, then the first rule that matches at the root
-- is used, and so on. Any link at any path would do; this choice only fixes which irreducible term is found where there
-- are several (Baader and Nipkow, 4.1, normal forms).
use Rattle.std.specs.Prelude.{ℕ, List}
use Rattle.lotos_base.specs.Term.{Term, variable, node, Terms, no_terms, term_then}
use Rattle.rewriting_theory.specs.Rule.{Rule}
use Rattle.rewriting_theory.specs.Matching.{NoMatch, FirstStep}

mutual
  -- The second term is the chosen form of the first one.
  pub data Chosen (rules : List Rule) : Term → Term → Type 0 where
    -- of a variable: that variable
    chosen_variable : {n s : ℕ} → Chosen rules (variable n s) (variable n s)
    -- of an operation, where no rule matches the operation on the chosen forms of its arguments: that term
    chosen_done : {f : ℕ} {ts us : Terms} → AllChosen rules ts us → NoMatch rules (node f us)
        → Chosen rules (node f ts) (node f us)
    -- where some rule does: the chosen form of the right instance of the first one
    chosen_next : {f : ℕ} {ts us : Terms} {t u : Term} → AllChosen rules ts us
        → FirstStep rules (node f us) t → Chosen rules t u → Chosen rules (node f ts) u

  -- The terms of the second list are the chosen forms of those of the first one, one by one.
  pub data AllChosen (rules : List Rule) : Terms → Terms → Type 0 where
    all_chosen : AllChosen rules no_terms no_terms
    chosen_then : {t u : Term} {ts us : Terms} → Chosen rules t u → AllChosen rules ts us
        → AllChosen rules (term_then t ts) (term_then u us)

-- The function gives the chosen form of every term.
abbrev pub Chooses : List Rule → (Term → Term) → Type 0
Chooses rules canon = (t : Term) → Chosen rules t (canon t)
