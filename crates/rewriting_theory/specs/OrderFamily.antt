-- The path order once more, by recursion along the argument lists. Proofs use this form; a law says that it is the
-- same order.
use Rattle.std.specs.Prelude.{ℕ}
use Rattle.lotos_base.specs.Term.{Term, variable, node, Terms, no_terms, term_then}
use Rattle.lotos_base.specs.Sorting.{OccursAmong}
use Rattle.rewriting_theory.specs.Precedence.{Status, from_left, from_right, Precedence, IsOver}

-- The argument lists have one length.
abbrev pub SameLength : Terms → Terms → Type 0
SameLength no_terms no_terms = Unit {0}
SameLength no_terms (term_then u us) = ⊥
SameLength (term_then t ts) no_terms = ⊥
SameLength (term_then t ts) (term_then u us) = SameLength ts us

mutual
  -- The first term is greater than the second one.
  pub data Exceeds (precedence : Precedence) : Term → Term → Type 0 where
    by_occurrence : {n s f : ℕ} {ts : Terms} → OccursAmong n s ts → Exceeds precedence (node f ts) (variable n s)
    by_argument : {f : ℕ} {ts : Terms} {u : Term} → SomeReaches precedence ts u → Exceeds precedence (node f ts) u
    by_operation : {f g : ℕ} {ts us : Terms} → IsOver precedence f g → ExceedsAll precedence (node f ts) us
        → Exceeds precedence (node f ts) (node g us)
    by_comparison : {f : ℕ} {ts us : Terms} → ExceedsAll precedence (node f ts) us
        → ListExceeds precedence (precedence.status f) ts us → Exceeds precedence (node f ts) (node f us)

  -- One of the terms is the other term or greater.
  pub data SomeReaches (precedence : Precedence) : Terms → Term → Type 0 where
    is_first : {u : Term} {ts : Terms} → SomeReaches precedence (term_then u ts) u
    first_exceeds : {t u : Term} {ts : Terms} → Exceeds precedence t u → SomeReaches precedence (term_then t ts) u
    among_rest : {t u : Term} {ts : Terms} → SomeReaches precedence ts u → SomeReaches precedence (term_then t ts) u

  -- The term is greater than each of the terms.
  pub data ExceedsAll (precedence : Precedence) : Term → Terms → Type 0 where
    than_none : {t : Term} → ExceedsAll precedence t no_terms
    than_first : {t u : Term} {us : Terms} → Exceeds precedence t u → ExceedsAll precedence t us
        → ExceedsAll precedence t (term_then u us)

  -- The argument lists have one length, and where they first differ, as the status counts, the first is greater.
  pub data ListExceeds (precedence : Precedence) : Status → Terms → Terms → Type 0 where
    left_here : {t u : Term} {ts us : Terms} → Exceeds precedence t u → SameLength ts us
        → ListExceeds precedence from_left (term_then t ts) (term_then u us)
    left_later : {t : Term} {ts us : Terms} → ListExceeds precedence from_left ts us
        → ListExceeds precedence from_left (term_then t ts) (term_then t us)
    right_here : {t u : Term} {ts : Terms} → Exceeds precedence t u
        → ListExceeds precedence from_right (term_then t ts) (term_then u ts)
    right_later : {t u : Term} {ts us : Terms} → ListExceeds precedence from_right ts us
        → ListExceeds precedence from_right (term_then t ts) (term_then u us)
