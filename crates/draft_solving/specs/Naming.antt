-- Variables of a draft that is being solved under other numbers: what each number is named outside, and how a replacement of a
-- variable by a variable is turned round.
use Rattle.std.specs.Prelude.{ℕ, List, nat_lt, if◌then◌else◌, slice_get, slice_set, unwrap_or}
use Rattle.lotos_base.specs.Term.{Term, Terms, variable, node}
use Rattle.lotos_base.specs.Substitution.{Substitution, renaming, substituted}

-- the name of a number: what stands at its place in the table, or itself
abbrev pub name_for : List ℕ → ℕ → ℕ
name_for names n = unwrap_or (slice_get names n) n

-- the names as a substitution, and a term with its variables named
abbrev pub naming : List ℕ → Substitution
naming names = renaming (λ n s. name_for names n)

abbrev pub with_names : List ℕ → Term → Term
with_names names = substituted (naming names)

-- of two numbers the smaller
abbrev pub smaller : ℕ → ℕ → ℕ
smaller n m = if nat_lt n m then n else m

-- A replacement, and one that serves for it under other names: the same where a term with operations is put for the variable; of
-- two variables either one may be replaced, and the other one gets the smaller name.
pub data TurnsRound (names : List ℕ) : ℕ × Term → List ℕ → ℕ × Term → Type 0 where
  operation_put : (a f : ℕ) (ts : Terms) → TurnsRound names (a, node f ts) names (a, node f ts)
  first_replaced : (a b s : ℕ) → TurnsRound names (a, variable b s)
      (slice_set names b (smaller (name_for names a) (name_for names b))) (a, variable b s)
  second_replaced : (a b s : ℕ) → TurnsRound names (a, variable b s)
      (slice_set names a (smaller (name_for names a) (name_for names b))) (b, variable a s)
