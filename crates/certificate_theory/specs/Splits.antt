-- Cases of a proof by induction: the goal, the variables in its scope and the hypotheses, and what a split makes of a case.
use Rattle.std.specs.Prelude.{◌≡◌, ℕ, suc, List, [], ◌∷◌, ◌++◌, map, Some, slice_get, length, IsFalse, nat_eq, nat_lt, ◌||◌, if◌then◌else◌}
use Rattle.lotos_base.specs.Term.{Term, variable}
use Rattle.lotos_base.specs.Tests.{occurs}
use Rattle.lotos_base.specs.Substitution.{substituted, is_listed}
use Rattle.lotos_base.specs.Equation.{Data}
use Rattle.rewriting_theory.specs.Rule.{Rule}
use Rattle.certificate_theory.specs.InductionCertificate.{Statement, Lemma}
use Rattle.certificate_theory.specs.Covers.{Numbered, in_signature_order}
use Rattle.certificate_theory.specs.Patterns.{put_for, operation_on}

-- The data that a certificate speaks of, the rules that they are rewritten by, and the function that puts terms in normal
-- form.
pub record Theory : Type 0 where
  pub data_ : Data
  pub rules : List Rule
  pub canon : Term → Term

-- A case. A variable is known by its number: `sorts` has the sort of each variable at its number, `gone` lists the numbers
-- that are out of scope. Hypotheses stand in the order in which they came.
pub record Case : Type 0 where
  pub sorts : List ℕ
  pub gone : List ℕ
  pub hypotheses : List Statement
  pub goal : Statement

-- What stays the same in the proof of a lemma: the statements of the lemmas before it, and how many variables it has. Those
-- are free; each later number is that of an argument made by a split, which is fixed.
pub record Proving : Type 0 where
  pub earlier : List Statement
  pub free : ℕ

-- The variable is in scope.
abbrev pub IsInScope : Case → ℕ → ℕ → Type 0
IsInScope point n s = (slice_get point.sorts n ≡ Some s) × IsFalse (is_listed point.gone n)

-- What a function makes of both sides.
abbrev pub in_both : (Term → Term) → Statement → Statement
in_both f statement = record { left = f statement.left; right = f statement.right }

-- The hypotheses of a split of a variable of a sort: one for each argument of that sort, in the order of the arguments, of
-- which the first one has the number that is next. It is the goal before the split with the argument put for the variable.
abbrev pub hypotheses_for : Statement → ℕ → ℕ → ℕ → List ℕ → List Statement
hypotheses_for goal n s next [] = []
hypotheses_for goal n s next (r ∷ rs) =
    if nat_eq s r
    then in_both (substituted (put_for n s (variable next s))) goal ∷ hypotheses_for goal n s (suc next) rs
    else hypotheses_for goal n s (suc next) rs

-- The hypotheses behind a split. A split of a free variable leaves those that were there, where the variable is open, and adds
-- those for the arguments; a split of a fixed one puts the operation into those that were there and adds none.
abbrev pub hypotheses_behind : Proving → Case → ℕ → ℕ → Numbered → List Statement
hypotheses_behind proving point n s one =
    if nat_lt n proving.free
    then point.hypotheses ++ hypotheses_for point.goal n s (length point.sorts) one.operation.arguments
    else map (in_both (substituted (put_for n s (operation_on one (length point.sorts))))) point.hypotheses

-- The case with the operation on new variables put for the variable, and the goal put in normal form.
abbrev pub case_with : Theory → Proving → Case → ℕ → ℕ → Numbered → Case
case_with theory proving point n s one = record {
  sorts = point.sorts ++ one.operation.arguments;
  gone = n ∷ point.gone;
  hypotheses = hypotheses_behind proving point n s one;
  goal = in_both theory.canon (in_both (substituted (put_for n s (operation_on one (length point.sorts)))) point.goal);
}

-- The cases behind a split: one for each operation of the cover.
abbrev pub cases_of_split : Theory → Proving → Case → ℕ → ℕ → List ℕ → List Case
cases_of_split theory proving point n s operations =
    map (case_with theory proving point n s) (in_signature_order theory.data_.signature operations)

-- The case with another goal, put in normal form.
abbrev pub with_goal : Theory → Case → Statement → Case
with_goal theory point goal =
    record { sorts = point.sorts; gone = point.gone; hypotheses = point.hypotheses; goal = in_both theory.canon goal }

-- The numbers, from this one on, of those variables with these sorts that occur in neither side.
abbrev pub absent_from : Statement → ℕ → List ℕ → List ℕ
absent_from statement n [] = []
absent_from statement n (s ∷ ss) =
    if occurs n s statement.left || occurs n s statement.right
    then absent_from statement (suc n) ss
    else n ∷ absent_from statement (suc n) ss

-- The case that the proof of a lemma begins with. A variable that occurs in neither side as written is not in scope.
abbrev pub first_case : Theory → Lemma → Case
first_case theory lemma = record {
  sorts = lemma.variables;
  gone = absent_from lemma.statement 0 lemma.variables;
  hypotheses = [];
  goal = in_both theory.canon lemma.statement;
}
