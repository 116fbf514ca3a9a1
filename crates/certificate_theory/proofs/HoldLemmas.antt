-- What it is for a case to hold, at values of the variables in scope.
use Rattle.std.proofs.Common.{◌≤◌, ℕ}
use Rattle.lotos_base.specs.Signature.{Signature}
use Rattle.lotos_base.specs.Sorting.{HasSort, IsGroundOf}
use Rattle.lotos_base.specs.Substitution.{Substitution, substituted, IsGrounding}
use Rattle.lotos_base.specs.Equality.{Equal}
use Rattle.lotos_base.proofs.EqualityLemmas.{equal_then, equal_back}
use Rattle.lotos_base.proofs.Each.{Each}
use Rattle.certificate_theory.specs.InductionCertificate.{Statement}
use Rattle.certificate_theory.specs.Splits.{Theory, Case, IsInScope, in_both}
use Rattle.certificate_theory.specs.Certified.{IsFit}
use Rattle.certificate_theory.specs.Requirements.{OccursInSide}
use Rattle.certificate_theory.proofs.CaseLemmas.{IsFineCase}

-- Each variable in scope is given a ground term of its sort.
abbrev pub GroundsScope : Signature → Case → Substitution → Type 0
GroundsScope signature point values = (n s : ℕ) → IsInScope point n s → IsGroundOf signature s (values n s)

-- The sides are equal at the values.
abbrev pub HoldsAt : Theory → Substitution → Statement → Type 0
HoldsAt theory values statement = Equal theory.data_ (substituted values statement.left) (substituted values statement.right)

-- The hypothesis holds at all ground values of its open variables, where its fixed variables have values equal to these.
abbrev pub HypothesisHolds : Theory → ℕ → Substitution → Statement → Type 0
HypothesisHolds theory free values h = (others : Substitution) → IsGrounding theory.data_.signature h.left others
    → IsGrounding theory.data_.signature h.right others
    → ((n s : ℕ) → free ≤ n → OccursInSide h n s → Equal theory.data_ (others n s) (values n s))
    → HoldsAt theory others h

-- The case holds: its goal does at all values in scope at which its hypotheses do.
abbrev pub CaseHolds : Theory → ℕ → Case → Type 0
CaseHolds theory free point = (values : Substitution) → GroundsScope theory.data_.signature point values
    → Each (HypothesisHolds theory free values) point.hypotheses → HoldsAt theory values point.goal

-- A fine case holds.
abbrev pub IsSoundCase : Theory → ℕ → Case → Type 0
IsSoundCase theory free point = IsFineCase theory.data_.signature free point → CaseHolds theory free point

-- a statement whose normal form holds at ground values holds there
pub from_canon : (theory : Theory) (values : Substitution) (statement : Statement) (sort : ℕ) → IsFit theory
    → HasSort theory.data_.signature statement.left sort → HasSort theory.data_.signature statement.right sort
    → IsGrounding theory.data_.signature statement.left values → IsGrounding theory.data_.signature statement.right values
    → HoldsAt theory values (in_both theory.canon statement) → HoldsAt theory values statement
from_canon theory values statement sort fit left right left_ground right_ground holds =
    equal_then (equal_back (fit.canon.instances statement.left values (sort, left) left_ground))
    (equal_then holds (fit.canon.instances statement.right values (sort, right) right_ground))
