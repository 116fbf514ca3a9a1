-- Lines of proofs: what each line makes of a case, and when it is wrong.
use Rattle.std.specs.Prelude.{◌≡◌, ◌≢◌, ◌⊎◌, ℕ, List, [], ◌∷◌, None, Some}
use Rattle.certificate_theory.specs.InductionCertificate.{Statement, Cover, ProofLine, split_variable, use_it, same_sides}
use Rattle.certificate_theory.specs.Covers.{cover_of}
use Rattle.certificate_theory.specs.Faults.{InductionFault, no_variable, no_cover, bad_use, not_same}
use Rattle.certificate_theory.specs.Splits.{Theory, Case, Proving, IsInScope, cases_of_split, with_goal}
use Rattle.certificate_theory.specs.Uses.{IsUsed}

-- What a line of a proof comes to. Where both sides are identical the case is done; a use leaves the goal that it makes; a
-- split of a variable in scope leaves one case for each operation of the cover of its sort.
abbrev pub CaseComesTo : Theory → List Cover → Proving → Case → ProofLine → List Case → Type 0
CaseComesTo theory covers proving point same_sides left = (point.goal.left ≡ point.goal.right) × (left ≡ [])
CaseComesTo theory covers proving point (use_it use_) left =
    (result : Statement) × IsUsed theory proving point use_ result × (left ≡ with_goal theory point result ∷ [])
CaseComesTo theory covers proving point (split_variable n) left =
    (s : ℕ) × (operations : List ℕ) × IsInScope point n s × (cover_of covers s ≡ Some operations)
    × (left ≡ cases_of_split theory proving point n s operations)

-- A line of a proof is wrong: both sides differ, the use has no result, or the split names no variable in scope, or one whose
-- sort has no cover.
abbrev pub IsWrongAtCase : Theory → List Cover → Proving → Case → ProofLine → InductionFault → Type 0
IsWrongAtCase theory covers proving point same_sides fault =
    (point.goal.left ≢ point.goal.right) × (fault ≡ not_same point.goal)
IsWrongAtCase theory covers proving point (use_it use_) fault =
    ((result : Statement) → ¬ IsUsed theory proving point use_ result) × (fault ≡ bad_use)
IsWrongAtCase theory covers proving point (split_variable n) fault =
    (((s : ℕ) → ¬ IsInScope point n s) × (fault ≡ no_variable))
    ⊎ ((s : ℕ) × IsInScope point n s × (cover_of covers s ≡ None) × (fault ≡ no_cover))
