-- Variables in the scope of a case, and hypotheses behind a split, as the tests of the code tell them.
use Rattle.std.proofs.Common.{◌≡◌, ◌<◌, ◌≤◌, ℕ, ◌++◌, List, true, false, length, map, get_or, refl, ap, sym, ◌∙◌, arith}
use Rattle.std.specs.Prelude.{Some, slice_get}
use Rattle.std.proofs.lemmas.Bool.{lt-ltb, le-ltb}
use Rattle.std.proofs.lemmas.Option.{slice_get_within, slice_get-get_or}
use Rattle.lotos_base.specs.Substitution.{is_listed, substituted}
use Rattle.certificate_theory.specs.Covers.{Numbered}
use Rattle.certificate_theory.specs.Patterns.{put_for, operation_on}
use Rattle.certificate_theory.specs.Splits.{Case as PlainCase, Proving as PlainProving, IsInScope, in_both, hypotheses_for, hypotheses_behind}
use Rattle.induct_parts.specs.CaseView.{case_in}
use Rattle.induct_parts.specs.declared.cases.Case.{Case}

-- ---- scope

pub in_scope : (point : Case) (sorts : List ℕ) (n sort : ℕ) → sorts ≡ point.sorts.items → n < length sorts → sort ≡ get_or sorts n sort
    → is_listed point.gone.items n ≡ false → IsInScope (case_in point) n sort
in_scope point sorts n sort are within is none = (
  ap (λ (ss : List ℕ). slice_get ss n) (sym are)
      ∙ (slice_get-get_or sorts n sort within ∙ ap (λ (s : ℕ). Some s) (sym is)),
  none,
)

pub past_scope : (point : Case) (sorts : List ℕ) (n : ℕ) → sorts ≡ point.sorts.items → length sorts ≤ n
    → (s : ℕ) → ¬ IsInScope (case_in point) n s
past_scope point sorts n are past s there =
    let within = slice_get_within point.sorts.items n s there.0 in
    let same : length sorts ≡ length point.sorts.items = ap length are in
    omega (arith, within, past, same)

pub gone_from_scope : (point : Case) (n : ℕ) → is_listed point.gone.items n ≡ true → (s : ℕ) → ¬ IsInScope (case_in point) n s
gone_from_scope point n listed s there = let clash : true ≡ false = sym listed ∙ there.1 in cc clash

-- ---- hypotheses

pub behind_free : (proving : PlainProving) (point : PlainCase) (n s : ℕ) (one : Numbered) → n < proving.free
    → hypotheses_behind proving point n s one
    ≡ point.hypotheses ++ hypotheses_for point.goal n s (length point.sorts) one.operation.arguments
behind_free proving point n s one less = rw (lt-ltb n proving.free less) refl

pub behind_fixed : (proving : PlainProving) (point : PlainCase) (n s : ℕ) (one : Numbered) → proving.free ≤ n
    → hypotheses_behind proving point n s one
    ≡ map (in_both (substituted (put_for n s (operation_on one (length point.sorts))))) point.hypotheses
behind_fixed proving point n s one past = rw (le-ltb n proving.free past) refl
