use Rattle.std.proofs.Common.{◌≡◌, ℕ, List, sym, subst, ◌∙◌}
use Rattle.std.specs.Prelude.{codes}
use Rattle.lotos_base.specs.Name.{spelling}
use Rattle.lotos_base.specs.Signature.{Signature}
use Rattle.sort_terms.specs.Reading.{IsSortNamed}
use Rattle.sort_terms.proofs.UnknownLemmas.{sort_name_unknown}
use Rattle.type_definitions.specs.Declarations.{sort_numbered}
use Rattle.type_equations.proofs.SortLemmas.{sort_found, no_truth, truth_is}
use Rattle.type_equations.proofs.truth.sort_with_truth.Goals as goal

pub returns-in_default : goal.returns-in_default
returns-in_default c = λ p same listed.
    let none = rw c.in_default.is at c.in_ok-found.ensures in
    let bool : spelling c.of-sort_name.result ≡ codes "Bool" = c.of-sort_name.ensures ∙ c.in_ok-from_slice.ensures.items in
    no_truth p (spelling c.of-sort_name.result) bool
    (sort_name_unknown p.signature (spelling c.of-sort_name.result)
    (subst (λ (g : Signature). (s : ℕ) → ¬ IsSortNamed g s (spelling c.of-sort_name.result)) (sym same) none))

pub returns-then-has_constant : goal.returns-then-has_constant
returns-then-has_constant c = λ p same listed.
    let here = rw c.in-Some.is at c.in_ok-found.ensures in
    let bool : spelling c.of-sort_name.result ≡ codes "Bool" = c.of-sort_name.ensures ∙ c.in_ok-from_slice.ensures.items in
    let true_name : spelling c.of-constant.result ≡ codes "true" = c.of-constant.ensures ∙ c.in_ok-from_slice-2.ensures.items in
    let known =
    sort_found p (spelling c.of-sort_name.result) c.in-Some.sort
    (subst (λ (g : Signature). IsSortNamed g c.in-Some.sort (spelling c.of-sort_name.result)) (sym same) here.0)
    (λ s at. here.1 s (subst (λ (g : Signature). IsSortNamed g s (spelling c.of-sort_name.result)) same at)) in (
      truth_is p (spelling c.of-sort_name.result) (spelling c.of-constant.result) c.in-Some.sort _ c.has_constant.result bool true_name
          known.0 known.1 listed c.has_constant.ensures
          ∙ c.if-has_constant.true,
      subst (λ (n : List ℕ). c.in-Some.sort ≡ sort_numbered p n) bool known.1,
    )

pub returns : goal.returns
returns c = λ p same listed.
    let here = rw c.in-Some.is at c.in_ok-found.ensures in
    let bool : spelling c.of-sort_name.result ≡ codes "Bool" = c.of-sort_name.ensures ∙ c.in_ok-from_slice.ensures.items in
    let true_name : spelling c.of-constant.result ≡ codes "true" = c.of-constant.ensures ∙ c.in_ok-from_slice-2.ensures.items in
    let known =
    sort_found p (spelling c.of-sort_name.result) c.in-Some.sort
    (subst (λ (g : Signature). IsSortNamed g c.in-Some.sort (spelling c.of-sort_name.result)) (sym same) here.0)
    (λ s at. here.1 s (subst (λ (g : Signature). IsSortNamed g s (spelling c.of-sort_name.result)) same at)) in
    truth_is p (spelling c.of-sort_name.result) (spelling c.of-constant.result) c.in-Some.sort _ c.has_constant.result bool true_name
    known.0 known.1 listed c.has_constant.ensures
    ∙ c.if-has_constant.false
