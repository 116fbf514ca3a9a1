-- Operations that lack a tree: what the tests and the loops over covers and operations mean.
use Rattle.std.proofs.Common.{◌≡◌, ◌<◌, ◌≤◌, ℕ, ◌+◌, List, Bool, true, false, not, nat_lt, length, refl, sym, ◌∙◌, subst, arith, ltb-true, ltb-false}
use Rattle.std.specs.Prelude.{◌↔◌, Some, slice_get, IsTrue}
use Rattle.std.proofs.lemmas.Option.{same_Some, slice_get_within}
use Rattle.lotos_base.specs.Signature.{Signature}
use Rattle.lotos_base.specs.Substitution.{is_listed}
use Rattle.certificate_theory.specs.InductionCertificate.{Cover, PatternTree}
use Rattle.certificate_theory.specs.Covers.{HasResult}
use Rattle.certificate_theory.specs.Certified.{with_trees, LacksTree, IsFirstLack}

-- ---- one operation

pub lacks_by_tests : (signature : Signature) (trees : List PatternTree) (cover : Cover) (f : ℕ) (b : Bool)
    → HasResult signature cover.sort f → is_listed cover.operations f ≡ false → b ≡ is_listed (with_trees trees) f
    → IsTrue (not b) ↔ LacksTree signature trees cover f
lacks_by_tests signature trees cover f true has none e = (
  (λ h. absurd (cc h)),
  (λ lack. let clash : true ≡ false = e ∙ lack.no_tree in absurd (cc clash)),
)
lacks_by_tests signature trees cover f false has none e = (
  (λ h. record { operation = has.0; is_operation = has.1; result = has.2; not_covered = none; no_tree = sym e }),
  (λ lack. refl),
)

pub lack_has_result : (signature : Signature) (trees : List PatternTree) (cover : Cover) (f : ℕ) → LacksTree signature trees cover f
    → HasResult signature cover.sort f
lack_has_result signature trees cover f lack = (lack.operation, lack.is_operation, lack.result)

pub listed_lacks_none : (signature : Signature) (trees : List PatternTree) (cover : Cover) (f : ℕ)
    → is_listed cover.operations f ≡ true → ¬ LacksTree signature trees cover f
listed_lacks_none signature trees cover f listed lack = let clash : true ≡ false = sym listed ∙ lack.not_covered in cc clash

-- ---- all operations

pub lacks_none_more : (P : ℕ → Type 0) (n : ℕ) → ¬ P n → ((g : ℕ) → g < n → ¬ P g) → (g : ℕ) → g < n + 1 → ¬ P g
lacks_none_more P n never so_far g less h = go (nat_lt g n) refl
  where
    go : (b : Bool) → nat_lt g n ≡ b → ⊥
    go true below = so_far g (ltb-true g n below) h
    go false above =
        let le : n ≤ g = ltb-false g n above in
        let same : g ≡ n = omega (arith, le, less) in
        never (subst P same h)

pub lacks_none : (signature : Signature) (trees : List PatternTree) (cover : Cover) (n : ℕ) → length signature.operations ≤ n
    → ((g : ℕ) → g < n → ¬ LacksTree signature trees cover g) → (f : ℕ) → ¬ LacksTree signature trees cover f
lacks_none signature trees cover n past so_far f lack =
    let within = slice_get_within signature.operations f lack.operation lack.is_operation in
    so_far f (omega (arith, within, past)) lack

-- ---- all covers

pub covers_more : (signature : Signature) (covers : List Cover) (trees : List PatternTree) (n : ℕ) (cover : Cover)
    → slice_get covers n ≡ Some cover → ((f : ℕ) → ¬ LacksTree signature trees cover f)
    → ((j g : ℕ) (earlier : Cover) → j < n → slice_get covers j ≡ Some earlier → ¬ LacksTree signature trees earlier g)
    → (j g : ℕ) (earlier : Cover) → j < n + 1 → slice_get covers j ≡ Some earlier → ¬ LacksTree signature trees earlier g
covers_more signature covers trees n cover at none so_far j g earlier less there lack = go (nat_lt j n) refl
  where
    go : (b : Bool) → nat_lt j n ≡ b → ⊥
    go true below = so_far j g earlier (ltb-true j n below) there lack
    go false above =
        let le : n ≤ j = ltb-false j n above in
        let same : n ≡ j = omega (arith, le, less) in
        let one : cover ≡ earlier = same_Some cover earlier (sym at
        ∙ subst (λ (k : ℕ). slice_get covers k ≡ Some earlier) (sym same) there) in
        none g (subst (λ (c : Cover). LacksTree signature trees c g) (sym one) lack)

pub first_lack_is : (signature : Signature) (covers : List Cover) (trees : List PatternTree) (n f : ℕ) (cover : Cover)
    → slice_get covers n ≡ Some cover → LacksTree signature trees cover f
    → ((g : ℕ) → g < f → ¬ LacksTree signature trees cover g)
    → ((j g : ℕ) (earlier : Cover) → j < n → slice_get covers j ≡ Some earlier → ¬ LacksTree signature trees earlier g)
    → IsFirstLack signature covers trees n f
first_lack_is signature covers trees n f cover at lack first so_far = record {
  cover = cover;
  is_cover = at;
  lacks = lack;
  first_operation = first;
  first_cover = λ j g earlier less there. so_far j g earlier less there;
}
