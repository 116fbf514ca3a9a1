-- What unifies two terms puts terms of a variable's sort.
use Rattle.std.proofs.Common.{◌≡◌, ℕ, List, ap, ◌∙◌, inl, inr}
use Rattle.std.specs.Prelude.{◌⊎◌}
use Rattle.rewriting_theory.specs.Unification.{OccursInEither}
use Rattle.sort_terms.specs.ProfiledTerm.{ProfiledTerm, profiled_variable, bare, head_sort}
use Rattle.term_match.specs.Matched.{IsPair}
use Rattle.term_match.specs.ProfiledInstance.{profiled_binding}
use Rattle.term_match.specs.Unified.{HaveOneSortPerNumber, IsUnifiedBy}
use Rattle.term_match.proofs.StateLemmas.{binding_either}

pub unifier_sorted : (left right : ProfiledTerm) (pairs : List (ℕ × ProfiledTerm)) → HaveOneSortPerNumber (bare left) (bare right)
    → IsUnifiedBy left right pairs → (n s : ℕ) → OccursInEither (bare left) (bare right) n s
    → head_sort (profiled_binding pairs n s) ≡ s
unifier_sorted left right pairs one unified n s o = go (binding_either pairs n s)
  where
    go : ((u : ProfiledTerm) × IsPair pairs n u × (profiled_binding pairs n s ≡ u)) ⊎ (profiled_binding pairs n s ≡ profiled_variable n s)
        → head_sort (profiled_binding pairs n s) ≡ s
    go (inl (u, at, value)) = ap head_sort value ∙ one n (head_sort u) s (unified.sorts n u at) o
    go (inr value) = ap head_sort value
