-- Sizes of patterns, by which searches and instances end.
use Rattle.std.proofs.Common.{arith, ap, ◌≡◌, ◌<◌, ◌+◌, ◌*◌, ℕ, zero, suc, List, [], ◌∷◌, length, get_or}
use Rattle.sort_terms.specs.ProfiledTerm.{ProfiledTerm, ProfiledTerms, profiled_variable, profiled_node, no_profiled_terms, profiled_term_then}
use Rattle.sort_terms.specs.TermView.{profiled_of, all_profiled}
use Rattle.sort_terms.specs.declared.terms.Term.{Term}
use Rattle.lotos_base.specs.Signature.{Operation}

abbrev mutual
  pub size : ProfiledTerm → ℕ
  size (profiled_variable n s) = 1
  size (profiled_node f operation ts) = suc (sizes ts)

  pub sizes : ProfiledTerms → ℕ
  sizes no_profiled_terms = zero
  sizes (profiled_term_then t ts) = size t + sizes ts

pub node_size : (t : ProfiledTerm) (f : ℕ) (operation : Operation) (ts : ProfiledTerms) → t ≡ profiled_node f operation ts
    → 2 * sizes ts + 1 < 2 * size t
node_size t f operation ts is =
    let whole : size t ≡ suc (sizes ts) = ap size is in
    omega (arith, whole)

pub member_size : (terms : List Term) (i : ℕ) (t : Term) → i < length terms → t ≡ get_or terms i t
    → 2 * size (profiled_of t) < 2 * sizes (all_profiled terms) + 1
member_size [] i t within is = absurd (omega (arith, within))
member_size (u ∷ terms) zero t within is =
    let same : size (profiled_of t) ≡ size (profiled_of u) = ap (λ (w : Term). size (profiled_of w)) is in
    omega (arith, same)
member_size (u ∷ terms) (suc i) t within is =
    let later = member_size terms i t (omega (arith, within)) is in
    omega (arith, later)
