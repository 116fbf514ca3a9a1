-- Numbers of variables that do not stand in a term.
use Rattle.std.proofs.Common.{◌≡◌, ℕ, false, ◌||◌, refl}
use Rattle.lotos_base.specs.Sorting.{IsGround, AreGround}
use Rattle.sort_terms.specs.ProfiledTerm.{ProfiledTerm, ProfiledTerms, profiled_variable, profiled_node, no_profiled_terms, profiled_term_then, bare, all_bare}
use Rattle.term_match.specs.Disagreement.{has_number, have_number}

mutual
  pub ground_lacks_number : (number : ℕ) (t : ProfiledTerm) → IsGround (bare t) → has_number number t ≡ false
  ground_lacks_number number (profiled_variable n s) ground = absurd ground
  ground_lacks_number number (profiled_node f operation ts) ground = all_ground_lack_number number ts ground

  all_ground_lack_number : (number : ℕ) (ts : ProfiledTerms) → AreGround (all_bare ts) → have_number number ts ≡ false
  all_ground_lack_number number no_profiled_terms ground = refl
  all_ground_lack_number number (profiled_term_then t ts) ground =
      (λ i. ground_lacks_number number t ground.0 i || all_ground_lack_number number ts ground.1 i)
