-- Chosen forms of instances of terms, with profiles.
use Rattle.std.specs.Prelude.{ℕ, List}
use Rattle.lotos_base.specs.Signature.{Signature}
use Rattle.lotos_base.specs.Sorting.{Occurs}
use Rattle.rewriting_theory.specs.Rule.{Rule}
use Rattle.rewriting_theory.specs.Rewriting.{IsNormal}
use Rattle.rewriting_theory.specs.ChosenForm.{Chosen}
use Rattle.sort_terms.specs.ProfiledTerm.{ProfiledTerm, bare, IsOf}
use Rattle.term_match.specs.ProfiledInstance.{profiled_instance, profiled_binding}

-- The term is of the signature, and no rule can be used in it.
pub record IsNormalOf (signature : Signature) (rules : List Rule) (t : ProfiledTerm) : Type 0 where
  pub is_of : IsOf signature t
  pub normal : IsNormal rules (bare t)

-- What the pairs put for each variable of the term is so.
abbrev pub AreNormalFor : Signature → List Rule → ProfiledTerm → List (ℕ × ProfiledTerm) → Type 0
AreNormalFor signature rules t pairs = (n s : ℕ) → Occurs n s (bare t) → IsNormalOf signature rules (profiled_binding pairs n s)

-- the term with the terms of the pairs put for its variables
abbrev pub by_pairs : List (ℕ × ProfiledTerm) → ProfiledTerm → ProfiledTerm
by_pairs pairs t = profiled_instance (profiled_binding pairs) t

-- The term is of the signature and the chosen form of the other one.
pub record IsFormOf (signature : Signature) (rules : List Rule) (t made : ProfiledTerm) : Type 0 where
  pub chosen : Chosen rules (bare t) (bare made)
  pub is_of : IsOf signature made
