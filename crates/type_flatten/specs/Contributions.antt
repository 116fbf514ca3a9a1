-- What a type without formal marks contributes to the flattened data: its presentation, and nothing else.
use Rattle.std.specs.Prelude.{◌≡◌, false, List, [], ◌∷◌}
use Rattle.lotos_base.specs.Signature.{IsWellFormedSignature}
use Rattle.type_definitions.specs.Union.{Mentioned, union_of}
use Rattle.type_definitions.specs.UnionLaws.{IsIn}
use Rattle.type_definitions.specs.Actualisation.{is_formal}
use Rattle.type_definitions.specs.Flattened.{without_formals}

pub record ContributionsAreExact : Type 0 where
  -- the types whose union is made are those in which nothing is formal
  pub listed : (all : List Mentioned) (m : Mentioned) → IsIn all m → is_formal m.presentation ≡ false
      → IsIn (without_formals all) m
  pub no_other : (all : List Mentioned) (m : Mentioned) → IsIn (without_formals all) m
      → IsIn all m × (is_formal m.presentation ≡ false)
  -- one alone gives its own signature, as it stands
  pub alone : (m : Mentioned) → IsWellFormedSignature m.presentation.signature
      → (union_of (m ∷ [])).signature ≡ m.presentation.signature
