-- That a fact about a signature or a term has at most one proof, as a fact kept beside code must.
use Rattle.std.specs.Prelude.{ℕ, Bool, List, [], ◌∷◌}
use Rattle.std.proofs.Props.{props}
use Rattle.std.specs.Coded.{Unit-prop}
use Rattle.lotos_base.specs.Signature.{Signature, IsWellFormedSignature}
use Rattle.sort_terms.specs.TwinMarks.{AreTwinMarks}
use Rattle.sort_terms.specs.ProfiledTerm.{ProfiledTerm, ProfiledTerms, profiled_variable, profiled_node, no_profiled_terms, profiled_term_then, FitsProfiles, FitArguments}

pub IsWellFormedSignature-prop : (signature : Signature) → IsProp (IsWellFormedSignature signature)
IsWellFormedSignature-prop signature = hlevel props

pub AreTwinMarks-prop : (signature : Signature) (marks : List Bool) → IsProp (AreTwinMarks signature marks)
AreTwinMarks-prop signature marks = hlevel props

mutual
  pub FitsProfiles-prop : (t : ProfiledTerm) → IsProp (FitsProfiles t)
  FitsProfiles-prop (profiled_variable n s) = Unit-prop
  FitsProfiles-prop (profiled_node f operation ts) = FitArguments-prop ts operation.arguments

  pub FitArguments-prop : (ts : ProfiledTerms) (sorts : List ℕ) → IsProp (FitArguments ts sorts)
  FitArguments-prop no_profiled_terms [] = Unit-prop
  FitArguments-prop no_profiled_terms (s ∷ ss) = hlevel props
  FitArguments-prop (profiled_term_then t ts) [] = hlevel props
  FitArguments-prop (profiled_term_then t ts) (s ∷ ss) = hlevel (props, FitsProfiles-prop t, FitArguments-prop ts ss)
