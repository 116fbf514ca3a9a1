-- The sort `Bool` with its constant `true`, as the code keeps them.
use Rattle.std.specs.Prelude.{◌≡◌, List, [], Some, slice_get}
use Rattle.lotos_base.specs.Signature.{Signature, Operation}
use Rattle.sort_terms.specs.Operations.{operation_of}
use Rattle.scope_parts.specs.Sorts as sorts
use Rattle.scope_parts.specs.declared.truth.Truth.{Truth}

-- the sort `Bool` and its constant `true`
abbrev pub truth_of : Truth → sorts.Truth
truth_of truth = record { sort = truth.sort; constant = truth.constant }

-- the constant is one of the operations, with its profile, and has no arguments
pub record IsTruthAmong (operations : List Operation) (truth : Truth) : Type 0 where
  pub operation : slice_get operations truth.constant ≡ Some (operation_of truth.profile.value)
  pub constant : truth.profile.value.arguments.items ≡ []

-- the constant is of the signature
abbrev pub IsTruthOf : Signature → Truth → Type 0
IsTruthOf signature truth = IsTruthAmong signature.operations truth
