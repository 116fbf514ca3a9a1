-- What is wrong with one leaf of a node.
use Rattle.std.specs.Prelude.{ℕ, Option, None, Some, if◌then◌else◌}
use Rattle.lotos_base.specs.Signature.{Signature}
use Rattle.lotos_base.specs.Term.{Term}
use Rattle.behaviour_semantics.specs.Fault.{Wrong, bad_value}
use Rattle.behaviour_semantics.specs.SortTest.{is_value}

-- the leaf with this number is not a value of the sort
abbrev pub leaf_wrong : Signature → ℕ → Term → ℕ → Option Wrong
leaf_wrong signature sort leaf number = if is_value signature sort leaf then None else Some (bad_value number)
