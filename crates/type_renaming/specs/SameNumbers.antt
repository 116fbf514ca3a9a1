-- Lists of new numbers under which sorts and operations keep their numbers.
use Rattle.std.specs.Prelude.{◌≡◌, ◌<◌, ℕ, List, length}
use Rattle.lotos_base.specs.Signature.{Signature}
use Rattle.type_definitions.specs.ProfiledImage.{number_in}

-- Each sort and each operation of the signature keeps its number.
pub record KeepNumbers (signature : Signature) (new_sorts new_operations : List ℕ) : Type 0 where
  pub sorts : (s : ℕ) → s < length signature.sorts → number_in new_sorts s ≡ s
  pub operations : (f : ℕ) → f < length signature.operations → number_in new_operations f ≡ f
