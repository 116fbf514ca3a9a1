-- What a call leaves of an object that knows data and a canon of them.
use Rattle.std.specs.Prelude.{◌≡◌}
use Rattle.lotos_base.specs.Equation.{Data}
use Rattle.lotos_base.specs.Term.{Term}

-- Afterwards the object has the data and the canon that it had before.
pub record KeepsData {S : Type 0} (known_data : S → Data) (canon : S → Term → Term) (before after : S) : Type 0 where
  pub same_data : known_data after ≡ known_data before
  pub same_canon : canon after ≡ canon before
