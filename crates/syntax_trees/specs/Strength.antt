-- Signs at their places, how strongly they bind, and what they make of two behaviours.
use Rattle.std.specs.Prelude.{ℕ}
use Rattle.lotos_base.specs.Equation.{Place}
use Rattle.syntax_trees.specs.WrittenBehaviour.{WrittenSign, choice_sign, interleaving, full_synchronisation, synchronising, disabling, enabling, WrittenBehaviour, binary}

-- a sign with its place
pub record PlacedSign : Type 0 where
  pub place : Place
  pub sign : WrittenSign

-- from the weakest: `>>`, `[>`, the parallel signs, `[]`
abbrev pub strength : WrittenSign → ℕ
strength (enabling accepted) = 0
strength disabling = 1
strength interleaving = 2
strength full_synchronisation = 2
strength (synchronising gates) = 2
strength choice_sign = 3

abbrev pub strength_of : PlacedSign → ℕ
strength_of placed = strength placed.sign

-- the behaviour of a sign and its two sides
abbrev pub joined_by_sign : PlacedSign → WrittenBehaviour → WrittenBehaviour → WrittenBehaviour
joined_by_sign placed left right = binary placed.place placed.sign left right
