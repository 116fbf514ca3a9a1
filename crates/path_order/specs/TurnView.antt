-- What a turn of an equation says of its sides.
use Rattle.std.specs.Prelude.{◌≡◌, ◌≢◌}
use Rattle.lotos_base.specs.Term.{Term}
use Rattle.rewriting_theory.specs.Precedence.{Precedence}
use Rattle.rewriting_theory.specs.PathOrder.{IsGreater}
use Rattle.path_order.specs.declared.turning.Turn.{Turn}
use Rattle.path_order.specs.declared.turning.Turn.TheVariants.{Identical, Forward, Backward, Neither}

-- The sides are identical, or differ and one of them is greater, or neither is.
abbrev pub IsComparedTurn : Precedence → Term → Term → Turn → Type 0
IsComparedTurn precedence l r Identical = l ≡ r
IsComparedTurn precedence l r Forward = (l ≢ r) × IsGreater precedence l r
IsComparedTurn precedence l r Backward = (l ≢ r) × IsGreater precedence r l
IsComparedTurn precedence l r Neither = (l ≢ r) × (¬ IsGreater precedence l r) × (¬ IsGreater precedence r l)
