-- How far the order has come: each type before this one was come to.
use Rattle.std.specs.Prelude.{◌≡◌, ◌-◌, ◌<◌, ℕ, true, List, [], length}
use Rattle.type_definitions.specs.TypeGraph.{is_among}
use Rattle.type_definitions.specs.FlatteningOrder.{ComesToEach, counted_from, IsFlatteningOrder}
use Rattle.type_definitions.specs.Walking.{IsTypeWalk}
use Rattle.type_definitions.specs.declared.walk.Progress.{Progress}

pub record IsOrdering (graph : List (List ℕ)) (progress : List Progress) (order : List ℕ) (root : ℕ) : Type 0 where
  pub walk : IsTypeWalk graph progress order []
  pub runs : (all : List ℕ) → ComesToEach graph order (counted_from root (length graph - root)) all → IsFlatteningOrder graph all
  pub before : (i : ℕ) → i < root → is_among order i ≡ true
