-- Variables as they are written: each with its sort, also where several share one.
use Rattle.std.specs.Prelude.{ℕ, List}
use Rattle.lotos_base.specs.Equation.{Place}

-- a variable at its place, with its sort and the place of the sort
pub record WrittenVariable : Type 0 where
  pub place : Place
  pub name : List ℕ
  pub sort : List ℕ
  pub sort_place : Place
